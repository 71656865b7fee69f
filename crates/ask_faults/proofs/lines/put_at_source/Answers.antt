use Rattle.std.proofs.Common.{[], ◌∷◌, ◌++◌}
use Rattle.std.specs.Fmt.{decimal}
use Rattle.std.specs.Prelude.{codes}
use Rattle.fault_line.specs.FaultText.{merge_code_text}
use Rattle.ask_faults.proofs.Pieces.{more, last}
use Rattle.ask_faults.proofs.lines.put_at_source.Goals as goal

pub returns : goal.returns
returns c =
    let out = c.args.out.now in
    let f = c.args.fault in
    let label = codes "pota_ask: log source " in
    let source = label ++ decimal f.source in
    let at = source ++ codes " line " ++ decimal f.line in
    last c.push.result out (at ++ codes ": " ++ merge_code_text f.code) (10 ∷ []) c.extend_from_slice-4.new.self c.push.new.self
    (more out (at ++ codes ": ") (merge_code_text f.code) c.extend_from_slice-3.new.self c.extend_from_slice-4.new.self
    (more out at (codes ": ") c.put_u64-2.new.out c.extend_from_slice-3.new.self
    (more out (source ++ codes " line ") (decimal f.line) c.extend_from_slice-2.new.self c.put_u64-2.new.out
    (more out source (codes " line ") c.put_u64.new.out c.extend_from_slice-2.new.self
    (more out label (decimal f.source) c.extend_from_slice.new.self c.put_u64.new.out c.in_ok-extend_from_slice.ensures.ok (rw c.from.ensures at c.in_ok-put_u64.ensures.ok))
    c.in_ok-extend_from_slice-2.ensures.ok) (rw c.from-2.ensures at c.in_ok-put_u64-2.ensures.ok)) c.in_ok-extend_from_slice-3.ensures.ok)
    (rw c.merge_code_text.ensures.text at c.in_ok-extend_from_slice-4.ensures.ok)) c.push.ensures.ok
