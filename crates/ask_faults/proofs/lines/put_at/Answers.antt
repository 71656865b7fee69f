use Rattle.std.proofs.Common.{[], ◌∷◌, ◌++◌}
use Rattle.std.specs.Fmt.{decimal}
use Rattle.std.specs.Prelude.{codes}
use Rattle.ask_faults.proofs.Pieces.{more, last}
use Rattle.ask_faults.proofs.lines.put_at.Goals as goal

pub returns : goal.returns
returns c =
    let out = c.args.out.now in
    let label = codes "pota_ask: log line " in
    let number = decimal c.args.line in
    last c.push.result out (label ++ number ++ codes ": " ++ c.args.wrong.now) (10 ∷ []) c.extend_from_slice-3.new.self c.push.new.self
    (more out (label ++ number ++ codes ": ") c.args.wrong.now c.extend_from_slice-2.new.self c.extend_from_slice-3.new.self
    (more out (label ++ number) (codes ": ") c.put_u64.new.out c.extend_from_slice-2.new.self
    (more out label number c.extend_from_slice.new.self c.put_u64.new.out c.in_ok-extend_from_slice.ensures.ok (rw c.from.ensures at c.in_ok-put_u64.ensures.ok)) c.in_ok-extend_from_slice-2.ensures.ok) c.in_ok-extend_from_slice-3.ensures.ok) c.push.ensures.ok
