use Rattle.std.proofs.Common.{◌++◌}
use Rattle.std.specs.Fmt.{decimal}
use Rattle.std.specs.Prelude.{codes}
use Rattle.ask_faults.proofs.Pieces.{more, last}
use Rattle.ask_faults.proofs.lines.put_question.Goals as goal

pub returns : goal.returns
returns c =
    last c.extend_from_slice-2.result c.args.out.now (codes "pota_ask: question " ++ decimal c.args.question) (codes ": ") c.put_u64.new.out c.extend_from_slice-2.new.self
    (more c.args.out.now (codes "pota_ask: question ") (decimal c.args.question) c.extend_from_slice.new.self c.put_u64.new.out c.in_ok-extend_from_slice.ensures.ok c.in_ok-put_u64.ensures.ok)
    c.extend_from_slice-2.ensures.ok
