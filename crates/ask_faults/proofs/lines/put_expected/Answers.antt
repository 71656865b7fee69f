use Rattle.std.specs.Prelude.{codes}
use Rattle.ask_faults.specs.Lines.{line}
use Rattle.ask_faults.proofs.Pieces.{last}
use Rattle.ask_faults.proofs.lines.put_expected.Goals as goal

pub returns : goal.returns
returns c =
    last c.put_line-2.result c.args.out.now (line (codes "expected: ") c.args.expected.now) (line (codes "for example: ") c.args.example.now) c.put_line.new.out c.put_line-2.new.out
    c.in_ok-put_line.ensures c.put_line-2.ensures
