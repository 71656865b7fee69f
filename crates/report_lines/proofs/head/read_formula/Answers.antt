use Rattle.std.proofs.Common.{◌≡◌, Some, refl, arith}
use Rattle.log_lines.specs.Reading.{text_at}
use Rattle.std.specs.Prelude.{codes}
use Rattle.report_lines.specs.Reading.{formula_in}
use Rattle.report_lines.proofs.Formulas.{long_is_not}
use Rattle.report_lines.proofs.head.read_formula.Goals as goal

pub returns-then-text-gt-LONGEST_CANONICAL : goal.returns-then-text-gt-LONGEST_CANONICAL
unfolding formula_in
returns-then-text-gt-LONGEST_CANONICAL c =
    let read : text_at (codes "formula ") c.args.line.now ≡ Some c.in-Some.text.now = grind arith in
    rw (read, long_is_not c.in-Some.text.now c.if-text-gt-LONGEST_CANONICAL.true) refl
