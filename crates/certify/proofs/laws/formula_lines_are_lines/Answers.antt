use Rattle.std.proofs.Common.{arith}
use Rattle.rctl_grammar.specs.Shape.{shape_of}
use Rattle.rctl_print.specs.Canonical.{canonical}
use Rattle.certify.proofs.FormulaLine.{formula_line_is}
use Rattle.certify.proofs.laws.formula_lines_are_lines.Goals as goal

pub returns : goal.returns
returns c = λ text t read few.
    formula_line_is (canonical (shape_of t)) (c.printed_is_one_line.ensures text t read) (omega (arith, c.printed_is_little_longer.ensures text t read, few))
