use Rattle.std.proofs.Common.{ap, length, arith}
use Rattle.report_lines.proofs.Formulas.{canonical_short}
use Rattle.view_text.proofs.view.plain_text.Goals as goal

pub lex-requires : goal.lex-requires
lex-requires c = omega (arith, ap length c.as_slice.ensures, canonical_short c.args.report.now.formula c.requires.formed.formula)
