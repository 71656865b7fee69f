use Rattle.std.proofs.Common.{ap, arith}
use Rattle.std.specs.List.{count_by}
use Rattle.std.proofs.lemmas.List.Sums.{count_by-le-length}
use Rattle.view_picture.specs.Columns.{Rows}
use Rattle.view_picture.specs.Shown.{has_shown}
use Rattle.view_picture.proofs.columns.Columns.count.Goals as goal

pub returns-clause-few : goal.returns-clause-few
returns-clause-few c = omega (arith, c.count_shown.ensures, ap (λ (r : Rows). count_by has_shown r) c.as_slice.ensures.value, count_by-le-length has_shown c.self.inside.rows.items, c.self.invariant.few)
