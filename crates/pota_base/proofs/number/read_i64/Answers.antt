use Rattle.std.proofs.Common.{ap, ◌∙◌}
use Rattle.pota_base.specs.Number.{whole}
use Rattle.pota_base.proofs.NumberLaws.{signed_alone, signed_only}
use Rattle.pota_base.proofs.number.read_i64.Goals as goal

pub returns-clause-spelled : goal.returns-clause-spelled
returns-clause-spelled c = signed_alone _ _ (c.alone.ensures ∙ ap whole c.signed_at.ensures)

pub returns-clause-only : goal.returns-clause-only
returns-clause-only c = λ n fits e. c.alone.ensures ∙ ap whole (c.signed_at.ensures ∙ signed_only _ n fits e)
