use Rattle.std.proofs.Common.{ap, ◌∙◌}
use Rattle.pota_base.specs.Number.{whole}
use Rattle.pota_base.proofs.NumberLaws.{number_alone, number_only}
use Rattle.pota_base.proofs.number.read_u64.Goals as goal

pub returns-clause-spelled : goal.returns-clause-spelled
returns-clause-spelled c = number_alone _ _ (c.alone.ensures ∙ ap whole c.number_at.ensures.gives)

pub returns-clause-only : goal.returns-clause-only
returns-clause-only c = λ n fits e. c.alone.ensures ∙ ap whole (c.number_at.ensures.gives ∙ number_only _ n fits e)
