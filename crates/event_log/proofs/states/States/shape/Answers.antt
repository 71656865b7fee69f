use Rattle.std.proofs.Common.{length, map, ap, ◌∙◌}
use Rattle.event_log.specs.States.{StatesView}
use Rattle.event_log.proofs.Keeping.{lens_in-events}
use Rattle.event_log.proofs.states.States.shape.Goals as goal

pub returns : goal.returns
returns c = c.self.invariant.lens ∙ lens_in-events c.self.inside.histories ∙ ap (λ (s : StatesView). map length s.events) c.self.view_is
