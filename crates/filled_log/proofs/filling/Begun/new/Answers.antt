use Rattle.std.proofs.Common.{ℕ, refl, subst}
use Rattle.vector_clock.specs.Admitted.{HasAdmitted}
use Rattle.vector_clock.specs.Events.{no_events}
use Rattle.filled_log.proofs.Begins.{begins_by}
use Rattle.filled_log.proofs.filling.Begun.new.Goals as goal

pub returns : goal.returns
returns c = begins_by c.args.header _ c.requires refl c.new-2.ensures (subst (λ (n : ℕ). HasAdmitted c.in_ok-clocks.clocks (no_events n)) c.len.ensures c.in_ok-clocks.ensures)
