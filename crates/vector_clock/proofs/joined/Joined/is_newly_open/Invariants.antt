use Rattle.std.proofs.Common.{◌≡◌, ℕ, false, ◌&&◌}
use Rattle.vector_clock.specs.Events.{some_below, is_beyond}
use Rattle.vector_clock.specs.Faults.{named_clock}
use Rattle.vector_clock.specs.Sound.{newly_names}
use Rattle.vector_clock.proofs.joined.Joined.is_newly_open.Given as goal

abbrev pub invariant-loop-other : goal.invariant-loop-other
invariant-loop-other l = some_below l.other (λ (k : ℕ). newly_names l.self l.place l.event k && is_beyond (named_clock l.self l.event k) l.event.clock) ≡ false
