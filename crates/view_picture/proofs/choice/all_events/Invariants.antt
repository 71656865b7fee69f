use Rattle.std.proofs.Common.{◌≡◌, length, map, get_or}
use Rattle.view_parts.specs.Each.{each_below, own_places}
use Rattle.view_picture.proofs.choice.all_events.Given as goal

abbrev pub invariant-loop-process : goal.invariant-loop-process
invariant-loop-process l = l.events ≡ each_below l.process (λ p. own_places p (get_or (map length l.states.events) p 0))
