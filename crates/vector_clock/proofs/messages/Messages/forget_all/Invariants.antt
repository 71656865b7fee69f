use Rattle.std.proofs.Common.{◌≡◌, length, map, take}
use Rattle.event_log.specs.States.{with_batch}
use Rattle.vector_clock.specs.Events.{Events}
use Rattle.vector_clock.specs.Admitted.{HasMessages}
use Rattle.vector_clock.proofs.messages.Messages.forget_all.Given as goal

abbrev pub invariant-loop-i : goal.invariant-loop-i
invariant-loop-i l = record {
  count : length l.taken.items ≡ length l.fn.taken.items;
  has : (events : Events) → HasMessages l.fn.self (with_batch events l.batch) → l.fn.taken.items ≡ map length (with_batch events l.batch)
      → HasMessages l.self (with_batch events (take l.i l.batch)) × (l.taken.items ≡ map length (with_batch events (take l.i l.batch)));
}
