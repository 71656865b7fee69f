use Rattle.std.proofs.Common.{◌≡◌, length, map, take}
use Rattle.event_log.specs.States.{with_batch}
use Rattle.vector_clock.specs.Events.{Events}
use Rattle.vector_clock.specs.inside.Events.{raised}
use Rattle.vector_clock.specs.Admitted.{HasMessages}
use Rattle.vector_clock.proofs.messages.Messages.note_all.Given as goal

abbrev pub invariant-loop-i : goal.invariant-loop-i
invariant-loop-i l = record {
  counts : l.taken.items ≡ raised l.fn.taken.items (take l.i l.batch);
  has : (events : Events) → HasMessages l.fn.self events → l.fn.taken.items ≡ map length events → HasMessages l.self (with_batch events (take l.i l.batch));
}
