use Rattle.std.proofs.Common.{◌≡◌, take}
use Rattle.event_log.proofs.copies.copy_of.Given as goal

abbrev pub invariant-loop-item : goal.invariant-loop-item
invariant-loop-item g l = l.copies ≡ take l.item-index l.items
