use Rattle.counter_preds.proofs.Reaching.{PlacedSoFar}
use Rattle.counter_preds.proofs.positions.first_positions.Given as goal

abbrev pub invariant-loop-lead : goal.invariant-loop-lead
invariant-loop-lead l = PlacedSoFar l.leads l.more l.follows l.extra l.lead-index l.place l.table.items
