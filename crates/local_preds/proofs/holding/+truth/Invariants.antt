use Rattle.local_preds.proofs.Members.{AllSoFar, NoneSoFar}
use Rattle.local_preds.proofs.holding.+truth.Given as goal

abbrev pub invariant-all_hold-loop-member : goal.invariant-all_hold-loop-member
invariant-all_hold-loop-member l = AllSoFar l.at l.members l.member-index

abbrev pub invariant-some_holds-loop-member : goal.invariant-some_holds-loop-member
invariant-some_holds-loop-member l = NoneSoFar l.at l.members l.member-index
