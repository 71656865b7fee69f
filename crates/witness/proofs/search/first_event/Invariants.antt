use Rattle.std.proofs.Common.{◌<◌}
use Rattle.run_model.specs.Witness.{Place, IsPlace}
use Rattle.witness.proofs.search.first_event.Given as goal

abbrev pub invariant-loop-process : goal.invariant-loop-process
invariant-loop-process g l = (e : Place) → IsPlace l.order e → e.process < l.process → g.T.EventTest.holds l.test e → ⊥
