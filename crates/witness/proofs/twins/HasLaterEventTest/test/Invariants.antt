use Rattle.std.proofs.Common.{ℕ, ◌<◌}
use Rattle.witness.specs.inside.Twins.{LastHas}
use Rattle.witness.specs.Views.{place_of}
use Rattle.witness.proofs.twins.HasLaterEventTest.test.Given as goal

abbrev pub invariant-later : goal.invariant-later
invariant-later l = (j : ℕ) → l.event.process < j → j < l.process → LastHas l.self.slice.now l.row j (place_of l.event) → ⊥
