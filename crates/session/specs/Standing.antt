-- Where a session stands.
use Rattle.std.specs.Prelude.{◌≡◌, ℕ, ◌≤◌, Bool, false, List, Option, IsSome}
use Rattle.pota_base.specs.Limits.{most_workers}
use Rattle.slice_workers.specs.Views.{SettledView}
use Rattle.conjunctions.specs.declared.answer.Answer.{Answer}
use Rattle.observation.specs.Growing.{GrowingView, HasTaken}

-- so many workers may work at an answer
pub record AreWorkers (workers : ℕ) : Type 0 where
  pub some : 1 ≤ workers
  pub few : workers ≤ most_workers

-- what was answered: the answer, the rows of its conjunctions, and what both are of
pub record AnsweredView : Type 0 where
  pub of : GrowingView
  pub settled : List SettledView
  pub answer : Option Answer

-- a batch was taken, memory sufficed so far, and the answer on the trace so far was made
pub record HasAnswer (spent : Bool) (growing : GrowingView) (answer : Option Answer) : Type 0 where
  pub unspent : spent ≡ false
  pub taken : HasTaken growing
  pub answered : IsSome answer
