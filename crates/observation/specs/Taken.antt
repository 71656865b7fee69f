-- What a call does to an observation: to its formula and the trace, and to the boxes of its
-- watches.
use Rattle.std.specs.Prelude.{◌≡◌, ℤ, Bool, false, List, None, Some}
use Rattle.event_log.specs.declared.item.LogFault.{LogFault}
use Rattle.event_log.specs.declared.log.Event.{Event}
use Rattle.part_pulls.specs.Observing.{Reading, AreAnswers}
use Rattle.observation.specs.Growing.{GrowingView, TakesBatch, first_fault}
use Rattle.observation.specs.Fed.{Feeds, AreFedFrom, AnswersAs}

-- the batch was taken: it has no fault, and each watch on a process was fed the states that came
-- with it, so what the watches were fed since they were handed in goes on
pub record TakesWhole {B : Type 0} (says : B → List (List ℤ) → List Bool)
    (before after : GrowingView) (boxes_before boxes_after : List B) (batch : List Event)
    : Type 0 where
  pub unspent_before : before.spent ≡ false
  pub unspent : after.spent ≡ false
  pub free : first_fault before batch ≡ None
  pub takes : TakesBatch before after batch
  pub fed : Feeds says boxes_before boxes_after before.seen after.seen
  pub since_start : (handed : List B) → AreFedFrom says handed boxes_before before.seen
      → AreFedFrom says handed boxes_after after.seen
  pub answers : (handed : List B) (reading : Reading)
      → AreFedFrom says handed boxes_before before.seen → AnswersAs says handed reading
      → AreAnswers after.seen reading

-- all is as before, the boxes of the watches too
pub record IsUntouched {V : Type 0} (before after : GrowingView) (boxes_before boxes_after : V)
    : Type 0 where
  pub growing : after ≡ before
  pub boxes : boxes_after ≡ boxes_before

-- the batch has this fault, and nothing of it was taken
pub record RefusesBatch {V : Type 0} (before after : GrowingView) (boxes_before boxes_after : V)
    (batch : List Event) (fault : LogFault) : Type 0 where
  pub unspent : before.spent ≡ false
  pub found : first_fault before batch ≡ Some fault
  pub untouched : IsUntouched before after boxes_before boxes_after
