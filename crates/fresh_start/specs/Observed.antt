-- Batches that an observation takes, one behind the other or as one.
use Rattle.std.specs.Prelude.{◌≡◌, ℕ, ℤ, Bool, List, [], ◌∷◌, length, Option, None}
use Rattle.event_log.specs.declared.log.Event.{Event}
use Rattle.event_log.specs.declared.log.Header.{Header}
use Rattle.event_log.specs.States.{IsHeader}
use Rattle.rctl_parts.specs.declared.part.Part.{Part}
use Rattle.rctl_parts.specs.Pieces.{disjuncts_of}
use Rattle.trace_growth.specs.Growing.{FitsTrace, opened_trace}
use Rattle.conjunctions.specs.declared.answer.Answer.{Answer}
use Rattle.conjunctions.specs.Answering.{IsAnswer}
use Rattle.observation.specs.Growing.{GrowingView, HasTaken, opened_growing, first_fault}
use Rattle.observation.specs.Taken.{TakesWhole}
use Rattle.clock_laws.specs.Joined.{as_one}

-- the batch fits when it comes, and is taken
pub record Takes {B : Type 0} (says : B → List (List ℤ) → List Bool)
    (before after : GrowingView) (boxes_before boxes_after : List B) (batch : List Event)
    : Type 0 where
  pub fits : FitsTrace before.seen.trace batch
  pub whole : TakesWhole says before after boxes_before boxes_after batch

-- each of the batches is taken when its turn comes
abbrev pub ObservesAll : {B : Type 0} → (B → List (List ℤ) → List Bool) → List (List Event)
    → GrowingView → List B → GrowingView → List B → Type 0
ObservesAll says [] before boxes after boxes_after = (after ≡ before) × (boxes_after ≡ boxes)
ObservesAll {B} says (batch ∷ rest) before boxes after boxes_after =
    (then : GrowingView) × (boxes_then : List B) × Takes says before then boxes boxes_then batch
    × ObservesAll says rest then boxes_then after boxes_after

-- what an observation takes batch by batch has no fault as one batch, of counters or of clocks and
-- messages: so a fresh one takes it as one
abbrev pub AFreshObservationTakesThemAsOne : {B : Type 0} → (B → List (List ℤ) → List Bool)
    → List B → Type 0
AFreshObservationTakesThemAsOne {B} says handed =
    (header : Header) (on : List (Option ℕ)) (disjuncts : List (List Part))
    (batches : List (List Event)) (now : GrowingView) (boxes : List B)
    → ObservesAll says batches (opened_growing header on disjuncts) handed now boxes
    → FitsTrace (opened_trace header) (as_one batches)
    × (first_fault (opened_growing header on disjuncts) (as_one batches) ≡ None)

-- then both have the same answer, but for the number of batches
abbrev pub AndAnswersTheSame : {B : Type 0} → (B → List (List ℤ) → List Bool) → List B → Type 0
AndAnswersTheSame {B} says handed =
    (header : Header) (on : List (Option ℕ)) (disjuncts : List (List Part))
    (batches : List (List Event)) (one other : GrowingView) (here there : List B)
    → IsHeader header → length handed ≡ length on → HasTaken one
    → ObservesAll says batches (opened_growing header on disjuncts) handed one here
    → Takes says (opened_growing header on disjuncts) other handed there (as_one batches)
    → (a b : Answer) → IsAnswer one.seen (disjuncts_of disjuncts) a
    → IsAnswer other.seen (disjuncts_of disjuncts) b → record a { batch = b.batch } ≡ b
