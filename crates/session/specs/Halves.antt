-- A session, and its halves in a row.
use Rattle.std.specs.Prelude.{◌≡◌, ℤ, Bool, List, length, Result, Ok, Err}
use Rattle.event_log.specs.declared.item.LogFault.{LogFault}
use Rattle.event_log.specs.declared.log.Event.{Event}
use Rattle.trace_growth.specs.Growing.{IsTrace}
use Rattle.rctl_parts.specs.Pieces.{disjuncts_of}
use Rattle.conjunctions.specs.declared.answer.Answer.{Answer}
use Rattle.conjunctions.specs.Answering.{IsAnswer}
use Rattle.observation.specs.Growing.{GrowingView}
use Rattle.observation.specs.Fed.{AreFedFrom}
use Rattle.observation.specs.Taken.{TakesWhole, RefusesBatch}

-- what was observed, before and after
pub record Grown : Type 0 where
  pub before : GrowingView
  pub after : GrowingView

abbrev pub grown_of : (before after : GrowingView) → Grown
grown_of before after = record { before = before; after = after }

-- What comes of a batch: it is taken, and this is the answer on what was observed then; or it has
-- this fault, and all is as before. So say `Session::extend` and `Session::answer` of a session,
-- and so say `Observation::observe` and `Answering::answer` of an observation and of an answering
-- that is lent it.
abbrev pub Goes : {B : Type 0} → (B → List (List ℤ) → List Bool) → (grown : Grown)
    → (boxes_before boxes_after : List B) → List Event → Result Answer LogFault → Type 0
Goes says grown boxes_before boxes_after batch (Ok answer) =
    TakesWhole says grown.before grown.after boxes_before boxes_after batch × IsAnswer
    grown.after.seen (disjuncts_of grown.after.disjuncts) answer
Goes says grown boxes_before boxes_after batch (Err fault) =
    RefusesBatch grown.before grown.after boxes_before boxes_after batch fault

-- a session and an observation have observed the same, by watches that were handed in to both
pub record AreAlike {B : Type 0} (says : B → List (List ℤ) → List Bool)
    (handed here there : List B) (session observation : GrowingView) : Type 0 where
  pub same : observation ≡ session
  pub paired : length handed ≡ length session.seen.watch_process
  pub fed : AreFedFrom says handed here session.seen
  pub fed_other : AreFedFrom says handed there observation.seen

-- What comes of a batch in a session comes of it in an observation and an answering that have
-- observed the same, and then they have observed the same again.
abbrev pub GoesAsItsHalves : {B : Type 0} → (B → List (List ℤ) → List Bool) → List B → Type 0
GoesAsItsHalves {B} says handed = (here there here_after there_after : List B)
    (before after start end : GrowingView) (batch : List Event)
    (session halves : Result Answer LogFault) → AreAlike says handed here there before start
    → IsTrace after.seen.trace.states
    → Goes says (grown_of before after) here here_after batch session
    → Goes says (grown_of start end) there there_after batch halves
    → (session ≡ halves) × AreAlike says handed here_after there_after after end
