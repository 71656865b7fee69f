-- What is said of an end that no event at a cut waits for, and of messages in transit, by the run.
use Rattle.std.specs.Prelude.{◌≡◌, ℕ, List, length, map, Some, None}
use Rattle.run_model.specs.Cut.{Cut, count}
use Rattle.run_model.specs.Run.{Watches, run_of, clocks_of}
use Rattle.run_model.specs.Consistent.{HappenedBefore}
use Rattle.run_model.specs.Meaning as meaning
use Rattle.pota_base.specs.declared.shape.EventId.{EventId}
use Rattle.pota_base.specs.Shape.{HasEvent}
use Rattle.event_log.specs.States.{StatesView, AreWhole, trace_of}
use Rattle.rctl_grammar.specs.declared.token.Token.{Token}
use Rattle.report_lines.specs.Spelling.{CutFits}
use Rattle.view_parts.specs.Parts.{place}
use Rattle.view_text.specs.Ties.{last_named, untied}
use Rattle.view_text.specs.Transit.{in_transit}

-- the one event happened before the other
abbrev pub IsBefore : StatesView → EventId → EventId → Type 0
IsBefore s e other =
    HappenedBefore (clocks_of (trace_of s)) e.process e.position other.process other.position

-- the event is one of another process, the last within the cut that sets a named variable of it,
-- and the one that ends a value didn't happen before it
pub record DoesNotWait (s : StatesView) (tokens : List Token) (cut : Cut) (ended e : EventId)
    : Type 0 where
  pub other : e.process ≡ ended.process → ⊥
  pub last : last_named s tokens e.process (count cut e.process) ≡ Some e.position
  pub untied : IsBefore s ended e → ⊥

-- what is said beside an end that no event at the cut waits for, and where nothing is said
pub record AreTold (s : StatesView) (tokens : List Token) (cut : Cut) (ended : EventId) : Type 0
  where
    pub told : (e : EventId) → untied s tokens cut ended ≡ Some e → DoesNotWait s tokens cut ended e
    pub silent : untied s tokens cut ended ≡ None → (process position : ℕ)
        → (process ≡ ended.process → ⊥)
        → last_named s tokens process (count cut process) ≡ Some position
        → IsBefore s ended (place process position)

-- of each event of a run, and each cut within it
abbrev pub UntiedAreTold : Type 0
UntiedAreTold =
    (s : StatesView) (tokens : List Token) (cut : Cut) (ended : EventId) → AreWhole s
    → CutFits (map length s.events) cut → HasEvent (map length s.events) ended
    → AreTold s tokens cut ended

-- the messages in transit are those of the run
abbrev pub TransitIsOfTheRun : Type 0
TransitIsOfTheRun =
    (s : StatesView) (watches : Watches) (cut : Cut) (sender receiver : ℕ) → AreWhole s
    → in_transit s cut sender receiver
    ≡ meaning.in_transit (run_of (trace_of s) watches) sender receiver cut
