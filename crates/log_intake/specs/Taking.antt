-- A log that is taken item by item: what is known of it behind its items so far.
use Rattle.std.specs.Prelude.{◌≡◌, ℕ, ◌+◌, ◌<◌, ◌≤◌, Bool, true, false, List, [], ◌∷◌, ◌++◌, length}
use Rattle.std.specs.Prelude.{Option, None, Some}
use Rattle.std.specs.List.{AllByRecursion}
use Rattle.pota_base.specs.Limits.{most_events}
use Rattle.event_log.specs.declared.item.Item.{Item}
use Rattle.event_log.specs.declared.item.Item.TheVariants as item
use Rattle.event_log.specs.declared.item.LogFault.{LogFault}
use Rattle.event_log.specs.declared.log.Event.{Event}
use Rattle.event_log.specs.declared.log.Header.{Header}
use Rattle.event_log.specs.FittingItems.{FitFrom, FitFirst}
use Rattle.event_log.specs.LogText.{HeaderFits, EventFits, event_count}
use Rattle.event_log.specs.States.{with_batches}
use Rattle.vector_clock.specs.Events.{no_events}
use Rattle.trace_growth.specs.Growing.{TraceView, opened_trace}
use Rattle.rctl_parts.specs.declared.part.Part.{Part}
use Rattle.rctl_parts.specs.Pieces.{disjuncts_of}
use Rattle.observation.specs.PassedOn.{Reading}
use Rattle.observation.specs.PassedOn.{counters_of}
use Rattle.observation.specs.PassedOn.{IsLater}
use Rattle.watch.specs.declared.predicate.Handed.{Handed}
use Rattle.watch.specs.Saying.{Says}
use Rattle.fault_kinds.specs.declared.refusal.Refusal.TheVariants as refusal
use Rattle.log_rules.specs.Judgement.{Prefix, followed_by, fault_behind, Rules, Judgement}
use Rattle.log_rules.specs.Judgement.{waiting, growing, finished, refused}
use Rattle.log_rules.specs.Due.{closed_of, batches_of}
use Rattle.log_rules.specs.SoFar.{counted}
use Rattle.observation.specs.declared.observation.Observation.{Observation}
use Rattle.observation.specs.Fed.{AreFedFrom, AnswersAs}
use Rattle.log_intake.specs.declared.intake.LogIntake.{LogIntake}

-- what a log is taken by: the rules that judge it, and what its watches answer
pub record Terms : Type 0 where
  pub rules : Rules
  pub reading : Reading

-- a log of which the header came
abbrev pub alone : Header → Prefix
alone h = record { header = h; batches = [] }

-- the line that closes a batch, and whether it closes the log
abbrev pub end_item : (last : Bool) → Item
end_item false = item.BatchEnd
end_item true = item.End

-- ---- what is judged

-- items of a log that may come behind a judgement
abbrev pub MayFollow : Judgement → List Item → Type 0
MayFollow waiting items = FitFirst items
MayFollow (growing log since) items =
    FitFrom log.header (event_count log.batches + length since) items
MayFollow (finished log last) items = (n : ℕ) × FitFrom log.header n items
MayFollow (refused log why) items = Unit {0}

-- this is the log as far as its last closed batch, and has no fault so far
abbrev pub HasClosed : Judgement → Prefix → Type 0
HasClosed waiting log = ⊥
HasClosed (growing so_far since) log = (log ≡ so_far) × (0 < length so_far.batches)
HasClosed (finished so_far last) log = log ≡ followed_by so_far last
HasClosed (refused so_far why) log = ⊥

-- ---- what is kept

-- the trace of a log after its batches
abbrev pub trace_after : Prefix → TraceView
trace_after log = record {
  states = record {
    header = log.header;
    events = with_batches (no_events (length log.header.procs)) log.batches;
  };
  batches = counted log.batches;
  spent = false;
}

-- a batch of a log with this header is judged by the counters of these disjuncts
pub record AreJudged (rules : Rules) (h : Header) (disjuncts : List (List Part)) : Type 0 where
  pub batch : (log : Prefix) → log.header ≡ h → (batch : List Event)
      → rules.batch log batch ≡ fault_behind (counters_of (disjuncts_of disjuncts)) log batch

-- the watches answer as those that were handed in, which were fed the states of the log so far
pub record AreHanded {X : Type 0} {P : X → Type 0} (says : Says X P) (reading : Reading)
    (o : Observation X P) : Type 0 where
  pub handed : List (Handed X P)
  pub answers : AnswersAs says handed reading
  pub fed : AreFedFrom says handed o.watches.items o.growing.seen

-- the batches of the log were observed
pub record IsObserved {X : Type 0} {P : X → Type 0} (says : Says X P) (terms : Terms) (log : Prefix)
    (o : Observation X P) : Type 0 where
  pub fits : HeaderFits log.header
  pub unspent : o.growing.spent ≡ false
  pub trace : o.growing.seen.trace ≡ trace_after log
  pub judged : AreJudged terms.rules log.header o.growing.disjuncts
  pub watches : AreHanded says terms.reading o

-- an observation before its first batch, for a header of which no name is unknown
pub record CanOpen {X : Type 0} {P : X → Type 0} (says : Says X P) (terms : Terms)
    (o : Observation X P) (h : Header) : Type 0 where
  pub fits : HeaderFits h
  pub unspent : o.growing.spent ≡ false
  pub trace : o.growing.seen.trace ≡ opened_trace h
  pub judged : AreJudged terms.rules h o.growing.disjuncts
  pub watches : AreHanded says terms.reading o

-- the header didn't come yet
pub record IsWaiting {X : Type 0} {P : X → Type 0} (kept : LogIntake X P) : Type 0 where
  pub none : kept.observation ≡ None
  pub since : kept.since ≡ []
  pub open_ : kept.ended ≡ false

-- the header came, and these batches
pub record HasLog {X : Type 0} {P : X → Type 0} (says : Says X P) (terms : Terms)
    (kept : LogIntake X P) (log : Prefix) : Type 0 where
  pub observation : Observation X P
  pub some : kept.observation ≡ Some observation
  pub is : IsObserved says terms log observation

-- these events came since
pub record HasSince {X : Type 0} {P : X → Type 0} (kept : LogIntake X P) (log : Prefix)
    (since : List Event) : Type 0 where
  pub since_is : kept.since ≡ since
  pub open_ : kept.ended ≡ false
  pub each : AllByRecursion (EventFits log.header) since
  pub few : event_count log.batches + length since ≤ most_events

-- the items so far are judged so, without a fault
abbrev pub Keeps : {X : Type 0} {P : X → Type 0} → Says X P → Terms → LogIntake X P → Judgement
    → Type 0
Keeps says terms kept waiting = IsWaiting kept
Keeps says terms kept (growing log since) = HasLog says terms kept log × HasSince kept log since
Keeps says terms kept (finished log last) =
    HasLog says terms kept (followed_by log last) × (kept.ended ≡ true)
Keeps says terms kept (refused log why) = ⊥

-- and the batches are counted
pub record IsIntakeOf {X : Type 0} {P : X → Type 0} (says : Says X P) (terms : Terms)
    (kept : LogIntake X P) (j : Judgement) : Type 0 where
  pub batches : kept.batches ≡ batches_of j
  pub keeps : Keeps says terms kept j

-- ---- one item more

-- from one judgement to the next a `batch` line closed a batch, or none did
abbrev pub Closes : Bool → (before after : Judgement) → Type 0
Closes false before after = closed_of after ≡ closed_of before
Closes true before after =
    (log : Prefix) × HasClosed after log × (closed_of after ≡ closed_of before ++ log ∷ [])

-- an item more led from one judgement to the next
pub record GoesOn {X : Type 0} {P : X → Type 0} (says : Says X P) (terms : Terms)
    (kept : LogIntake X P) (before after : Judgement) (closed : Bool) : Type 0 where
  pub is : IsIntakeOf says terms kept after
  pub closes : Closes closed before after

-- what is observed goes on for the same formula
abbrev pub GrowsFrom : {X : Type 0} {P : X → Type 0} → (before after : Option (Observation X P))
    → Type 0
GrowsFrom None after = Unit {0}
GrowsFrom (Some before) None = ⊥
GrowsFrom (Some before) (Some after) =
    (after.growing.disjuncts ≡ before.growing.disjuncts)
    × IsLater before.growing.seen after.growing.seen

-- the judgement is this fault of the log, and the batches before it are counted
pub record IsRefusedAs (before after : Judgement) (batches : ℕ) (f : LogFault) : Type 0 where
  pub log : Option Prefix
  pub is : after ≡ refused log (refusal.Log f)
  pub none : closed_of after ≡ closed_of before
  pub number : batches ≡ batches_of after
