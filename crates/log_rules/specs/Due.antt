-- What is due of the bytes of a log: the batches that have a report of their own, the number of
-- batches that were closed, and one fault at most.
use Rattle.std.specs.Prelude.{ℕ, Bool, true, false, List, [], ◌∷◌, ◌++◌, length}
use Rattle.std.specs.Prelude.{Option, None, Some}
use Rattle.event_log.specs.declared.item.LogFault.{LogFault}
use Rattle.event_log.specs.declared.log.Event.{Event}
use Rattle.event_log.specs.declared.log.Header.{Header}
use Rattle.fault_kinds.specs.declared.refusal.Refusal.{Refusal}
use Rattle.fault_kinds.specs.declared.refusal.Refusal.TheVariants as refusal
use Rattle.log_rules.specs.Judgement.{Prefix, followed_by, Rules, Judgement, waiting, growing}
use Rattle.log_rules.specs.Judgement.{finished, refused, judged}
use Rattle.log_rules.specs.Readings.{Reading}
use Rattle.log_rules.specs.SoFar.{counted}

-- ---- what a judgement says

-- the log after each of these batches, which stand behind those before
unfoldable pub after_each : Header → List (List Event) → List (List Event) → List Prefix
after_each h before [] = []
after_each h before (batch ∷ batches) =
    record { header = h; batches = before ++ batch ∷ [] }
    ∷ after_each h (before ++ batch ∷ []) batches

abbrev pub prefixes : Prefix → List Prefix
prefixes log = after_each log.header [] log.batches

-- the log after each batch that a `batch` line closed
abbrev pub closed_of : Judgement → List Prefix
closed_of waiting = []
closed_of (growing log since) = prefixes log
closed_of (finished log last) = prefixes log
closed_of (refused None why) = []
closed_of (refused (Some log) why) = prefixes log

-- the log whose `end` line was judged
abbrev pub whole_of : Judgement → Option Prefix
whole_of waiting = None
whole_of (growing log since) = None
whole_of (finished log last) = Some (followed_by log last)
whole_of (refused log why) = None

-- how many batches were closed without fault
abbrev pub batches_of : Judgement → ℕ
batches_of waiting = 0
batches_of (growing log since) = counted log.batches
batches_of (finished log last) = counted (followed_by log last).batches
batches_of (refused None why) = 0
batches_of (refused (Some log) why) = counted log.batches

-- a fault of a batch is told so
abbrev pub placed : (place : LogFault → Refusal) → Refusal → Refusal
placed place (refusal.Formula f) = refusal.Formula f
placed place (refusal.Log f) = place f
placed place (refusal.Import f) = refusal.Import f
placed place (refusal.Merge f) = refusal.Merge f

-- the fault of an item comes before that of the bytes, which stands behind the items
abbrev pub fault_in : (place : LogFault → Refusal) → Judgement → Option Refusal → Option Refusal
fault_in place waiting fault = fault
fault_in place (growing log since) fault = fault
fault_in place (finished log last) fault = fault
fault_in place (refused log why) fault = Some (placed place why)

-- the whole log is there where the input has ended and its bytes have no fault
abbrev pub at_end : Bool → Option Refusal → Option Prefix → Option Prefix
at_end true None whole = whole
at_end true (Some f) whole = None
at_end false fault whole = None

-- ---- what is due

pub record Due : Type 0 where
  -- the log after each batch that a `batch` line closed
  pub closed : List Prefix
  -- the whole log, where it was read to its end without fault
  pub whole : Option Prefix
  -- how many batches were closed without fault, by `batch` lines and by the `end` line
  pub batches : ℕ
  pub fault : Option Refusal

-- nothing but a fault, if there is one
abbrev pub fault_alone : Option Refusal → Due
fault_alone fault = record { closed = []; whole = None; batches = 0; fault = fault }

-- of a judgement of all items, and the fault of the bytes themselves
abbrev pub told : Bool → (place : LogFault → Refusal) → Judgement → Option Refusal → Due
told ended place j fault = record {
  closed = closed_of j;
  whole = at_end ended fault (whole_of j);
  batches = batches_of j;
  fault = fault_in place j fault;
}

-- what the items of the bytes lead to
abbrev pub judgement_of : Reading → Rules → (ended : Bool) → List ℕ → Judgement
judgement_of reading rules ended bytes = judged rules waiting (reading.items ended bytes)

-- of bytes with which the input has ended, and of bytes with more behind them
abbrev pub due : Reading → Rules → (ended : Bool) → List ℕ → Due
due reading rules ended bytes =
    told ended (reading.place ended bytes) (judgement_of reading rules ended bytes)
    (reading.fault ended bytes)
