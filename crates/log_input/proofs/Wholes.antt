-- A log that stands once all bytes are there, judged without a formula.
use Rattle.std.proofs.Common.{◌≡◌, ℕ, Bool, true, false, Option, Some, None, List, [], ◌∷◌, length, refl, sym, ap, subst, ◌∙◌}
use Rattle.std.proofs.lemmas.Option.{none-some}
use Rattle.event_log.specs.declared.item.LogFault.{LogFault}
use Rattle.event_log.specs.declared.log.Event.{Event}
use Rattle.event_log.specs.declared.log.Header.{Header}
use Rattle.event_log.specs.declared.log.Log.{Log}
use Rattle.event_log.specs.FittingItems.{FitFirst}
use Rattle.event_log.specs.LogText.{log_items}
use Rattle.fault_kinds.specs.declared.refusal.Refusal.{Refusal}
use Rattle.fault_kinds.specs.declared.refusal.Refusal.TheVariants as refusal
use Rattle.log_lines.specs.Reading.{choose}
use Rattle.log_rules.specs.Judgement.{Prefix, followed_by, with_clocks, Judgement, waiting, growing, finished, refused, judged}
use Rattle.log_rules.specs.Due.{Due, due, told, whole_of, fault_in}
use Rattle.log_rules.specs.Readings.{whole_reading, items_at_end}
use Rattle.log_rules.specs.WholeLogs.{all_of}
use Rattle.log_trace.specs.Judging.{without_formula, IsRefused}
use Rattle.log_writing.specs.Spelling.{HasText}
use Rattle.log_input.specs.Inputs.{IsFaultless}
use Rattle.filled_log.specs.declared.filling.FilledLog.{FilledLog}
use Rattle.filled_log.specs.Filling.{AreFaultless, HasBegun, Keeps}
use Rattle.log_input.specs.declared.places.Places.{Places}
use Rattle.filled_log.proofs.Whole.{first_of, whole_judged}

-- ---- a log of one batch that was taken whole

-- its judgement ends with this log, which is kept
pub record Closes (kept : FilledLog) (j : Judgement) : Type 0 where
  pub log : Prefix
  pub whole : whole_of j ≡ Some log
  pub begun : HasBegun kept log

module _ (kept : FilledLog) (h : Header) (b : List Event) where
  abbrev full : List Event
  full = with_clocks (first_of h) b

  closed_by : (o : Option LogFault) → Keeps kept (choose o (λ f. refused (Some (first_of h)) (refusal.Log f)) (finished (first_of h) full))
      → Closes kept (choose o (λ f. refused (Some (first_of h)) (refusal.Log f)) (finished (first_of h) full))
  closed_by None keeps = record { log = followed_by (first_of h) full; whole = refl; begun = keeps.0 }
  closed_by (Some f) keeps = absurd keeps

  closed_one : Keeps kept (judged without_formula waiting (log_items (record { header = h; batches = b ∷ [] }))) → Closes kept (judged without_formula waiting (log_items (record { header = h; batches = b ∷ [] })))
  closed_one keeps =
      subst (Closes kept) (sym (whole_judged h b)) (closed_by (without_formula.batch (first_of h) full) (subst (Keeps kept) (whole_judged h b) keeps))

closed_batches : (kept : FilledLog) (h : Header) (bs : List (List Event)) → length bs ≡ 1 → Keeps kept (judged without_formula waiting (log_items (record { header = h; batches = bs })))
    → Closes kept (judged without_formula waiting (log_items (record { header = h; batches = bs })))
closed_batches kept h [] one keeps = absurd cc
closed_batches kept h (b ∷ []) one keeps = closed_one kept h b keeps
closed_batches kept h (b ∷ c ∷ bs) one keeps = absurd cc

pub closes : (kept : FilledLog) (log : Log) → length log.batches ≡ 1 → Keeps kept (judged without_formula waiting (log_items log)) → Closes kept (judged without_formula waiting (log_items log))
closes kept log one keeps = closed_batches kept log.header log.batches one keeps

pub has_begun : (kept : FilledLog) (j : Judgement) → Closes kept j → (log : Prefix) × HasBegun kept log
has_begun kept j c = (c.log, c.begun)

-- it is that log, has a text, and has no fault of its clocks and messages
abbrev pub IsTakenOf : FilledLog → Log → Type 0
IsTakenOf kept log = (p : Prefix) → HasBegun kept p → (all_of log ≡ p) × HasText log × AreFaultless (length log.header.procs) log.batches

pub faultless_so : (log : Log) → HasText log → AreFaultless (length log.header.procs) log.batches → IsFaultless log
faultless_so log text are =
    record { text = text; clocks = are.clocks; faultless = are.faultless; events = are.events }

pub whole_log : (kept : FilledLog) (j : Judgement) (log : Log) (places : Places) → Closes kept j → IsTakenOf kept log → (whole_of j ≡ Some (all_of log)) × IsFaultless log × (places ≡ places)
whole_log kept j log places c came = let is = came c.log c.begun in (c.whole ∙ ap (λ (p : Prefix). Some p) (sym is.0), faultless_so log is.1 is.2, refl)

-- ---- what is due of its bytes

pub whole_free : (place : LogFault → Refusal) (j : Judgement) (log : Prefix) → whole_of j ≡ Some log → fault_in place j None ≡ None
whole_free place waiting log is = refl
whole_free place (growing so_far since) log is = refl
whole_free place (finished so_far last) log is = refl
whole_free place (refused so_far why) log is = absurd (none-some log is)

module _ (fault : Bool → List ℕ → Option Refusal) (log : List ℕ → Log) (place : List ℕ → LogFault → Refusal) (bytes : List ℕ) (none : fault true bytes ≡ None) where
  abbrev j : Judgement
  j = judged without_formula waiting (log_items (log bytes))

  due_is : due (whole_reading fault log place) without_formula true bytes ≡ told true (place bytes) (judged without_formula waiting (log_items (log bytes))) None
  due_is = ap (λ (o : Option Refusal). told true (place bytes) (judged without_formula waiting (items_at_end true o (log bytes))) o) none

  pub whole_due : (p : Prefix) → whole_of (judged without_formula waiting (log_items (log bytes))) ≡ Some p
      → ((due (whole_reading fault log place) without_formula true bytes).fault ≡ None) × ((due (whole_reading fault log place) without_formula true bytes).whole ≡ Some p)
  whole_due p is = (
    ap (λ (d : Due). d.fault) due_is ∙ whole_free (place bytes) j p is,
    ap (λ (d : Due). d.whole) due_is ∙ is,
  )

  pub fault_due : (f : LogFault) → IsRefused (judged without_formula waiting (log_items (log bytes))) f
      → (due (whole_reading fault log place) without_formula true bytes).fault ≡ Some (place bytes f)
  fault_due f is =
      ap (λ (d : Due). d.fault) due_is ∙ ap (λ (k : Judgement). fault_in (place bytes) k None) is.1

  -- it fits
  pub fits : ((ended : Bool) (bs : List ℕ) → FitFirst (items_at_end ended (fault ended bs) (log bs))) → FitFirst (log_items (log bytes))
  fits all = subst (λ (o : Option Refusal). FitFirst (items_at_end true o (log bytes))) none (all true bytes)

-- a fault of the bytes themselves
pub text_due : (fault : Bool → List ℕ → Option Refusal) (log : List ℕ → Log) (place : List ℕ → LogFault → Refusal) (bytes : List ℕ) (r : Refusal) → (ended : Bool) → fault ended bytes ≡ Some r
    → (due (whole_reading fault log place) without_formula ended bytes).fault ≡ Some r
unfolding judged
text_due fault log place bytes r false is = is
text_due fault log place bytes r true is =
    ap (λ (o : Option Refusal). (told true (place bytes) (judged without_formula waiting (items_at_end true o (log bytes))) o).fault) is

pub none_due : (fault : Bool → List ℕ → Option Refusal) (log : List ℕ → Log) (place : List ℕ → LogFault → Refusal) (bytes : List ℕ) → fault false bytes ≡ None
    → (due (whole_reading fault log place) without_formula false bytes).fault ≡ None
unfolding judged
none_due fault log place bytes is = is
