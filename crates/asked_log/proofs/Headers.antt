-- The header of a log that was read fits, and it has a batch.
use Rattle.std.proofs.Common.{◌≡◌, ℕ, ◌<◌, true, Option, Some, None, List, [], ◌∷◌, length, subst, arith}
use Rattle.std.proofs.lemmas.List.{length_push}
use Rattle.std.proofs.lemmas.Option.{none-some, same_Some}
use Rattle.log_lines.specs.Reading.{choose}
use Rattle.event_log.specs.declared.item.Item.{Item}
use Rattle.event_log.specs.declared.item.Item.TheVariants as item
use Rattle.event_log.specs.declared.item.LogFault.{LogFault}
use Rattle.event_log.specs.FittingItems.{FitFirst}
use Rattle.event_log.specs.LogText.{HeaderFits}
use Rattle.fault_kinds.specs.declared.refusal.Refusal.{Refusal}
use Rattle.fault_kinds.specs.declared.refusal.Refusal.TheVariants as refusal
use Rattle.form_readings.proofs.Imports.{clocks_are_read}
use Rattle.form_readings.proofs.Merging.{sources_are_read}
use Rattle.log_rules.specs.Judgement.{Prefix, followed_by, with_clocks, Judgement, waiting, growing, finished, refused, judge, judged}
use Rattle.log_rules.specs.Due.{due, whole_of, at_end}
use Rattle.log_rules.specs.Readings.{Reading}
use Rattle.log_rules.proofs.Readings.{log_is_read}
use Rattle.log_trace.specs.Judging.{without_formula}
use Rattle.log_input.specs.declared.form.Form.{Form}
use Rattle.log_input.specs.declared.form.Form.TheVariants as form
use Rattle.log_input.specs.Inputs.{IsFilled}
use Rattle.log_input.specs.Readings.{HasLog, reading_of}
use Rattle.log_rules.specs.WholeLogs.{all_of}
use Rattle.event_log.specs.declared.log.Log.{Log}
use Rattle.asked_log.specs.Logs.{CanObserve}

-- the header came, and fits
abbrev Started : Judgement → Type 0
Started waiting = ⊥
Started (growing log since) = HeaderFits log.header
Started (finished log last) = HeaderFits log.header
Started (refused log why) = Unit {0}

closed_so : (o : Option LogFault) (log : Option Prefix) (next : Judgement) → Started next → Started (choose o (λ f. refused log (refusal.Log f)) next)
closed_so None log next is = is
closed_so (Some f) log next is = tt

stays : (j : Judgement) (i : Item) → Started j → Started (judge without_formula j i)
stays waiting i is = absurd is
stays (growing log since) (item.Header h) is = is
stays (growing log since) (item.Event e) is = is
stays (growing log since) item.BatchEnd is =
    closed_so (without_formula.batch log (with_clocks log since)) (Some log) (growing (followed_by log (with_clocks log since)) []) is
stays (growing log since) item.End is =
    closed_so (without_formula.batch log (with_clocks log since)) (Some log) (finished log (with_clocks log since)) is
stays (finished log last) i is = is
stays (refused log why) i is = is

all_stay : (items : List Item) (j : Judgement) → Started j → Started (judged without_formula j items)
unfolding judged
all_stay [] j is = is
all_stay (i ∷ items) j is = all_stay items (judge without_formula j i) (stays j i is)

-- what is known of a log that was read
record IsBegun (log : Prefix) : Type 0 where
  pub header : HeaderFits log.header
  pub some : 0 < length log.batches

whole_so : (j : Judgement) (log : Prefix) → Started j → whole_of j ≡ Some log → IsBegun log
whole_so waiting log is whole = absurd is
whole_so (growing so_far since) log is whole = absurd (none-some log whole)
whole_so (finished so_far last) log is whole =
    let many = length_push so_far.batches last in
    subst IsBegun (same_Some (followed_by so_far last) log whole) (record { header = is; some = omega (arith, many) })
whole_so (refused so_far why) log is whole = absurd (none-some log whole)

of_items : (items : List Item) (log : Prefix) → FitFirst items → whole_of (judged without_formula waiting items) ≡ Some log → IsBegun log
unfolding judged
of_items [] log fit whole = absurd (none-some log whole)
of_items (item.Header h ∷ items) log fit whole =
    whole_so (judged without_formula (growing (record { header = h; batches = [] }) []) items) log (all_stay items (growing (record { header = h; batches = [] }) []) fit.0) whole
of_items (item.Event e ∷ items) log fit whole = absurd fit
of_items (item.BatchEnd ∷ items) log fit whole = absurd fit
of_items (item.End ∷ items) log fit whole = absurd fit

whole_there : (fault : Option Refusal) (o : Option Prefix) (log : Prefix) → at_end true fault o ≡ Some log → o ≡ Some log
whole_there None o log there = there
whole_there (Some f) o log there = absurd (none-some log there)

of_due : (reading : Reading) (bytes : List ℕ) (log : Prefix) → FitFirst (reading.items true bytes) → (due reading without_formula true bytes).whole ≡ Some log → IsBegun log
of_due reading bytes log fit whole =
    of_items (reading.items true bytes) log fit (whole_there (reading.fault true bytes) (whole_of (judged without_formula waiting (reading.items true bytes))) log whole)

fit_so : (f : Form) (bytes : List ℕ) → FitFirst ((reading_of f).items true bytes)
fit_so form.OneLog bytes = log_is_read.fit true bytes
fit_so form.Merged bytes = sources_are_read.fit true bytes
fit_so form.Clocks bytes = clocks_are_read.fit true bytes

begun : (f : Form) (bytes : List ℕ) (log : Prefix) → HasLog f bytes log → IsBegun log
begun f bytes log has = of_due (reading_of f) bytes log (fit_so f bytes) has.whole

pub observable : (f : Form) (bytes : List ℕ) (log : Log) → IsFilled f bytes log → CanObserve log
observable f bytes log filled =
    let first = begun f bytes (all_of log) filled.has in
    record { header = first.header; some = first.some; log_is = filled.log_is }
