-- The texts of several logs are read as one log.
use Rattle.std.proofs.Common.{◌≡◌, ℕ, ◌+◌, ◌≤◌, Bool, true, false, Option, Some, None, List, [], ◌∷◌, ◌++◌, length, refl, sym, ap, subst, ◌∙◌, arith}
use Rattle.std.specs.Option.{option_map}
use Rattle.std.specs.List.{AllByRecursion}
use Rattle.pota_base.specs.Limits.{longest_log, most_events}
use Rattle.event_log.specs.declared.item.Item.TheVariants as item
use Rattle.event_log.specs.declared.log.Event.{Event}
use Rattle.event_log.specs.declared.log.Header.{Header}
use Rattle.event_log.specs.declared.log.Log.{Log}
use Rattle.event_log.specs.FittingItems.{FitFrom, FitFirst}
use Rattle.event_log.specs.LogText.{EventFits, event_items, log_items}
use Rattle.fault_kinds.specs.declared.merge.MergeFault.{MergeFault}
use Rattle.log_merge.specs.declared.merged.Merged.{Merged}
use Rattle.log_merge.specs.Merging.{merged, merged_header, merged_events, numbered, merged_log}
use Rattle.log_merge.proofs.Fits.{merged_logs_fit}
use Rattle.log_merge.proofs.OneBatch.{batches_do_not_matter}
use Rattle.log_sources.specs.Sources.{Sources, no_sources, after, last_fault}
use Rattle.log_sources.specs.Reading.{CanMerge}
use Rattle.log_sources.proofs.Stepping.{after_more, stays}
use Rattle.log_sources.proofs.Texts.{faultless_are_few, faultless_are_texts}
use Rattle.fault_kinds.specs.declared.refusal.Refusal.{Refusal}
use Rattle.fault_kinds.specs.declared.refusal.Refusal.TheVariants as refusal
use Rattle.log_rules.specs.Readings.{IsReading, IsWhole}
use Rattle.log_rules.proofs.Readings.{whole_is_read}
use Rattle.form_readings.specs.Sources.{merged_of, merged_log_of, merged_place, merged_fault, merged_reading}

abbrev as_refusal : Option MergeFault → Option Refusal
as_refusal fault = option_map (λ f. refusal.Merge f) fault

none_there : (fault : Option MergeFault) → as_refusal fault ≡ None → fault ≡ None
none_there None h = refl
none_there (Some f) h = absurd cc

some_there : (fault : Option MergeFault) (r : Refusal) → as_refusal fault ≡ Some r → (f : MergeFault) × (fault ≡ Some f) × (as_refusal (Some f) ≡ Some r)
some_there None r h = absurd cc
some_there (Some f) r h = (f, refl, h)

-- ---- a fault stays

no_fault : merged_fault false [] ≡ None
unfolding after
no_fault = refl

last_is : (s : Sources) (f : MergeFault) → s.fault ≡ Some f → last_fault s ≡ Some f
unfolding last_fault
last_is s f some = rw some refl

fault_stays : (ended : Bool) (bytes more : List ℕ) (r : Refusal) → merged_fault false bytes ≡ Some r → merged_fault ended (bytes ++ more) ≡ Some r
fault_stays ended bytes more r h = go ended
  where
    s : Sources
    s = after no_sources bytes

    at : (f : MergeFault) × (s.fault ≡ Some f) × (as_refusal (Some f) ≡ Some r)
    at = some_there s.fault r h

    same : after no_sources (bytes ++ more) ≡ s
    same = after_more no_sources bytes more ∙ stays s at.0 more at.1

    go : (e : Bool) → merged_fault e (bytes ++ more) ≡ Some r
    go false = ap (λ (x : Sources). as_refusal x.fault) same ∙ h
    go true = ap (λ (x : Sources). as_refusal (last_fault x)) same ∙ ap as_refusal (last_is s at.0 at.1) ∙ at.2

-- ---- the merged log fits

-- items of one batch
fit_from : (h : Header) (n : ℕ) (es : List Event) → AllByRecursion (EventFits h) es → n + length es ≤ most_events → FitFrom h n (event_items es ++ item.End ∷ [])
fit_from h n [] all few = tt
fit_from h n (e ∷ es) all few = (all.0, omega (arith, few), fit_from h (n + 1) es all.1 (omega (arith, few)))

-- that of logs that can be merged
log_fits : (logs : List Log) → CanMerge logs → FitFirst (log_items (merged_log logs))
log_fits logs can =
    let fits = merged_logs_fit logs can.some can.each can.faultless in
    let few : 0 + length (numbered 1 (merged_events logs)) ≤ most_events = omega (arith, fits.checked.events) in
    (fits.header, fit_from (merged_header logs) 0 (numbered 1 (merged_events logs)) fits.events few)

fit : (bytes : List ℕ) → merged_fault true bytes ≡ None → FitFirst (log_items (merged_log_of bytes))
fit bytes none =
    let found = faultless_are_texts bytes (none_there (last_fault (after no_sources bytes)) none) in
    let logs = found.1 in
    let same : merged_of bytes ≡ merged logs = ap merged found.2.given ∙ (batches_do_not_matter logs).1 in
    subst (λ (m : Merged). FitFirst (log_items m.log)) (sym same) (log_fits logs found.2.can_merge)

-- ---- the law

is_whole : IsWhole longest_log merged_fault merged_log_of
is_whole = record {
  no_fault = no_fault;
  fault_stays = fault_stays;
  bounded = λ bytes none. faultless_are_few bytes (none_there (after no_sources bytes).fault none);
  fit = fit;
}

pub sources_are_read : IsReading longest_log merged_reading
sources_are_read = whole_is_read longest_log merged_fault merged_log_of is_whole merged_place
