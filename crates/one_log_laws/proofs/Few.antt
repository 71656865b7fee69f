-- How many events and batches a log has whose items fit.
use Rattle.std.proofs.Common.{◌≡◌, ℕ, ◌+◌, ◌<◌, ◌≤◌, Option, Some, None, List, [], ◌∷◌, ◌++◌, length, ap, subst, ◌∙◌, arith}
use Rattle.std.proofs.lemmas.List.{length_push}
use Rattle.std.proofs.lemmas.Option.{none-some, same_Some}
use Rattle.pota_base.specs.Limits.{most_events}
use Rattle.log_lines.specs.Reading.{choose}
use Rattle.event_log.specs.declared.item.Item.{Item}
use Rattle.event_log.specs.declared.item.Item.TheVariants as item
use Rattle.event_log.specs.declared.item.LogFault.{LogFault}
use Rattle.event_log.specs.declared.log.Event.{Event}
use Rattle.event_log.specs.LogText.{event_count}
use Rattle.event_log.specs.FittingItems.{FitFirst}
use Rattle.event_log.specs.States.{with_batch}
use Rattle.vector_clock.proofs.FilledBatches.{length-fill_from}
use Rattle.fault_kinds.specs.declared.refusal.Refusal.TheVariants as refusal
use Rattle.log_rules.specs.Judgement.{Prefix, followed_by, events_of, with_clocks, Judgement, waiting, growing, finished, refused, judge, judged}
use Rattle.log_rules.specs.Due.{whole_of}
use Rattle.log_trace.specs.Judging.{without_formula, MayFollow}
use Rattle.log_trace.proofs.Following.{event_count-push, follows_one}

-- so many events, and some batch
pub record IsSmall (log : Prefix) : Type 0 where
  pub some : 0 < length log.batches
  pub few : event_count log.batches ≤ most_events

abbrev IsBounded : Judgement → Type 0
IsBounded waiting = Unit {0}
IsBounded (growing log since) = event_count log.batches + length since ≤ most_events
IsBounded (finished log last) = IsSmall (followed_by log last)
IsBounded (refused log why) = Unit {0}

closed_count : (log : Prefix) (since : List Event) → event_count (log.batches ++ with_clocks log since ∷ []) ≡ event_count log.batches + length since
closed_count log since =
    event_count-push log.batches (with_clocks log since) ∙ ap (λ (n : ℕ). event_count log.batches + n) (length-fill_from (with_batch (events_of log) since) (events_of log) since)

on_close : (log : Prefix) (since : List Event) → event_count log.batches + length since ≤ most_events → (o : Option LogFault)
    → IsBounded (choose o (λ f. refused (Some log) (refusal.Log f)) (growing (followed_by log (with_clocks log since)) []))
on_close log since few None = omega (arith, few, closed_count log since)
on_close log since few (Some f) = tt

on_end : (log : Prefix) (since : List Event) → event_count log.batches + length since ≤ most_events → (o : Option LogFault)
    → IsBounded (choose o (λ f. refused (Some log) (refusal.Log f)) (finished log (with_clocks log since)))
on_end log since few None = record {
  some = omega (arith, length_push log.batches (with_clocks log since));
  few = omega (arith, few, closed_count log since);
}
on_end log since few (Some f) = tt

one_bounded : (j : Judgement) (i : Item) (rest : List Item) → MayFollow j (i ∷ rest) → IsBounded j → IsBounded (judge without_formula j i)
one_bounded waiting (item.Header h) rest fit few = omega arith
one_bounded waiting (item.Event e) rest fit few = tt
one_bounded waiting item.BatchEnd rest fit few = tt
one_bounded waiting item.End rest fit few = tt
one_bounded (growing log since) (item.Header h) rest fit few = few
one_bounded (growing log since) (item.Event e) rest fit few = omega (arith, fit.1, length_push since e)
one_bounded (growing log since) item.BatchEnd rest fit few = on_close log since few (without_formula.batch log (with_clocks log since))
one_bounded (growing log since) item.End rest fit few = on_end log since few (without_formula.batch log (with_clocks log since))
one_bounded (finished log last) i rest fit few = few
one_bounded (refused log why) i rest fit few = tt

all_bounded : (j : Judgement) (items : List Item) → MayFollow j items → IsBounded j → IsBounded (judged without_formula j items)
unfolding judged
all_bounded j [] fit few = few
all_bounded j (i ∷ items) fit few = all_bounded (judge without_formula j i) items (follows_one j i items fit) (one_bounded j i items fit few)

whole_bounded : (j : Judgement) (log : Prefix) → IsBounded j → whole_of j ≡ Some log → IsSmall log
whole_bounded waiting log few is = absurd (none-some log is)
whole_bounded (growing so_far since) log few is = absurd (none-some log is)
whole_bounded (finished so_far last) log few is = subst IsSmall (same_Some (followed_by so_far last) log is) few
whole_bounded (refused so_far why) log few is = absurd (none-some log is)

-- the whole log of items that fit
pub whole_small : (items : List Item) (log : Prefix) → FitFirst items → whole_of (judged without_formula waiting items) ≡ Some log → IsSmall log
whole_small items log fit is = whole_bounded (judged without_formula waiting items) log (all_bounded waiting items fit tt) is
