-- Items that may follow a judgement.
use Rattle.std.proofs.Common.{◌≡◌, ℕ, ◌+◌, Option, Some, None, List, [], ◌∷◌, ◌++◌, length, subst, arith}
use Rattle.std.proofs.lemmas.List.{length_push}
use Rattle.log_lines.specs.Reading.{choose}
use Rattle.event_log.specs.declared.item.Item.{Item}
use Rattle.event_log.specs.declared.item.Item.TheVariants as item
use Rattle.event_log.specs.declared.item.LogFault.{LogFault}
use Rattle.event_log.specs.declared.log.Event.{Event}
use Rattle.event_log.specs.LogText.{event_count}
use Rattle.event_log.specs.FittingItems.{FitFrom}
use Rattle.event_log.specs.States.{with_batch}
use Rattle.vector_clock.proofs.FilledBatches.{length-fill_from}
use Rattle.fault_kinds.specs.declared.refusal.Refusal.TheVariants as refusal
use Rattle.log_rules.specs.Judgement.{Prefix, followed_by, events_of, with_clocks, Judgement, waiting, growing, finished, refused, judge, judged}
use Rattle.log_trace.specs.Judging.{without_formula, MayFollow}

pub event_count-push : (bs : List (List Event)) (b : List Event) → event_count (bs ++ b ∷ []) ≡ event_count bs + length b
event_count-push [] b = omega arith
event_count-push (x ∷ bs) b = omega (arith, event_count-push bs b)

-- the closed batch has as many events as came since
closed_follows : (log : Prefix) (since batch : List Event) → length batch ≡ length since → (o : Option LogFault) (rest : List Item) → FitFrom log.header (event_count log.batches + length since) rest
    → MayFollow (choose o (λ f. refused (Some log) (refusal.Log f)) (growing (followed_by log batch) [])) rest
closed_follows log since batch same None rest fit =
    let e : event_count log.batches + length since ≡ event_count (log.batches ++ batch ∷ []) + 0 = omega (arith, same, event_count-push log.batches batch) in
    subst (λ (k : ℕ). FitFrom log.header k rest) e fit
closed_follows log since batch same (Some f) rest fit = tt

ended_follows : (log : Prefix) (since : List Event) (o : Option LogFault) (rest : List Item) → (n : ℕ) → FitFrom log.header n rest
    → MayFollow (choose o (λ f. refused (Some log) (refusal.Log f)) (finished log since)) rest
ended_follows log since None rest n fit = (n, fit)
ended_follows log since (Some f) rest n fit = tt

pub follows_one : (j : Judgement) (i : Item) (rest : List Item) → MayFollow j (i ∷ rest) → MayFollow (judge without_formula j i) rest
follows_one waiting (item.Header h) rest fit = fit.1
follows_one waiting (item.Event e) rest fit = absurd fit
follows_one waiting item.BatchEnd rest fit = absurd fit
follows_one waiting item.End rest fit = absurd fit
follows_one (growing log since) (item.Header h) rest fit = absurd fit
follows_one (growing log since) (item.Event e) rest fit =
    let n : event_count log.batches + length since + 1 ≡ event_count log.batches + length (since ++ e ∷ []) = omega (arith, length_push since e) in
    subst (λ (k : ℕ). FitFrom log.header k rest) n fit.2
follows_one (growing log since) item.BatchEnd rest fit =
    closed_follows log since (with_clocks log since) (length-fill_from (with_batch (events_of log) since) (events_of log) since)
    (without_formula.batch log (with_clocks log since)) rest fit
follows_one (growing log since) item.End rest fit =
    ended_follows log (with_clocks log since) (without_formula.batch log (with_clocks log since)) rest (event_count log.batches + length since) fit
follows_one (finished log last) (item.Header h) rest fit = absurd fit.1
follows_one (finished log last) (item.Event e) rest fit = (fit.0 + 1, fit.1.2)
follows_one (finished log last) item.BatchEnd rest fit = fit
follows_one (finished log last) item.End rest fit = fit
follows_one (refused log why) i rest fit = tt

pub follows_first : (j : Judgement) (i : Item) (rest : List Item) → MayFollow j (i ∷ rest) → MayFollow j (i ∷ [])
follows_first waiting (item.Header h) rest fit = (fit.0, tt)
follows_first waiting (item.Event e) rest fit = absurd fit
follows_first waiting item.BatchEnd rest fit = absurd fit
follows_first waiting item.End rest fit = absurd fit
follows_first (growing log since) (item.Header h) rest fit = absurd fit
follows_first (growing log since) (item.Event e) rest fit = (fit.0, fit.1, tt)
follows_first (growing log since) item.BatchEnd rest fit = tt
follows_first (growing log since) item.End rest fit = tt
follows_first (finished log last) (item.Header h) rest fit = absurd fit.1
follows_first (finished log last) (item.Event e) rest fit = (fit.0, (fit.1.0, fit.1.1, tt))
follows_first (finished log last) item.BatchEnd rest fit = (fit.0, tt)
follows_first (finished log last) item.End rest fit = (fit.0, tt)
follows_first (refused log why) i rest fit = tt

pub follows_all : (j : Judgement) (xs ys : List Item) → MayFollow j (xs ++ ys) → MayFollow (judged without_formula j xs) ys
unfolding judged
follows_all j [] ys fit = fit
follows_all j (i ∷ xs) ys fit = follows_all (judge without_formula j i) xs ys (follows_one j i (xs ++ ys) fit)
