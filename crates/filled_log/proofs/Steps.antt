-- How a log with its clocks moves on with an item.
use Rattle.std.proofs.Common.{◌≡◌, Bool, true, false, Option, Some, None, List, [], ◌∷◌, ◌++◌, refl, sym, ap, subst, ◌∙◌, arith}
use Rattle.std.proofs.lemmas.Bool.{false≢true}
use Rattle.std.proofs.lemmas.List.{length_push}
use Rattle.std.proofs.lemmas.Option.{same_Some}
use Rattle.log_lines.specs.Reading.{choose}
use Rattle.event_log.specs.declared.item.Item.TheVariants as item
use Rattle.event_log.specs.declared.item.LogFault.{LogFault}
use Rattle.event_log.specs.declared.log.Event.{Event}
use Rattle.event_log.specs.declared.log.Header.{Header}
use Rattle.event_log.specs.LogText.{HeaderFits, EventFits}
use Rattle.event_log.specs.States.{with_batch}
use Rattle.event_log.proofs.Lists.{all_push}
use Rattle.vector_clock.proofs.FilledBatches.{length-fill_from}
use Rattle.counter_preds.proofs.Staying.{none_without}
use Rattle.fault_kinds.specs.declared.refusal.Refusal.TheVariants as refusal
use Rattle.log_rules.specs.Judgement.{Prefix, followed_by, events_of, states_of, with_clocks, clock_fault, Judgement, waiting, growing, finished, refused, opened, judge}
use Rattle.log_trace.specs.Judging.{without_formula, IsRefused, MayFollow}
use Rattle.log_trace.specs.inside.Judging.{end_item}
use Rattle.log_trace.proofs.Following.{event_count-push}
use Rattle.filled_log.specs.declared.filling.Begun.{Begun}
use Rattle.filled_log.specs.declared.filling.FilledLog.{FilledLog}
use Rattle.filled_log.specs.Filling.{HasLog, HasBegun, Keeps}
use Rattle.filled_log.specs.inside.Filling.{IsBegunBy, MayComeBehind}

-- the fault of a batch without a formula is that of its clocks and messages
batch_fault_is : (log : Prefix) (batch : List Event) → without_formula.batch log batch ≡ clock_fault log batch
batch_fault_is log batch =
    ap (λ (o : Option LogFault). choose o (λ f. Some f) (clock_fault log batch)) (none_without (states_of log) batch)

-- ---- the header

pub header_first : (j : Judgement) (h : Header) (kept : FilledLog) → Keeps kept j → MayFollow j (item.Header h ∷ []) → (j ≡ waiting) × HeaderFits h
header_first waiting h kept is fit = (refl, fit.0)
header_first (growing log since) h kept is fit = absurd fit
header_first (finished log last) h kept is fit = absurd fit.1
header_first (refused log why) h kept is fit = absurd is

pub opens : (h : Header) (kept now : FilledLog) (begun : Begun) → Keeps kept waiting → IsBegunBy h begun → now.begun ≡ Some begun → now.since ≡ kept.since → now.ended ≡ kept.ended
    → Keeps now (opened without_formula h)
opens h kept now begun is begins some since ended = (
  record { begun = begun; is = some; has = begins },
  record { since_is = since ∙ is.since; open_ = ended ∙ is.open_; each = tt; few = omega arith },
)

-- ---- an event

pub adds : (j : Judgement) (e : Event) (kept : FilledLog) (es : List Event) → Keeps kept j → MayFollow j (item.Event e ∷ []) → es ≡ kept.since ++ e ∷ []
    → Keeps (record kept { since = es }) (judge without_formula j (item.Event e))
adds waiting e kept es is fit pushed = absurd fit
adds (growing log since) e kept es is fit pushed = (
  record { begun = is.0.begun; is = is.0.is; has = is.0.has },
  record {
    since_is = pushed ∙ ap (λ (xs : List Event). xs ++ e ∷ []) is.1.since_is;
    open_ = is.1.open_;
    each = all_push (EventFits log.header) since e is.1.each fit.0;
    few = omega (arith, fit.1, length_push since e);
  },
)
adds (finished log last) e kept es is fit pushed = (
  record { begun = is.0.begun; is = is.0.is; has = is.0.has },
  is.1,
)
adds (refused log why) e kept es is fit pushed = absurd is

-- ---- a batch is closed

-- the batch that the log has to take
record Closing (j : Judgement) (begun : Begun) (batch : List Event) : Type 0 where
  log : Prefix
  is : j ≡ growing log batch
  has : HasLog begun log
  may : MayComeBehind log batch

closing_of : (j : Judgement) (last : Bool) (kept : FilledLog) (begun : Begun) (batch : List Event) → Keeps kept j → MayFollow j (end_item last ∷ []) → kept.ended ≡ false → kept.begun ≡ Some begun → batch ≡ kept.since
    → Closing j begun batch
closing_of waiting false kept begun batch is fit open_ some same = absurd fit
closing_of waiting true kept begun batch is fit open_ some same = absurd fit
closing_of (growing log since) last kept begun batch is fit open_ some same =
    let one : is.0.begun ≡ begun = same_Some is.0.begun begun (sym is.0.is ∙ some) in
    let came : since ≡ batch = sym is.1.since_is ∙ sym same in
    record {
      log = log;
      is = ap (growing log) came;
      has = subst (λ (b : Begun). HasLog b log) one is.0.has;
      may = subst (MayComeBehind log) came (record { each = is.1.each; few = is.1.few });
    }
closing_of (finished log closed) last kept begun batch is fit open_ some same = absurd (false≢true (sym open_ ∙ is.1))
closing_of (refused log why) last kept begun batch is fit open_ some same = absurd is

module _ (j : Judgement) (last : Bool) (kept : FilledLog) (begun : Begun) (batch : List Event) (is : Keeps kept j) (fit : MayFollow j (end_item last ∷ []))
    (open_ : kept.ended ≡ false) (some : kept.begun ≡ Some begun) (same : batch ≡ kept.since) where
  abbrev k : Closing j begun batch
  k = closing_of j last kept begun batch is fit open_ some same

  pub may_extend : (log : Prefix) × HasLog begun log × MayComeBehind log batch
  may_extend = (k.log, k.has, k.may)

  pub closes : (now : FilledLog) (next : Begun)
      → ((log : Prefix) → HasLog begun log → MayComeBehind log batch → (clock_fault log (with_clocks log batch) ≡ None) × HasLog next (followed_by log (with_clocks log batch)))
      → now.begun ≡ Some next → now.since ≡ [] → now.ended ≡ last → Keeps now (judge without_formula j (end_item last))
  closes now next extended has since ended =
      subst (λ (x : Judgement). Keeps now (judge without_formula x (end_item last))) (sym k.is) (go last ended)
    where
      full : List Event
      full = with_clocks k.log batch

      next_has : (clock_fault k.log full ≡ None) × HasLog next (followed_by k.log full)
      next_has = extended k.log k.has k.may

      none : without_formula.batch k.log full ≡ None
      none = batch_fault_is k.log full ∙ next_has.0

      kept_log : HasBegun now (followed_by k.log full)
      kept_log = record { begun = next; is = has; has = next_has.1 }

      go : (l : Bool) → now.ended ≡ l → Keeps now (judge without_formula (growing k.log batch) (end_item l))
      go false e = subst (λ (o : Option LogFault). Keeps now (choose o (λ f. refused (Some k.log) (refusal.Log f)) (growing (followed_by k.log full) []))) (sym none)
          (kept_log, record { since_is = since; open_ = e; each = tt; few = let p = event_count-push k.log.batches full in let n = length-fill_from (with_batch (events_of k.log) batch) (events_of k.log) batch in omega (arith, p, n, k.may.few) })
      go true e = subst (λ (o : Option LogFault). Keeps now (choose o (λ f. refused (Some k.log) (refusal.Log f)) (finished k.log full))) (sym none) (kept_log, e)

  pub close_refuses : (f : LogFault) → ((log : Prefix) → HasLog begun log → MayComeBehind log batch → clock_fault log (with_clocks log batch) ≡ Some f) → IsRefused (judge without_formula j (end_item last)) f
  close_refuses f there = subst (λ (x : Judgement). IsRefused (judge without_formula x (end_item last)) f) (sym k.is) (go last)
    where
      full : List Event
      full = with_clocks k.log batch

      some_fault : without_formula.batch k.log full ≡ Some f
      some_fault = batch_fault_is k.log full ∙ there k.log k.has k.may

      go : (l : Bool) → IsRefused (judge without_formula (growing k.log batch) (end_item l)) f
      go false = (Some k.log, ap (λ (o : Option LogFault). choose o (λ g. refused (Some k.log) (refusal.Log g)) (growing (followed_by k.log full) [])) some_fault)
      go true = (Some k.log, ap (λ (o : Option LogFault). choose o (λ g. refused (Some k.log) (refusal.Log g)) (finished k.log full)) some_fault)
