-- How the trace of a log moves on with an item.
use Rattle.std.proofs.Common.{◌≡◌, ℕ, zero, suc, ◌+◌, ◌<◌, ◌≤◌, Bool, true, false, Option, Some, None, List, [], ◌∷◌, ◌++◌, length, map, sum, refl, sym, ap, subst, ◌∙◌, arith}
use Rattle.std.specs.List.{AllByRecursion}
use Rattle.std.proofs.lemmas.Bool.{false≢true}
use Rattle.std.proofs.lemmas.List.{length_push}
use Rattle.std.proofs.lemmas.Option.{same_Some}
use Rattle.pota_base.specs.Limits.{most_events}
use Rattle.log_lines.specs.Reading.{choose}
use Rattle.event_log.specs.declared.item.Item.TheVariants as item
use Rattle.event_log.specs.declared.item.LogFault.{LogFault}
use Rattle.event_log.specs.declared.log.Assign.{Assign}
use Rattle.event_log.specs.declared.log.Binding.{Binding}
use Rattle.event_log.specs.declared.log.Event.{Event}
use Rattle.event_log.specs.declared.log.Header.{Header}
use Rattle.event_log.specs.LogText.{HeaderFits, EventFits, AssignFits, event_count}
use Rattle.event_log.specs.Numbers.{variables_at}
use Rattle.event_log.specs.States.{IsKnown, StatesView, with_batch, with_batches}
use Rattle.event_log.proofs.Keeping.{sum_batch}
use Rattle.event_log.proofs.Lists.{all_push}
use Rattle.vector_clock.specs.Events.{EventStands, no_events}
use Rattle.vector_clock.proofs.BatchLaws.{events_stand}
use Rattle.vector_clock.proofs.FilledBatches.{length-fill_from}
use Rattle.trace_growth.specs.Growing.{TraceView, FitsTrace, opened_trace, trace_fault}
use Rattle.trace_growth.specs.Growing.{with_trace_batch}
use Rattle.counter_preds.proofs.Staying.{none_without}
use Rattle.fault_kinds.specs.declared.refusal.Refusal.TheVariants as refusal
use Rattle.log_rules.specs.Judgement.{Prefix, followed_by, events_of, states_of, with_clocks, clock_fault, Judgement, waiting, growing, finished, refused, opened, judge}
use Rattle.log_rules.proofs.Orders.{with_batches-push, event_count_is}
use Rattle.log_trace.specs.declared.trace.LogTrace.{LogTrace}
use Rattle.log_trace.specs.Judging.{without_formula, IsRefused, HasTrace, Keeps, MayFollow}
use Rattle.log_trace.specs.inside.Judging.{end_item}
use Rattle.log_trace.proofs.Following.{event_count-push}

-- ---- events of a log fit its trace

assigns_within : (vars : List Binding) (xs : List Assign) → AllByRecursion (AssignFits vars) xs → AllByRecursion (λ (a : Assign). a.variable < length vars) xs
assigns_within vars [] all = tt
assigns_within vars (a ∷ rest) all = (all.0.variable, assigns_within vars rest all.1)

events_known : (h : Header) (es : List Event) → AllByRecursion (EventFits h) es → AllByRecursion (IsKnown h) es
events_known h [] all = tt
events_known h (e ∷ es) all = (record { process = all.0.process; assigns = assigns_within (variables_at h.vars e.process) e.assigns all.0.assigns }, events_known h es all.1)

no_sum : (n : ℕ) → sum (map (length {A = Event}) (no_events n)) ≡ 0
no_sum zero = refl
no_sum (suc n) = no_sum n

batches_sum : (ess : List (List Event)) (bs : List (List Event)) → sum (map length (with_batches ess bs)) ≤ sum (map length ess) + event_count bs
batches_sum ess [] = omega arith
batches_sum ess (b ∷ bs) = omega (arith, batches_sum (with_batch ess b) bs, sum_batch ess b)

fits_after : (trace : TraceView) (log : Prefix) (since : List Event) → trace.states ≡ states_of log → AllByRecursion (EventFits log.header) since → event_count log.batches + length since ≤ most_events
    → FitsTrace trace since
fits_after trace log since same each few = record {
  follows = record {
    known = subst (λ (s : StatesView). AllByRecursion (IsKnown s.header) since) (sym same) (events_known log.header since each);
    few = omega (arith, few, ap (λ (s : StatesView). sum (map length s.events)) same, batches_sum (no_events (length log.header.procs)) log.batches, no_sum (length log.header.procs));
  };
  each = subst (λ (n : ℕ). AllByRecursion (EventStands n) since) (sym (ap (λ (s : StatesView). length s.events) same ∙ event_count_is log)) (events_stand log.header since each);
}

-- ---- a batch without a formula

-- its fault is that of its clocks and messages
batch_fault_is : (log : Prefix) (batch : List Event) → without_formula.batch log batch ≡ clock_fault log batch
batch_fault_is log batch =
    ap (λ (o : Option LogFault). choose o (λ f. Some f) (clock_fault log batch)) (none_without (states_of log) batch)

-- the fault of the trace is that of the log
same_fault : (trace : TraceView) (log : Prefix) (since : List Event) → trace.states ≡ states_of log → trace_fault trace since ≡ without_formula.batch log (with_clocks log since)
same_fault trace log since same =
    ap (λ (s : StatesView). trace_fault (record trace { states = s }) since) same ∙ sym (batch_fault_is log (with_clocks log since))

states_followed : (trace : TraceView) (log : Prefix) (since : List Event) → trace.states ≡ states_of log → (with_trace_batch trace since).states ≡ states_of (followed_by log (with_clocks log since))
states_followed trace log since same =
    ap (λ (s : StatesView). (with_trace_batch (record trace { states = s }) since).states) same
    ∙ ap (λ (ess : List (List Event)). record { header = log.header; events = ess }) (sym (with_batches-push (no_events (length log.header.procs)) log.batches (with_clocks log since)))

-- ---- the header

pub header_first : (j : Judgement) (h : Header) (kept : LogTrace) → Keeps kept j → MayFollow j (item.Header h ∷ []) → (j ≡ waiting) × HeaderFits h
header_first waiting h kept is fit = (refl, fit.0)
header_first (growing log since) h kept is fit = absurd fit
header_first (finished log last) h kept is fit = absurd fit.1
header_first (refused log why) h kept is fit = absurd is

pub opens : (h : Header) (kept now : LogTrace) (trace : TraceView) → Keeps kept waiting → HeaderFits h → trace ≡ opened_trace h → now.trace ≡ Some trace → now.since ≡ kept.since → now.ended ≡ kept.ended
    → Keeps now (opened without_formula h)
opens h kept now trace is fits opened_ some since ended = (
  record { fits = fits; trace = trace; is = some; states = ap (λ (t : TraceView). t.states) opened_; here = ap (λ (t : TraceView). t.spent) opened_ },
  record { since_is = since ∙ is.since; open_ = ended ∙ is.open_; each = tt; few = omega arith },
)

-- ---- an event

pub adds : (j : Judgement) (e : Event) (kept : LogTrace) (es : List Event) → Keeps kept j → MayFollow j (item.Event e ∷ []) → es ≡ kept.since ++ e ∷ []
    → Keeps (record kept { since = es }) (judge without_formula j (item.Event e))
adds waiting e kept es is fit pushed = absurd fit
adds (growing log since) e kept es is fit pushed = (
  record { fits = is.0.fits; trace = is.0.trace; is = is.0.is; states = is.0.states; here = is.0.here },
  record {
    since_is = pushed ∙ ap (λ (xs : List Event). xs ++ e ∷ []) is.1.since_is;
    open_ = is.1.open_;
    each = all_push (EventFits log.header) since e is.1.each fit.0;
    few = omega (arith, fit.1, length_push since e);
  },
)
adds (finished log last) e kept es is fit pushed = (
  record { fits = is.0.fits; trace = is.0.trace; is = is.0.is; states = is.0.states; here = is.0.here },
  is.1,
)
adds (refused log why) e kept es is fit pushed = absurd is

-- ---- a batch is closed

-- the batch that the trace has to take
record Closing (j : Judgement) (kept : LogTrace) (trace : TraceView) (batch : List Event) : Type 0 where
  log : Prefix
  is : j ≡ growing log batch
  fits : HeaderFits log.header
  states : trace.states ≡ states_of log
  here : trace.spent ≡ false
  each : AllByRecursion (EventFits log.header) batch
  few : event_count log.batches + length batch ≤ most_events

closing_of : (j : Judgement) (last : Bool) (kept : LogTrace) (trace : TraceView) (batch : List Event) → Keeps kept j → MayFollow j (end_item last ∷ []) → kept.ended ≡ false → kept.trace ≡ Some trace → batch ≡ kept.since
    → Closing j kept trace batch
closing_of waiting false kept trace batch is fit open_ some same = absurd fit
closing_of waiting true kept trace batch is fit open_ some same = absurd fit
closing_of (growing log since) last kept trace batch is fit open_ some same =
    let one : is.0.trace ≡ trace = same_Some is.0.trace trace (sym is.0.is ∙ some) in
    let came : since ≡ batch = sym is.1.since_is ∙ sym same in
    record {
      log = log;
      is = ap (growing log) came;
      fits = is.0.fits;
      states = ap (λ (t : TraceView). t.states) (sym one) ∙ is.0.states;
      here = ap (λ (t : TraceView). t.spent) (sym one) ∙ is.0.here;
      each = subst (λ (es : List Event). AllByRecursion (EventFits log.header) es) came is.1.each;
      few = subst (λ (es : List Event). event_count log.batches + length es ≤ most_events) came is.1.few;
    }
closing_of (finished log closed) last kept trace batch is fit open_ some same = absurd (false≢true (sym open_ ∙ is.1))
closing_of (refused log why) last kept trace batch is fit open_ some same = absurd is

module _ (j : Judgement) (last : Bool) (kept : LogTrace) (trace : TraceView) (batch : List Event) (is : Keeps kept j) (fit : MayFollow j (end_item last ∷ []))
    (open_ : kept.ended ≡ false) (some : kept.trace ≡ Some trace) (same : batch ≡ kept.since) where
  abbrev k : Closing j kept trace batch
  k = closing_of j last kept trace batch is fit open_ some same

  pub batch_fits : FitsTrace trace batch
  batch_fits = fits_after trace k.log batch k.states k.each k.few

  pub closes : (now : LogTrace) (next : TraceView) → trace_fault trace batch ≡ None → next ≡ with_trace_batch trace batch → now.trace ≡ Some next → now.since ≡ [] → now.ended ≡ last
      → Keeps now (judge without_formula j (end_item last))
  closes now next free grown has since ended =
      subst (λ (x : Judgement). Keeps now (judge without_formula x (end_item last))) (sym k.is) (go last ended)
    where
      full : List Event
      full = with_clocks k.log batch

      none : without_formula.batch k.log full ≡ None
      none = sym (same_fault trace k.log batch k.states) ∙ free

      kept_trace : HasTrace now (followed_by k.log full)
      kept_trace = record {
        fits = k.fits;
        trace = next;
        is = has;
        states = ap (λ (t : TraceView). t.states) grown ∙ states_followed trace k.log batch k.states;
        here = ap (λ (t : TraceView). t.spent) grown ∙ k.here;
      }

      go : (l : Bool) → now.ended ≡ l → Keeps now (judge without_formula (growing k.log batch) (end_item l))
      go false e = subst (λ (o : Option LogFault). Keeps now (choose o (λ f. refused (Some k.log) (refusal.Log f)) (growing (followed_by k.log full) []))) (sym none)
          (kept_trace, record { since_is = since; open_ = e; each = tt; few = let p = event_count-push k.log.batches full in let n = length-fill_from (with_batch (events_of k.log) batch) (events_of k.log) batch in omega (arith, p, n, k.few) })
      go true e = subst (λ (o : Option LogFault). Keeps now (choose o (λ f. refused (Some k.log) (refusal.Log f)) (finished k.log full))) (sym none) (kept_trace, e)

  pub close_refuses : (f : LogFault) → trace_fault trace batch ≡ Some f → IsRefused (judge without_formula j (end_item last)) f
  close_refuses f there = subst (λ (x : Judgement). IsRefused (judge without_formula x (end_item last)) f) (sym k.is) (go last)
    where
      full : List Event
      full = with_clocks k.log batch

      some_fault : without_formula.batch k.log full ≡ Some f
      some_fault = sym (same_fault trace k.log batch k.states) ∙ there

      go : (l : Bool) → IsRefused (judge without_formula (growing k.log batch) (end_item l)) f
      go false = (Some k.log, ap (λ (o : Option LogFault). choose o (λ g. refused (Some k.log) (refusal.Log g)) (growing (followed_by k.log full) [])) some_fault)
      go true = (Some k.log, ap (λ (o : Option LogFault). choose o (λ g. refused (Some k.log) (refusal.Log g)) (finished k.log full)) some_fault)
