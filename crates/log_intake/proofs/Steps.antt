-- How a log moves on with an item.
use Rattle.std.proofs.Common.{◌≡◌, ℕ, zero, suc, ◌+◌, ◌<◌, ◌≤◌, Bool, true, false, Option, Some, None, List, [], ◌∷◌, ◌++◌, length, map, sum, get_or, refl, sym, ap, subst, ◌∙◌, arith}
use Rattle.std.specs.Prelude.{min, not}
use Rattle.std.specs.List.{AllByRecursion}
use Rattle.std.proofs.lemmas.Bool.{false≢true}
use Rattle.std.proofs.lemmas.List.{length_push, length-set, length-replicate}
use Rattle.std.proofs.lemmas.Option.{none-some, same_Some}
use Rattle.pota_base.specs.Limits.{most_events}
use Rattle.log_lines.specs.Reading.{choose}
use Rattle.event_log.specs.declared.item.Item.TheVariants as item
use Rattle.event_log.specs.declared.item.LogFault.{LogFault}
use Rattle.event_log.specs.declared.log.Assign.{Assign}
use Rattle.event_log.specs.declared.log.Binding.{Binding}
use Rattle.event_log.specs.declared.log.Event.{Event}
use Rattle.event_log.specs.declared.log.Header.{Header}
use Rattle.event_log.specs.FittingItems.{FitFrom}
use Rattle.event_log.specs.LogText.{EventFits, AssignFits, event_count, event_items}
use Rattle.event_log.specs.Numbers.{variables_at}
use Rattle.event_log.specs.States.{IsKnown, with_event, with_batch, with_batches}
use Rattle.event_log.proofs.Keeping.{sum_batch}
use Rattle.event_log.proofs.Lists.{all_push}
use Rattle.vector_clock.specs.Events.{EventStands, no_events}
use Rattle.vector_clock.proofs.BatchLaws.{events_stand}
use Rattle.vector_clock.proofs.FilledBatches.{length-fill_from}
use Rattle.trace_growth.specs.Growing.{TraceView, FitsTrace, filled_for, trace_fault}
use Rattle.trace_growth.specs.Growing.{with_trace_batch}
use Rattle.counter_preds.specs.Falls.{fall_fault}
use Rattle.rctl_parts.specs.declared.part.Part.{Part}
use Rattle.rctl_parts.specs.Pieces.{disjuncts_of}
use Rattle.observation.specs.PassedOn.{counters_of}
use Rattle.watch.specs.declared.predicate.Handed.{Handed}
use Rattle.watch.specs.Saying.{Says}
use Rattle.fault_kinds.specs.declared.refusal.Refusal.TheVariants as refusal
use Rattle.log_rules.specs.Judgement.{Prefix, followed_by, events_of, with_clocks, fault_behind, Rules, Judgement, waiting, growing, finished, refused, judge}
use Rattle.log_rules.specs.Due.{after_each, closed_of, batches_of}
use Rattle.log_rules.specs.SoFar.{counted}
use Rattle.log_rules.proofs.Items.{after_each-push}
use Rattle.observation.specs.declared.observation.Observation.{Observation}
use Rattle.observation.specs.Growing.{GrowingView, TakesBatch, first_fault}
use Rattle.observation.specs.Fed.{AreFedFrom}
use Rattle.log_intake.specs.declared.intake.LogIntake.{LogIntake}
use Rattle.log_intake.specs.Taking.{Terms, alone, end_item, MayFollow, HasClosed, trace_after, AreJudged, AreHanded, IsObserved, CanOpen, IsWaiting, HasLog, HasSince, Keeps, IsIntakeOf, GoesOn, GrowsFrom, IsRefusedAs}

-- ---- events of a log fit its trace

assigns_within : (vars : List Binding) (xs : List Assign) → AllByRecursion (AssignFits vars) xs → AllByRecursion (λ (a : Assign). a.variable < length vars) xs
assigns_within vars [] all = tt
assigns_within vars (a ∷ rest) all = (all.0.variable, assigns_within vars rest all.1)

events_known : (h : Header) (es : List Event) → AllByRecursion (EventFits h) es → AllByRecursion (IsKnown h) es
events_known h [] all = tt
events_known h (e ∷ es) all = (record { process = all.0.process; assigns = assigns_within (variables_at h.vars e.process) e.assigns all.0.assigns }, events_known h es all.1)

no_sum : (n : ℕ) → sum (map (length {A = Event}) (no_events n)) ≡ 0
no_sum zero = refl
no_sum (suc n) = no_sum n

batches_sum : (ess : List (List Event)) (bs : List (List Event)) → sum (map length (with_batches ess bs)) ≤ sum (map length ess) + event_count bs
batches_sum ess [] = omega arith
batches_sum ess (b ∷ bs) = omega (arith, batches_sum (with_batch ess b) bs, sum_batch ess b)

length-with_batch : (ess : List (List Event)) (es : List Event) → length (with_batch ess es) ≡ length ess
unfolding with_batch
length-with_batch ess [] = refl
length-with_batch ess (e ∷ es) = length-with_batch (with_event ess e) es ∙ length-set ess e.process (get_or ess e.process [] ++ e ∷ [])

length-with_batches : (ess bs : List (List Event)) → length (with_batches ess bs) ≡ length ess
length-with_batches ess [] = refl
length-with_batches ess (b ∷ bs) = length-with_batches (with_batch ess b) bs ∙ length-with_batch ess b

fits_after : (log : Prefix) (since : List Event) → AllByRecursion (EventFits log.header) since → event_count log.batches + length since ≤ most_events → FitsTrace (trace_after log) since
fits_after log since each few =
    let procs : length (with_batches (no_events (length log.header.procs)) log.batches) ≡ length log.header.procs =
    length-with_batches (no_events (length log.header.procs)) log.batches ∙ length-replicate (length log.header.procs) [] in
    record {
      follows = record {
        known = events_known log.header since each;
        few = omega (arith, few, batches_sum (no_events (length log.header.procs)) log.batches, no_sum (length log.header.procs));
      };
      each = subst (λ (n : ℕ). AllByRecursion (EventStands n) since) (sym procs) (events_stand log.header since each);
    }

-- ---- a batch more

event_count-push : (bs : List (List Event)) (b : List Event) → event_count (bs ++ b ∷ []) ≡ event_count bs + length b
event_count-push [] b = omega arith
event_count-push (x ∷ bs) b = omega (arith, event_count-push bs b)

with_batches-push : (ess bs : List (List Event)) (b : List Event) → with_batches ess (bs ++ b ∷ []) ≡ with_batch (with_batches ess bs) b
with_batches-push ess [] b = refl
with_batches-push ess (x ∷ bs) b = with_batches-push (with_batch ess x) bs b

counted-push : (bs : List (List Event)) (b : List Event) → min (counted bs + 1) 4294967295 ≡ counted (bs ++ b ∷ [])
counted-push bs b = let e = length_push bs b in omega (arith, e)

trace-followed : (log : Prefix) (since : List Event) → with_trace_batch (trace_after log) since ≡ trace_after (followed_by log (with_clocks log since))
trace-followed log since =
    let made : List (List Event) → ℕ → TraceView = λ ess n. record { states = record { header = log.header; events = ess }; batches = n; spent = false } in
    ap (λ (ess : List (List Event)). made ess (min (counted log.batches + 1) 4294967295)) (sym (with_batches-push (no_events (length log.header.procs)) log.batches (with_clocks log since)))
    ∙ ap (made (with_batches (no_events (length log.header.procs)) (log.batches ++ with_clocks log since ∷ []))) (counted-push log.batches (with_clocks log since))

-- the fault that is observed is that of the judgement
same_fault : (rules : Rules) (g : GrowingView) (log : Prefix) (batch : List Event) → AreJudged rules log.header g.disjuncts → g.seen.trace ≡ trace_after log → first_fault g batch ≡ rules.batch log (with_clocks log batch)
same_fault rules g log batch judged is =
    let counters = counters_of (disjuncts_of g.disjuncts) in
    let fault : TraceView → Option LogFault = λ t. choose (fall_fault t.states counters (filled_for t batch)) (λ f. Some f) (trace_fault t batch) in
    ap fault is ∙ sym (judged.batch log refl (with_clocks log batch))

-- events that may come fit, and stay within what a log may have
record AllFit (h : Header) (n : ℕ) (batch : List Event) : Type 0 where
  each : AllByRecursion (EventFits h) batch
  few : n ≤ most_events → n + length batch ≤ most_events

all_fit : (h : Header) (n : ℕ) (batch : List Event) → FitFrom h n (event_items batch) → AllFit h n batch
all_fit h n [] fit = record { each = tt; few = λ k. omega (arith, k) }
all_fit h n (e ∷ es) fit =
    let rest = all_fit h (n + 1) es fit.2 in
    record { each = (fit.0, rest.each); few = λ k. let m = rest.few (omega (arith, fit.1)) in omega (arith, m) }

module _ {X : Type 0} {P : X → Type 0} (says : Says X P) (terms : Terms) where
  -- ---- the header

  pub opens : (o : Observation X P) (header : Header) (kept : LogIntake X P) → IsIntakeOf says terms kept waiting → CanOpen says terms o header
      → IsIntakeOf says terms (record kept { observation = Some o }) (growing (alone header) [])
  opens o header kept is can = record {
    batches = is.batches;
    keeps = (
      record { observation = o; some = refl; is = record { fits = can.fits; unspent = can.unspent; trace = can.trace; judged = can.judged; watches = can.watches } },
      record { since_is = is.keeps.since; open_ = is.keeps.open_; each = tt; few = omega arith },
    );
  }

  -- ---- an event

  pub adds : (j : Judgement) (e : Event) (kept : LogIntake X P) (es : List Event) → IsIntakeOf says terms kept j → MayFollow j (item.Event e ∷ []) → es ≡ kept.since ++ e ∷ []
      → IsIntakeOf says terms (record kept { since = es }) (judge terms.rules j (item.Event e))
  adds waiting e kept es is fit pushed = absurd fit
  adds (growing log since) e kept es is fit pushed = record {
    batches = is.batches;
    keeps = (
      record { observation = is.keeps.0.observation; some = is.keeps.0.some; is = is.keeps.0.is },
      record {
        since_is = pushed ∙ ap (λ (xs : List Event). xs ++ e ∷ []) is.keeps.1.since_is;
        open_ = is.keeps.1.open_;
        each = all_push (EventFits log.header) since e is.keeps.1.each fit.0;
        few = omega (arith, fit.1, length_push since e);
      },
    );
  }
  adds (finished log last) e kept es is fit pushed = record {
    batches = is.batches;
    keeps = (record { observation = is.keeps.0.observation; some = is.keeps.0.some; is = is.keeps.0.is }, is.keeps.1);
  }
  adds (refused log why) e kept es is fit pushed = absurd is.keeps

  -- ---- the events of a batch at once

  pub adds_all : (log : Prefix) (kept : LogIntake X P) (batch : List Event) → IsIntakeOf says terms kept (growing log []) → MayFollow (growing log []) (event_items batch)
      → IsIntakeOf says terms (record kept { since = batch }) (growing log batch)
  adds_all log kept batch is fit =
      let fits = all_fit log.header (event_count log.batches + 0) batch fit in
      let few = fits.few is.keeps.1.few in
      record {
        batches = is.batches;
        keeps = (
          record { observation = is.keeps.0.observation; some = is.keeps.0.some; is = is.keeps.0.is },
          record { since_is = refl; open_ = is.keeps.1.open_; each = fits.each; few = omega (arith, few) },
        );
      }

  -- ---- a batch is closed

  -- behind the end nothing changes
  pub stays : (j : Judgement) (last : Bool) (kept : LogIntake X P) → IsIntakeOf says terms kept j → MayFollow j (end_item last ∷ []) → kept.ended ≡ true → GoesOn says terms kept j (judge terms.rules j (end_item last)) false
  stays waiting false kept is fit ended = absurd fit
  stays waiting true kept is fit ended = absurd fit
  stays (growing log since) last kept is fit ended = absurd (false≢true (sym is.keeps.1.open_ ∙ ended))
  stays (finished log closed) false kept is fit ended = record { is = is; closes = refl }
  stays (finished log closed) true kept is fit ended = record { is = is; closes = refl }
  stays (refused log why) last kept is fit ended = absurd is.keeps

  -- the header came before
  pub not_before : (j : Judgement) (last : Bool) (kept : LogIntake X P) → IsIntakeOf says terms kept j → MayFollow j (end_item last ∷ []) → kept.observation ≡ None → ⊥
  not_before waiting false kept is fit none = fit
  not_before waiting true kept is fit none = fit
  not_before (growing log since) last kept is fit none = none-some is.keeps.0.observation (sym none ∙ is.keeps.0.some)
  not_before (finished log closed) last kept is fit none = none-some is.keeps.0.observation (sym none ∙ is.keeps.0.some)
  not_before (refused log why) last kept is fit none = is.keeps

  -- the batch that is to be taken
  pub record Closing (j : Judgement) (kept : LogIntake X P) (o : Observation X P) (batch : List Event) : Type 0 where
    pub log : Prefix
    pub is : j ≡ growing log batch
    pub observed : IsObserved says terms log o
    pub each : AllByRecursion (EventFits log.header) batch
    pub few : event_count log.batches + length batch ≤ most_events

  closing_of : (j : Judgement) (last : Bool) (kept : LogIntake X P) (o : Observation X P) (batch : List Event) → IsIntakeOf says terms kept j → MayFollow j (end_item last ∷ []) → kept.ended ≡ false → kept.observation ≡ Some o → batch ≡ kept.since
      → Closing j kept o batch
  closing_of waiting false kept o batch is fit open_ some same = absurd fit
  closing_of waiting true kept o batch is fit open_ some same = absurd fit
  closing_of (growing log since) last kept o batch is fit open_ some same =
      let one : is.keeps.0.observation ≡ o = same_Some is.keeps.0.observation o (sym is.keeps.0.some ∙ some) in
      let came : since ≡ batch = sym is.keeps.1.since_is ∙ sym same in
      record {
        log = log;
        is = ap (growing log) came;
        observed = subst (λ (x : Observation X P). IsObserved says terms log x) one is.keeps.0.is;
        each = subst (λ (es : List Event). AllByRecursion (EventFits log.header) es) came is.keeps.1.each;
        few = subst (λ (es : List Event). event_count log.batches + length es ≤ most_events) came is.keeps.1.few;
      }
  closing_of (finished log closed) last kept o batch is fit open_ some same = absurd (false≢true (sym open_ ∙ is.keeps.1))
  closing_of (refused log why) last kept o batch is fit open_ some same = absurd is.keeps

  module _ (j : Judgement) (last : Bool) (kept : LogIntake X P) (o : Observation X P) (batch : List Event) (is : IsIntakeOf says terms kept j) (fit : MayFollow j (end_item last ∷ []))
      (open_ : kept.ended ≡ false) (some : kept.observation ≡ Some o) (same : batch ≡ kept.since) where
    abbrev k : Closing j kept o batch
    k = closing_of j last kept o batch is fit open_ some same

    abbrev full : List Event
    full = with_clocks k.log batch

    abbrev after : Prefix
    after = followed_by k.log full

    pub batch_fits : FitsTrace o.growing.seen.trace batch
    batch_fits = subst (λ (t : TraceView). FitsTrace t batch) (sym k.observed.trace) (fits_after k.log batch k.each k.few)

    number_is : kept.batches ≡ counted k.log.batches
    number_is = is.batches ∙ ap batches_of k.is

    fault_is : first_fault o.growing batch ≡ terms.rules.batch k.log full
    fault_is = same_fault terms.rules o.growing k.log batch k.observed.judged k.observed.trace

    pub close_refuses : (f : LogFault) → first_fault o.growing batch ≡ Some f → IsRefusedAs j (judge terms.rules j (end_item last)) kept.batches f
    close_refuses f found =
        let e = refused_now last in
        record { log = Some k.log; is = e; none = ap closed_of e ∙ ap closed_of (sym k.is); number = number_is ∙ ap batches_of (sym e) }
      where
        refused_so : (l : Bool) → judge terms.rules (growing k.log batch) (end_item l) ≡ refused (Some k.log) (refusal.Log f)
        refused_so false = rw (sym fault_is ∙ found) refl
        refused_so true = rw (sym fault_is ∙ found) refl

        refused_now : (l : Bool) → judge terms.rules j (end_item l) ≡ refused (Some k.log) (refusal.Log f)
        refused_now l = ap (λ (x : Judgement). judge terms.rules x (end_item l)) k.is ∙ refused_so l

    module _ (next : Observation X P) (free : first_fault o.growing batch ≡ None) (takes : TakesBatch o.growing next.growing batch) (unspent : next.growing.spent ≡ false)
        (fed : (handed : List (Handed X P)) → AreFedFrom says handed o.watches.items o.growing.seen → AreFedFrom says handed next.watches.items next.growing.seen)
        (count : ℕ) (counts : count ≡ min (kept.batches + 1) 4294967295) (es : List Event) (none : es ≡ []) where
      observed_now : IsObserved says terms after next
      observed_now = record {
        fits = k.observed.fits;
        unspent = unspent;
        trace = takes.trace ∙ ap (λ (t : TraceView). with_trace_batch t batch) k.observed.trace ∙ trace-followed k.log batch;
        judged = record { batch = λ log same_header b. k.observed.judged.batch log same_header b ∙ ap (λ (ds : List (List Part)). fault_behind (counters_of (disjuncts_of ds)) log b) (sym takes.disjuncts) };
        watches = record { handed = k.observed.watches.handed; answers = k.observed.watches.answers; fed = fed k.observed.watches.handed k.observed.watches.fed };
      }

      counted_now : count ≡ counted after.batches
      counted_now = counts ∙ ap (λ (n : ℕ). min (n + 1) 4294967295) number_is ∙ counted-push k.log.batches full

      few_now : event_count after.batches + 0 ≤ most_events
      few_now = omega (arith, k.few, event_count-push k.log.batches full, length-fill_from (with_batch (events_of k.log) batch) (events_of k.log) batch)

      abbrev now : LogIntake X P
      now = record kept { observation = Some next; since = es; batches = count; ended = last }

      growing_now : last ≡ false → IsIntakeOf says terms now (growing after [])
      growing_now more = record {
        batches = counted_now;
        keeps = (record { observation = next; some = refl; is = observed_now }, record { since_is = none; open_ = more; each = tt; few = few_now });
      }

      finished_now : last ≡ true → IsIntakeOf says terms now (finished k.log full)
      finished_now over = record { batches = counted_now; keeps = (record { observation = next; some = refl; is = observed_now }, over) }

      goes_so : (l : Bool) → last ≡ l → GoesOn says terms now (growing k.log batch) (judge terms.rules (growing k.log batch) (end_item l)) (not l)
      goes_so false more =
          let e : judge terms.rules (growing k.log batch) (end_item false) ≡ growing after [] = rw (sym fault_is ∙ free) refl in
          subst (λ (x : Judgement). GoesOn says terms now (growing k.log batch) x true) (sym e) (record {
            is = growing_now more;
            closes = (after, (refl, omega (arith, length_push k.log.batches full)), after_each-push k.log.header [] k.log.batches full);
          })
      goes_so true over =
          let e : judge terms.rules (growing k.log batch) (end_item true) ≡ finished k.log full = rw (sym fault_is ∙ free) refl in
          subst (λ (x : Judgement). GoesOn says terms now (growing k.log batch) x false) (sym e) (record { is = finished_now over; closes = refl })

      pub closes_now : GoesOn says terms now j (judge terms.rules j (end_item last)) (not last)
      closes_now = subst (λ (x : Judgement). GoesOn says terms now x (judge terms.rules x (end_item last)) (not last)) (sym k.is) (goes_so last refl)

  -- ---- what was observed

  pub has_log : (j : Judgement) (log : Prefix) (kept : LogIntake X P) → IsIntakeOf says terms kept j → HasClosed j log → HasLog says terms kept log
  has_log waiting log kept is closed = absurd closed
  has_log (growing so_far since) log kept is closed = subst (HasLog says terms kept) (sym closed.0) is.keeps.0
  has_log (finished so_far last) log kept is closed = subst (HasLog says terms kept) (sym closed) is.keeps.0
  has_log (refused so_far why) log kept is closed = absurd closed

  pub log_there : (j : Judgement) (log : Prefix) (kept : LogIntake X P) → IsIntakeOf says terms kept j → HasClosed j log → kept.observation ≡ None → ⊥
  log_there j log kept is closed none = let h = has_log j log kept is closed in none-some h.observation (sym none ∙ h.some)

  pub log_is : (j : Judgement) (log : Prefix) (kept : LogIntake X P) (o : Observation X P) → IsIntakeOf says terms kept j → HasClosed j log → kept.observation ≡ Some o → IsObserved says terms log o
  log_is j log kept o is closed some =
      let h = has_log j log kept is closed in
      subst (IsObserved says terms log) (same_Some h.observation o (sym h.some ∙ some)) h.is

pub grows_on : {X : Type 0} {P : X → Type 0} → (before : Option (Observation X P)) (o next : Observation X P) (batch : List Event) → before ≡ Some o → TakesBatch o.growing next.growing batch → GrowsFrom before (Some next)
grows_on before o next batch some takes = subst (λ (b : Option (Observation _ _)). GrowsFrom b (Some next)) (sym some) (takes.disjuncts, takes.later)
