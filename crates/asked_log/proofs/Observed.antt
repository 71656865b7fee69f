-- A whole log that is observed batch by batch.
use Rattle.std.proofs.Common.{◌≡◌, ℕ, zero, suc, ◌+◌, ◌<◌, ◌≤◌, false, Option, Some, None, List, [], ◌∷◌, ◌++◌, length, map, sum, get_or, inl, refl, sym, ap, subst, ◌∙◌, arith, append-nil, append_assoc}
use Rattle.std.specs.Prelude.{min, Err}
use Rattle.std.specs.List.{AllByRecursion}
use Rattle.std.proofs.lemmas.List.{length_push, length-set, length-replicate}
use Rattle.std.proofs.lemmas.Option.{none-some}
use Rattle.log_lines.specs.Reading.{choose}
use Rattle.event_log.specs.declared.item.LogFault.{LogFault}
use Rattle.event_log.specs.declared.log.Assign.{Assign}
use Rattle.event_log.specs.declared.log.Binding.{Binding}
use Rattle.event_log.specs.declared.log.Event.{Event}
use Rattle.event_log.specs.declared.log.Header.{Header}
use Rattle.event_log.specs.LogText.{AssignFits, event_count}
use Rattle.event_log.specs.Numbers.{variables_at}
use Rattle.event_log.specs.States.{StatesView, IsKnown, opened, with_event, with_batch, with_batches}
use Rattle.event_log.proofs.Keeping.{sum_batch}
use Rattle.vector_clock.specs.Events.{Events, EventFits, EventStands, AllFit, no_events}
use Rattle.vector_clock.specs.Faults.{batch_fault, batches_fault}
use Rattle.vector_clock.specs.Filled.{filled_batch}
use Rattle.vector_clock.proofs.FilledBatches.{stays_from}
use Rattle.counter_preds.specs.declared.values.Variable.{Variable}
use Rattle.counter_preds.specs.Falls.{fall_fault, behind_batch}
use Rattle.trace_growth.specs.Growing.{TraceView, FitsTrace, filled_for, trace_fault, with_trace_batch}
use Rattle.rctl_parts.specs.declared.part.Part.{Part}
use Rattle.rctl_parts.specs.Pieces.{disjuncts_of}
use Rattle.part_pulls.specs.Counters.{counters_of}
use Rattle.log_rules.specs.Judgement.{Prefix, states_of}
use Rattle.log_rules.specs.SoFar.{counted}
use Rattle.log_rules.specs.WholeLogs.{first_fall}
use Rattle.log_rules.proofs.Orders.{with_batches-push}
use Rattle.log_writing.specs.Spelling.{CanBeSpelled, BatchesCanBeSpelled}
use Rattle.log_intake.specs.Taking.{trace_after}
use Rattle.watch.specs.declared.predicate.Handed.{Handed}
use Rattle.watch.specs.Saying.{Says}
use Rattle.observation.specs.declared.observation.Observation.{Observation}
use Rattle.observation.specs.Growing.{GrowingView, first_fault}
use Rattle.observation.specs.Fed.{AreFedFrom}
use Rattle.observation.specs.Taken.{TakesWhole, RefusesBatch}
use Rattle.pota_base.specs.declared.fault.Refused.{Refused}
use Rattle.pota_base.specs.declared.fault.Refused.TheVariants as refused
use Rattle.pota_base.specs.Limits.{most_events}
use Rattle.vector_clock.specs.Admitted.{IfFault}
use Rattle.asked_log.specs.inside.Observing.{Refuses, CanTake, IsOpened, IsObservedLog, FallsIn}

-- ---- the next batch

events_known : (h : Header) (es : List Event) → AllByRecursion (CanBeSpelled h) es → AllByRecursion (IsKnown h) es
events_known h [] all = tt
events_known h (e ∷ es) all = (record { process = all.0.process; assigns = within (variables_at h.vars e.process) e.assigns all.0.assigns }, events_known h es all.1)
  where
    within : (vars : List Binding) (xs : List Assign) → AllByRecursion (AssignFits vars) xs → AllByRecursion (λ (a : Assign). a.variable < length vars) xs
    within vars [] each = tt
    within vars (a ∷ rest) each = (each.0.variable, within vars rest each.1)

events_stand : (procs : ℕ) (es : List Event) → AllByRecursion (EventFits procs) es → AllByRecursion (EventStands procs) es
events_stand procs [] all = tt
events_stand procs (e ∷ es) all = (record { process = all.0.clock.process; width = inl all.0.clock.width; peer = all.0.peer }, events_stand procs es all.1)

-- what is so of each batch is so of the next one
next_so : (P : Event → Type 0) (done : List (List Event)) (b : List Event) (rest : List (List Event)) → AllByRecursion (AllByRecursion P) (done ++ b ∷ rest) → AllByRecursion P b
next_so P [] b rest all = all.0
next_so P (x ∷ done) b rest all = next_so P done b rest all.1

next_few : (done : List (List Event)) (b : List Event) (rest : List (List Event)) → event_count done + length b ≤ event_count (done ++ b ∷ rest)
next_few [] b rest = omega arith
next_few (x ∷ done) b rest = omega (arith, next_few done b rest)

next_faultless : (before : Events) (done : List (List Event)) (b : List Event) (rest : List (List Event)) → batches_fault before (done ++ b ∷ rest) ≡ None → batch_fault (with_batches before done) b ≡ None
unfolding batches_fault
next_faultless before [] b rest none = go (batch_fault before b) none
  where
    go : (o : Option LogFault) → choose o (λ f. Some f) (batches_fault (with_batch before b) rest) ≡ None → o ≡ None
    go None is = refl
    go (Some f) is = absurd (none-some f (sym is))
next_faultless before (x ∷ done) b rest none = next_faultless (with_batch before x) done b rest (go (batch_fault before x) none)
  where
    go : (o : Option LogFault) → choose o (λ f. Some f) (batches_fault (with_batch before x) (done ++ b ∷ rest)) ≡ None → batches_fault (with_batch before x) (done ++ b ∷ rest) ≡ None
    go None is = is
    go (Some f) is = absurd (none-some f (sym is))

no_sum : (n : ℕ) → sum (map (length {A = Event}) (no_events n)) ≡ 0
no_sum zero = refl
no_sum (suc n) = no_sum n

batches_sum : (ess bs : List (List Event)) → sum (map length (with_batches ess bs)) ≤ sum (map length ess) + event_count bs
batches_sum ess [] = omega arith
batches_sum ess (b ∷ bs) = omega (arith, batches_sum (with_batch ess b) bs, sum_batch ess b)

length-with_batch : (ess : List (List Event)) (es : List Event) → length (with_batch ess es) ≡ length ess
unfolding with_batch
length-with_batch ess [] = refl
length-with_batch ess (e ∷ es) = length-with_batch (with_event ess e) es ∙ length-set ess e.process (get_or ess e.process [] ++ e ∷ [])

length-with_batches : (ess bs : List (List Event)) → length (with_batches ess bs) ≡ length ess
length-with_batches ess [] = refl
length-with_batches ess (b ∷ bs) = length-with_batches (with_batch ess b) bs ∙ length-with_batch ess b

counted-push : (bs : List (List Event)) (b : List Event) → min (counted bs + 1) 4294967295 ≡ counted (bs ++ b ∷ [])
counted-push bs b = let e = length_push bs b in omega (arith, e)

chosen_none : (o other : Option LogFault) → choose o (λ f. Some f) other ≡ None → o ≡ None
chosen_none None other is = refl
chosen_none (Some f) other is = absurd (none-some f (sym is))

chosen_first : (o other : Option LogFault) (f : LogFault) → choose o (λ f. Some f) other ≡ Some f → other ≡ None → o ≡ Some f
chosen_first None other f is none = absurd (none-some f (sym none ∙ is))
chosen_first (Some g) other f is none = is

-- ---- the counters

first_fall-more : (s : StatesView) (counters : List Variable) (b : List Event) (rest : List (List Event))
    → first_fall s counters (b ∷ rest) ≡ choose (fall_fault s counters b) (λ f. Some f) (first_fall (behind_batch s b) counters rest)
unfolding first_fall
first_fall-more s counters b rest = refl

fall_passed : (s : StatesView) (counters : List Variable) (b : List Event) (rest : List (List Event)) → fall_fault s counters b ≡ None → first_fall s counters (b ∷ rest) ≡ first_fall (behind_batch s b) counters rest
fall_passed s counters b rest none = first_fall-more s counters b rest ∙ ap (λ (o : Option LogFault). choose o (λ f. Some f) (first_fall (behind_batch s b) counters rest)) none

fall_found : (s : StatesView) (counters : List Variable) (b : List Event) (rest : List (List Event)) (f : LogFault) → fall_fault s counters b ≡ Some f → first_fall s counters (b ∷ rest) ≡ Some f
fall_found s counters b rest f some = first_fall-more s counters b rest ∙ ap (λ (o : Option LogFault). choose o (λ f. Some f) (first_fall (behind_batch s b) counters rest)) some

-- ---- the first batches of a log

abbrev log_of : Header → List (List Event) → Prefix
log_of h batches = record { header = h; batches = batches }

module _ (h : Header) (bs : List (List Event)) (can : CanTake h bs) (done : List (List Event)) (b : List Event) (rest : List (List Event)) (split : done ++ b ∷ rest ≡ bs) where
  abbrev before : Events
  before = with_batches (no_events (length h.procs)) done

  there : (P : List (List Event) → Type 0) → P bs → P (done ++ b ∷ rest)
  there P p = subst P (sym split) p

  here_fits : AllByRecursion (EventFits (length h.procs)) b
  here_fits = next_so (EventFits (length h.procs)) done b rest (there (AllFit (length h.procs)) can.log_is.clocks)

  procs : length before ≡ length h.procs
  procs = length-with_batches (no_events (length h.procs)) done ∙ length-replicate (length h.procs) []

  fits_next : FitsTrace (trace_after (log_of h done)) b
  fits_next = record {
    follows = record {
      known = events_known h b (next_so (CanBeSpelled h) done b rest (there (BatchesCanBeSpelled h) can.log_is.text.events));
      few =
          let all : event_count (done ++ b ∷ rest) ≤ most_events = there (λ xs. event_count xs ≤ most_events) can.log_is.events in
          omega (arith, all, next_few done b rest, batches_sum (no_events (length h.procs)) done, no_sum (length h.procs));
    };
    each = subst (λ (n : ℕ). AllByRecursion (EventStands n) b) (sym procs) (events_stand (length h.procs) b here_fits);
  }

  -- its clocks are written
  filled_same : filled_batch before b ≡ b
  filled_same = stays_from (length h.procs) (with_batch before b) before b (omega (arith, can.procs)) here_fits

  followed : with_trace_batch (trace_after (log_of h done)) b ≡ trace_after (log_of h (done ++ b ∷ []))
  followed =
      let made : Events → ℕ → TraceView = λ ess n. record { states = record { header = h; events = ess }; batches = n; spent = false } in
      ap (λ (x : List Event). made (with_batch before x) (min (counted done + 1) 4294967295)) filled_same
      ∙ ap (λ (ess : Events). made ess (min (counted done + 1) 4294967295)) (sym (with_batches-push (no_events (length h.procs)) done b))
      ∙ ap (made (with_batches (no_events (length h.procs)) (done ++ b ∷ []))) (counted-push done b)

  -- its clocks and messages have no fault
  clocks_faultless : trace_fault (trace_after (log_of h done)) b ≡ None
  clocks_faultless = ap (batch_fault before) filled_same ∙ next_faultless (no_events (length h.procs)) done b rest (there (λ xs. batches_fault (no_events (length h.procs)) xs ≡ None) can.log_is.faultless)

  -- what is judged of it is the fall of a counter
  fault_so : (g : GrowingView) → g.seen.trace ≡ trace_after (log_of h done)
      → first_fault g b ≡ choose (fall_fault (states_of (log_of h done)) (counters_of (disjuncts_of g.disjuncts)) b) (λ f. Some f) (trace_fault (trace_after (log_of h done)) b)
  fault_so g is =
      let counters = counters_of (disjuncts_of g.disjuncts) in
      ap (λ (t : TraceView). choose (fall_fault t.states counters (filled_for t b)) (λ f. Some f) (trace_fault t b)) is
      ∙ ap (λ (x : List Event). choose (fall_fault (states_of (log_of h done)) counters x) (λ f. Some f) (trace_fault (trace_after (log_of h done)) b)) filled_same

-- ---- one batch after the other

module _ {X : Type 0} {P : X → Type 0} (says : Says X P) (bs : List (List Event)) (first : Observation X P) where
  abbrev h : Header
  h = first.growing.seen.trace.states.header

  abbrev counters : List Variable
  counters = counters_of (disjuncts_of first.growing.disjuncts)

  -- some batches were observed, and these are left
  pub record Through (o : Observation X P) (rest : List (List Event)) : Type 0 where
    pub done : List (List Event)
    pub split : done ++ rest ≡ bs
    pub unspent : o.growing.spent ≡ false
    pub trace : o.growing.seen.trace ≡ trace_after (log_of h done)
    pub disjuncts : o.growing.disjuncts ≡ first.growing.disjuncts
    pub fed : (handed : List (Handed X P)) → AreFedFrom says handed first.watches.items first.growing.seen → AreFedFrom says handed o.watches.items o.growing.seen
    pub falls : first_fall (opened h) counters bs ≡ first_fall (states_of (log_of h done)) counters rest

  pub begins : IsOpened first.growing → Through first bs
  begins open_ = record {
    done = [];
    split = refl;
    unspent = open_.1;
    trace = open_.0;
    disjuncts = refl;
    fed = λ handed is. is;
    falls = refl;
  }

  pub ends : (o : Observation X P) → Through o [] → IsObservedLog says bs first o
  ends o t = record {
    unspent = t.unspent;
    trace = t.trace ∙ ap (λ (xs : List (List Event)). trace_after (log_of h xs)) (sym (append-nil t.done) ∙ t.split);
    disjuncts = t.disjuncts;
    fed = t.fed;
  }

  module _ (can : CanTake h bs) (o : Observation X P) (b : List Event) (rest : List (List Event)) (t : Through o (b ∷ rest)) where
    pub fits : FitsTrace o.growing.seen.trace b
    fits = subst (λ (x : TraceView). FitsTrace x b) (sym t.trace) (fits_next h bs can t.done b rest t.split)

    abbrev own : List Variable
    own = counters_of (disjuncts_of o.growing.disjuncts)

    same_counters : own ≡ counters
    same_counters = ap (λ (ds : List (List Part)). counters_of (disjuncts_of ds)) t.disjuncts

    judged : choose (fall_fault (states_of (log_of h t.done)) own b) (λ f. Some f) (trace_fault (trace_after (log_of h t.done)) b) ≡ first_fault o.growing b
    judged = sym (fault_so h bs can t.done b rest t.split o.growing t.trace)

    pub goes_on : (next : Observation X P) → TakesWhole says o.growing next.growing o.watches.items next.watches.items b → Through next rest
    goes_on next takes =
        let risen : fall_fault (states_of (log_of h t.done)) own b ≡ None =
        chosen_none (fall_fault (states_of (log_of h t.done)) own b) (trace_fault (trace_after (log_of h t.done)) b) (judged ∙ takes.free) in
        let behind : states_of (log_of h (t.done ++ b ∷ [])) ≡ behind_batch (states_of (log_of h t.done)) b =
        ap (λ (ess : Events). record { header = h; events = ess }) (with_batches-push (no_events (length h.procs)) t.done b) in
        record {
          done = t.done ++ b ∷ [];
          split = append_assoc t.done (b ∷ []) rest ∙ t.split;
          unspent = takes.unspent;
          trace = takes.takes.trace ∙ ap (λ (x : TraceView). with_trace_batch x b) t.trace ∙ followed h bs can t.done b rest t.split;
          disjuncts = takes.takes.disjuncts ∙ t.disjuncts;
          fed = λ handed is. takes.since_start handed (t.fed handed is);
          falls = t.falls
              ∙ fall_passed (states_of (log_of h t.done)) counters b rest (subst (λ (cs : List Variable). fall_fault (states_of (log_of h t.done)) cs b ≡ None) same_counters risen)
              ∙ ap (λ (s : StatesView). first_fall s counters rest) (sym behind);
        }

    pub refuses : (f : LogFault) → first_fault o.growing b ≡ Some f → FallsIn bs first.growing f
    refuses f found =
        let fall : fall_fault (states_of (log_of h t.done)) own b ≡ Some f =
        chosen_first (fall_fault (states_of (log_of h t.done)) own b) (trace_fault (trace_after (log_of h t.done)) b) f (judged ∙ found) (clocks_faultless h bs can t.done b rest t.split) in
        t.falls ∙ fall_found (states_of (log_of h t.done)) counters b rest f (subst (λ (cs : List Variable). fall_fault (states_of (log_of h t.done)) cs b ≡ Some f) same_counters fall)

    pub stops : {V : Type 0} (before after : V) (next : GrowingView) (stop : Refused LogFault) → IfFault {T = Unit {0}} (Err stop) (RefusesBatch o.growing next before after b) → Refuses stop (FallsIn bs first.growing)
    stops before after next (refused.Fault f) is = refuses f is.found
    stops before after next refused.NoMemory is = tt
