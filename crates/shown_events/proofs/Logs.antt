-- The run of a log without a fault: each event of it was one of a batch.
use Rattle.std.proofs.Common.{◌≡◌, ℕ, ◌-◌, ◌<◌, Option, Some, true, false, List, [], ◌∷◌, ◌++◌, length, map, get_or, zero, suc, refl, sym, ap, subst, ◌∙◌, arith, inl, inr}
use Rattle.std.specs.List.{AllByRecursion}
use Rattle.std.proofs.lemmas.Bool.{cases_eq, cases_order}
use Rattle.std.proofs.lemmas.List.{length-map, get_or-map, get_or_append_left, get_or-set_same, get_or-set_other, get_or_push, length-append, length-set, length-replicate}
use Rattle.pota_base.specs.declared.shape.EventId.{EventId}
use Rattle.pota_base.specs.Shape.{HasEvent}
use Rattle.pota_base.specs.Limits.{longest_log}
use Rattle.event_log.specs.declared.log.Assign.{Assign}
use Rattle.event_log.specs.declared.log.Binding.{Binding}
use Rattle.event_log.specs.declared.log.Event.{Event}
use Rattle.event_log.specs.declared.log.Header.{Header}
use Rattle.event_log.specs.LogText.{AssignFits, EventFits, HeaderFits, KindWithin}
use Rattle.event_log.specs.Numbers.{variables_at}
use Rattle.event_log.specs.States.{StatesView, IsKnown, with_event, with_batch}
use Rattle.vector_clock.specs.Events as clocks
use Rattle.vector_clock.specs.Events.{Events, EventStands, no_events}
use Rattle.vector_clock.proofs.BatchLaws.{events_stand}
use Rattle.vector_clock.proofs.FilledBatches.{filled_fits, known_from}
use Rattle.counter_preds.specs.declared.values.Variable.{Variable}
use Rattle.rctl_grammar.specs.declared.fault.FormulaFault.{FormulaFault}
use Rattle.log_rules.specs.Judgement.{Prefix, events_of, states_of, with_clocks, with_rules}
use Rattle.log_rules.specs.Readings.{log_reading}
use Rattle.log_rules.specs.Due.{due}
use Rattle.log_rules.specs.Reported.{listed}
use Rattle.log_rules.proofs.Items.{prefix_at}
use Rattle.log_rules.proofs.Orders.{IsOrdered, all_ordered, with_batches-push}
use Rattle.log_rules.proofs.Readings.{log_is_read}
use Rattle.log_rules.proofs.Rising.{whole_log}
use Rattle.log_rules.proofs.Sound.{Follows, all_sound}
use Rattle.view_parts.specs.Parts.{event_at, no_event}
use Rattle.shown_events.specs.Laws.{IsOfTheRun, IsOrderedRun}

-- the event is one of the process
record IsOf (header : Header) (p : ℕ) (e : Event) : Type 0 where
  pub process : e.process ≡ p
  pub known : IsKnown header e
  pub peer : KindWithin (length header.procs) e.kind

-- and so is each
abbrev Each : Header → Events → Type 0
Each header events = (p k : ℕ) → k < length (get_or events p []) → IsOf header p (get_or (get_or events p []) k no_event)

none_there : (n p : ℕ) → get_or (no_events n) p [] ≡ []
none_there zero p = refl
none_there (suc n) zero = refl
none_there (suc n) (suc p) = none_there n p

each_none : (header : Header) (n : ℕ) → Each header (no_events n)
each_none header n p k lt = absurd (omega (arith, lt, ap length (none_there n p)))

in_list : (header : Header) (p : ℕ) (own : List Event) (e : Event) → ((k : ℕ) → k < length own → IsOf header p (get_or own k no_event)) → IsOf header p e
    → (k : ℕ) → k < length (own ++ e ∷ []) → IsOf header p (get_or (own ++ e ∷ []) k no_event)
in_list header p own e each is k lt = elim (cases_order k (length own)) [
  | inl last ↦ subst (IsOf header p) (sym (get_or_push own e no_event k (sym last))) is
  | inr (inl old) ↦ subst (IsOf header p) (sym (get_or_append_left own (e ∷ []) no_event k old)) (each k old)
  | inr (inr over) ↦ absurd (omega (arith, lt, over, length-append own (e ∷ [])))
]

each_event : (header : Header) (events : Events) (e : Event) → Each header events → e.process < length events → IsKnown header e → KindWithin (length header.procs) e.kind → Each header (with_event events e)
each_event header events e each there known peer p k lt = elim (cases_eq p e.process) [
  | inl same ↦
      let own = get_or events e.process [] in
      let now : get_or (with_event events e) p [] ≡ own ++ e ∷ [] = ap (λ (q : ℕ). get_or (with_event events e) q []) same ∙ get_or-set_same events e.process (own ++ e ∷ []) [] there in
      let is : IsOf header e.process e = record { process = refl; known = known; peer = peer } in
      subst (λ (q : ℕ). IsOf header q (get_or (get_or (with_event events e) p []) k no_event)) (sym same)
      (subst (λ (xs : List Event). IsOf header e.process (get_or xs k no_event)) (sym now)
      (in_list header e.process own e (each e.process) is k (subst (λ (xs : List Event). k < length xs) now lt)))
  | inr other ↦
      let as_before : get_or (with_event events e) p [] ≡ get_or events p [] = get_or-set_other events e.process p (get_or events e.process [] ++ e ∷ []) [] other in
      subst (λ (xs : List Event). IsOf header p (get_or xs k no_event)) (sym as_before) (each p k (subst (λ (xs : List Event). k < length xs) as_before lt))
]

-- so many processes, each of whose events is one of it
record Are (header : Header) (events : Events) : Type 0 where
  pub each : Each header events
  pub processes : length events ≡ length header.procs

one_more : (header : Header) (events : Events) (e : Event) → Are header events → IsKnown header e → KindWithin (length header.procs) e.kind → Are header (with_event events e)
one_more header events e are known peer = record {
  each = each_event header events e are.each (omega (arith, known.process, are.processes)) known peer;
  processes = length-set events e.process (get_or events e.process [] ++ e ∷ []) ∙ are.processes;
}

batch_more : (header : Header) (events : Events) (batch : List Event) → Are header events → AllByRecursion (IsKnown header) batch → AllByRecursion (clocks.EventFits (length header.procs)) batch → Are header (with_batch events batch)
unfolding with_batch
batch_more header events [] are known fit = are
batch_more header events (e ∷ rest) are known fit = batch_more header (with_event events e) rest (one_more header events e are known.0 fit.0.peer) known.1 fit.1

event_is : (s : StatesView) (e : EventId) → Are s.header s.events → HasEvent (map length s.events) e → IsOfTheRun s e
event_is s e are there =
    let lane : e.process < length s.events = omega (arith, there.process, length-map s.events (λ (l : List Event). length l)) in
    let long = get_or-map (λ (l : List Event). length l) s.events e.process [] 0 lane in
    let is = are.each e.process (e.position - 1) (omega (arith, there.first, there.last, long)) in
    record {
      there = there;
      assigns = subst (λ (p : ℕ). AllByRecursion (λ a. a.variable < length (get_or s.header.vars p [])) (event_at s e).assigns) is.process is.known.assigns;
      peer = is.peer;
    }

-- ---- logs as they are read

events_known : (h : Header) (es : List Event) → AllByRecursion (EventFits h) es → AllByRecursion (IsKnown h) es
events_known h [] fits = tt
events_known h (e ∷ es) fits = (record { process = fits.0.process; assigns = assigned (variables_at h.vars e.process) e.assigns fits.0.assigns }, events_known h es fits.1)
  where
    assigned : (bindings : List Binding) (assigns : List Assign) → AllByRecursion (AssignFits bindings) assigns → AllByRecursion (λ (a : Assign). a.variable < length bindings) assigns
    assigned bindings [] each = tt
    assigned bindings (a ∷ as_) each = (each.0.variable, assigned bindings as_ each.1)

-- the log so far
record IsSoFar (log : Prefix) : Type 0 where
  fits : HeaderFits log.header
  are : Are log.header (events_of log)

so_far_first : (h : Header) → HeaderFits h → IsSoFar (prefix_at h [])
so_far_first h fits = record { fits = fits; are = record { each = each_none h (length h.procs); processes = length-replicate (length h.procs) [] } }

so_far_next : (names : Header → Option FormulaFault) (counters : Header → List Variable) → Follows (with_rules names counters) IsSoFar
so_far_next names counters log since is fits none =
    let events = events_of log in
    let full = with_clocks log since in
    let stand = subst (λ (n : ℕ). AllByRecursion (EventStands n) since) (sym is.are.processes) (events_stand log.header since fits) in
    let known = known_from log.header (with_batch events since) events since (events_known log.header since fits) in
    let filled = subst (λ (n : ℕ). AllByRecursion (clocks.EventFits n) full) is.are.processes (filled_fits events since stand) in
    let more = batch_more log.header events full is.are known filled in
    record {
      fits = is.fits;
      are = subst (Are log.header) (sym (with_batches-push (no_events (length log.header.procs)) log.batches full)) more;
    }

pub logs_are_ordered : (names : Header → Option FormulaFault) (counters : Header → List Variable) (bytes : List ℕ) (log : Prefix)
    → (due log_reading (with_rules names counters) true bytes).whole ≡ Some log → IsOrderedRun (states_of log)
logs_are_ordered names counters bytes log whole =
    let rules = with_rules names counters in
    let all = all_sound rules IsSoFar so_far_first (so_far_next names counters) longest_log log_reading log_is_read true bytes false in
    let so_far : IsSoFar log = (subst (λ (o : Option Prefix). AllByRecursion IsSoFar (listed o)) whole all).0 in
    let order : IsOrdered log = (subst (λ (o : Option Prefix). AllByRecursion IsOrdered (listed o)) whole (all_ordered names counters longest_log log_reading log_is_read false true bytes)).0 in
    record {
      whole = whole_log log so_far.fits;
      events = λ e there. event_is (states_of log) e so_far.are there;
      order = order;
    }
