-- What a trace is at each moment, and what a batch adds to it.
use Rattle.std.proofs.Common.{◌≡◌, ℕ, zero, suc, List, [], ◌∷◌, ◌++◌, length, map, refl, sym, ap, ◌∙◌, subst, arith}
use Rattle.std.specs.Prelude.{ℤ, Bool, false, None}
use Rattle.std.specs.List.{AllByRecursion}
use Rattle.std.proofs.lemmas.List.{map-append}
use Rattle.event_log.specs.declared.log.Event.{Event}
use Rattle.event_log.specs.declared.log.Binding.{Binding}
use Rattle.event_log.specs.declared.log.Header.{Header}
use Rattle.event_log.specs.States.{StatesView, IsHeader, with_batch, trace_of, processes_of, opened, event_of}
use Rattle.run_model.specs.Run as run
use Rattle.vector_clock.specs.PassedOn.{HasGrown}
use Rattle.vector_clock.proofs.PassedOn.{grown_none}
use Rattle.vector_clock.specs.declared.clocks.Clocks as code
use Rattle.vector_clock.specs.Events.{Events, EventFits, EventStands, clocks_of, own_events}
use Rattle.vector_clock.specs.Events.{no_events}
use Rattle.vector_clock.specs.Faults.{batch_fault}
use Rattle.vector_clock.specs.Filled.{filled_batch}
use Rattle.vector_clock.specs.Faultless.{AreFaultless, no_batch, one_batch}
use Rattle.vector_clock.specs.Admitted.{HasAdmitted}
use Rattle.vector_clock.proofs.FilledBatches.{filled_fits}
use Rattle.vector_clock.proofs.BatchLaws.{trace_clocks}
use Rattle.vector_clock.proofs.Growth.{length-clocks_of, clocks_more, fits_have_clocks, grown_with, length-with_batch}
use Rattle.vector_clock.proofs.Delivered.{events_grow}
use Rattle.vector_clock.proofs.Receipts.{faultless_count, faultless_run, run_events}
use Rattle.trace_growth.specs.Growing.{TraceView, FitsTrace, IsTrace}
use Rattle.trace_growth.specs.inside.Growing.{HasTaken, KeepsTrace}
use Rattle.trace_growth.specs.Laws.{StatesHaveGrown}

-- ---- each moment

pub is_trace : (states : StatesView) → IsHeader states.header → AreFaultless (length states.header.procs) states.events → IsTrace states
is_trace states header faultless =
    let count : length states.events ≡ length states.header.procs = faultless_count (length states.header.procs) states.events faultless in
    record {
      whole = record { header = header; events = count };
      faultless = faultless;
      run = faultless_run states header.vars faultless;
      clocks = trace_clocks states.header.procs states.header.vars states.events (sym count) (header.vars ∙ sym count);
    }

-- no events
pub taken_none : (states : StatesView) (clocks : code.Clocks) (header : Header) → IsHeader header → states ≡ opened header → HasAdmitted clocks (no_events (length header.procs)) → HasTaken states clocks
taken_none states clocks header fits is has =
    subst (λ (s : StatesView). HasTaken s clocks) (sym is) (record { header = fits; admitted = has; faultless = no_batch })

-- one batch more
pub faultless_more : (states : StatesView) (batch : List Event) → AreFaultless (length states.header.procs) states.events → AllByRecursion (EventFits (length states.events)) batch
    → batch_fault states.events batch ≡ None → AreFaultless (length states.header.procs) (with_batch states.events batch)
faultless_more states batch faultless fits none =
    one_batch batch faultless (subst (λ (n : ℕ). AllByRecursion (EventFits n) batch) (faultless_count (length states.header.procs) states.events faultless) fits) none

pub taken_more : (old new : StatesView) (before after : code.Clocks) (batch : List Event) → HasTaken old before → AllByRecursion (EventFits (length old.events)) batch
    → new ≡ record old { events = with_batch old.events batch } → (batch_fault old.events batch ≡ None) × HasAdmitted after (with_batch old.events batch) → HasTaken new after
taken_more old new before after batch taken fits is admits =
    subst (λ (s : StatesView). HasTaken s after) (sym is) (record {
      header = taken.header;
      admitted = admits.1;
      faultless = faultless_more old batch taken.faultless fits admits.0;
    })

-- ---- what a batch adds

pub clocks_grow : (events : Events) (batch : List Event) → AllByRecursion (EventFits (length events)) batch → HasGrown (clocks_of events) (clocks_of (with_batch events batch))
clocks_grow events batch fits =
    subst (HasGrown (clocks_of events)) (sym (clocks_more events batch))
    (grown_with (clocks_of events) (clocks_of events) batch (grown_none (clocks_of events))
    (fits_have_clocks (length (clocks_of events)) batch (subst (λ (n : ℕ). AllByRecursion (EventFits n) batch) (sym (length-clocks_of events)) fits)))

states_behind : (state : List ℤ) (xs ys : List run.Event) → (more : List (List ℤ)) × (run.states_from state (xs ++ ys) ≡ run.states_from state xs ++ more)
unfolding run.states_from
states_behind state [] [] = ([], refl)
states_behind state [] (y ∷ ys) = (run.states_from (run.assigned state y.assigns) ys, refl)
states_behind state (x ∷ xs) ys =
    let rest = states_behind (run.assigned state x.assigns) xs ys in
    (rest.0, ap (λ (rows : List (List ℤ)). state ∷ rows) rest.1)

-- the opening state of a process doesn't depend on the events
opening_same : (names : List (List ℕ)) (vars : List (List Binding)) (old new : Events) (p : ℕ) → length names ≡ length old → length vars ≡ length old → length new ≡ length old
    → run.opening_state (run.process_at (processes_of names vars new) p) ≡ run.opening_state (run.process_at (processes_of names vars old) p)
opening_same [] vars old new p h k l = refl
opening_same (n ∷ names) [] old new p h k l = absurd (omega arith)
opening_same (n ∷ names) (v ∷ vars) [] new p h k l = absurd (omega arith)
opening_same (n ∷ names) (v ∷ vars) (es ∷ old) [] p h k l = absurd (omega arith)
opening_same (n ∷ names) (v ∷ vars) (es ∷ old) (fs ∷ new) zero h k l = refl
opening_same (n ∷ names) (v ∷ vars) (es ∷ old) (fs ∷ new) (suc p) h k l = opening_same names vars old new p (omega arith) (omega arith) (omega arith)

pub states_grow : (states : StatesView) (batch : List Event) → IsTrace states → AllByRecursion (EventFits (length states.events)) batch
    → StatesHaveGrown (trace_of states) (trace_of (record states { events = with_batch states.events batch }))
states_grow states batch is fits p =
    let new = with_batch states.events batch in
    let names : length states.header.procs ≡ length states.events = sym is.whole.events in
    let vars : length states.header.vars ≡ length states.events = is.whole.header.vars ∙ names in
    let same : length new ≡ length states.events = length-with_batch states.events batch in
    let before = run.process_at (trace_of states) p in
    let after = run.process_at (processes_of states.header.procs states.header.vars new) p in
    let grown = events_grow states.events batch fits p in
    let events : after.events ≡ before.events ++ map event_of grown.0 =
    run_events states.header.procs states.header.vars new p (names ∙ sym same) (vars ∙ sym same) ∙ ap (map event_of) grown.1 ∙ map-append event_of (own_events states.events p) grown.0
    ∙ ap (λ (es : List run.Event). es ++ map event_of grown.0) (sym (run_events states.header.procs states.header.vars states.events p names vars)) in
    let opening : run.opening_state after ≡ run.opening_state before = opening_same states.header.procs states.header.vars states.events new p names vars same in
    let behind = states_behind (run.opening_state before) before.events (map event_of grown.0) in
    (behind.0, ap (λ (state : List ℤ). run.states_from state after.events) opening ∙ ap (run.states_from (run.opening_state before)) events ∙ behind.1)

-- ---- as the code's values say it

pub kept_trace : (states : StatesView) (clocks : code.Clocks) (spent : Bool) (batches : ℕ) (trace : TraceView) → KeepsTrace states clocks spent
    → ◌≡◌ {A = TraceView} (record { states = states; batches = batches; spent = spent }) trace → trace.spent ≡ false → IsTrace trace.states
kept_trace states clocks spent batches trace keeps view live =
    let taken = keeps (ap (λ (t : TraceView). t.spent) view ∙ live) in
    subst IsTrace (ap (λ (t : TraceView). t.states) view) (is_trace states taken.header taken.faultless)

-- with its clocks the batch fits
pub fits_inside : (states : StatesView) (trace : TraceView) (batch filled : List Event) → states ≡ trace.states → FitsTrace trace batch → filled ≡ filled_batch states.events batch
    → AllByRecursion (EventFits (length states.events)) filled
fits_inside states trace batch filled is fits same =
    subst (λ (b : List Event). AllByRecursion (EventFits (length states.events)) b) (sym same)
    (filled_fits states.events batch (subst (λ (s : StatesView). AllByRecursion (EventStands (length s.events)) batch) (sym is) fits.each))
