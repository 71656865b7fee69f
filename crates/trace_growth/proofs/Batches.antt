-- One batch more of a trace.
use Rattle.std.proofs.Common.{◌≡◌, ℕ, List, [], ◌∷◌, ◌++◌, length, map, sum, sym, ap, ◌∙◌, subst, arith}
use Rattle.std.specs.Prelude.{false, None}
use Rattle.std.specs.List.{AllByRecursion}
use Rattle.event_log.specs.declared.log.Event.{Event}
use Rattle.event_log.specs.declared.log.Header.{Header}
use Rattle.event_log.specs.States.{StatesView, IsKnown, MayFollow, with_batch}
use Rattle.run_model.specs.Cut.{Clocks, lengths}
use Rattle.vector_clock.specs.declared.clocks.Clocks as code
use Rattle.vector_clock.specs.Events.{Events, EventStands, BatchStands}
use Rattle.vector_clock.specs.Faults.{fault_from}
use Rattle.vector_clock.specs.Filled.{filled_batch, fill_from}
use Rattle.vector_clock.specs.Admitted.{HasAdmitted}
use Rattle.vector_clock.proofs.Growth.{length-clocks_of, lengths_of}
use Rattle.vector_clock.proofs.FilledBatches.{known_from, length-fill_from}
use Rattle.trace_growth.specs.Growing.{TraceView, FitsTrace, trace_fault, with_trace_batch}
use Rattle.trace_growth.specs.Growing.{one_more}

pub may_be_filled : (states : StatesView) (clocks : code.Clocks) (trace : TraceView) (batch : List Event) → HasAdmitted clocks states.events → states ≡ trace.states → FitsTrace trace batch
    → BatchStands (length clocks.order) (sum (lengths clocks.order)) batch
may_be_filled states clocks trace batch has is fits =
    let events : states.events ≡ trace.states.events = ap (λ (s : StatesView). s.events) is in
    let procs : length clocks.order ≡ length trace.states.events = ap length has.order ∙ length-clocks_of states.events ∙ ap length events in
    let total : sum (lengths clocks.order) ≡ sum (map length trace.states.events) =
    ap (λ (o : Clocks). sum (lengths o)) has.order ∙ ap sum (lengths_of states.events) ∙ ap (λ (e : Events). sum (map length e)) events in
    record {
      each = subst (λ (n : ℕ). AllByRecursion (EventStands n) batch) (sym procs) fits.each;
      few = omega (arith, total, fits.follows.few);
    }

-- with its clocks the batch may follow too
pub may_follow : (states : StatesView) (trace : TraceView) (batch filled : List Event) → states ≡ trace.states → FitsTrace trace batch → filled ≡ filled_batch states.events batch
    → MayFollow states.header states.events filled
may_follow states trace batch filled is fits same =
    let all = with_batch states.events batch in
    let follows : MayFollow states.header states.events batch = subst (λ (s : StatesView). MayFollow s.header s.events batch) (sym is) fits.follows in
    subst (MayFollow states.header states.events) (sym same) (record {
      known = known_from states.header all states.events batch follows.known;
      few = omega (arith, length-fill_from all states.events batch, follows.few);
    })

-- an empty batch has no fault, and adds nothing but its number
pub with_nothing : (trace after : TraceView) (batch : List Event) → trace.spent ≡ false → batch ≡ [] → after ≡ record trace { batches = one_more trace.batches }
    → (trace.spent ≡ false) × (trace_fault trace batch ≡ None) × (after ≡ with_trace_batch trace batch)
unfolding with_batch fault_from fill_from
with_nothing trace after batch live none is = (live, ap (trace_fault trace) none, is ∙ ap (with_trace_batch trace) (sym none))

-- ---- events one by one

pub known_more : (h : Header) (batch : List Event) (e : Event) → AllByRecursion (IsKnown h) batch → IsKnown h e → AllByRecursion (IsKnown h) (batch ++ e ∷ [])
known_more h [] e known one = (one, tt)
known_more h (x ∷ batch) e known one = (known.0, known_more h batch e known.1 one)
