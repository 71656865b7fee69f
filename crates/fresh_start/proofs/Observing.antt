-- A fresh observation takes batches as one, and answers the same.
use Rattle.std.proofs.Common.{◌≡◌, ℕ, zero, suc, ℤ, Bool, true, false, List, [], ◌∷◌, ◌++◌, length, replicate, get_or, Option, Some, None, refl, sym, ap, ◌∙◌, subst, arith}
use Rattle.std.specs.Prelude.{if◌then◌else◌}
use Rattle.std.proofs.lemmas.Option.{none-some}
use Rattle.std.proofs.lemmas.List.{length-replicate, map-append}
use Rattle.log_lines.specs.Reading.{choose}
use Rattle.event_log.specs.declared.item.LogFault.{LogFault}
use Rattle.event_log.specs.declared.log.Event.{Event}
use Rattle.event_log.specs.declared.log.Header.{Header}
use Rattle.event_log.specs.States.{StatesView, IsHeader, opened, with_event}
use Rattle.vector_clock.specs.Events.{Events}
use Rattle.vector_clock.specs.Faultless.{no_batch}
use Rattle.vector_clock.specs.Filled.{is_left_out, filled_event, fill_from}
use Rattle.vector_clock.proofs.FilledBatches.{filled_fits}
use Rattle.trace_growth.specs.Growing.{TraceView, FitsTrace, IsTrace, opened_trace, filled_for, trace_fault}
use Rattle.trace_growth.specs.Growing.{with_trace_batch}
use Rattle.trace_growth.proofs.Taken.{is_trace, faultless_more}
use Rattle.counter_preds.specs.declared.values.Variable.{Variable}
use Rattle.counter_preds.specs.Falls.{fall_fault, without_clock, without_clocks}
use Rattle.counter_preds.proofs.Clockless.{same_fall}
use Rattle.counter_preds.proofs.Staying.{none_joined}
use Rattle.rctl_parts.specs.declared.part.Part.{Part}
use Rattle.rctl_parts.specs.Pieces.{Piece, disjuncts_of}
use Rattle.part_pulls.specs.declared.observed.Observed.{Observed}
use Rattle.part_pulls.specs.Observing.{AreFull}
use Rattle.part_pulls.specs.Counters.{counters_of}
use Rattle.conjunctions.specs.declared.answer.Answer.{Answer}
use Rattle.conjunctions.specs.Answering.{IsAnswer}
use Rattle.observation.specs.Growing.{GrowingView, HasTaken, opened_observed, opened_growing, counter_fault, first_fault}
use Rattle.observation.specs.Fed.{AreFedFrom}
use Rattle.observation.proofs.Feeding.{fed_nothing}
use Rattle.answering.specs.OneTrace.{IsOneTrace}
use Rattle.clock_laws.specs.Joined.{as_one}
use Rattle.fresh_start.specs.Taken.{TakesAll, after_all}
use Rattle.fresh_start.specs.Observed.{Takes, ObservesAll}
use Rattle.fresh_start.proofs.Taking.{takes_as_one, same_states}

-- ---- no fault

-- where there is no first fault, there is none of either kind
neither : (fall clock : Option LogFault) → choose fall (λ f. Some f) clock ≡ None → (fall ≡ None) × (clock ≡ None)
neither None clock none = (refl, none)
neither (Some f) clock none = absurd (none-some f (sym none))

no_faults : (v : GrowingView) (batch : List Event) → first_fault v batch ≡ None → (counter_fault v batch ≡ None) × (trace_fault v.seen.trace batch ≡ None)
no_faults v batch none = neither (counter_fault v batch) (trace_fault v.seen.trace batch) none

-- behind a batch without a fault the trace goes on
trace_on : (trace : TraceView) (batch : List Event) → IsTrace trace.states → FitsTrace trace batch → trace_fault trace batch ≡ None → IsTrace (with_trace_batch trace batch).states
trace_on trace batch is fits none = is_trace _ is.whole.header (faultless_more trace.states (filled_for trace batch) is.faultless (filled_fits trace.states.events batch fits.each) none)

-- ---- counters

-- a filled batch is the batch, but for clocks
but_for_clock : (b : Bool) (e : Event) (clock : List ℕ) → without_clock (if b then record e { clock = clock } else e) ≡ without_clock e
but_for_clock true e clock = refl
but_for_clock false e clock = refl

but_for_clocks : (all before : Events) (batch : List Event) → without_clocks (fill_from all before batch) ≡ without_clocks batch
unfolding fill_from
but_for_clocks all before [] = refl
but_for_clocks all before (e ∷ rest) =
    ap (λ (f : Event). f ∷ without_clocks (fill_from all (with_event before (filled_event all before e)) rest)) (but_for_clock (is_left_out e) e _)
    ∙ ap (λ (es : List Event). without_clock e ∷ es) (but_for_clocks all (with_event before (filled_event all before e)) rest)

-- the events of the batches, each filled in behind those before it
abbrev all_filled : TraceView → List (List Event) → List Event
all_filled trace [] = []
all_filled trace (batch ∷ rest) = filled_for trace batch ++ all_filled (with_trace_batch trace batch) rest

-- are those of the batches, but for clocks
filled_as_one : (trace : TraceView) (batches : List (List Event)) → without_clocks (all_filled trace batches) ≡ without_clocks (as_one batches)
filled_as_one trace [] = refl
filled_as_one trace (batch ∷ rest) =
    let next = with_trace_batch trace batch in
    map-append without_clock (filled_for trace batch) (all_filled next rest)
    ∙ ap (λ (es : List Event). es ++ without_clocks (all_filled next rest)) (but_for_clocks _ trace.states.events batch)
    ∙ ap (λ (es : List Event). without_clocks batch ++ es) (filled_as_one next rest)
    ∙ sym (map-append without_clock batch (as_one rest))

none_in_nothing : (states : StatesView) (counters : List Variable) → fall_fault states counters [] ≡ None
unfolding fall_fault
none_in_nothing states counters = refl

module _ {B : Type 0} (says : B → List (List ℤ) → List Bool) where
  -- no counter falls in the filled batches as one
  no_fall : (batches : List (List Event)) (before : GrowingView) (boxes : List B) (after : GrowingView) (boxes_after : List B) → ObservesAll says batches before boxes after boxes_after
      → fall_fault before.seen.trace.states (counters_of (disjuncts_of before.disjuncts)) (all_filled before.seen.trace batches) ≡ None
  no_fall [] before boxes after boxes_after takes = none_in_nothing before.seen.trace.states (counters_of (disjuncts_of before.disjuncts))
  no_fall (batch ∷ rest) before boxes after boxes_after takes =
      let next = takes.0 in
      let one = takes.2.whole in
      let behind = no_fall rest next takes.1 after boxes_after takes.3 in
      let by_formula = subst (λ (ds : List (List Part)). fall_fault next.seen.trace.states (counters_of (disjuncts_of ds)) (all_filled next.seen.trace rest) ≡ None) one.takes.disjuncts behind in
      none_joined before.seen.trace.states (counters_of (disjuncts_of before.disjuncts)) (filled_for before.seen.trace batch) (all_filled (with_trace_batch before.seen.trace batch) rest)
      (no_faults before batch one.free).0
      (subst (λ (t : TraceView). fall_fault t.states (counters_of (disjuncts_of before.disjuncts)) (all_filled t rest) ≡ None) one.takes.trace by_formula)

  -- the trace takes each batch
  trace_takes : (batches : List (List Event)) (before : GrowingView) (boxes : List B) (after : GrowingView) (boxes_after : List B) → ObservesAll says batches before boxes after boxes_after
      → TakesAll before.seen.trace batches
  trace_takes [] before boxes after boxes_after takes = tt
  trace_takes (batch ∷ rest) before boxes after boxes_after takes =
      let one = takes.2.whole in (
        takes.2.fits,
        (no_faults before batch one.free).1,
        subst (λ (t : TraceView). TakesAll t rest) one.takes.trace (trace_takes rest takes.0 takes.1 after boxes_after takes.3),
      )

  -- ---- as one batch

  module _ (header : Header) (on : List (Option ℕ)) (disjuncts : List (List Part)) (handed : List B) where
    abbrev start : GrowingView
    start = opened_growing header on disjuncts

    pub observes_as_one : (batches : List (List Event)) (now : GrowingView) (boxes : List B) → ObservesAll says batches start handed now boxes
        → FitsTrace (opened_trace header) (as_one batches) × (first_fault start (as_one batches) ≡ None)
    observes_as_one batches now boxes takes =
        let trace = opened_trace header in
        let counters = counters_of (disjuncts_of disjuncts) in
        let joined = takes_as_one header batches (trace_takes batches start handed now boxes takes) in
        let same : without_clocks (filled_for trace (as_one batches)) ≡ without_clocks (all_filled trace batches) = but_for_clocks _ trace.states.events (as_one batches) ∙ sym (filled_as_one trace batches) in
        let kept : counter_fault start (as_one batches) ≡ None = same_fall trace.states counters (all_filled trace batches) (filled_for trace (as_one batches)) same ∙ no_fall batches start handed now boxes takes in
        (joined.0, ap (λ (fall : Option LogFault). choose fall (λ f. Some f) (trace_fault trace (as_one batches))) kept ∙ joined.1)

    -- ---- one trace

    -- an observation of this start: the trace goes on, and the watches were fed since they were handed in
    record IsOf (v : GrowingView) (boxes : List B) : Type 0 where
      processes : v.seen.watch_process ≡ on
      trace : IsTrace v.seen.trace.states
      fed : AreFedFrom says handed boxes v.seen

    no_rows : (n w : ℕ) → ◌≡◌ {A = List Bool} (get_or (replicate n []) w []) []
    no_rows zero w = refl
    no_rows (suc n) zero = refl
    no_rows (suc n) (suc w) = no_rows n w

    is_opened : IsHeader header → IsOf start handed
    is_opened is = record {
      processes = refl;
      trace = is_trace (opened header) is no_batch;
      fed = fed_nothing says handed (opened_observed header on) (length-replicate (length on) []) (no_rows (length on));
    }

    is_later : (batch : List Event) (v w : GrowingView) (boxes more : List B) → Takes says v w boxes more batch → IsOf v boxes → IsOf w more
    is_later batch v w boxes more takes of =
        let one = takes.whole in
        record {
          processes = one.takes.watches ∙ of.processes;
          trace = subst (λ (t : TraceView). IsTrace t.states) (sym one.takes.trace) (trace_on v.seen.trace batch of.trace takes.fits (no_faults v batch one.free).1);
          fed = one.since_start handed of.fed;
        }

    is_of : (batches : List (List Event)) (v w : GrowingView) (boxes more : List B) → ObservesAll says batches v boxes w more → IsOf v boxes → IsOf w more
    is_of [] v w boxes more takes of = subst (λ (g : GrowingView). IsOf g more) (sym takes.0) (subst (IsOf v) (sym takes.1) of)
    is_of (batch ∷ rest) v w boxes more takes of = is_of rest takes.0 w takes.1 more takes.3 (is_later batch v takes.0 boxes takes.1 takes.2 of)

    trace_after : (batches : List (List Event)) (v w : GrowingView) (boxes more : List B) → ObservesAll says batches v boxes w more → w.seen.trace ≡ after_all v.seen.trace batches
    trace_after [] v w boxes more takes = ap (λ (g : GrowingView). g.seen.trace) takes.0
    trace_after (batch ∷ rest) v w boxes more takes = trace_after rest takes.0 w takes.1 more takes.3 ∙ ap (λ (t : TraceView). after_all t rest) takes.2.whole.takes.trace

    full_still : (batches : List (List Event)) (v w : GrowingView) (boxes more : List B) → ObservesAll says batches v boxes w more → AreFull v.seen → AreFull w.seen
    full_still [] v w boxes more takes full = subst (λ (g : GrowingView). AreFull g.seen) (sym takes.0) full
    full_still (batch ∷ rest) v w boxes more takes full = full_still rest takes.0 w takes.1 more takes.3 takes.2.whole.takes.full

    full_now : (batches : List (List Event)) (w : GrowingView) (more : List B) → ObservesAll says batches start handed w more → HasTaken w → AreFull w.seen
    full_now [] w more takes has = absurd (omega (arith, (subst HasTaken takes.0 has).taken))
    full_now (batch ∷ rest) w more takes has = full_still rest takes.0 w takes.1 more takes.3 takes.2.whole.takes.full

    one_trace : (batches : List (List Event)) (one other : GrowingView) (here there : List B) → IsHeader header → HasTaken one → ObservesAll says batches start handed one here
        → Takes says start other handed there (as_one batches) → IsOneTrace says handed here there one.seen other.seen
    one_trace batches one other here there is has takes as_one_batch =
        let opened_so = is_opened is in
        let a = is_of batches start one handed here takes opened_so in
        let b = is_later (as_one batches) start other handed there as_one_batch opened_so in
        record {
          states =
              ap (λ (t : TraceView). t.states) as_one_batch.whole.takes.trace ∙ same_states header batches (trace_takes batches start handed one here takes)
              ∙ sym (ap (λ (t : TraceView). t.states) (trace_after batches start one handed here takes));
          watches = b.processes ∙ sym a.processes;
          full = full_now batches one here takes has;
          full_other = as_one_batch.whole.takes.full;
          fed = a.fed;
          fed_other = b.fed;
        }

    -- the law that one trace has one answer
    abbrev pub HasOneAnswer : Type 0
    HasOneAnswer = (here there : List B) (one other : Observed) → IsOneTrace says handed here there one other → length handed ≡ length one.watch_process → IsTrace one.trace.states
        → (ds : List (List Piece)) (a b : Answer) → IsAnswer one ds a → IsAnswer other ds b → record a { batch = b.batch } ≡ b

    pub answers_as_one : HasOneAnswer → (batches : List (List Event)) (one other : GrowingView) (here there : List B) → IsHeader header → length handed ≡ length on → HasTaken one
        → ObservesAll says batches start handed one here → Takes says start other handed there (as_one batches)
        → (a b : Answer) → IsAnswer one.seen (disjuncts_of disjuncts) a → IsAnswer other.seen (disjuncts_of disjuncts) b → record a { batch = b.batch } ≡ b
    answers_as_one law batches one other here there is paired has takes as_one_batch =
        let a = is_of batches start one handed here takes (is_opened is) in
        law here there one.seen other.seen (one_trace batches one other here there is has takes as_one_batch) (paired ∙ sym (ap length a.processes)) a.trace (disjuncts_of disjuncts)
