-- Batches without a fault: their clocks are those of an order.
use Rattle.std.proofs.Common.{◌≡◌, ℕ, ◌+◌, List, [], ◌∷◌, ◌++◌, length, map, get_or, refl, sym, ap, ◌∙◌, subst, arith, inl, inr}
use Rattle.std.specs.Prelude.{None}
use Rattle.std.specs.List.{AllByRecursion}
use Rattle.std.proofs.lemmas.List.{length-replicate, length-set}
use Rattle.event_log.specs.declared.log.Event.{Event}
use Rattle.event_log.specs.declared.log.Log.{Log}
use Rattle.event_log.specs.declared.log.Binding.{Binding}
use Rattle.event_log.specs.declared.item.LogCode.{LogCode}
use Rattle.event_log.specs.States.{with_event, with_batch, with_batches, event_of, processes_of}
use Rattle.event_log.specs.LogText as log_text
use Rattle.event_log.specs.LogText.{LogFits, EventsFit, BatchesFit, KindWithin, KindFits, ClockStands}
use Rattle.event_log.specs.declared.log.Header.{Header}
use Rattle.event_log.specs.declared.log.Kind.{Kind}
use Rattle.event_log.specs.declared.log.Kind.TheVariants as kind
use Rattle.run_model.specs.Cut.{Cut, Clocks}
use Rattle.run_model.specs.Run as run
use Rattle.run_model.specs.Consistent.{IsOrder}
use Rattle.causal_order.specs.Growth.{HasClock, HasGrown, with_row, with_clocks}
use Rattle.causal_order.proofs.Growing.{grown_none}
use Rattle.causal_order.proofs.Orders.{no_events_order}
use Rattle.vector_clock.specs.Events.{Events, EventFits, EventStands, AllFit, AllStand}
use Rattle.vector_clock.specs.Events.{CanBeChecked, clocks_of, place, no_events}
use Rattle.vector_clock.specs.Faults.{clock_fault, message_fault, event_fault, at_line, fault_from, batch_fault, batches_fault}
use Rattle.vector_clock.proofs.SoundOrders.{AllSound, sound_order, order_sound, sound_along}
use Rattle.vector_clock.proofs.Growth.{length-clocks_of, own_count, clocks_one, clocks_more, clocks_none, length-with_batch, fits_have_clocks, grown_with, next_clock, sound_more}
use Rattle.vector_clock.proofs.Faultless.{no_fault_right, right_sound, chosen_none}

-- an event more: where its clock has no fault, all events up to it have none
pub one_sound : (o all : Clocks) (e : Event) → AllSound o all → HasClock (length o) e → HasGrown (with_row o e.process e.clock) all
    → clock_fault all (length (get_or o e.process []) + 1) e ≡ None → AllSound (with_row o e.process e.clock) all
one_sound o all e sound has grown none =
    let right = no_fault_right all (length (get_or o e.process []) + 1) e none in
    let width : length e.clock ≡ length all = has.width ∙ sym (grown.count ∙ length-set o e.process _) in
    sound_more o all e.process e.clock sound has.process (right_sound all _ e right (next_clock o all e.process e.clock grown has.process) width)

all_sound : (before : Events) (all : Clocks) (allEvents : Events) (batch : List Event) → all ≡ clocks_of allEvents → with_clocks (clocks_of before) batch ≡ all → AllByRecursion (HasClock (length before)) batch
    → AllSound (clocks_of before) all → fault_from before allEvents batch ≡ None → AllSound all all
unfolding with_clocks fault_from
all_sound before all events [] is whole fits sound none = subst (λ (o : Clocks). AllSound o all) whole sound
all_sound before all events (e ∷ batch) is whole fits sound none =
    let o = clocks_of before in
    let parts = chosen_none (event_fault before events e) (at_line e) (fault_from (with_event before e) events batch) none in
    let clock_none : clock_fault (clocks_of events) (place before e) e ≡ None = (chosen_none (clock_fault (clocks_of events) (place before e) e) (λ (f : LogCode). f) (message_fault before events e) parts.0).0 in
    let at : clock_fault all (length (get_or o e.process []) + 1) e ≡ None =
    ap (λ (x : Clocks). clock_fault x (length (get_or o e.process []) + 1) e) is ∙ ap (λ (n : ℕ). clock_fault (clocks_of events) (n + 1) e) (own_count before e.process) ∙ clock_none in
    let one : clocks_of (with_event before e) ≡ with_row o e.process e.clock = clocks_one before e in
    let has : HasClock (length o) e = subst (λ (n : ℕ). HasClock n e) (sym (length-clocks_of before)) fits.0 in
    let rest : AllByRecursion (HasClock (length (with_row o e.process e.clock))) batch =
    subst (λ (n : ℕ). AllByRecursion (HasClock n) batch) (sym (length-set o e.process _ ∙ length-clocks_of before)) fits.1 in
    let grown : HasGrown (with_row o e.process e.clock) all = subst (HasGrown (with_row o e.process e.clock)) whole (grown_with _ _ batch (grown_none (with_row o e.process e.clock)) rest) in
    all_sound (with_event before e) all events batch is (ap (λ (x : Clocks). with_clocks x batch) one ∙ whole)
    (subst (λ (n : ℕ). AllByRecursion (HasClock n) batch) (sym (length-set before e.process _)) fits.1)
    (subst (λ (x : Clocks). AllSound x all) (sym one) (one_sound o all e sound has grown at)) parts.1

pub batch_order : (before : Events) (batch : List Event) → AllByRecursion (EventFits (length before)) batch → IsOrder (clocks_of before) → batch_fault before batch ≡ None
    → IsOrder (clocks_of (with_batch before batch))
batch_order before batch fits order none =
    let all = clocks_of (with_batch before batch) in
    let has = fits_have_clocks (length before) batch fits in
    let whole : with_clocks (clocks_of before) batch ≡ all = sym (clocks_more before batch) in
    let grown : HasGrown (clocks_of before) all =
    subst (HasGrown (clocks_of before)) whole (grown_with _ _ batch (grown_none (clocks_of before)) (subst (λ (n : ℕ). AllByRecursion (HasClock n) batch) (sym (length-clocks_of before)) has)) in
    sound_order all (all_sound before all (with_batch before batch) batch refl whole has (sound_along (clocks_of before) all grown (order_sound (clocks_of before) order)) none)

pub batches_order : (before : Events) (batches : List (List Event)) (procs : ℕ) → length before ≡ procs → AllFit procs batches → IsOrder (clocks_of before) → batches_fault before batches ≡ None
    → IsOrder (clocks_of (with_batches before batches))
unfolding batches_fault
batches_order before [] procs count fits order none = order
batches_order before (batch ∷ batches) procs count fits order none =
    let parts = chosen_none (batch_fault before batch) (λ f. f) (batches_fault (with_batch before batch) batches) none in
    let each = subst (λ (n : ℕ). AllByRecursion (EventFits n) batch) (sym count) fits.0 in
    batches_order (with_batch before batch) batches procs (length-with_batch before batch ∙ count) fits.1 (batch_order before batch each order parts.0) parts.1

pub first_order : (procs : ℕ) (batches : List (List Event)) → AllFit procs batches → batches_fault (no_events procs) batches ≡ None → IsOrder (clocks_of (with_batches (no_events procs) batches))
first_order procs batches fits none =
    batches_order (no_events procs) batches procs (length-replicate procs []) fits (subst IsOrder (sym (clocks_none procs)) (no_events_order procs)) none

-- ---- the log's run

-- the clocks of the run are those of the events
pub trace_clocks : (names : List (List ℕ)) (vars : List (List Binding)) (events : Events) → length names ≡ length events → length vars ≡ length events
    → run.clocks_of (processes_of names vars events) ≡ clocks_of events
trace_clocks [] vars [] h k = refl
trace_clocks [] vars (es ∷ events) h k = absurd (omega arith)
trace_clocks (n ∷ names) [] [] h k = absurd (omega arith)
trace_clocks (n ∷ names) [] (es ∷ events) h k = absurd (omega arith)
trace_clocks (n ∷ names) (v ∷ vars) [] h k = absurd (omega arith)
trace_clocks (n ∷ names) (v ∷ vars) (es ∷ events) h k =
    ap (λ (cs : List Cut). cs ∷ run.clocks_of (processes_of names vars events)) (same es) ∙ ap (λ (o : Clocks). map (λ (e : Event). e.clock) es ∷ o) (trace_clocks names vars events (omega arith) (omega arith))
  where
    same : (xs : List Event) → map (λ (e : run.Event). e.clock) (map event_of xs) ≡ map (λ (e : Event). e.clock) xs
    same [] = refl
    same (x ∷ xs) = ap (λ (cs : List Cut). x.clock ∷ cs) (same xs)

length-with_batches : (events : Events) (batches : List (List Event)) → length (with_batches events batches) ≡ length events
length-with_batches events [] = refl
length-with_batches events (b ∷ batches) = length-with_batches (with_batch events b) batches ∙ length-with_batch events b

peer_within : (procs process : ℕ) (k : Kind) → KindFits procs process k → KindWithin procs k
peer_within procs process kind.Internal h = tt
peer_within procs process (kind.Send to id) h = h.0
peer_within procs process (kind.Receive sender id) h = h.0

-- in version 1 no clock is left out
written_width : (procs : ℕ) (version : ℕ) (clock : List ℕ) → version ≡ 1 → ClockStands version procs clock → length clock ≡ procs
written_width procs version clock first (inl width) = width
written_width procs version clock first (inr out) = absurd (omega (arith, first, out.0))

batch_fits : (h : Header) (line : ℕ) (batch : List Event) → h.version ≡ 1 → EventsFit h line batch → AllByRecursion (EventFits (length h.procs)) batch
batch_fits h line [] first fits = tt
batch_fits h line (e ∷ batch) first fits =
    let e_fits = fits.0.0 in
    let width = written_width (length h.procs) h.version e.clock first e_fits.width in
    (record { clock = record { process = e_fits.process; width = width }; peer = peer_within (length h.procs) e.process e.kind e_fits.kind }, batch_fits h (line + 1) batch first fits.1)

pub all_fit : (h : Header) (line : ℕ) (batches : List (List Event)) → h.version ≡ 1 → BatchesFit h line batches → AllFit (length h.procs) batches
all_fit h line [] first fits = tt
all_fit h line (b ∷ batches) first fits = (batch_fits h line b first fits.0, all_fit h (line + length b + 1) batches first fits.1)

-- an event that a log's text may have stands, be its clock left out or not
pub event_stands : (h : Header) (e : Event) → log_text.EventFits h e → EventStands (length h.procs) e
event_stands h e fits = record {
  process = fits.process;
  width = elim fits.width [
    | inl width ↦ inl width
    | inr out ↦ inr out.1
  ];
  peer = peer_within (length h.procs) e.process e.kind fits.kind;
}

pub events_stand : (h : Header) (es : List Event) → AllByRecursion (log_text.EventFits h) es → AllByRecursion (EventStands (length h.procs)) es
events_stand h [] fits = tt
events_stand h (e ∷ es) fits = (event_stands h e fits.0, events_stand h es fits.1)

numbered_stand : (h : Header) (line : ℕ) (es : List Event) → EventsFit h line es → AllByRecursion (EventStands (length h.procs)) es
numbered_stand h line [] fits = tt
numbered_stand h line (e ∷ es) fits = (event_stands h e fits.0.0, numbered_stand h (line + 1) es fits.1)

pub all_stand : (h : Header) (line : ℕ) (batches : List (List Event)) → BatchesFit h line batches → AllStand (length h.procs) batches
all_stand h line [] fits = tt
all_stand h line (b ∷ batches) fits = (numbered_stand h line b fits.0, all_stand h (line + length b + 1) batches fits.1)

-- a log that has a text can be checked
pub text_can_be_checked : (log : Log) → LogFits log → CanBeChecked log
text_can_be_checked log fits = record {
  some = fits.header.procs.some;
  few = fits.header.procs.few;
  each = all_stand log.header _ log.batches fits.batches;
  events = fits.few;
}

-- ---- batches event by event

pub fits_more : (procs : ℕ) (batch : List Event) (e : Event) → AllByRecursion (EventFits procs) batch → EventFits procs e → AllByRecursion (EventFits procs) (batch ++ e ∷ [])
fits_more procs [] e fits one = (one, tt)
fits_more procs (x ∷ batch) e fits one = (fits.0, fits_more procs batch e fits.1 one)
