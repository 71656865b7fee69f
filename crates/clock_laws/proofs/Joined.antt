-- Batches without a fault have none as one batch.
use Rattle.std.proofs.Common.{◌≡◌, ℕ, zero, suc, ◌-◌, ◌≤◌, true, false, not, ◌&&◌, List, [], ◌∷◌, ◌++◌, length, map, get_or, refl, sym, ap, ◌∙◌, subst, arith}
use Rattle.std.specs.Prelude.{Option, None, Some, is_some, nat_lt, nat_le}
use Rattle.std.specs.List.{AllByRecursion}
use Rattle.std.proofs.lemmas.Bool.{cond-false}
use Rattle.std.proofs.lemmas.List.{map-append}
use Rattle.log_lines.specs.Reading.{choose}
use Rattle.run_model.specs.Cut.{Cut, Clocks, count, IsWithin, lengths}
use Rattle.run_model.specs.Consistent.{clock}
use Rattle.run_model.proofs.Counts.{within_trans}
use Rattle.causal_order.specs.Growth.{HasGrown}
use Rattle.causal_order.proofs.Growing.{count-lengths}
use Rattle.event_log.specs.declared.item.LogCode.{LogCode}
use Rattle.event_log.specs.declared.item.LogCode.TheVariants as code
use Rattle.event_log.specs.declared.item.LogFault.{LogFault}
use Rattle.event_log.specs.declared.log.Event.{Event}
use Rattle.event_log.specs.States.{with_event, with_batch, with_batches}
use Rattle.vector_clock.specs.declared.message.Message.{Message}
use Rattle.vector_clock.specs.Events.{Events, EventFits, no_events, own_events, clocks_of, place}
use Rattle.vector_clock.specs.Events.{is_beyond}
use Rattle.vector_clock.specs.Messages.{message_received, first_send}
use Rattle.vector_clock.specs.Faults.{names, named_clock, clock_fault, is_twice, is_unsent, is_early, message_fault, event_fault, at_line, fault_from, batch_fault, batches_fault}
use Rattle.vector_clock.specs.Faultless.{AreFaultless, no_batch, one_batch}
use Rattle.vector_clock.proofs.Below.{not_beyond, same_below}
use Rattle.vector_clock.proofs.Faultless.{none_of, IsRight, no_fault_right, dangles_not, chosen_none, passed_to_dangling}
use Rattle.vector_clock.proofs.Growth.{length-clocks_of, own_clocks, own_count}
use Rattle.vector_clock.proofs.SoundOrders.{same_clock, lengths_grow}
use Rattle.clock_laws.specs.Joined.{as_one, MayComeAsOne}
use Rattle.clock_laws.proofs.Own.{Grows, grows_none, grows_on, grows_batch, own_longer, send_on}

-- ---- the clock of an event, as more events come

clocks_grow : (old new : Events) → Grows old new → HasGrown (clocks_of old) (clocks_of new)
clocks_grow old new grows = record { count = length-clocks_of new ∙ grows.count ∙ sym (length-clocks_of old); each = each }
  where
    each : (p : ℕ) → (more : List Cut) × (get_or (clocks_of new) p [] ≡ get_or (clocks_of old) p [] ++ more)
    each p =
        let g = grows.more p in (
          map (λ (e : Event). e.clock) g.0,
          own_clocks new p ∙ ap (map (λ (e : Event). e.clock)) g.1 ∙ map-append (λ (e : Event). e.clock) (own_events old p) g.0
              ∙ ap (λ (rs : List Cut). rs ++ map (λ (e : Event). e.clock) g.0) (sym (own_clocks old p)),
        )

clock_along : (o all : Clocks) (i a : ℕ) → HasGrown o all → a ≤ count (lengths o) i → clock all i a ≡ clock o i a
unfolding clock
clock_along o all i zero grown le = refl
clock_along o all i (suc a) grown le = same_clock o all i (suc a) grown (omega arith, le)

right_along : (o all : Clocks) (a : ℕ) (e : Event) → HasGrown o all → a - 1 ≤ count (lengths o) e.process → IsRight o a e → IsRight all a e
right_along o all a e grown before right = record {
  own = right.own;
  back = ap (λ (v : Cut). nat_lt 1 a && is_beyond v e.clock) (clock_along o all e.process (a - 1) grown before) ∙ right.back;
  dangling = not_beyond e.clock (lengths all) (within_trans e.clock (lengths o) (lengths all) within (lengths_grow o all grown));
  open_ = same_below (λ j. names e j && is_beyond (named_clock all e j) e.clock) (λ j. names e j && is_beyond (named_clock o e j) e.clock) (length e.clock)
      (λ j lt. ap (λ (v : Cut). names e j && is_beyond v e.clock) (named j)) ∙ right.open_;
  loop = same_below (λ j. names e j && nat_le a (count (named_clock all e j) e.process)) (λ j. names e j && nat_le a (count (named_clock o e j) e.process)) (length e.clock)
      (λ j lt. ap (λ (v : Cut). names e j && nat_le a (count v e.process)) (named j)) ∙ right.loop;
}
  where
    within : IsWithin e.clock (lengths o)
    within = dangles_not o e right.dangling

    named : (j : ℕ) → named_clock all e j ≡ named_clock o e j
    named j = clock_along o all j (count e.clock j) grown (within j)

right_none : (o : Clocks) (a : ℕ) (e : Event) → IsRight o a e → clock_fault o a e ≡ None
right_none o a e right =
    passed_to_dangling o a e right.own right.back right.dangling ∙ cond-false _ _ _ right.open_ ∙ cond-false _ _ _ right.loop

-- ---- its message

no_bool : true ≡ false → ⊥
no_bool h = cc

sent_along : (all more : Events) (e : Event) → Grows all more → is_unsent all e ≡ false → (is_unsent more e ≡ false) × (is_early more e ≡ is_early all e)
sent_along all more e grows sent = by_receipt (message_received e.process e.kind) refl
  where
    by_send : (m : Message) (o : Option ℕ) → message_received e.process e.kind ≡ Some m → first_send all m ≡ o → (is_unsent more e ≡ false) × (is_early more e ≡ is_early all e)
    by_send m None is none =
        absurd (no_bool (sym (ap (λ (r : Option Message). choose r (λ n. not (is_some (first_send all n))) false) is ∙ ap (λ (o : Option ℕ). not (is_some o)) none) ∙ sent))
    by_send m (Some a) is first =
        let on = send_on all more m a grows first in (
          ap (λ (r : Option Message). choose r (λ n. not (is_some (first_send more n))) false) is ∙ ap (λ (o : Option ℕ). not (is_some o)) on,
          ap (λ (r : Option Message). choose r (λ n. choose (first_send more n) (λ k. nat_lt (count e.clock n.sender) k) false) false) is
              ∙ ap (λ (o : Option ℕ). choose o (λ k. nat_lt (count e.clock m.sender) k) false) (on ∙ sym first)
              ∙ sym (ap (λ (r : Option Message). choose r (λ n. choose (first_send all n) (λ k. nat_lt (count e.clock n.sender) k) false) false) is),
        )

    by_receipt : (r : Option Message) → message_received e.process e.kind ≡ r → (is_unsent more e ≡ false) × (is_early more e ≡ is_early all e)
    by_receipt None is = (
      ap (λ (r : Option Message). choose r (λ n. not (is_some (first_send more n))) false) is,
      ap (λ (r : Option Message). choose r (λ n. choose (first_send more n) (λ k. nat_lt (count e.clock n.sender) k) false) false) is
          ∙ sym (ap (λ (r : Option Message). choose r (λ n. choose (first_send all n) (λ k. nat_lt (count e.clock n.sender) k) false) false) is),
    )
    by_receipt (Some m) is = by_send m (first_send all m) is refl

message_along : (before all more : Events) (e : Event) → Grows all more → message_fault before all e ≡ None → message_fault before more e ≡ None
message_along before all more e grows none =
    let twice = none_of (is_twice before e) code.MessageTwice _ none in
    let unsent = none_of (is_unsent all e) code.ReceiveUnsent _ twice.1 in
    let early = none_of (is_early all e) code.ReceiveEarly None unsent.1 in
    let along = sent_along all more e grows unsent.0 in
    cond-false (is_twice before e) _ _ twice.0 ∙ cond-false (is_unsent more e) _ _ along.0 ∙ cond-false (is_early more e) _ _ (along.1 ∙ early.0)

-- ---- a batch

event_along : (before all more : Events) (e : Event) → Grows before all → Grows all more → event_fault before all e ≡ None → event_fault before more e ≡ None
event_along before all more e known grows none =
    let parts = chosen_none (clock_fault (clocks_of all) (place before e) e) (λ (f : LogCode). f) (message_fault before all e) none in
    let place_there : place before e - 1 ≤ count (lengths (clocks_of all)) e.process = omega (arith, own_longer before all e.process known, count-lengths (clocks_of all) e.process, own_count all e.process) in
    let right = right_along (clocks_of all) (clocks_of more) (place before e) e (clocks_grow all more grows) place_there (no_fault_right (clocks_of all) (place before e) e parts.0) in
    ap (λ (o : Option LogCode). choose o (λ f. Some f) (message_fault before more e)) (right_none (clocks_of more) (place before e) e right)
    ∙ message_along before all more e grows parts.1

-- no event of a batch has a fault where more events come behind all that it was judged among
from_along : (before all more : Events) (batch : List Event) → Grows (with_batch before batch) all → Grows all more → fault_from before all batch ≡ None → fault_from before more batch ≡ None
unfolding with_batch fault_from
from_along before all more [] known grows none = refl
from_along before all more (e ∷ es) known grows none =
    let parts = chosen_none (event_fault before all e) (at_line e) (fault_from (with_event before e) all es) none in
    let one = event_along before all more e (grows_on before (with_batch (with_event before e) es) all (grows_batch before (e ∷ es)) known) grows parts.0 in
    ap (λ (o : Option LogCode). choose o (λ f. Some (at_line e f)) (fault_from (with_event before e) more es)) one
    ∙ from_along (with_event before e) all more es known grows parts.1

from_append : (before all : Events) (xs ys : List Event) → fault_from before all xs ≡ None → fault_from (with_batch before xs) all ys ≡ None → fault_from before all (xs ++ ys) ≡ None
unfolding with_batch fault_from
from_append before all [] ys first rest = rest
from_append before all (e ∷ xs) ys first rest =
    let parts = chosen_none (event_fault before all e) (at_line e) (fault_from (with_event before e) all xs) first in
    ap (λ (o : Option LogCode). choose o (λ f. Some (at_line e f)) (fault_from (with_event before e) all (xs ++ ys))) parts.0
    ∙ from_append (with_event before e) all xs ys parts.1 rest

pub with_batch-append : (events : Events) (xs ys : List Event) → with_batch events (xs ++ ys) ≡ with_batch (with_batch events xs) ys
unfolding with_batch
with_batch-append events [] ys = refl
with_batch-append events (x ∷ xs) ys = with_batch-append (with_event events x) xs ys

-- ---- batches

two_none : (before : Events) (b c : List Event) → batch_fault before b ≡ None → batch_fault (with_batch before b) c ≡ None → batch_fault before (b ++ c) ≡ None
two_none before b c first rest =
    let between = with_batch before b in
    let all = with_batch between c in
    subst (λ (e : Events). fault_from before e (b ++ c) ≡ None) (sym (with_batch-append before b c))
    (from_append before all b c (from_along before between all b (grows_none between) (grows_batch between c) first) rest)

pub joined_none : (before : Events) (batches : List (List Event)) → batches_fault before batches ≡ None → batch_fault before (as_one batches) ≡ None
unfolding fault_from batches_fault
joined_none before [] none = refl
joined_none before (b ∷ batches) none =
    let parts = chosen_none (batch_fault before b) (λ (f : LogFault). f) (batches_fault (with_batch before b) batches) none in
    two_none before b (as_one batches) parts.0 (joined_none (with_batch before b) batches parts.1)

pub joined_events : (events : Events) (batches : List (List Event)) → with_batch events (as_one batches) ≡ with_batches events batches
unfolding with_batch
joined_events events [] = refl
joined_events events (b ∷ batches) = with_batch-append events b (as_one batches) ∙ joined_events (with_batch events b) batches

pub all_append : (P : Event → Type 0) (xs ys : List Event) → AllByRecursion P xs → AllByRecursion P ys → AllByRecursion P (xs ++ ys)
all_append P [] ys first rest = rest
all_append P (x ∷ xs) ys first rest = (first.0, all_append P xs ys first.1 rest)

-- events that came batch after batch may come as one
pub come_as_one : (procs : ℕ) (events : Events) → AreFaultless procs events → MayComeAsOne procs events
unfolding with_batch fault_from
come_as_one procs events no_batch = record { batch = []; fits = tt; faultless = refl; events_are = refl }
come_as_one procs events (one_batch {before = before} more old fits none) =
    let one = come_as_one procs before old in
    record {
      batch = one.batch ++ more;
      fits = all_append (EventFits procs) one.batch more one.fits fits;
      faultless = two_none (no_events procs) one.batch more one.faultless (subst (λ (e : Events). batch_fault e more ≡ None) (sym one.events_are) none);
      events_are = with_batch-append (no_events procs) one.batch more ∙ ap (λ (e : Events). with_batch e more) one.events_are;
    }
