-- Events that came batch by batch without a fault are those of a run, of which no channel has more receipts than sends at a consistent cut.
use Rattle.std.proofs.Common.{◌≡◌, ℕ, zero, suc, ◌<◌, ◌≤◌, Bool, true, false, ◌||◌, List, [], ◌∷◌, ◌++◌, length, map, take, drop, get_or, count_by, refl, sym, ap, ◌∙◌, subst, arith, append-nil}
use Rattle.std.specs.Prelude.{◌==◌, nat_eq, None, if◌then◌else◌}
use Rattle.std.specs.List.{AllByRecursion, IsDistinct}
use Rattle.std.proofs.lemmas.Bool.{eqb-true}
use Rattle.std.specs.Set.{is_member}
use Rattle.std.specs.Cmp.{nat_eq_equiv}
use Rattle.std.proofs.lemmas.Map.Made.{length-le_from_is_member}
use Rattle.std.proofs.lemmas.List.{length-replicate, take-append-drop, take-map}
use Rattle.event_log.specs.declared.log.Kind.{Kind}
use Rattle.event_log.specs.declared.log.Kind.TheVariants as kind
use Rattle.event_log.specs.declared.log.Event.{Event}
use Rattle.event_log.specs.declared.log.Binding.{Binding}
use Rattle.event_log.specs.States.{StatesView, event_of, with_batch, with_batches, processes_of, trace_of}
use Rattle.run_model.specs.Run as run
use Rattle.run_model.proofs.TraceLemmas.{run_of_order}
use Rattle.run_model.specs.Cut.{Cut, Clocks, count, IsWithin}
use Rattle.run_model.specs.Consistent.{IsOrder, IsConsistent}
use Rattle.run_model.proofs.Orders.{has_past}
use Rattle.causal_order.proofs.Orders.{no_events_order}
use Rattle.vector_clock.specs.Events.{Events, EventFits, AllFit, no_events, own_events, clocks_of}
use Rattle.vector_clock.specs.Faults.{batch_fault, batches_fault}
use Rattle.vector_clock.specs.Faultless.{AreFaultless, no_batch, one_batch, IsLoggedRun}
use Rattle.vector_clock.proofs.Growth.{clock_suc, own_clocks, clocks_none, length-with_batch}
use Rattle.vector_clock.proofs.BatchLaws.{batch_order, trace_clocks}
use Rattle.vector_clock.proofs.Faultless.{chosen_none}
use Rattle.vector_clock.proofs.MessageIds.{sent_id, received_id, ids, ids-append, in_either, member_stays, length-sent_ids, length-received_ids}
use Rattle.vector_clock.proofs.Delivered.{IsMailed, AreDelivered, batch_delivered, events_grow, delivered_along}

-- ---- batch after batch

nothing_own : (n p : ℕ) → own_events (no_events n) p ≡ []
nothing_own zero p = refl
nothing_own (suc n) zero = refl
nothing_own (suc n) (suc p) = nothing_own n p

none_distinct : IsDistinct nat_eq []
unfolding IsDistinct
none_distinct = tt

none_delivered : (n : ℕ) → AreDelivered (no_events n) (no_events n)
none_delivered n = record {
  own = λ q. subst (λ (es : List Event). AllByRecursion (λ (e : Event). e.process ≡ q) es) (sym (nothing_own n q)) tt;
  mailed = λ q. subst (λ (es : List Event). AllByRecursion (IsMailed (no_events n) q) es) (sym (nothing_own n q)) tt;
  once = λ p q. subst (λ (es : List Event). IsDistinct nat_eq (ids (received_id p) es)) (sym (nothing_own n q)) none_distinct;
}

pub faultless_count : (procs : ℕ) (events : Events) → AreFaultless procs events → length events ≡ procs
faultless_count procs events no_batch = length-replicate procs []
faultless_count procs events (one_batch {before = before} more old fits none) = length-with_batch before more ∙ faultless_count procs before old

pub faultless_order : (procs : ℕ) (events : Events) → AreFaultless procs events → IsOrder (clocks_of events)
faultless_order procs events no_batch = subst IsOrder (sym (clocks_none procs)) (no_events_order procs)
faultless_order procs events (one_batch {before = before} more old fits none) =
    batch_order before more (subst (λ (n : ℕ). AllByRecursion (EventFits n) more) (sym (faultless_count procs before old)) fits) (faultless_order procs before old) none

pub faultless_delivered : (procs : ℕ) (events : Events) → AreFaultless procs events → AreDelivered events events
faultless_delivered procs events no_batch = none_delivered procs
faultless_delivered procs events (one_batch {before = before} more old fits none) =
    let each = subst (λ (n : ℕ). AllByRecursion (EventFits n) more) (sym (faultless_count procs before old)) fits in
    batch_delivered before (with_batch before more) more (delivered_along before before (with_batch before more) (events_grow before more each) (faultless_delivered procs before old)) each none

pub faultless_batches : (procs : ℕ) (before : Events) (batches : List (List Event)) → AreFaultless procs before → AllFit procs batches → batches_fault before batches ≡ None
    → AreFaultless procs (with_batches before batches)
unfolding batches_fault
faultless_batches procs before [] old fits none = old
faultless_batches procs before (more ∷ batches) old fits none =
    let parts = chosen_none (batch_fault before more) (λ f. f) (batches_fault (with_batch before more) batches) none in
    faultless_batches procs (with_batch before more) batches (one_batch more old fits.0 parts.0) fits.1 parts.1

-- ---- numbers that are distinct

all_left : (P : ℕ → Type 0) (xs ys : List ℕ) → AllByRecursion P (xs ++ ys) → AllByRecursion P xs
all_left P [] ys all = tt
all_left P (x ∷ xs) ys all = (all.0, all_left P xs ys all.1)

distinct_left : (xs ys : List ℕ) → IsDistinct nat_eq (xs ++ ys) → IsDistinct nat_eq xs
unfolding IsDistinct
distinct_left [] ys distinct = tt
distinct_left (x ∷ xs) ys distinct = (all_left (λ y. nat_eq x y ≡ false) xs ys distinct.0, distinct_left xs ys distinct.1)

front_distinct : (of : Kind → List ℕ) (es : List Event) (n : ℕ) → IsDistinct nat_eq (ids of es) → IsDistinct nat_eq (ids of (take n es))
front_distinct of es n distinct =
    distinct_left (ids of (take n es)) (ids of (drop n es))
    (subst (IsDistinct nat_eq) (ap (ids of) (sym (take-append-drop n es)) ∙ ids-append of (take n es) (drop n es)) distinct)

-- ---- at a consistent cut

-- what the first events of a process receive from p is among these numbers, where it is at each event whose clock is within the cut
received_within : (sent : List ℕ) (p : ℕ) (c : Cut) (M : Event → Type 0) → ((e : Event) → M e → IsWithin e.clock c → (id : ℕ) → e.kind ≡ kind.Receive p id → is_member nat_eq sent id ≡ true)
    → (es : List Event) (n : ℕ) → AllByRecursion M es → ((i : ℕ) → i < n → i < length es → IsWithin (get_or (map (λ (e : Event). e.clock) es) i []) c)
    → (id : ℕ) → is_member nat_eq (ids (received_id p) (take n es)) id ≡ true → is_member nat_eq sent id ≡ true
received_within sent p c M step [] zero each rows id h = cc
received_within sent p c M step [] (suc n) each rows id h = cc
received_within sent p c M step (e ∷ es) zero each rows id h = cc
received_within sent p c M step (e ∷ es) (suc n) each rows id h =
    in_either (λ (x : ℕ). is_member nat_eq sent x ≡ true) (received_id p e.kind) (ids (received_id p) (take n es))
    (λ x there. by_kind e.kind x refl there)
    (λ x there. received_within sent p c M step es n each.1 (λ i lt here. rows (suc i) (omega arith) (omega arith)) x there) id h
  where
    from_one : (sender i x : ℕ) → e.kind ≡ kind.Receive sender i → sender ≡ p → x ≡ i → is_member nat_eq sent x ≡ true
    from_one sender i x is from same =
        step e each.0 (rows 0 (omega arith) (omega arith)) x (is ∙ ap (λ (s : ℕ). kind.Receive s i) from ∙ ap (λ (k : ℕ). kind.Receive p k) (sym same))

    only : (b : Bool) (i x : ℕ) → is_member nat_eq (if b then i ∷ [] else []) x ≡ true → (b ≡ true) × (x ≡ i)
    only true i x h = (refl, eqb-true x i (one_of (nat_eq x i) h))
      where
        one_of : (a : Bool) → (a || false) ≡ true → a ≡ true
        one_of true h = refl
        one_of false h = h
    only false i x h = cc

    by_kind : (k : Kind) (x : ℕ) → e.kind ≡ k → is_member nat_eq (received_id p k) x ≡ true → is_member nat_eq sent x ≡ true
    by_kind kind.Internal x is there = cc
    by_kind (kind.Send to i) x is there = cc
    by_kind (kind.Receive sender i) x is there =
        let one = only (sender == p) i x there in
        from_one sender i x is (eqb-true sender p one.0) one.1

-- the clock of each event of q within the cut is within the cut
clocks_within : (events : Events) (q : ℕ) (c : Cut) → IsOrder (clocks_of events) → IsConsistent (clocks_of events) c
    → (i : ℕ) → i < count c q → IsWithin (get_or (map (λ (e : Event). e.clock) (own_events events q)) i []) c
clocks_within events q c order consistent i lt =
    subst (λ (row : Cut). IsWithin row c) (clock_suc (clocks_of events) q i ∙ ap (λ (rows : List Cut). get_or rows i []) (own_clocks events q))
    (has_past (clocks_of events) order c consistent q (suc i) (omega arith, omega arith))

pub receipts_have_sends : (events : Events) (p q : ℕ) (c : Cut) → IsOrder (clocks_of events) → AreDelivered events events → IsConsistent (clocks_of events) c
    → length (ids (received_id p) (take (count c q) (own_events events q))) ≤ length (ids (sent_id q) (take (count c p) (own_events events p)))
receipts_have_sends events p q c order delivered consistent =
    let sent = ids (sent_id q) (take (count c p) (own_events events p)) in
    length-le_from_is_member nat_eq_equiv (ids (received_id p) (take (count c q) (own_events events q))) sent
    (front_distinct (received_id p) (own_events events q) (count c q) (delivered.once p q))
    (received_within sent p c (IsMailed events q) within (own_events events q) (count c q) (delivered.mailed q) (λ i lt here. clocks_within events q c order consistent i lt))
  where
    within : (e : Event) → IsMailed events q e → IsWithin e.clock c → (id : ℕ) → e.kind ≡ kind.Receive p id
        → is_member nat_eq (ids (sent_id q) (take (count c p) (own_events events p))) id ≡ true
    within e mailed low id is =
        ap (λ (es : List Event). is_member nat_eq (ids (sent_id q) (take (count c p) es)) id) (sym (append-nil (own_events events p)))
        ∙ member_stays (sent_id q) (own_events events p) [] (count e.clock p) (count c p) id (low p) (mailed p id is)

-- ---- the run

-- the events of a process of the run
pub run_events : (names : List (List ℕ)) (vars : List (List Binding)) (events : Events) (p : ℕ) → length names ≡ length events → length vars ≡ length events
    → (run.process_at (processes_of names vars events) p).events ≡ map event_of (own_events events p)
run_events [] vars [] p h k = refl
run_events [] vars (es ∷ events) p h k = absurd (omega arith)
run_events (n ∷ names) [] [] p h k = absurd (omega arith)
run_events (n ∷ names) [] (es ∷ events) p h k = absurd (omega arith)
run_events (n ∷ names) (v ∷ vars) [] p h k = absurd (omega arith)
run_events (n ∷ names) (v ∷ vars) (es ∷ events) zero h k = refl
run_events (n ∷ names) (v ∷ vars) (es ∷ events) (suc p) h k = run_events names vars events p (omega arith) (omega arith)

-- what the run counts among the first events of a process
counts_are : (s : StatesView) (test : run.Event → Bool) (of : Kind → List ℕ) (p n : ℕ) → length s.header.procs ≡ length s.events → length s.header.vars ≡ length s.events
    → ((es : List Event) → length (ids of es) ≡ count_by test (map event_of es)) → count_by test (take n (run.process_at (trace_of s) p).events) ≡ length (ids of (take n (own_events s.events p)))
counts_are s test of p n h k counted =
    ap (λ (es : List run.Event). count_by test (take n es)) (run_events s.header.procs s.header.vars s.events p h k)
    ∙ ap (count_by test) (take-map event_of n (own_events s.events p)) ∙ sym (counted (take n (own_events s.events p)))

pub faultless_run : (s : StatesView) → length s.header.vars ≡ length s.header.procs → AreFaultless (length s.header.procs) s.events → IsLoggedRun (trace_of s)
faultless_run s whole faultless = record {
  run = λ watches. run_of_order (trace_of s) watches (subst IsOrder (sym clocks) order);
  receipts = λ watches p q differ c consistent.
      let received = counts_are s (λ (e : run.Event). run.is_receipt_from p e.kind) (received_id p) q (count c q) names vars (length-received_ids p) in
      let sent = counts_are s (λ (e : run.Event). run.is_send_to q e.kind) (sent_id q) p (count c p) names vars (length-sent_ids q) in
      let within = receipts_have_sends s.events p q c order (faultless_delivered (length s.header.procs) s.events faultless) (subst (λ (o : Clocks). IsConsistent o c) clocks consistent) in
      omega (arith, received, sent, within);
}
  where
    names : length s.header.procs ≡ length s.events
    names = sym (faultless_count (length s.header.procs) s.events faultless)

    vars : length s.header.vars ≡ length s.events
    vars = whole ∙ names

    clocks : run.clocks_of (trace_of s) ≡ clocks_of s.events
    clocks = trace_clocks s.header.procs s.header.vars s.events names vars

    order : IsOrder (clocks_of s.events)
    order = faultless_order (length s.header.procs) s.events faultless
