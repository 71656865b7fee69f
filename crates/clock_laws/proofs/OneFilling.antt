-- Joined batches fill to the same.
use Rattle.std.proofs.Common.{◌≡◌, ℕ, ◌<◌, List, [], ◌∷◌, ◌++◌, length, map, get_or, drop, refl, sym, ap, ◌∙◌, subst, arith, inl, inr}
use Rattle.std.specs.Prelude.{None}
use Rattle.std.specs.List.{AllByRecursion}
use Rattle.std.proofs.lemmas.Bool.{cases_eq}
use Rattle.std.proofs.lemmas.List.{length-replicate, map-append}
use Rattle.event_log.specs.declared.log.Event.{Event}
use Rattle.event_log.specs.States.{with_event, with_batch}
use Rattle.vector_clock.specs.Events.{Events, EventStands, AllStand, no_events, own_events}
use Rattle.vector_clock.specs.Faults.{batch_fault, batches_fault}
use Rattle.vector_clock.specs.Fill.{Place, IsThere, event_at, upto_from, all_events}
use Rattle.vector_clock.specs.Filled.{filled_event, fill_from, filled_batch, filled_batches}
use Rattle.vector_clock.proofs.OneClock.{one_clock}
use Rattle.clock_laws.specs.Clocked.{without_clock, without_clocks, HaveTheirClocks}
use Rattle.clock_laws.specs.Joined.{as_one}
use Rattle.clock_laws.proofs.Own.{of_process, of_here, of_other, own_added}
use Rattle.clock_laws.proofs.Same.{same_count, same_len, same_there, same_at, same_places}
use Rattle.clock_laws.proofs.Filling.{same_process, unclocked_fill}
use Rattle.clock_laws.proofs.Logs.{none_own, none_clocked, one_more}
use Rattle.clock_laws.proofs.Joined.{joined_none, joined_events, all_append}
use Rattle.clock_laws.proofs.Sent.{one_batch_clocked}

-- ---- events that have their clocks are determined

event_is : (e f : Event) → without_clock e ≡ without_clock f → e.clock ≡ f.clock → e ≡ f
event_is e f same clock = λ i. record (same i) { clock = clock i }

pub one_filling : (procs : ℕ) (batches : List (List Event)) (f g : Events) → HaveTheirClocks procs batches f → HaveTheirClocks procs batches g → f ≡ g
one_filling procs batches f g one other = same_places f g (same_count without_clock f g same) (same_len without_clock f g same) event
  where
    same : without_clocks f ≡ without_clocks g
    same = one.events ∙ sym other.events

    event : (x : Place) → IsThere f x → event_at f x ≡ event_at g x
    event x here =
        let there : IsThere (all_events procs batches) x = same_there without_clock f (all_events procs batches) one.events x here in
        event_is (event_at f x) (event_at g x) (same_at without_clock f g same refl x)
        (one_clock (all_events procs batches) (upto_from (no_events procs) batches) x (event_at f x).clock (event_at g x).clock (one.clocks x there) (other.clocks x there))

-- ---- the same list of events

same_order : (procs : ℕ) (xs ys : List Event) → AllByRecursion (λ (e : Event). e.process < procs) xs → map without_clock xs ≡ map without_clock ys → ((p : ℕ) → p < procs → of_process xs p ≡ of_process ys p) → xs ≡ ys
same_order procs [] [] each same own = refl
same_order procs [] (y ∷ ys) each same own = absurd (omega (arith, ap length same))
same_order procs (x ∷ xs) [] each same own = absurd (omega (arith, ap length same))
same_order procs (x ∷ xs) (y ∷ ys) each same own = λ i. head i ∷ same_order procs xs ys each.1 (ap (drop 1) same) tail i
  where
    process : x.process ≡ y.process
    process = ap (λ (es : List Event). (get_or es 0 x).process) same

    here : x ∷ of_process xs x.process ≡ y ∷ of_process ys x.process
    here = sym (of_here x xs x.process refl) ∙ own x.process each.0 ∙ of_here y ys x.process (sym process)

    head : x ≡ y
    head = ap (λ (es : List Event). get_or es 0 x) here

    tail : (p : ℕ) → p < procs → of_process xs p ≡ of_process ys p
    tail p lt = elim (cases_eq x.process p) [
      | inl is ↦ subst (λ (q : ℕ). of_process xs q ≡ of_process ys q) is (ap (drop 1) here)
      | inr other ↦ sym (of_other x xs p other) ∙ own p lt ∙ of_other y ys p (λ q. other (process ∙ q))
    ]

-- ---- batches as one

unclocked_batches : (before : Events) (batches : List (List Event)) → map without_clock (as_one (filled_batches before batches)) ≡ map without_clock (as_one batches)
unfolding filled_batches
unclocked_batches before [] = refl
unclocked_batches before (b ∷ batches) =
    let full = filled_batch before b in
    map-append without_clock full (as_one (filled_batches (with_batch before full) batches))
    ∙ ap (λ (es : List Event). es ++ map without_clock (as_one (filled_batches (with_batch before full) batches))) (unclocked_fill (with_batch before b) before b)
    ∙ ap (λ (es : List Event). map without_clock b ++ es) (unclocked_batches (with_batch before full) batches)
    ∙ sym (map-append without_clock b (as_one batches))

pub all_of_one : (P : Event → Type 0) (batches : List (List Event)) → AllByRecursion (λ (b : List Event). AllByRecursion P b) batches → AllByRecursion P (as_one batches)
all_of_one P [] each = tt
all_of_one P (b ∷ batches) each = all_append P b (as_one batches) each.0 (all_of_one P batches each.1)

own_of : (procs : ℕ) (batch : List Event) (p : ℕ) → p < procs → own_events (with_batch (no_events procs) batch) p ≡ of_process batch p
own_of procs batch p lt =
    own_added (no_events procs) batch p (omega (arith, lt, length-replicate {A = List Event} procs []))
    ∙ ap (λ (es : List Event). es ++ of_process batch p) (empty (own_events (no_events procs) p) (none_own procs p))
  where
    empty : (es : List Event) → length es ≡ 0 → es ≡ []
    empty [] h = refl
    empty (e ∷ es) h = absurd (omega (arith, h))

placed : (procs : ℕ) (all before : Events) (es : List Event) → AllByRecursion (EventStands procs) es → AllByRecursion (λ (e : Event). e.process < procs) (fill_from all before es)
unfolding fill_from
placed procs all before [] stands = tt
placed procs all before (e ∷ es) stands = (omega (arith, stands.0.process, same_process all before e), placed procs all (with_event before (filled_event all before e)) es stands.1)

module _ (procs : ℕ) (batches : List (List Event)) (stand : AllStand procs batches) (none : batches_fault (no_events procs) (filled_batches (no_events procs) batches) ≡ None) where
  abbrev whole : List Event
  whole = filled_batch (no_events procs) (as_one batches)

  abbrev parts : List (List Event)
  parts = filled_batches (no_events procs) batches

  each : AllByRecursion (EventStands procs) (as_one batches)
  each = all_of_one (EventStands procs) batches stand

  -- the same events of each process
  pub same_events : with_batch (no_events procs) whole ≡ all_events procs parts
  same_events =
      one_filling procs (as_one batches ∷ []) (with_batch (no_events procs) whole) (all_events procs parts)
      (one_more procs [] (as_one batches) (no_events procs) (none_clocked procs) each) (one_batch_clocked procs batches stand none)

  pub same_filled : whole ≡ as_one parts
  same_filled = same_order procs whole (as_one parts) (placed procs (with_batch (no_events procs) (as_one batches)) (no_events procs) (as_one batches) each)
      (unclocked_fill (with_batch (no_events procs) (as_one batches)) (no_events procs) (as_one batches) ∙ sym (unclocked_batches (no_events procs) batches))
      (λ p lt. sym (own_of procs whole p lt) ∙ ap (λ (e : Events). own_events e p) (same_events ∙ sym (joined_events (no_events procs) parts)) ∙ own_of procs (as_one parts) p lt)

  pub no_fault_as_one : batch_fault (no_events procs) whole ≡ None
  no_fault_as_one = subst (λ (b : List Event). batch_fault (no_events procs) b ≡ None) (sym same_filled) (joined_none (no_events procs) parts none)
