-- Batches of a log, each filled behind those before it.
use Rattle.std.proofs.Common.{◌≡◌, ℕ, zero, suc, ◌<◌, ◌≤◌, List, [], ◌∷◌, ◌++◌, length, refl, sym, ap, ◌∙◌, subst, arith, inl, inr, append_assoc, append-nil}
use Rattle.std.specs.Prelude.{nat_le}
use Rattle.std.specs.List.{AllByRecursion}
use Rattle.std.proofs.lemmas.Bool.{cases_lt, cond-true, cond-false, le-leb, lt-leb}
use Rattle.std.proofs.lemmas.List.{length-replicate}
use Rattle.run_model.specs.Cut.{Cut}
use Rattle.event_log.specs.declared.log.Event.{Event}
use Rattle.event_log.specs.States.{with_batch, with_batches}
use Rattle.vector_clock.specs.declared.message.Message.{Message}
use Rattle.vector_clock.specs.Events.{Events, EventStands, AllStand, no_events, own_events}
use Rattle.vector_clock.specs.Messages.{first_send}
use Rattle.vector_clock.specs.Fill.{Place, IsThere, HasClockOf, upto_from, all_events, IsClockIn, IsClockBehind}
use Rattle.vector_clock.specs.Filled.{filled_batch, filled_batches}
use Rattle.clock_laws.specs.Clocked.{without_clocks, HaveTheirClocks}
use Rattle.clock_laws.proofs.Own.{Grows, grows_none, grows_batch, grows_batches, own_longer, there_on, send_there, is_behind}
use Rattle.clock_laws.proofs.Staying.{KeepsSends, clock_stays}
use Rattle.clock_laws.proofs.Behind.{AreClocked, behind_is_in}
use Rattle.clock_laws.proofs.OneBatch.{clocked_more}

-- ---- the events up to the end of a batch

pub with_batches-push : (events : Events) (batches : List (List Event)) (batch : List Event) → with_batches events (batches ++ batch ∷ []) ≡ with_batch (with_batches events batches) batch
with_batches-push events [] batch = refl
with_batches-push events (b ∷ batches) batch = with_batches-push (with_batch events b) batches batch

module _ (x : Place) where
  -- how many events the process has
  abbrev count_in : Events → ℕ
  count_in events = length (own_events events x.process)

  upto_inside : (before : Events) (batches : List (List Event)) → Grows (upto_from before batches x) (with_batches before batches)
  unfolding upto_from
  upto_inside before [] = grows_none before
  upto_inside before (b ∷ batches) = elim (cases_lt (count_in (with_batch before b)) x.position) [
    | inl later ↦
        subst (λ (e : Events). Grows e (with_batches (with_batch before b) batches)) (sym (cond-false (nat_le x.position (count_in (with_batch before b))) _ _ (lt-leb x.position (count_in (with_batch before b)) later)))
        (upto_inside (with_batch before b) batches)
    | inr now ↦
        subst (λ (e : Events). Grows e (with_batches (with_batch before b) batches)) (sym (cond-true (nat_le x.position (count_in (with_batch before b))) _ _ (le-leb x.position (count_in (with_batch before b)) now)))
        (grows_batches (with_batch before b) batches)
  ]

  -- an event of the batches before
  upto_old : (before : Events) (batches : List (List Event)) (batch : List Event) → count_in before < x.position → x.position ≤ count_in (with_batches before batches)
      → upto_from before (batches ++ batch ∷ []) x ≡ upto_from before batches x
  unfolding upto_from
  upto_old before [] batch above there = absurd (omega (arith, above, there))
  upto_old before (b ∷ batches) batch above there = elim (cases_lt (count_in (with_batch before b)) x.position) [
    | inl later ↦
        let test = lt-leb x.position (count_in (with_batch before b)) later in
        cond-false (nat_le x.position (count_in (with_batch before b))) _ _ test ∙ upto_old (with_batch before b) batches batch later there
        ∙ sym (cond-false (nat_le x.position (count_in (with_batch before b))) _ _ test)
    | inr now ↦
        let test = le-leb x.position (count_in (with_batch before b)) now in
        cond-true (nat_le x.position (count_in (with_batch before b))) _ _ test ∙ sym (cond-true (nat_le x.position (count_in (with_batch before b))) _ _ test)
  ]

  -- an event of the last batch
  pub upto_new : (before : Events) (batches : List (List Event)) (batch : List Event) → count_in (with_batches before batches) < x.position → x.position ≤ count_in (with_batch (with_batches before batches) batch)
      → upto_from before (batches ++ batch ∷ []) x ≡ with_batch (with_batches before batches) batch
  unfolding upto_from
  upto_new before [] batch above there = cond-true (nat_le x.position (count_in (with_batch before batch))) _ _ (le-leb x.position (count_in (with_batch before batch)) there)
  upto_new before (b ∷ batches) batch above there =
      let longer = own_longer (with_batch before b) (with_batches (with_batch before b) batches) x.process (grows_batches (with_batch before b) batches) in
      cond-false (nat_le x.position (count_in (with_batch before b))) _ _ (lt-leb x.position (count_in (with_batch before b)) (omega (arith, longer, above)))
      ∙ upto_new (with_batch before b) batches batch above there

-- ---- one batch more

pub none_own : (procs p : ℕ) → length (own_events (no_events procs) p) ≡ 0
none_own zero p = refl
none_own (suc procs) zero = refl
none_own (suc procs) (suc p) = none_own procs p

module _ (procs : ℕ) (batches : List (List Event)) (batch : List Event) where
  abbrev old : Events
  old = all_events procs batches

  abbrev new : Events
  new = with_batch old batch

  abbrev among : Place → Events
  among = upto_from (no_events procs) batches

  abbrev now : Place → Events
  now = upto_from (no_events procs) (batches ++ batch ∷ [])

  keeps : KeepsSends old among now
  keeps = record {
    within = λ x m a there is. there_on (among x) old (record { process = m.sender; position = a }) (upto_inside x (no_events procs) batches) (send_there (among x) m a is);
    stays = λ x m there is. ap (λ (e : Events). first_send e m) (upto_old x (no_events procs) batches batch (omega (arith, there.first, none_own procs x.process)) there.last);
  }

  new_sends : (x : Place) (m : Message) → IsThere new x → (IsThere old x → ⊥) → first_send (now x) m ≡ first_send new m
  new_sends x m there not = ap (λ (e : Events). first_send e m) (upto_new x (no_events procs) batches batch (is_behind old new x (grows_batch old batch) not there) there.last)

  -- the same, where the batch stands among the others
  in_log : (x : Place) (c : Cut) → HasClockOf new now x c → IsClockIn procs (batches ++ batch ∷ []) x c
  in_log x c has = subst (λ (e : Events). HasClockOf e now x c) (sym (with_batches-push (no_events procs) batches batch)) has

  pub earlier_stays : (x : Place) (c : Cut) → IsThere old x → IsClockIn procs batches x c → IsClockIn procs (batches ++ batch ∷ []) x c
  earlier_stays x c there has = in_log x c (clock_stays old new among now (grows_batch old batch) keeps x c there has)

  module _ (filled : Events) (have : HaveTheirClocks procs batches filled) where
    are : AreClocked old filled among
    are = record { events = have.events; clocks = have.clocks }

    pub clock_behind : (x : Place) (c : Cut) → IsClockBehind filled batch x c → IsClockIn procs (batches ++ batch ∷ []) x c
    clock_behind x c has = in_log x c (behind_is_in old filled batch among now are keeps new_sends x c has)

    pub one_more : AllByRecursion (EventStands procs) batch → HaveTheirClocks procs (batches ++ batch ∷ []) (with_batch filled (filled_batch filled batch))
    one_more stands =
        let push : all_events procs (batches ++ batch ∷ []) ≡ new = with_batches-push (no_events procs) batches batch in
        let size : length old ≡ procs = (grows_batches (no_events procs) batches).count ∙ length-replicate procs [] in
        let more = clocked_more old filled batch among now are keeps new_sends (subst (λ (n : ℕ). AllByRecursion (EventStands n) batch) (sym size) stands) in
        record {
          events = more.events ∙ ap without_clocks (sym push);
          clocks = λ x there. in_log x _ (more.clocks x (subst (λ (e : Events). IsThere e x) push there));
        }

-- ---- all batches

pub none_clocked : (procs : ℕ) → HaveTheirClocks procs [] (no_events procs)
none_clocked procs = record { events = refl; clocks = λ x there. absurd (omega (arith, there.first, there.last, none_own procs x.process)) }

behind_clocked : (procs : ℕ) (done : List (List Event)) (filled : Events) (rest : List (List Event)) → AllStand procs rest → HaveTheirClocks procs done filled
    → HaveTheirClocks procs (done ++ rest) (with_batches filled (filled_batches filled rest))
unfolding filled_batches
behind_clocked procs done filled [] stand have = subst (λ (bs : List (List Event)). HaveTheirClocks procs bs filled) (sym (append-nil done)) have
behind_clocked procs done filled (b ∷ rest) stand have =
    let next = with_batch filled (filled_batch filled b) in
    subst (λ (bs : List (List Event)). HaveTheirClocks procs bs (with_batches next (filled_batches next rest))) (append_assoc done (b ∷ []) rest)
    (behind_clocked procs (done ++ b ∷ []) next rest stand.1 (one_more procs done b filled have stand.0))

pub log_clocked : (procs : ℕ) (batches : List (List Event)) → AllStand procs batches → HaveTheirClocks procs batches (all_events procs (filled_batches (no_events procs) batches))
log_clocked procs batches stand = behind_clocked procs [] (no_events procs) batches stand (none_clocked procs)
