-- A clock behind events that have their clocks is the clock among all events.
use Rattle.std.proofs.Common.{◌≡◌, ℕ, ◌-◌, ◌<◌, List, [], length, get_or, refl, sym, ap, ◌∙◌, subst, arith, inl, inr}
use Rattle.std.proofs.lemmas.List.{get_or-append_right}
use Rattle.run_model.specs.Cut.{Cut, count}
use Rattle.event_log.specs.declared.log.Event.{Event}
use Rattle.event_log.specs.States.{with_batch}
use Rattle.greatest_reach.specs.Back.{IsGreatest}
use Rattle.greatest_reach.proofs.Backs.{CutsOff, cut_off}
use Rattle.vector_clock.specs.declared.message.Message.{Message}
use Rattle.vector_clock.specs.Events.{Events, own_events}
use Rattle.vector_clock.specs.Messages.{first_send}
use Rattle.vector_clock.specs.Fill.{Place, IsThere, event_at, no_event, Links, Gives, HasClockOf}
use Rattle.clock_laws.specs.Clocked.{without_clock, without_clocks}
use Rattle.clock_laws.proofs.Own.{Grows, of_process, own_added, grows_batch, there_on, event_on, is_decided, is_behind}
use Rattle.clock_laws.proofs.Same.{same_count, same_len, same_there, same_send}
use Rattle.clock_laws.proofs.Unclocked.{same_more}
use Rattle.clock_laws.proofs.Staying.{HasSame, by_event, gives_same, links_same, KeepsSends, clock_stays}

-- the filled events are the raw ones but for their clocks, and have the clocks that those have
pub record AreClocked (raw filled : Events) (among : Place → Events) : Type 0 where
  pub events : without_clocks filled ≡ without_clocks raw
  pub clocks : (x : Place) → IsThere raw x → HasClockOf raw among x (event_at filled x).clock

-- an event behind those of its process stands in the batch
pub event_behind : (events : Events) (batch : List Event) (x : Place) (n : ℕ) → x.process < length events → length (own_events events x.process) ≡ n → n < x.position
    → event_at (with_batch events batch) x ≡ get_or (of_process batch x.process) (x.position - 1 - n) no_event
event_behind events batch x n there len behind =
    ap (λ (es : List Event). get_or es (x.position - 1) no_event) (own_added events batch x.process there)
    ∙ get_or-append_right (own_events events x.process) (of_process batch x.process) n (x.position - 1) no_event len (omega (arith, behind))

module _ (raw filled : Events) (batch : List Event) (among now : Place → Events) (are : AreClocked raw filled among) (keeps : KeepsSends raw among now)
    (new_sends : (x : Place) (m : Message) → IsThere (with_batch raw batch) x → (IsThere raw x → ⊥) → first_send (now x) m ≡ first_send (with_batch raw batch) m) where
  abbrev new : Events
  new = with_batch raw batch

  abbrev mixed : Events
  mixed = with_batch filled batch

  pub still_same : without_clocks mixed ≡ without_clocks new
  still_same = same_more filled raw batch batch are.events refl

  grows : Grows raw new
  grows = grows_batch raw batch

  filled_there : (x : Place) → IsThere raw x → IsThere filled x
  filled_there x there = same_there without_clock raw filled (sym are.events) x there

  -- an old event is filled, and written there
  mixed_old : (x : Place) → IsThere raw x → event_at mixed x ≡ event_at filled x
  mixed_old x there = event_on filled mixed x (grows_batch filled batch) (filled_there x there)

  is_written : (x : Place) → IsThere raw x → (event_at mixed x).clock ≡ [] → ⊥
  is_written x there none = omega (arith, there.process, (are.clocks x there).width, ap (λ (e : Event). length e.clock) (mixed_old x there), ap length none)

  -- a new one is the same in both
  mixed_new : (x : Place) → IsThere new x → (IsThere raw x → ⊥) → event_at mixed x ≡ event_at new x
  mixed_new x there not =
      let n = length (own_events raw x.process) in
      let behind = is_behind raw new x grows not there in
      event_behind filled batch x n (omega (arith, there.process, grows.count, same_count without_clock filled raw are.events)) (same_len without_clock filled raw are.events x.process) behind
      ∙ sym (event_behind raw batch x n (omega (arith, there.process, grows.count)) refl behind)

  stays_there : (x : Place) → IsThere mixed x → IsThere new x
  stays_there x there = same_there without_clock mixed new still_same x there

  same_sends : (x : Place) (m : Message) → IsThere new x → (IsThere raw x → ⊥) → first_send (now x) m ≡ first_send mixed m
  same_sends x m there not = new_sends x m there not ∙ sym (same_send without_clock mixed new still_same m (λ e. refl))

  pub old_stays : (x : Place) → IsThere raw x → HasClockOf new now x (event_at filled x).clock
  old_stays x there = clock_stays raw new among now grows keeps x (event_at filled x).clock there (are.clocks x there)

  forth : (x : Place) → IsThere new x → (IsThere raw x → ⊥) → HasSame new mixed x
  forth x there not = by_event new mixed x (same_there without_clock new mixed (sym still_same) x there) (mixed_new x there not)

  back : (x : Place) → IsThere new x → (IsThere raw x → ⊥) → HasSame mixed new x
  back x there not = by_event mixed new x there (sym (mixed_new x there not))

  cuts : (j : ℕ) → j < length new → CutsOff (Links new now) (Links mixed (λ y. mixed)) (Gives new j) (Gives mixed j) (IsThere raw)
  cuts j below = record {
    decides = is_decided raw;
    fewer = λ x y l.
        let not : IsThere raw x → ⊥ = λ there. is_written x there l.left_out.1 in
        let there = stays_there x l.left_out.0 in
        links_same mixed new (λ z. mixed) now x y (back x there not) (λ m is. same_sends x m there not) l;
    kept = λ x y not l. links_same new mixed now (λ z. mixed) x y (forth x l.left_out.0 not) (λ m is. sym (same_sends x m l.left_out.0 not)) l;
    gives = λ x n not g. gives_same mixed new j x n (back x (stays_there x (is_there g)) not) g;
    given = λ x n not g. gives_same new mixed j x n (forth x (is_there_new g) not) g;
    known = λ x n there g. subst (IsGreatest (Links new now) (Gives new j) x) (sym (is_count x n there g)) ((old_stays x there).counts j below);
    has = λ x there. (count (event_at mixed x).clock j, inl ((mixed_there x there, is_written x there), refl));
  }
    where
      is_there : {x : Place} {n : ℕ} → Gives mixed j x n → IsThere mixed x
      is_there (inl w) = w.0.0
      is_there (inr o) = o.0.0

      is_there_new : {x : Place} {n : ℕ} → Gives new j x n → IsThere new x
      is_there_new (inl w) = w.0.0
      is_there_new (inr o) = o.0.0

      mixed_there : (x : Place) → IsThere raw x → IsThere mixed x
      mixed_there x there = there_on filled mixed x (grows_batch filled batch) (filled_there x there)

      is_count : (x : Place) (n : ℕ) → IsThere raw x → Gives mixed j x n → n ≡ count (event_at filled x).clock j
      is_count x n there (inl w) = w.1 ∙ ap (λ (e : Event). count e.clock j) (mixed_old x there)
      is_count x n there (inr o) = absurd (is_written x there o.0.1)

  pub behind_is_in : (x : Place) (c : Cut) → HasClockOf mixed (λ y. mixed) x c → HasClockOf new now x c
  behind_is_in x c has = record {
    width = has.width ∙ same_count without_clock mixed new still_same;
    counts = λ j below. cut_off (Links new now) (Links mixed (λ y. mixed)) (Gives new j) (Gives mixed j) (IsThere raw) (cuts j below) x (count c j) (has.counts j (omega (arith, below, same_count without_clock mixed new still_same)));
  }
