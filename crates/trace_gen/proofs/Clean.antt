-- The clock of an event of an order has no fault.
use Rattle.std.proofs.Common.{◌≡◌, ℕ, ◌+◌, ◌-◌, ◌<◌, ◌≤◌, true, false, not, List, [], ◌++◌, length, map, get_or, sym, ap, ◌∙◌, subst, arith, inl, inr, cond}
use Rattle.std.specs.Prelude.{◌==◌, nat_lt, None, Some}
use Rattle.std.proofs.lemmas.Bool.{cases_lt, cases_Bool, and_left, and_right, and_parts, not-true, eqb-false, ltb-true, le-ltb, lt-leb}
use Rattle.std.proofs.lemmas.List.{map-append}
use Rattle.run_model.specs.Cut.{Cut, Clocks, count, IsWithin, lengths}
use Rattle.run_model.specs.Consistent.{IsOrder, clock}
use Rattle.event_log.specs.declared.item.LogCode.TheVariants as code
use Rattle.event_log.specs.declared.log.Event.{Event}
use Rattle.event_log.specs.States.{with_event}
use Rattle.causal_order.specs.Growth.{HasGrown, with_row}
use Rattle.causal_order.proofs.Growing.{count-lengths}
use Rattle.vector_clock.specs.Events.{Events, own_events, clocks_of, place}
use Rattle.vector_clock.specs.Faults.{names, named_clock, has_wrong_own, goes_back, is_dangling, is_open, is_loop, clock_fault}
use Rattle.vector_clock.specs.Sound.{IsSound}
use Rattle.vector_clock.proofs.Below.{none_from, not_beyond}
use Rattle.vector_clock.proofs.Faultless.{right_own}
use Rattle.vector_clock.proofs.Growth.{length-clocks_of, own_clocks, own_count, clocks_one, next_clock, next_there}
use Rattle.vector_clock.proofs.SoundOrders.{order_sound}
use Rattle.trace_gen.proofs.Places.{HasMore}

module _ (o : Clocks) (a : ℕ) (e : Event) (sound : IsSound o e.process a) (is : clock o e.process a ≡ e.clock) where
  own_right : has_wrong_own a e ≡ false
  own_right = right_own a e (ap (λ (c : Cut). count c e.process) (sym is) ∙ sound.own)

  rises : goes_back o a e ≡ false
  rises = elim (cases_lt 1 a) [
    | inl later ↦ and_right (nat_lt 1 a) _ (not_beyond (clock o e.process (a - 1)) e.clock (subst (IsWithin (clock o e.process (a - 1))) is (sound.rises later)))
    | inr first ↦ and_left (nat_lt 1 a) _ (le-ltb 1 a first)
  ]

  known : is_dangling o e ≡ false
  known = not_beyond e.clock (lengths o) (subst (λ (c : Cut). IsWithin c (lengths o)) is sound.named)

  -- a named event is another process's, and is counted
  named : (j : ℕ) → names e j ≡ true → (j ≡ e.process → ⊥) × (0 < count (clock o e.process a) j) × (named_clock o e j ≡ clock o j (count (clock o e.process a) j))
  named j h =
      let parts = and_parts (not (j == e.process)) (nat_lt 0 (count e.clock j)) h in (
        eqb-false j e.process (not-true (j == e.process) parts.0),
        omega (arith, ltb-true 0 (count e.clock j) parts.1, ap (λ (c : Cut). count c j) is),
        ap (λ (c : Cut). clock o j (count c j)) (sym is),
      )

  closed : is_open o e ≡ false
  closed = none_from _ (length e.clock) (λ j lt. elim (cases_Bool (names e j)) [
    | inl h ↦
        let n = named j h in
        and_right (names e j) _ (not_beyond (named_clock o e j) e.clock (subst (λ (c : Cut). IsWithin c e.clock) (sym n.2) (subst (IsWithin (clock o j (count (clock o e.process a) j))) is (sound.closed j n.0 n.1))))
    | inr h ↦ and_left (names e j) _ h
  ])

  loopless : is_loop o a e ≡ false
  loopless = none_from _ (length e.clock) (λ j lt. elim (cases_Bool (names e j)) [
    | inl h ↦
        let n = named j h in
        and_right (names e j) _ (lt-leb a (count (named_clock o e j) e.process) (subst (λ (c : Cut). count c e.process < a) (sym n.2) (sound.loopless j n.0 n.1)))
    | inr h ↦ and_left (names e j) _ h
  ])

  pub sound_is_clean : clock_fault o a e ≡ None
  sound_is_clean i = cond (own_right i) (Some code.ClockOwn) (cond (rises i) (Some code.ClockBack) (cond (known i) (Some code.ClockDangling)
      (cond (closed i) (Some code.ClockOpen) (cond (loopless i) (Some code.ClockLoop) None))))

-- ---- events with more behind them

grown : (before all : Events) → length all ≡ length before → HasMore before all → HasGrown (clocks_of before) (clocks_of all)
grown before all same more = record {
  count = length-clocks_of all ∙ same ∙ sym (length-clocks_of before);
  each = λ p.
      let m = more p in (
        map (λ (e : Event). e.clock) m.0,
        own_clocks all p ∙ ap (map (λ (e : Event). e.clock)) m.1 ∙ map-append (λ (e : Event). e.clock) (own_events before p) m.0
            ∙ ap (λ (cs : List Cut). cs ++ map (λ (e : Event). e.clock) m.0) (sym (own_clocks before p)),
      );
}

-- an event of a table whose clocks are those of an order
pub clean_clock : (before all : Events) (e : Event) → e.process < length before → length all ≡ length (with_event before e) → HasMore (with_event before e) all
    → IsOrder (clocks_of all) → clock_fault (clocks_of all) (place before e) e ≡ None
clean_clock before all e there same more order =
    let o = clocks_of before in
    let in_o : e.process < length o = omega (arith, there, length-clocks_of before) in
    let step : HasGrown (with_row o e.process e.clock) (clocks_of all) = subst (λ (x : Clocks). HasGrown x (clocks_of all)) (clocks_one before e) (grown (with_event before e) all same more) in
    let at : length (get_or o e.process []) + 1 ≡ place before e = ap (λ n. n + 1) (own_count before e.process) in
    let is : clock (clocks_of all) e.process (place before e) ≡ e.clock = subst (λ n. clock (clocks_of all) e.process n ≡ e.clock) at (next_clock o (clocks_of all) e.process e.clock step in_o) in
    let last : place before e ≤ count (lengths (clocks_of all)) e.process = omega (arith, at, next_there o (clocks_of all) e.process e.clock step in_o, count-lengths (clocks_of all) e.process) in
    sound_is_clean (clocks_of all) (place before e) e (order_sound (clocks_of all) order e.process (place before e) (omega arith, last)) is
