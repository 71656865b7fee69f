-- Clocks without a fault are those of an order, and they stay so when events are added.
use Rattle.std.proofs.Common.{◌≡◌, ℕ, zero, suc, ◌+◌, ◌-◌, ◌<◌, ◌≤◌, List, [], length, get_or, refl, sym, ap, ◌∙◌, subst, arith, inl, inr, le_refl, length-append}
use Rattle.std.proofs.lemmas.Bool.{cases_eq, cases_lt}
use Rattle.std.proofs.lemmas.List.{get_or_append_left}
use Rattle.run_model.specs.Cut.{Cut, Clocks, count, IsWithin, lengths}
use Rattle.run_model.specs.Consistent.{IsEvent, IsOrder, clock}
use Rattle.run_model.proofs.Counts.{within_trans, within_refl}
use Rattle.causal_order.specs.Growth.{HasGrown}
use Rattle.causal_order.proofs.Growing.{count-lengths}
use Rattle.vector_clock.specs.Sound.{IsSound}

abbrev pub AllSound : Clocks → Clocks → Type 0
AllSound o all = (i a : ℕ) → IsEvent (lengths o) i a → IsSound all i a

-- the clocks of a process rise
rise : (o : Clocks) → AllSound o o → (i b d : ℕ) → IsEvent (lengths o) i (b + d) → 0 < b → IsWithin (clock o i b) (clock o i (b + d))
rise o all i b zero ev pos = subst (λ (k : ℕ). IsWithin (clock o i b) (clock o i k)) (omega arith) (within_refl (clock o i b))
rise o all i b (suc d) ev pos =
    let before : IsEvent (lengths o) i (b + d) = (omega arith, omega (arith, ev.1)) in
    let place : b + suc d - 1 ≡ b + d = omega arith in
    let step : IsWithin (clock o i (b + d)) (clock o i (b + suc d)) = subst (λ (k : ℕ). IsWithin (clock o i k) (clock o i (b + suc d))) place ((all i (b + suc d) ev).rises (omega arith)) in
    within_trans (clock o i b) (clock o i (b + d)) (clock o i (b + suc d)) (rise o all i b d before pos) step

rise_to : (o : Clocks) → AllSound o o → (i b a : ℕ) → IsEvent (lengths o) i a → 0 < b → b ≤ a → IsWithin (clock o i b) (clock o i a)
rise_to o all i b a ev pos le =
    let sum : b + (a - b) ≡ a = omega arith in
    subst (λ (k : ℕ). IsWithin (clock o i b) (clock o i k)) sum (rise o all i b (a - b) (subst (λ (k : ℕ). IsEvent (lengths o) i k) (sym sum) ev) pos)

pub sound_order : (o : Clocks) → AllSound o o → IsOrder o
sound_order o all = record {
  shaped = λ i a ev. (all i a ev).shaped;
  own = λ i a ev. (all i a ev).own;
  named = λ i a ev. (all i a ev).named;
  transitive = λ i a j b ev inner. past i a j b ev inner;
  loopless = λ i a j b ev inner le. elim (cases_eq j i) [
    | inl e ↦ (sym e, same i a j b ev inner le e)
    | inr ne ↦
        let pos : 0 < count (clock o i a) j = omega (arith, inner.0, inner.1) in
        let named : IsEvent (lengths o) j (count (clock o i a) j) = (pos, (all i a ev).named j) in
        let up = rise_to o all j b (count (clock o i a) j) named inner.0 inner.1 i in
        let low = (all i a ev).loopless j ne pos in
        absurd (omega (arith, up, low, le))
  ];
}
  where
    past : (i a j b : ℕ) → IsEvent (lengths o) i a → IsEvent (clock o i a) j b → IsWithin (clock o j b) (clock o i a)
    past i a j b ev inner = elim (cases_eq j i) [
      | inl e ↦
          let le : b ≤ a = subst (λ (k : ℕ). b ≤ k) ((all i a ev).own) (subst (λ (k : ℕ). b ≤ count (clock o i a) k) e inner.1) in
          subst (λ (k : ℕ). IsWithin (clock o k b) (clock o i a)) (sym e) (rise_to o all i b a ev inner.0 le)
      | inr ne ↦
          let pos : 0 < count (clock o i a) j = omega (arith, inner.0, inner.1) in
          let named : IsEvent (lengths o) j (count (clock o i a) j) = (pos, (all i a ev).named j) in
          within_trans (clock o j b) (clock o j (count (clock o i a) j)) (clock o i a) (rise_to o all j b (count (clock o i a) j) named inner.0 inner.1)
          ((all i a ev).closed j ne pos)
    ]

    same : (i a j b : ℕ) → IsEvent (lengths o) i a → IsEvent (clock o i a) j b → a ≤ count (clock o j b) i → j ≡ i → a ≡ b
    same i a j b ev inner le e =
        let in_own : b ≤ a = subst (λ (k : ℕ). b ≤ k) ((all i a ev).own) (subst (λ (k : ℕ). b ≤ count (clock o i a) k) e inner.1) in
        let there : IsEvent (lengths o) i b = (inner.0, omega (arith, ev.1)) in
        let own : count (clock o i b) i ≡ b = (all i b there).own in
        let le' : a ≤ count (clock o i b) i = subst (λ (k : ℕ). a ≤ count (clock o k b) i) e le in
        omega arith

pub order_sound : (o : Clocks) → IsOrder o → AllSound o o
order_sound o order i a ev = record {
  shaped = order.shaped i a ev;
  own = order.own i a ev;
  rises = λ lt. order.transitive i a i (a - 1) ev (omega arith, omega (arith, order.own i a ev));
  named = order.named i a ev;
  closed = λ j ne pos. order.transitive i a j (count (clock o i a) j) ev (pos, le_refl (count (clock o i a) j));
  loopless = λ j ne pos. elim (cases_lt (count (clock o j (count (clock o i a) j)) i) a) [
    | inl lt ↦ lt
    | inr ge ↦ absurd (ne (sym (order.loopless i a j (count (clock o i a) j) ev (pos, le_refl (count (clock o i a) j)) ge).0))
  ];
}

-- ---- events that are added change no clock before them

pub same_clock : (o all : Clocks) (i a : ℕ) → HasGrown o all → IsEvent (lengths o) i a → clock all i a ≡ clock o i a
unfolding clock
same_clock o all i zero grown ev = refl
same_clock o all i (suc a) grown ev =
    let g = grown.each i in
    ap (λ (rs : List Cut). get_or rs a []) g.1 ∙ get_or_append_left (get_or o i []) g.0 [] a (omega (arith, ev.1, count-lengths o i))

pub lengths_grow : (o all : Clocks) → HasGrown o all → IsWithin (lengths o) (lengths all)
lengths_grow o all grown p =
    let g = grown.each p in
    omega (arith, count-lengths o p, count-lengths all p, ap length g.1, length-append (get_or o p []) g.0)

pub sound_along : (o all : Clocks) → HasGrown o all → AllSound o o → AllSound o all
sound_along o all grown sound i a ev = record {
  shaped = ap length here ∙ s.shaped ∙ sym grown.count;
  own = ap (λ (v : Cut). count v i) here ∙ s.own;
  rises = λ lt k. omega (arith, ap (λ (v : Cut). count v k) here, ap (λ (v : Cut). count v k) (same_clock o all i (a - 1) grown (omega arith, omega (arith, ev.1))), s.rises lt k);
  named = λ k. omega (arith, ap (λ (v : Cut). count v k) here, s.named k, lengths_grow o all grown k);
  closed = λ j ne pos k.
      let old : 0 < count (clock o i a) j = omega (arith, ap (λ (v : Cut). count v j) here) in
      omega (arith, ap (λ (v : Cut). count v k) (named j old), ap (λ (v : Cut). count v k) here, s.closed j ne old k);
  loopless = λ j ne pos.
      let old : 0 < count (clock o i a) j = omega (arith, ap (λ (v : Cut). count v j) here) in
      omega (arith, ap (λ (v : Cut). count v i) (named j old), s.loopless j ne old);
}
  where
    s : IsSound o i a
    s = sound i a ev

    here : clock all i a ≡ clock o i a
    here = same_clock o all i a grown ev

    named : (j : ℕ) → 0 < count (clock o i a) j → clock all j (count (clock all i a) j) ≡ clock o j (count (clock o i a) j)
    named j pos = ap (λ (v : Cut). clock all j (count v j)) here ∙ same_clock o all j (count (clock o i a) j) grown (pos, s.named j)
