-- An event without a fault of its clock.
use Rattle.std.proofs.Common.{◌≡◌, ℕ, ◌-◌, ◌<◌, Bool, true, false, not, ◌&&◌, length, refl, sym, ap, ◌∙◌, subst, arith, inl, inr}
use Rattle.std.specs.Prelude.{◌==◌, nat_lt, Option, None, Some, if◌then◌else◌}
use Rattle.std.proofs.lemmas.Bool.{cases_lt, and_from, not-false, not_from_false, not_from_true, eqb-true, eq-eqb, cond-false, ne_eqb, lt-ltb, leb-false}
use Rattle.event_log.specs.PassedOn.{choose}
use Rattle.event_log.specs.declared.log.Event.{Event}
use Rattle.event_log.specs.declared.item.LogCode.TheVariants as code
use Rattle.run_model.specs.Cut.{Cut, Clocks, count, IsWithin, lengths}
use Rattle.run_model.specs.Consistent.{clock}
use Rattle.run_model.proofs.Counts.{count_past}
use Rattle.vector_clock.specs.Faults.{names, named_clock, has_wrong_own, goes_back, is_dangling, is_open, is_loop, clock_fault}
use Rattle.vector_clock.specs.Sound.{IsSound}
use Rattle.vector_clock.proofs.Below.{none_below, within_from}

some_none : {X : Type 0} (x : X) → Some x ≡ None → ⊥
some_none x h = cc

pub none_of : {X : Type 0} (b : Bool) (x : X) (rest : Option X) → (if b then Some x else rest) ≡ None → (b ≡ false) × (rest ≡ None)
none_of true x rest h = absurd (some_none x h)
none_of false x rest h = (refl, h)

-- no test of the clock finds a fault
pub record IsRight (o : Clocks) (a : ℕ) (e : Event) : Type 0 where
  pub own : has_wrong_own a e ≡ false
  pub back : goes_back o a e ≡ false
  pub dangling : is_dangling o e ≡ false
  pub open_ : is_open o e ≡ false
  pub loop : is_loop o a e ≡ false

pub no_fault_right : (o : Clocks) (a : ℕ) (e : Event) → clock_fault o a e ≡ None → IsRight o a e
no_fault_right o a e h =
    let own = none_of (has_wrong_own a e) code.ClockOwn _ h in
    let back = none_of (goes_back o a e) code.ClockBack _ own.1 in
    let dangling = none_of (is_dangling o e) code.ClockDangling _ back.1 in
    let opens = none_of (is_open o e) code.ClockOpen _ dangling.1 in
    let loop = none_of (is_loop o a e) code.ClockLoop None opens.1 in
    record { own = own.0; back = back.0; dangling = dangling.0; open_ = opens.0; loop = loop.0 }

passes : (x y : Bool) → (x && y) ≡ false → x ≡ true → y ≡ false
passes x y h is = ap (λ (b : Bool). b && y) (sym is) ∙ h

named_true : (e : Event) (j : ℕ) → (j ≡ e.process → ⊥) → 0 < count e.clock j → names e j ≡ true
named_true e j ne pos = and_from (not (j == e.process)) (nat_lt 0 (count e.clock j)) (not_from_false (j == e.process) (ne_eqb j e.process ne)) (lt-ltb 0 (count e.clock j) pos)

counted_there : (v : Cut) (j : ℕ) → 0 < count v j → j < length v
counted_there v j pos = elim (cases_lt j (length v)) [ inl lt ↦ lt | inr ge ↦ absurd (omega (arith, count_past v j ge)) ]

pub dangles_not : (o : Clocks) (e : Event) → is_dangling o e ≡ false → IsWithin e.clock (lengths o)
dangles_not o e h = within_from e.clock (lengths o) h

pub right_sound : (o : Clocks) (a : ℕ) (e : Event) → IsRight o a e → clock o e.process a ≡ e.clock → length e.clock ≡ length o → IsSound o e.process a
right_sound o a e right is width = record {
  shaped = ap length is ∙ width;
  own = ap (λ (v : Cut). count v e.process) is ∙ eqb-true (count e.clock e.process) a (not-false (count e.clock e.process == a) right.own);
  rises = λ lt. subst (IsWithin (clock o e.process (a - 1))) (sym is) (within_from (clock o e.process (a - 1)) e.clock (passes (nat_lt 1 a) _ right.back (lt-ltb 1 a lt)));
  named = subst (λ (v : Cut). IsWithin v (lengths o)) (sym is) (dangles_not o e right.dangling);
  closed = subst (λ (v : Cut). (j : ℕ) → (j ≡ e.process → ⊥) → 0 < count v j → IsWithin (clock o j (count v j)) v) (sym is)
      (λ j ne pos. within_from (named_clock o e j) e.clock (passes (names e j) _ (none_below _ (length e.clock) right.open_ j (counted_there e.clock j pos)) (named_true e j ne pos)));
  loopless = subst (λ (v : Cut). (j : ℕ) → (j ≡ e.process → ⊥) → 0 < count v j → count (clock o j (count v j)) e.process < a) (sym is)
      (λ j ne pos. leb-false a (count (named_clock o e j) e.process) (passes (names e j) _ (none_below _ (length e.clock) right.loop j (counted_there e.clock j pos)) (named_true e j ne pos)));
}

pub chosen_none : {X Y : Type 0} (f : Option X) (g : X → Y) (rest : Option Y) → choose f (λ x. Some (g x)) rest ≡ None → (f ≡ None) × (rest ≡ None)
chosen_none None g rest h = (refl, h)
chosen_none (Some x) g rest h = absurd (some_none (g x) h)

-- ---- the first fault, test by test

pub passed_to_dangling : (o : Clocks) (a : ℕ) (e : Event) → has_wrong_own a e ≡ false → goes_back o a e ≡ false → is_dangling o e ≡ false
    → clock_fault o a e ≡ (if is_open o e then Some code.ClockOpen else if is_loop o a e then Some code.ClockLoop else None)
passed_to_dangling o a e own back dangling =
    cond-false (has_wrong_own a e) _ _ own ∙ cond-false (goes_back o a e) _ _ back ∙ cond-false (is_dangling o e) _ _ dangling

pub right_own : (a : ℕ) (e : Event) → count e.clock e.process ≡ a → has_wrong_own a e ≡ false
right_own a e is = not_from_true (count e.clock e.process == a) (eq-eqb (count e.clock e.process) a is)
