-- Only the events that a clock newly names need be looked at.
use Rattle.std.proofs.Common.{◌≡◌, ℕ, ◌-◌, ◌<◌, ◌≤◌, Bool, true, false, not, ◌&&◌, length, sym, ap, ◌∙◌, arith, inl, inr}
use Rattle.std.specs.Prelude.{◌==◌, nat_lt, nat_le}
use Rattle.std.proofs.lemmas.Bool.{cases_eq, cases_lt, and_left, and_right, and_from, not_from_true, not_from_false, eq-eqb, ne_eqb, lt-ltb, le-ltb, lt-leb, cond-true, cond-false}
use Rattle.run_model.specs.Cut.{Cut, Clocks, count, IsWithin}
use Rattle.run_model.specs.Consistent.{clock}
use Rattle.event_log.specs.declared.log.Event.{Event}
use Rattle.vector_clock.specs.Events.{is_beyond}
use Rattle.vector_clock.specs.Faults.{names, named_clock, goes_back, is_open, is_loop}
use Rattle.vector_clock.specs.Sound.{IsSound, counted_before, newly_names, is_newly_open}
use Rattle.vector_clock.specs.Sound.{is_newly_loop}
use Rattle.vector_clock.proofs.Below.{same_below, within_from, not_beyond}

-- what fails at each event that isn't new is the same by either rule
same_test : (o : Clocks) (a : ℕ) (e : Event) (j : ℕ) (test : Bool) → (0 < count e.clock j → (j ≡ e.process → ⊥) → count e.clock j ≤ counted_before o e.process a j → test ≡ false)
    → (names e j && test) ≡ (newly_names o a e j && test)
same_test o a e j test old = elim (cases_eq j e.process) [
  | inl same ↦
      let none : not (j == e.process) ≡ false = not_from_true (j == e.process) (eq-eqb j e.process same) in
      and_left (names e j) test (and_left (not (j == e.process)) (nat_lt 0 (count e.clock j)) none)
      ∙ sym (and_left (newly_names o a e j) test (and_left (not (j == e.process)) (nat_lt (counted_before o e.process a j) (count e.clock j)) none))
  | inr other ↦
      let some : not (j == e.process) ≡ true = not_from_false (j == e.process) (ne_eqb j e.process other) in
      elim (cases_lt (counted_before o e.process a j) (count e.clock j)) [
        | inl new ↦
            let named : names e j ≡ true = and_from (not (j == e.process)) (nat_lt 0 (count e.clock j)) some (lt-ltb 0 (count e.clock j) (omega arith)) in
            let newly : newly_names o a e j ≡ true = and_from (not (j == e.process)) (nat_lt (counted_before o e.process a j) (count e.clock j)) some (lt-ltb (counted_before o e.process a j) (count e.clock j) new) in
            ap (λ (b : Bool). b && test) (named ∙ sym newly)
        | inr known ↦
            let newly : newly_names o a e j ≡ false = and_right (not (j == e.process)) (nat_lt (counted_before o e.process a j) (count e.clock j)) (le-ltb (counted_before o e.process a j) (count e.clock j) known) in
            left known other ∙ sym (and_left (newly_names o a e j) test newly)
      ]
]
  where
    left : count e.clock j ≤ counted_before o e.process a j → (j ≡ e.process → ⊥) → (names e j && test) ≡ false
    left known other = elim (cases_lt 0 (count e.clock j)) [
      | inl pos ↦ and_right (names e j) test (old pos other known)
      | inr none ↦ and_left (names e j) test (and_right (not (j == e.process)) (nat_lt 0 (count e.clock j)) (le-ltb 0 (count e.clock j) none))
    ]

-- an event that isn't new is named by the event before too
record IsOld (o : Clocks) (a : ℕ) (e : Event) (j : ℕ) : Type 0 where
  pub later : 1 < a
  pub same : count e.clock j ≡ count (clock o e.process (a - 1)) j
  pub within : IsWithin (clock o e.process (a - 1)) e.clock

is_old : (o : Clocks) (a : ℕ) (e : Event) (j : ℕ) → goes_back o a e ≡ false → 0 < count e.clock j → count e.clock j ≤ counted_before o e.process a j → IsOld o a e j
is_old o a e j back pos known = elim (cases_lt 1 a) [
  | inl lt ↦
      let first : nat_lt 1 a ≡ true = lt-ltb 1 a lt in
      let counted : counted_before o e.process a j ≡ count (clock o e.process (a - 1)) j = cond-true (nat_lt 1 a) (count (clock o e.process (a - 1)) j) 0 first in
      let rises : is_beyond (clock o e.process (a - 1)) e.clock ≡ false = ap (λ (b : Bool). b && is_beyond (clock o e.process (a - 1)) e.clock) (sym first) ∙ back in
      let within = within_from (clock o e.process (a - 1)) e.clock rises in
      record { later = lt; same = omega (arith, within j); within = within }
  | inr ge ↦
      let none : counted_before o e.process a j ≡ 0 = cond-false (nat_lt 1 a) (count (clock o e.process (a - 1)) j) 0 (le-ltb 1 a ge) in
      absurd (omega arith)
]

pub same_open : (o : Clocks) (a : ℕ) (e : Event) → (1 < a → IsSound o e.process (a - 1)) → goes_back o a e ≡ false → is_open o e ≡ is_newly_open o a e
same_open o a e sound back = same_below _ _ (length e.clock) (λ j lt. same_test o a e j (is_beyond (named_clock o e j) e.clock) (λ pos other known.
    let old = is_old o a e j back pos known in
    let u = clock o e.process (a - 1) in
    let closed : IsWithin (clock o j (count u j)) u = (sound old.later).closed j other (omega (arith, old.same)) in
    not_beyond (named_clock o e j) e.clock (λ k.
    omega (arith, ap (λ (n : ℕ). count (clock o j n) k) old.same, closed k, old.within k))))

pub same_loop : (o : Clocks) (a : ℕ) (e : Event) → (1 < a → IsSound o e.process (a - 1)) → goes_back o a e ≡ false → is_loop o a e ≡ is_newly_loop o a e
same_loop o a e sound back = same_below _ _ (length e.clock) (λ j lt. same_test o a e j (nat_le a (count (named_clock o e j) e.process)) (λ pos other known.
    let old = is_old o a e j back pos known in
    let u = clock o e.process (a - 1) in
    let low = (sound old.later).loopless j other (omega (arith, old.same)) in
    lt-leb a (count (named_clock o e j) e.process) (omega (arith, ap (λ (n : ℕ). count (clock o j n) e.process) old.same, low))))

-- ---- the tests of the code

pub row_named : (o : Clocks) (e : Event) (j : ℕ) (row v : Cut) → row ≡ clock o j (count v j) → v ≡ e.clock → row ≡ named_clock o e j
row_named o e j row v is at = is ∙ ap (λ (w : Cut). clock o j (count w j)) at

pub open_test : (o : Clocks) (e : Event) (j : ℕ) (row v : Cut) (b t : Bool) → row ≡ clock o j (count v j) → v ≡ e.clock → b ≡ is_beyond row v → b ≡ t → is_beyond (named_clock o e j) e.clock ≡ t
open_test o e j row v b t is at test answer =
    ap (λ (w : Cut). is_beyond w e.clock) (sym (row_named o e j row v is at)) ∙ ap (is_beyond row) (sym at) ∙ sym test ∙ answer

pub loop_at : (o : Clocks) (e : Event) (j p : ℕ) (row v : Cut) → row ≡ clock o j (count v j) → v ≡ e.clock → count row p ≡ count (named_clock o e j) p
loop_at o e j p row v is at = ap (λ (w : Cut). count w p) (row_named o e j row v is at)

-- the clock before is read once
pub newly_by : (o : Clocks) (a : ℕ) (e : Event) (j n : ℕ) (names : Bool) → names ≡ (not (j == e.process) && nat_lt n (count e.clock j)) → n ≡ counted_before o e.process a j → names ≡ newly_names o a e j
newly_by o a e j n names is same = is ∙ ap (λ (k : ℕ). not (j == e.process) && nat_lt k (count e.clock j)) same
