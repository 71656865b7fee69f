-- Clocks that join what the event before on their process and another event without a fault count.
use Rattle.std.proofs.Common.{◌≡◌, ℕ, ◌-◌, ◌<◌, ◌≤◌, Bool, false, not, ◌&&◌, [], length, get_or, sym, ap, ◌∙◌, subst, arith, inl, inr}
use Rattle.std.specs.Prelude.{◌==◌, nat_lt, nat_le, None}
use Rattle.std.proofs.lemmas.Bool.{cases_eq, cases_lt, and_left, and_right, not_from_true, eq-eqb, lt-ltb, le-ltb, lt-leb, cond-true, cond-false}
use Rattle.run_model.specs.Cut.{Clocks, count, IsWithin, lengths}
use Rattle.run_model.specs.Consistent.{clock}
use Rattle.causal_order.proofs.Growing.{count-lengths}
use Rattle.event_log.specs.declared.log.Event.{Event}
use Rattle.vector_clock.specs.Events.{is_beyond}
use Rattle.vector_clock.specs.Faults.{named_clock, goes_back, is_open, is_loop, clock_fault}
use Rattle.vector_clock.specs.Sound.{IsSound, counted_before, newly_names}
use Rattle.vector_clock.specs.inside.Sound.{JoinsNamed}
use Rattle.vector_clock.proofs.Below.{none_from, not_beyond}
use Rattle.vector_clock.proofs.NewNames.{same_open, same_loop}
use Rattle.vector_clock.proofs.Faultless.{passed_to_dangling, right_own}

-- both clocks that are joined are within the clock
rises : (o : Clocks) (a : ℕ) (e : Event) (q : ℕ) → IsSound o e.process (a - 1) → count e.clock e.process ≡ a → JoinsNamed o a e q → IsWithin (clock o e.process (a - 1)) e.clock
rises o a e q sound own joins j = elim (cases_eq j e.process) [
  | inl same ↦ subst (λ (k : ℕ). count (clock o e.process (a - 1)) k ≤ count e.clock k) (sym same) (omega (arith, sound.own, own))
  | inr other ↦ omega (arith, joins.joined j other)
]

holds : (o : Clocks) (a : ℕ) (e : Event) (q : ℕ) → count e.clock e.process ≡ a → JoinsNamed o a e q → IsWithin (named_clock o e q) e.clock
holds o a e q own joins j = elim (cases_eq j e.process) [
  | inl same ↦ subst (λ (k : ℕ). count (named_clock o e q) k ≤ count e.clock k) (sym same) (omega (arith, joins.earlier, own))
  | inr other ↦ omega (arith, joins.joined j other)
]

there : (o : Clocks) (a : ℕ) (e : Event) (q : ℕ) → IsSound o e.process (a - 1) → a ≤ length (get_or o e.process []) → count e.clock e.process ≡ a → JoinsNamed o a e q → IsWithin e.clock (lengths o)
there o a e q sound last own joins j = elim (cases_eq j e.process) [
  | inl same ↦ subst (λ (k : ℕ). count e.clock k ≤ count (lengths o) k) (sym same) (omega (arith, own, last, count-lengths o e.process))
  | inr other ↦ omega (arith, joins.joined j other, sound.named j, joins.sound.named j)
]

-- what is newly named is the named event, or one that it names
within_named : (o : Clocks) (a : ℕ) (e : Event) (q j : ℕ) → JoinsNamed o a e q → (j ≡ e.process → ⊥) → count (clock o e.process (a - 1)) j < count e.clock j → IsWithin (named_clock o e j) (named_clock o e q)
within_named o a e q j joins other new = elim (cases_eq j q) [
  | inl same ↦ λ k. omega (ap (λ (i : ℕ). count (named_clock o e i) k) same, arith)
  | inr apart ↦
      let counted : count e.clock j ≡ count (named_clock o e q) j = omega (arith, joins.joined j other, new) in
      λ k. omega (arith, ap (λ (n : ℕ). count (clock o j n) k) counted, joins.sound.closed j apart (omega (arith, counted, new)) k)
]

-- the test of a newly named event fails where it fails at each event within the named one
no_test : (o : Clocks) (a : ℕ) (e : Event) (q j : ℕ) (test : Bool) → JoinsNamed o a e q → (IsWithin (named_clock o e j) (named_clock o e q) → test ≡ false) → (newly_names o a e j && test) ≡ false
no_test o a e q j test joins passes = elim (cases_eq j e.process) [
  | inl same ↦ and_left (newly_names o a e j) test (and_left (not (j == e.process)) _ (not_from_true (j == e.process) (eq-eqb j e.process same)))
  | inr other ↦
      let counted : counted_before o e.process a j ≡ count (clock o e.process (a - 1)) j = cond-true (nat_lt 1 a) _ 0 (lt-ltb 1 a joins.later) in
      elim (cases_lt (count (clock o e.process (a - 1)) j) (count e.clock j)) [
        | inl new ↦ and_right (newly_names o a e j) test (passes (within_named o a e q j joins other new))
        | inr known ↦ and_left (newly_names o a e j) test (and_right (not (j == e.process)) _ (le-ltb (counted_before o e.process a j) (count e.clock j) (omega (arith, counted, known))))
      ]
]

-- such a clock has no fault
pub joined_alone : (o : Clocks) (a : ℕ) (e : Event) (q : ℕ) → (1 < a → IsSound o e.process (a - 1)) → a ≤ length (get_or o e.process []) → count e.clock e.process ≡ a → JoinsNamed o a e q → None ≡ clock_fault o a e
joined_alone o a e q before last own joins =
    let sound = before joins.later in
    let back : goes_back o a e ≡ false = and_right (nat_lt 1 a) (is_beyond (clock o e.process (a - 1)) e.clock) (not_beyond (clock o e.process (a - 1)) e.clock (rises o a e q sound own joins)) in
    let opens : is_open o e ≡ false = same_open o a e before back
    ∙ none_from (λ j. newly_names o a e j && is_beyond (named_clock o e j) e.clock) (length e.clock) (λ j lt. no_test o a e q j _ joins
    (λ inner. not_beyond (named_clock o e j) e.clock (λ k. omega (arith, inner k, holds o a e q own joins k)))) in
    let loop : is_loop o a e ≡ false = same_loop o a e before back
    ∙ none_from (λ j. newly_names o a e j && nat_le a (count (named_clock o e j) e.process)) (length e.clock) (λ j lt. no_test o a e q j _ joins
    (λ inner. lt-leb a (count (named_clock o e j) e.process) (omega (arith, inner e.process, joins.earlier)))) in
    sym (passed_to_dangling o a e (right_own a e own) back (not_beyond e.clock (lengths o) (there o a e q sound last own joins))
    ∙ cond-false (is_open o e) _ _ opens ∙ cond-false (is_loop o a e) _ _ loop)
