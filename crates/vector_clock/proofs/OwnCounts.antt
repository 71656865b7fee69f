-- Clocks that count what the event before on their process counts, and their own event.
use Rattle.std.proofs.Common.{◌≡◌, ℕ, ◌-◌, ◌<◌, ◌≤◌, false, not, ◌&&◌, [], length, get_or, sym, ◌∙◌, subst, arith, inl, inr}
use Rattle.std.specs.Prelude.{◌==◌, nat_lt, nat_le, None}
use Rattle.std.proofs.lemmas.Bool.{cases_eq, and_left, and_right, not_from_true, eq-eqb, lt-ltb, le-ltb, cond-true, cond-false}
use Rattle.run_model.specs.Cut.{Clocks, count, IsWithin, lengths}
use Rattle.run_model.specs.Consistent.{clock}
use Rattle.causal_order.proofs.Growing.{count-lengths}
use Rattle.event_log.specs.declared.log.Event.{Event}
use Rattle.vector_clock.specs.Events.{is_beyond}
use Rattle.vector_clock.specs.Faults.{named_clock, goes_back, is_open, is_loop, clock_fault}
use Rattle.vector_clock.specs.Sound.{IsSound, counted_before, newly_names}
use Rattle.vector_clock.specs.inside.Sound.{AddsOnlyItself}
use Rattle.vector_clock.proofs.Below.{none_from, not_beyond}
use Rattle.vector_clock.proofs.NewNames.{same_open, same_loop}
use Rattle.vector_clock.proofs.Faultless.{passed_to_dangling, right_own}

-- the count of its own process is one more, and the others are the same
rises : (o : Clocks) (a : ℕ) (e : Event) → IsSound o e.process (a - 1) → count e.clock e.process ≡ a → AddsOnlyItself o a e → IsWithin (clock o e.process (a - 1)) e.clock
rises o a e sound own adds j = elim (cases_eq j e.process) [
  | inl same ↦ subst (λ (k : ℕ). count (clock o e.process (a - 1)) k ≤ count e.clock k) (sym same) (omega (arith, sound.own, own))
  | inr other ↦ omega (arith, adds.same j other)
]

falls_nowhere : (o : Clocks) (a : ℕ) (e : Event) → IsSound o e.process (a - 1) → count e.clock e.process ≡ a → AddsOnlyItself o a e → goes_back o a e ≡ false
falls_nowhere o a e sound own adds = and_right (nat_lt 1 a) (is_beyond (clock o e.process (a - 1)) e.clock) (not_beyond (clock o e.process (a - 1)) e.clock (rises o a e sound own adds))

there : (o : Clocks) (a : ℕ) (e : Event) → IsSound o e.process (a - 1) → a ≤ length (get_or o e.process []) → count e.clock e.process ≡ a → AddsOnlyItself o a e → IsWithin e.clock (lengths o)
there o a e sound last own adds j = elim (cases_eq j e.process) [
  | inl same ↦ subst (λ (k : ℕ). count e.clock k ≤ count (lengths o) k) (sym same) (omega (arith, own, last, count-lengths o e.process))
  | inr other ↦ omega (arith, adds.same j other, sound.named j)
]

names_nothing : (o : Clocks) (a : ℕ) (e : Event) (j : ℕ) → AddsOnlyItself o a e → newly_names o a e j ≡ false
names_nothing o a e j adds = elim (cases_eq j e.process) [
  | inl same ↦ and_left (not (j == e.process)) _ (not_from_true (j == e.process) (eq-eqb j e.process same))
  | inr other ↦
      let counted : counted_before o e.process a j ≡ count (clock o e.process (a - 1)) j = cond-true (nat_lt 1 a) _ 0 (lt-ltb 1 a adds.later) in
      and_right (not (j == e.process)) _ (le-ltb (counted_before o e.process a j) (count e.clock j) (omega (arith, counted, adds.same j other)))
]

-- such a clock has no fault
pub own_count_alone : (o : Clocks) (a : ℕ) (e : Event) → (1 < a → IsSound o e.process (a - 1)) → a ≤ length (get_or o e.process []) → count e.clock e.process ≡ a → AddsOnlyItself o a e → None ≡ clock_fault o a e
own_count_alone o a e before last own adds =
    let sound = before adds.later in
    let back = falls_nowhere o a e sound own adds in
    let opens : is_open o e ≡ false = same_open o a e before back
    ∙ none_from (λ j. newly_names o a e j && is_beyond (named_clock o e j) e.clock) (length e.clock) (λ j lt. and_left (newly_names o a e j) _ (names_nothing o a e j adds)) in
    let loop : is_loop o a e ≡ false = same_loop o a e before back
    ∙ none_from (λ j. newly_names o a e j && nat_le a (count (named_clock o e j) e.process)) (length e.clock) (λ j lt. and_left (newly_names o a e j) _ (names_nothing o a e j adds)) in
    sym (passed_to_dangling o a e (right_own a e own) back (not_beyond e.clock (lengths o) (there o a e sound last own adds))
    ∙ cond-false (is_open o e) _ _ opens ∙ cond-false (is_loop o a e) _ _ loop)
