-- The first event of a batch that leaves a counter lower than it was.
use Rattle.std.proofs.Common.{◌≡◌, ℕ, zero, suc, ◌+◌, ◌<◌, ◌≤◌, Bool, true, false, int_lt, List, [], ◌∷◌, length, take, get_or, inl, inr, refl, ap, sym, ◌∙◌, arith}
use Rattle.std.specs.Prelude.{slice_get, option_map, Some, ◌||◌}
use Rattle.std.specs.List.{list_any}
use Rattle.std.proofs.lemmas.Bool.{cases_lt, cond-true, cond-false, or_from, or_left, or_right}
use Rattle.std.proofs.lemmas.List.{length-take-le, take-take, take_all, take_more}
use Rattle.std.proofs.lemmas.List.Folds.{list_any-append}
use Rattle.event_log.specs.declared.log.Event.{Event}
use Rattle.event_log.specs.States.{StatesView, with_batch}
use Rattle.counter_preds.specs.declared.values.Variable.{Variable}
use Rattle.counter_preds.specs.Falls.{value_now, behind_event, behind_batch, is_lowered, fall_of}
use Rattle.counter_preds.specs.Falls.{fall_fault}
use Rattle.counter_preds.specs.inside.Falls.{falls_at}

-- some counter falls at the event of this number
abbrev pub some_falls_at : StatesView → List Event → List Variable → ℕ → Bool
some_falls_at states batch counters k = list_any (λ (x : Variable). falls_at states batch x k) counters

-- ---- from the number of the event to the fault

falls_first : (states : StatesView) (e : Event) (rest : List Event) (x : Variable) → falls_at states (e ∷ rest) x 0 ≡ is_lowered states e x
unfolding with_batch
falls_first states e rest x = refl

falls_later : (states : StatesView) (e : Event) (rest : List Event) (x : Variable) (k : ℕ) → falls_at states (e ∷ rest) x (suc k) ≡ falls_at (behind_event states e) rest x k
unfolding with_batch
falls_later states e rest x k =
    let next : suc k + 1 ≡ suc (k + 1) = omega arith in
    ap (λ (n : ℕ). int_lt (value_now (behind_batch states (take n (e ∷ rest))) x) (value_now (behind_batch states (take (suc k) (e ∷ rest))) x)) next

some_first : (states : StatesView) (e : Event) (rest : List Event) (counters : List Variable) → some_falls_at states (e ∷ rest) counters 0 ≡ list_any (is_lowered states e) counters
some_first states e rest counters = λ i. list_any (λ (x : Variable). falls_first states e rest x i) counters

some_later : (states : StatesView) (e : Event) (rest : List Event) (counters : List Variable) (k : ℕ) → some_falls_at states (e ∷ rest) counters (suc k) ≡ some_falls_at (behind_event states e) rest counters k
some_later states e rest counters k = λ i. list_any (λ (x : Variable). falls_later states e rest x k i) counters

pub fall_is : (states : StatesView) (counters : List Variable) (batch : List Event) (r : ℕ) → r ≤ length batch → ((k : ℕ) → k < r → some_falls_at states batch counters k ≡ false) → (r < length batch → some_falls_at states batch counters r ≡ true)
    → option_map fall_of (slice_get batch r) ≡ fall_fault states counters batch
unfolding fall_fault
fall_is states counters [] r within before falls = refl
fall_is states counters (e ∷ rest) zero within before falls =
    sym (cond-true (list_any (is_lowered states e) counters) (Some (fall_of e)) (fall_fault (behind_event states e) counters rest) (sym (some_first states e rest counters) ∙ falls (omega arith)))
fall_is states counters (e ∷ rest) (suc r) within before falls =
    fall_is (behind_event states e) counters rest r (omega (arith, within))
    (λ k lt. sym (some_later states e rest counters k) ∙ before (suc k) (omega (arith, lt)))
    (λ lt. sym (some_later states e rest counters r) ∙ falls (omega (arith, lt)))
    ∙ sym (cond-false (list_any (is_lowered states e) counters) (Some (fall_of e)) (fall_fault (behind_event states e) counters rest) (sym (some_first states e rest counters) ∙ before 0 (omega arith)))

-- ---- one counter after the other

-- among the first events of a batch
within_first : (states : StatesView) (batch : List Event) (x : Variable) (n k : ℕ) → k < n → falls_at states (take n batch) x k ≡ falls_at states batch x k
within_first states batch x n k lt =
    ap (λ (es : List Event). int_lt (value_now (behind_batch states es) x) (value_now (behind_batch states (take k (take n batch))) x)) (take-take (k + 1) n batch (omega (arith, lt)))
    ∙ ap (λ (es : List Event). int_lt (value_now (behind_batch states (take (k + 1) batch)) x) (value_now (behind_batch states es) x)) (take-take k n batch (omega (arith, lt)))

-- no event before this one leaves one of the first i counters lower than it was, and this one does, if there is one
pub record FirstSoFar (states : StatesView) (batch : List Event) (counters : List Variable) (i first : ℕ) : Type 0 where
  pub within : first ≤ length batch
  pub before : (k : ℕ) → k < first → some_falls_at states batch (take i counters) k ≡ false
  pub falls : first < length batch → some_falls_at states batch (take i counters) first ≡ true

one_more : (states : StatesView) (batch : List Event) (counters : List Variable) (i : ℕ) (d : Variable) → i < length counters → (k : ℕ)
    → some_falls_at states batch (take (i + 1) counters) k ≡ (some_falls_at states batch (take i counters) k || (falls_at states batch (get_or counters i d) k || false))
one_more states batch counters i d there k =
    ap (λ (xs : List Variable). some_falls_at states batch xs k) (take_more counters i d there)
    ∙ list_any-append (λ (y : Variable). falls_at states batch y k) (take i counters) (get_or counters i d ∷ [])

pub first_more : (states : StatesView) (batch : List Event) (counters : List Variable) (i first : ℕ) → FirstSoFar states batch counters i first
    → (d : Variable) → i < length counters → (r : ℕ) → r ≤ length (take first batch)
    → ((k : ℕ) → k < r → falls_at states (take first batch) (get_or counters i d) k ≡ false) → (r < length (take first batch) → falls_at states (take first batch) (get_or counters i d) r ≡ true)
    → FirstSoFar states batch counters (i + 1) r
first_more states batch counters i first so d there r within before falls =
    let x = get_or counters i d in
    let size = length-take-le first batch so.within in
    record {
      within = omega (arith, within, size, so.within);
      before = λ k lt.
          one_more states batch counters i d there k
          ∙ or_from _ _ (so.before k (omega (arith, lt, within, size)))
          (or_from _ _ (sym (within_first states batch x first k (omega (arith, lt, within, size))) ∙ before k lt) refl);
      falls = λ lt. one_more states batch counters i d there r ∙ elim (cases_lt r first) [
        | inl less ↦
            or_right _ _ (or_left _ _ (sym (within_first states batch x first r less) ∙ falls (omega (arith, less, size))))
        | inr same ↦
            let here : r ≡ first = omega (arith, same, within, size) in
            or_left _ _ (ap (some_falls_at states batch (take i counters)) here ∙ so.falls (omega (arith, here, lt)))
      ];
    }

-- no event before this one leaves a counter lower than it was, and this one does, if there is one
pub record FirstFound (states : StatesView) (batch : List Event) (counters : List Variable) (first : ℕ) : Type 0 where
  pub before : (k : ℕ) → k < first → some_falls_at states batch counters k ≡ false
  pub falls : first < length batch → some_falls_at states batch counters first ≡ true

pub first_all : (states : StatesView) (batch : List Event) (counters : List Variable) (i first : ℕ) → FirstSoFar states batch counters i first → length counters ≤ i → FirstFound states batch counters first
first_all states batch counters i first so end =
    let all : take i counters ≡ counters = take_all i counters end in
    record {
      before = λ k lt. ap (λ (xs : List Variable). some_falls_at states batch xs k) (sym all) ∙ so.before k lt;
      falls = λ lt. ap (λ (xs : List Variable). some_falls_at states batch xs first) (sym all) ∙ so.falls lt;
    }
