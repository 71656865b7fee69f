-- The machine's conditions, from facts.
use Rattle.std.proofs.Common.{◌≡◌, ℕ, ◌<◌, ◌≤◌, List, Bool, true, length, sum, ap, ◌∙◌, subst}
use Rattle.std.specs.Prelude.{nat_le, nat_lt, ◌&&◌}
use Rattle.std.proofs.lemmas.Bool.{le-leb, lt-ltb, leb-true, ltb-true}
use Rattle.pull_system.specs.System.{SystemView, IsSystem, source_of, target_of, ask}
use Rattle.pull_system.specs.Rows.{place_of}
use Rattle.raise_machine.specs.declared.step.Step.TheVariants.{Pull, Lend}
use Rattle.raise_machine.specs.Bounds.{AreBounds, IsBound, word_at, has_start}
use Rattle.raise_machine.specs.Machine.{is_word, is_allowed}
use Rattle.bound_table.specs.inside.Rule.{IsMachineStep}
use Rattle.raise_machine.proofs.Raising.{both, pull_bound, lend_bound, has_start-true}

both_true : (a b : Bool) → a ≡ true → b ≡ true → (a && b) ≡ true
both_true a b h k = ap (λ x. x && b) h ∙ k

pub pull_allowed : (system : SystemView) (words : List ℕ) (row k x : ℕ) → row ≤ sum system.lens → k < length system.pulls → x ≤ word_at system.lens words row (source_of system k) → is_allowed system words (Pull row k x) ≡ true
pull_allowed system words row k x row_there there less =
    both_true _ _ (both_true _ _ (le-leb row (sum system.lens) row_there) (lt-ltb k (length system.pulls) there)) (le-leb x (word_at system.lens words row (source_of system k)) less)

pub lend_allowed : (system : SystemView) (words : List ℕ) (to_row from_row process y : ℕ) → to_row ≤ sum system.lens → from_row ≤ sum system.lens → process < length system.lens
    → y ≤ word_at system.lens words from_row process → has_start system.lens words to_row from_row ≡ true → is_allowed system words (Lend to_row from_row process y) ≡ true
lend_allowed system words to_row from_row process y to_there from_there there less start =
    both_true _ _ (both_true _ _ (both_true _ _ (both_true _ _ (le-leb to_row (sum system.lens) to_there) (lt-ltb process (length system.lens) there)) (le-leb from_row (sum system.lens) from_there))
    (le-leb y (word_at system.lens words from_row process) less)) start

pub record PullParts (system : SystemView) (words : List ℕ) (row k x : ℕ) : Type 0 where
  pub row_there : row ≤ sum system.lens
  pub there : k < length system.pulls
  pub less : x ≤ word_at system.lens words row (source_of system k)

pub pull_parts : (system : SystemView) (words : List ℕ) (row k x : ℕ) → is_allowed system words (Pull row k x) ≡ true → PullParts system words row k x
pull_parts system words row k x allowed =
    let h = both _ (nat_le x (word_at system.lens words row (source_of system k))) allowed in
    let r = both (nat_le row (sum system.lens)) (nat_lt k (length system.pulls)) h.0 in
    record { row_there = leb-true _ _ r.0; there = ltb-true _ _ r.1; less = leb-true _ _ h.1 }

pub record LendParts (system : SystemView) (words : List ℕ) (to_row from_row process y : ℕ) : Type 0 where
  pub to_there : to_row ≤ sum system.lens
  pub there : process < length system.lens
  pub less : y ≤ word_at system.lens words from_row process
  pub start : has_start system.lens words to_row from_row ≡ true

pub lend_parts : (system : SystemView) (words : List ℕ) (to_row from_row process y : ℕ) → is_allowed system words (Lend to_row from_row process y) ≡ true → LendParts system words to_row from_row process y
lend_parts system words to_row from_row process y allowed =
    let h = both _ (has_start system.lens words to_row from_row) allowed in
    let l = both _ (nat_le y (word_at system.lens words from_row process)) h.0 in
    let r = both (is_word system.lens to_row process) (nat_le from_row (sum system.lens)) l.0 in
    let p = both (nat_le to_row (sum system.lens)) (nat_lt process (length system.lens)) r.0 in
    record { to_there = leb-true _ _ p.0; there = ltb-true _ _ p.1; less = leb-true _ _ l.1; start = h.1 }

pub pull_step_bound : (system : SystemView) → IsSystem system → (words : List ℕ) → AreBounds system words → (row k x : ℕ) → is_allowed system words (Pull row k x) ≡ true → IsBound system (place_of system.lens row (target_of system k)) (ask system k x)
pull_step_bound system is words bounds row k x allowed = let p = pull_parts system words row k x allowed in pull_bound system is words bounds row k x p.there p.less

pub lend_step_bound : (system : SystemView) (words : List ℕ) → AreBounds system words → (to_row from_row process y : ℕ) → is_allowed system words (Lend to_row from_row process y) ≡ true → IsBound system (place_of system.lens to_row process) y
lend_step_bound system words bounds to_row from_row process y allowed =
    let p = lend_parts system words to_row from_row process y allowed in lend_bound system words bounds to_row from_row process y p.there p.less (has_start-true system.lens words to_row from_row p.start)

pub bound_along : (s t : SystemView) (p q m n : ℕ) → s ≡ t → p ≡ q → m ≡ n → IsBound s p m → IsBound t q n
bound_along s t p q m n same_system same_place same_number bound =
    let P : SystemView → Type 0 = λ x. IsBound x p m in
    let Q : ℕ → Type 0 = λ x. IsBound t x m in
    let R : ℕ → Type 0 = λ x. IsBound t q x in
    subst R same_number (subst Q same_place (subst P same_system bound))

pub bounds_along : (s t : SystemView) (v w : List ℕ) → s ≡ t → v ≡ w → AreBounds s v → AreBounds t w
bounds_along s t v w same_system same_words bounds =
    let P : SystemView → Type 0 = λ x. AreBounds x v in
    let Q : List ℕ → Type 0 = λ x. AreBounds t x in
    subst Q same_words (subst P same_system bounds)

-- a step of the machine at equal systems, floors, words and numbers
pub step_along : (s t : SystemView) (v w : List ℕ) (p q m n : ℕ) → s ≡ t → v ≡ w → p ≡ q → m ≡ n → IsMachineStep s v p m → IsMachineStep t w q n
step_along s t v w p q m n same_system same_floor same_place same_number step =
    let P : SystemView → Type 0 = λ x. IsMachineStep x v p m in
    let Q : List ℕ → Type 0 = λ x. IsMachineStep t x p m in
    let R : ℕ → Type 0 = λ x. IsMachineStep t w x m in
    let S : ℕ → Type 0 = λ x. IsMachineStep t w q x in
    subst S same_number (subst R same_place (subst Q same_floor (subst P same_system step)))
