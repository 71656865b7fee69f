-- Any list of steps keeps the words between the starts and the least, and lowers none.
use Rattle.std.proofs.Common.{◌≡◌, ℕ, zero, suc, ◌+◌, ◌^◌, ◌<◌, ◌≤◌, ◌⊎◌, inl, inr, List, [], ◌∷◌, Bool, true, false, length, get_or, sum, refl, arith, sym, ap, ◌∙◌, subst, drop, drop-cons}
use Rattle.std.specs.Prelude.{nat_le, nat_lt, if◌then◌else◌}
use Rattle.std.proofs.lemmas.List.{get_or_past}
use Rattle.std.proofs.lemmas.Bool.{leb-true, ltb-true}
use Rattle.pull_system.specs.Vector.{IsAtMost}
use Rattle.pull_system.specs.System.{SystemView, IsSystem, IsPull, IsClosed, pull_at, source_of, target_of, ask}
use Rattle.pull_system.specs.Rows.{start_of, place_of, IsLeast}
use Rattle.pull_system.proofs.Pulls.{pull-of}
use Rattle.pull_system.proofs.Climbing.{lt_or_le}
use Rattle.pull_system.proofs.Starts.{length-start_of}
use Rattle.pull_system.proofs.Sums.{component_le}
use Rattle.raise_machine.specs.declared.step.Step.{Step}
use Rattle.raise_machine.specs.declared.step.Step.TheVariants.{Look, Pull, Lend}
use Rattle.raise_machine.specs.Bounds.{AreBounds, word_at, raised, has_start}
use Rattle.raise_machine.specs.Machine.{is_word, is_allowed, words_after, happens, words_at, allowed_count, IsSeen}
use Rattle.raise_machine.proofs.Raising.{both, bounds_raised, raised_within, pull_bound, lend_bound, has_start-true, word_in_range, word_below, word_above}

-- an allowed lend keeps the words between the starts and the least
after_lend : (system : SystemView) (words : List ℕ) → AreBounds system words → (to_row from_row process y : ℕ) → is_allowed system words (Lend to_row from_row process y) ≡ true
    → AreBounds system (words_after system words (Lend to_row from_row process y))
after_lend system words bounds to_row from_row process y allowed =
    let h = both _ (has_start system.lens words to_row from_row) allowed in
    let l = both _ (nat_le y (word_at system.lens words from_row process)) h.0 in
    let r = both (is_word system.lens to_row process) (nat_le from_row (sum system.lens)) l.0 in
    let p = both (nat_le to_row (sum system.lens)) (nat_lt process (length system.lens)) r.0 in
    bounds_raised system words _ _ bounds (lend_bound system words bounds to_row from_row process y (ltb-true _ _ p.1) (leb-true _ _ l.1) (has_start-true system.lens words to_row from_row h.1))

-- an allowed step keeps the words between the starts and the least
pub after_bounds : (system : SystemView) → IsSystem system → (words : List ℕ) → AreBounds system words → (step : Step) → is_allowed system words step ≡ true → AreBounds system (words_after system words step)
after_bounds system is words bounds (Look row process) allowed = bounds
after_bounds system is words bounds (Pull row k x) allowed =
    let h = both _ (nat_le x (word_at system.lens words row (source_of system k))) allowed in
    let r = both (nat_le row (sum system.lens)) (nat_lt k (length system.pulls)) h.0 in
    bounds_raised system words _ _ bounds (pull_bound system is words bounds row k x (ltb-true _ _ r.1) (leb-true _ _ h.1))
after_bounds system is words bounds (Lend to_row from_row process y) allowed = after_lend system words bounds to_row from_row process y allowed

-- and lowers none
after_within : (system : SystemView) (words : List ℕ) (step : Step) → IsAtMost words (words_after system words step)
after_within system words (Look row process) = record { each = λ i. omega arith }
after_within system words (Pull row k x) = raised_within words _ _
after_within system words (Lend to_row from_row process y) = raised_within words _ _

if_case : (b : Bool) (xs ys : List ℕ) → ((b ≡ true) × ((if b then xs else ys) ≡ xs)) ⊎ ((if b then xs else ys) ≡ ys)
if_case true xs ys = inl (refl, refl)
if_case false xs ys = inr refl

pub happens_bounds : (system : SystemView) → IsSystem system → (words : List ℕ) → AreBounds system words → (step : Step) → AreBounds system (happens system words step)
happens_bounds system is words bounds step =
    let P : List ℕ → Type 0 = AreBounds system in
    elim (if_case (is_allowed system words step) (words_after system words step) words) [
      | inl h ↦ subst P (sym h.1) (after_bounds system is words bounds step h.0)
      | inr h ↦ subst P (sym h) bounds
    ]

pub happens_within : (system : SystemView) (words : List ℕ) (step : Step) → IsAtMost words (happens system words step)
happens_within system words step =
    let P : List ℕ → Type 0 = IsAtMost words in
    elim (if_case (is_allowed system words step) (words_after system words step) words) [
      | inl h ↦ subst P (sym h.1) (after_within system words step)
      | inr h ↦ subst P (sym h) record { each = λ i. omega arith }
    ]

pub run_bounds : (system : SystemView) (words : List ℕ) (steps : List Step) (n : ℕ) → IsSystem system → AreBounds system words → AreBounds system (words_at system words steps n)
run_bounds system words steps zero is bounds = bounds
run_bounds system words [] (suc n) is bounds = bounds
run_bounds system words (step ∷ steps) (suc n) is bounds = run_bounds system (happens system words step) steps n is (happens_bounds system is words bounds step)

from_start : (system : SystemView) (words : List ℕ) (steps : List Step) (n : ℕ) → IsAtMost words (words_at system words steps n)
from_start system words steps zero = record { each = λ i. omega arith }
from_start system words [] (suc n) = record { each = λ i. omega arith }
from_start system words (step ∷ steps) (suc n) = record { each = λ i. omega (arith, (happens_within system words step).each i, (from_start system (happens system words step) steps n).each i) }

pub run_within : (system : SystemView) (words : List ℕ) (steps : List Step) (m n : ℕ) → m ≤ n → IsAtMost (words_at system words steps m) (words_at system words steps n)
run_within system words steps zero n less = from_start system words steps n
run_within system words [] (suc m) n less = from_start system words [] n
run_within system words (step ∷ steps) (suc m) zero less = absurd (omega arith)
run_within system words (step ∷ steps) (suc m) (suc n) less = run_within system (happens system words step) steps m n (omega arith)

-- a row that is seen closed, each word at a moment of its own, is the least
pub seen_least : (system : SystemView) (words : List ℕ) (steps : List Step) (row : ℕ) (moments : ℕ → ℕ) (v : List ℕ) → row ≤ sum system.lens → IsSystem system → AreBounds system words
    → IsSeen system words steps row moments v → IsClosed system v → IsLeast system row v
seen_least system words steps row moments v row_there is bounds seen closed = record {
  closed = record {
    vector = record { size = seen.size; within = λ i. elim (lt_or_le i (length system.lens)) [ inl there ↦ omega (arith, seen.each i there, word_in_range system is _ (at i) row i there) | inr past ↦ omega (arith, v_past i past) ] };
    above = record { each = λ i. elim (lt_or_le i (length system.lens)) [ inl there ↦ omega (arith, seen.each i there, word_above system _ (at i) row i row_there there) | inr past ↦ omega (arith, start_past i past) ] };
    closed = closed;
  };
  least = λ c c_closed. record { each = λ i. elim (lt_or_le i (length system.lens)) [ inl there ↦ omega (arith, seen.each i there, word_below system _ (at i) row i there c c_closed) | inr past ↦ omega (arith, v_past i past) ] };
}
  where
    at : (i : ℕ) → AreBounds system (words_at system words steps (moments i))
    at i = run_bounds system words steps (moments i) is bounds

    v_past : (i : ℕ) → length system.lens ≤ i → get_or v i 0 ≡ 0
    v_past i past = get_or_past v i 0 (omega (arith, seen.size))

    start_past : (i : ℕ) → length system.lens ≤ i → get_or (start_of system.lens row) i 0 ≡ 0
    start_past i past = get_or_past (start_of system.lens row) i 0 (omega (arith, length-start_of system.lens row))

-- and stays so
pub seen_stays : (system : SystemView) (words : List ℕ) (steps : List Step) (row : ℕ) (moments : ℕ → ℕ) (v : List ℕ) → row ≤ sum system.lens → IsSystem system → AreBounds system words
    → IsSeen system words steps row moments v → IsClosed system v → (n : ℕ) → ((process : ℕ) → process < length system.lens → moments process ≤ n) → (process : ℕ) → process < length system.lens
    → word_at system.lens (words_at system words steps n) row process ≡ get_or v process 0
seen_stays system words steps row moments v row_there is bounds seen closed n later process there =
    let least : IsLeast system row v = seen_least system words steps row moments v row_there is bounds seen closed in
    omega (
      arith,
      seen.each process there,
      (run_within system words steps (moments process) n (later process there)).each (place_of system.lens row process),
      word_below system _ (run_bounds system words steps n is bounds) row process there v least.closed,
    )

-- what raising by a pull does, told by its parts
pub pulls : (system : SystemView) → IsSystem system → (words : List ℕ) → AreBounds system words → (row k x : ℕ) → is_allowed system words (Pull row k x) ≡ true
    → (target asked : ℕ) (new : List ℕ) → target ≡ target_of system k → asked ≡ ask system k x → new ≡ raised words (place_of system.lens row target) asked → AreBounds system new × (new ≡ words_after system words (Pull row k x))
pulls system is words bounds row k x allowed target asked new same_target same_asked same =
    let e : new ≡ raised words (place_of system.lens row (target_of system k)) (ask system k x) = same ∙ ap (λ t. raised words (place_of system.lens row t) asked) same_target ∙ ap (λ n. raised words (place_of system.lens row (target_of system k)) n) same_asked in
    let P : List ℕ → Type 0 = AreBounds system in
    (subst P (sym e) (after_bounds system is words bounds (Pull row k x) allowed), e)

-- an allowed pull reads an entry of its table
pub pull_entry : (system : SystemView) → IsSystem system → (words : List ℕ) → AreBounds system words → (row k x : ℕ) → is_allowed system words (Pull row k x) ≡ true → (k < length system.pulls) × (x < length (pull_at system k).table)
pull_entry system is words bounds row k x allowed =
    let h = both _ (nat_le x (word_at system.lens words row (source_of system k))) allowed in
    let r = both (nat_le row (sum system.lens)) (nat_lt k (length system.pulls)) h.0 in
    let there : k < length system.pulls = ltb-true _ _ r.1 in
    let p : IsPull system.lens (pull_at system k) = pull-of system is k there in
    (there, omega (arith, leb-true _ _ h.1, p.size, word_in_range system is words bounds row (source_of system k) p.source))

-- what raising by a lend does, told by its parts
pub lends : (system : SystemView) (words : List ℕ) → AreBounds system words → (to_row from_row process y : ℕ) → is_allowed system words (Lend to_row from_row process y) ≡ true
    → (new : List ℕ) → new ≡ raised words (place_of system.lens to_row process) y → AreBounds system new
lends system words bounds to_row from_row process y allowed new same =
    let P : List ℕ → Type 0 = AreBounds system in subst P (sym same) (after_lend system words bounds to_row from_row process y allowed)

-- one more step
pub words_at-next : (system : SystemView) (words : List ℕ) (steps : List Step) (n : ℕ) (d : Step) → n < length steps → words_at system words steps (n + 1) ≡ happens system (words_at system words steps n) (get_or steps n d)
words_at-next system words [] n d there = absurd (omega arith)
words_at-next system words (step ∷ steps) zero d there = ap (λ n. words_at system words (step ∷ steps) n) (let e : 0 + 1 ≡ 1 = omega arith in e)
words_at-next system words (step ∷ steps) (suc n) d there =
    ap (λ m. words_at system words (step ∷ steps) m) (let e : suc n + 1 ≡ suc (n + 1) = omega arith in e) ∙ words_at-next system (happens system words step) steps n d (omega arith)

pub allowed_count-next : (system : SystemView) (words : List ℕ) (steps : List Step) (n : ℕ) (d : Step) → n < length steps
    → allowed_count system words (drop n steps) ≡ (if is_allowed system words (get_or steps n d) then 1 else 0) + allowed_count system (happens system words (get_or steps n d)) (drop (n + 1) steps)
allowed_count-next system words steps n d there =
    ap (λ rest. allowed_count system words rest) (drop-cons steps n d there) ∙ ap (λ m. (if is_allowed system words (get_or steps n d) then 1 else 0) + allowed_count system (happens system words (get_or steps n d)) (drop m steps)) (let e : suc n ≡ n + 1 = omega arith in e)

-- what an allowed lend raises to is small enough for 16 bits
pub lend_small : (system : SystemView) → IsSystem system → (words : List ℕ) → AreBounds system words → (to_row from_row process y : ℕ) → is_allowed system words (Lend to_row from_row process y) ≡ true → y < 2 ^ 16
lend_small system is words bounds to_row from_row process y allowed =
    let h = both _ (has_start system.lens words to_row from_row) allowed in
    let l = both _ (nat_le y (word_at system.lens words from_row process)) h.0 in
    let r = both (is_word system.lens to_row process) (nat_le from_row (sum system.lens)) l.0 in
    let p = both (nat_le to_row (sum system.lens)) (nat_lt process (length system.lens)) r.0 in
    omega (arith, leb-true _ _ l.1, word_in_range system is words bounds from_row process (ltb-true _ _ p.1), component_le system.lens process, is.shape.events)
