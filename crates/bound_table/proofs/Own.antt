-- Firm rows: what floors have reached stays reached, and a floor of own rows is those rows.
use Rattle.std.proofs.Common.{◌≡◌, ℕ, zero, suc, ◌+◌, ◌/◌, ◌%◌, ◌<◌, ◌≤◌, inl, inr, true, List, [], ◌∷◌, length, get_or, set, sum, take, replicate, Option, Some, arith, refl, sym, ap, ◌∙◌, subst}
use Rattle.std.proofs.lemmas.List.{ext_get_or, length-set}
use Rattle.std.proofs.lemmas.List.Sums.{sum_by-cons}
use Rattle.std.proofs.Math.Nat.{mul-le-mul_left, mod-lt}
use Rattle.std.proofs.lemmas.Nat.{div-add-mod'}
use Rattle.pull_system.proofs.Climbing.{set_case, lt_or_le}
use Rattle.pota_base.specs.Shape.{IsShape}
use Rattle.pull_system.specs.Vector.{IsAtMost}
use Rattle.pull_system.specs.System.{SystemView, IsSystem, ask}
use Rattle.pull_system.specs.Rows.{RowsView, AreLeastRows, row_at, place_of}
use Rattle.pull_system.proofs.Starts.{get_or-row_at}
use Rattle.raise_machine.specs.Bounds.{AreBounds, IsBound, word_at}
use Rattle.raise_machine.specs.declared.step.Step.TheVariants.{Lend}
use Rattle.raise_machine.specs.Machine.{is_allowed}
use Rattle.bound_table.specs.declared.seat.Begins.{Begins}
use Rattle.bound_table.specs.declared.seat.Begins.TheVariants.{Shared, Own}
use Rattle.bound_table.specs.Firm.{Reaches, ReachesFirst, AreFinal, FirmView, HasReachedFirm}
use Rattle.bound_table.specs.inside.Asking.{IsPullStep, IsRaised, cell_of}
use Rattle.bound_table.specs.inside.Rule.{word_count, begun_words, KeepsOwn}
use Rattle.bound_table.proofs.Allowed.{pull_step_bound, lend_step_bound, lend_parts, pull_parts}

pub reaches_more : (system : SystemView) (row : ℕ) (floor now : List ℕ) → IsAtMost floor now → Reaches system row floor → Reaches system row now
reaches_more system row floor now within reaches = record {
  vector = reaches.vector;
  is = reaches.is;
  below = λ process there. omega (arith, reaches.below process there, within.each (place_of system.lens row process));
}

pub first_more : (system : SystemView) (process count : ℕ) (floor now : List ℕ) → IsAtMost floor now → ReachesFirst system process count floor → ReachesFirst system process count now
first_more system process count floor now within first = record { each = λ position one less. reaches_more system _ floor now within (first.each position one less) }

pub first_none : (system : SystemView) (process : ℕ) (floor : List ℕ) → ReachesFirst system process 0 floor
first_none system process floor = record { each = λ position one less. absurd (omega arith) }

pub final_more : (system : SystemView) (floor now finals : List ℕ) → IsAtMost floor now → AreFinal system floor finals → AreFinal system now finals
final_more system floor now finals within are = record {
  size = are.size;
  few = are.few;
  each = λ p there. first_more system p (get_or finals p 0) floor now within (are.each p there);
}

pub firm_more : (system : SystemView) (floor now : List ℕ) (firm : FirmView) → IsAtMost floor now → HasReachedFirm system floor firm → HasReachedFirm system now firm
firm_more system floor now firm within has = record { firsts = final_more system floor now firm.firsts within has.firsts; bottom = λ is. reaches_more system 0 floor now within (has.bottom is) }

-- where no row is known to be final
pub none_final : (system : SystemView) (floor finals : List ℕ) → length finals ≡ length system.lens → ((p : ℕ) → get_or finals p 0 ≡ 0) → AreFinal system floor finals
none_final system floor finals size none = record {
  size = size;
  few = λ p. omega (arith, none p);
  each = λ p there. let P : ℕ → Type 0 = λ n. ReachesFirst system p n floor in subst P (sym (none p)) (first_none system p floor);
}

-- ---- no firm rows

abbrev pub zeros : ℕ → ℕ → List ℕ
zeros n m = take n (replicate m 0)

pub length-zeros : (n m : ℕ) → n ≤ m → length (zeros n m) ≡ n
length-zeros zero m few = refl
length-zeros (suc n) zero few = absurd (omega arith)
length-zeros (suc n) (suc m) few = ap (λ (k : ℕ). suc k) (length-zeros n m (omega arith))

pub get_or-zeros : (n m p : ℕ) → get_or (zeros n m) p 0 ≡ 0
get_or-zeros zero m p = refl
get_or-zeros (suc n) zero p = refl
get_or-zeros (suc n) (suc m) zero = refl
get_or-zeros (suc n) (suc m) (suc p) = get_or-zeros n m p

-- ---- own rows

pub sum_old : (lens : List ℕ) (p k : ℕ) → k ≤ get_or lens p 0 → p < length lens → sum (take p lens) + k ≤ sum lens
sum_old [] p k few there = absurd (omega arith)
sum_old (len ∷ lens) zero k few there = omega (arith, sum_by-cons (λ (n : ℕ). n) len lens)
sum_old (len ∷ lens) (suc p) k few there = omega (arith, sum_by-cons (λ (n : ℕ). n) len lens, sum_by-cons (λ (n : ℕ). n) len (take p lens), sum_old lens p k few (omega arith))

least_reached : (system : SystemView) (words : List ℕ) → AreLeastRows system words → (row : ℕ) → row ≤ sum system.lens → Reaches system row words
least_reached system words least row there = record { vector = row_at system.lens words row; is = least.each row there; below = λ i i_there. omega (arith, get_or-row_at system.lens words row i i_there) }

-- rows that are the least are all firm
pub own_firm : (system : SystemView) (words : List ℕ) → AreLeastRows system words → HasReachedFirm system words (record { firsts = system.lens; bottom = true })
own_firm system words least = record {
  firsts = record {
    size = refl;
    few = λ p. omega arith;
    each = λ p there. record { each = λ position one few. least_reached system words least (sum (take p system.lens) + position) (sum_old system.lens p position few there) };
  };
  bottom = λ _. least_reached system words least 0 (omega arith);
}

-- no bound of a word is above its least row
pub own_bound : (system : SystemView) (words : List ℕ) → AreLeastRows system words → (row process m : ℕ) → row ≤ sum system.lens → process < length system.lens → IsBound system (place_of system.lens row process) m → m ≤ word_at system.lens words row process
own_bound system words least row process m row_there there bound =
    omega (arith, bound.each row process there refl (row_at system.lens words row) (least.each row row_there).closed, get_or-row_at system.lens words row process there)

-- a floor that has reached the least rows is these rows
pub own_word : (system : SystemView) → 0 < length system.lens → (words floor : List ℕ) → AreLeastRows system words → AreBounds system floor → IsAtMost words floor → (place : ℕ) → place < word_count system.lens
    → get_or floor place 0 ≡ get_or words place 0
own_word system some words floor least bounds within place there =
    let n : ℕ = length system.lens in
    let row : ℕ = place / n in
    let process : ℕ = place % n in
    let here : process < n = mod-lt place some in
    let at : place_of system.lens row process ≡ place = div-add-mod' place n in
    let row_there : row ≤ sum system.lens = elim (lt_or_le (sum system.lens) row) [
      | inl past ↦ let more : sum system.lens + 1 ≤ row = omega (arith, past) in absurd (omega (arith, there, at, mul-le-mul_left n more))
      | inr less ↦ less
    ] in
    let bound : IsBound system (place_of system.lens row process) (get_or floor place 0) = let P : ℕ → Type 0 = λ k. IsBound system k (get_or floor place 0) in subst P (sym at) (bounds.below place) in
    omega (arith, own_bound system words least row process (get_or floor place 0) row_there here bound, within.each place, ap (λ (k : ℕ). get_or words k 0) at)

pub set_same : (xs : List ℕ) (i m : ℕ) → m ≡ get_or xs i 0 → xs ≡ set xs i m
set_same xs i m same = ext_get_or 0 xs (set xs i m) (sym (length-set xs i m)) (λ j below. elim (set_case xs i m j 0) [
  | inl e ↦ sym e
  | inr e ↦ omega (arith, e.0, e.1, same, ap (λ (k : ℕ). get_or xs k 0) e.0)
])

-- what a table of own rows keeps of them
pub record IsOwn (system : SystemView) (begun words : List ℕ) : Type 0 where
  pub least : AreLeastRows system words
  pub size : length words ≡ word_count system.lens
  pub begun_is : begun ≡ words

own_of : (system : SystemView) (rows : RowsView) (begins : Begins) → KeepsOwn system begins (Some rows) → IsOwn system (begun_words begins) rows.words
own_of system rows (Shared floor) wrong = absurd wrong
own_of system rows (Own own) is = record { least = is.1.least; size = is.2; begun_is = sym (ap (λ (v : RowsView). v.words) is.0) }

pub is_own : (system : SystemView) (begins : Begins) (own : Option RowsView) (rows : RowsView) → own ≡ Some rows → KeepsOwn system begins own → IsOwn system (begun_words begins) rows.words
is_own system begins own rows own_is kept = own_of system rows begins (let P : Option RowsView → Type 0 = KeepsOwn system begins in subst P own_is kept)

-- a floor that has reached the least rows, and is within the bounds, is these rows
pub own_same : (system : SystemView) → 0 < length system.lens → (words floor : List ℕ) → AreLeastRows system words → length words ≡ word_count system.lens → AreBounds system floor → IsAtMost words floor → floor ≡ words
own_same system there words floor least size bounds within = ext_get_or 0 floor words (bounds.size ∙ sym size) (λ i below. own_word system there words floor least bounds within i (omega (arith, below, bounds.size)))

-- so the floor of each seat of a table of own rows is these rows
pub own_floor : (system : SystemView) (begins : Begins) (own : Option RowsView) (rows : RowsView) (begun floor : List ℕ) → own ≡ Some rows → KeepsOwn system begins own → begun ≡ begun_words begins → IsShape system.lens
    → AreBounds system floor → IsAtMost begun floor → floor ≡ rows.words
own_floor system begins own rows begun floor own_is kept same shape bounds within =
    let is = is_own system begins own rows own_is kept in
    let P : List ℕ → Type 0 = λ words. IsAtMost words floor in
    own_same system shape.some rows.words floor is.least is.size bounds (subst P (same ∙ is.begun_is) within)

-- a step of the machine finds nothing to raise where the floor is the least
pub own_pulled : (system : SystemView) → IsSystem system → (words floor : List ℕ) → AreLeastRows system words → AreBounds system floor → (row target asked became : ℕ) → target < length system.lens → IsPullStep system floor row target asked
    → became ≡ get_or words (place_of system.lens row target) 0 → became ≡ word_at system.lens floor row target → IsRaised system floor floor (cell_of row target) asked became
own_pulled system is words floor least bounds row target asked became there step now same =
    let parts = pull_parts system floor row step.k step.x step.allowed in
    let bound = pull_step_bound system is floor bounds row step.k step.x step.allowed in
    let P : ℕ → ℕ → Type 0 = λ t m. IsBound system (place_of system.lens row t) m in
    let here : IsBound system (place_of system.lens row target) asked = subst (λ (m : ℕ). P target m) step.asks (subst (λ (t : ℕ). P t (ask system step.k step.x)) step.to bound) in
    record {
      floor = set_same floor (place_of system.lens row target) became same;
      rises = omega (arith, same);
      reaches = omega (arith, now, own_bound system words least row target asked parts.row_there there here);
      bounds = bounds;
    }

pub own_lent : (system : SystemView) (words floor : List ℕ) → AreLeastRows system words → AreBounds system floor → (to_row from_row process y found : ℕ) → is_allowed system floor (Lend to_row from_row process y) ≡ true
    → found ≡ word_at system.lens floor to_row process → word_at system.lens floor to_row process ≡ word_at system.lens words to_row process → IsRaised system floor floor (cell_of to_row process) y found
own_lent system words floor least bounds to_row from_row process y found step now same =
    let parts = lend_parts system floor to_row from_row process y step in
    let here = lend_step_bound system floor bounds to_row from_row process y step in
    record {
      floor = set_same floor (place_of system.lens to_row process) found now;
      rises = omega (arith, now);
      reaches = omega (arith, now, same, own_bound system words least to_row process y parts.to_there parts.there here);
      bounds = bounds;
    }
