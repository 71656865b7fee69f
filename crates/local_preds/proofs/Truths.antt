-- The next position whose truth is true, and the pulls that are made of it.
use Rattle.std.proofs.Common.{◌≡◌, ◌↔◌, ℕ, zero, suc, ◌+◌, ◌-◌, ◌<◌, ◌≤◌, Bool, true, false, List, [], ◌∷◌, ◌++◌, length, map, get_or, set, inl, inr, refl, ap, sym, subst, ◌∙◌, arith}
use Rattle.std.specs.Prelude.{nat_le, All, ◌&&◌, if◌then◌else◌, replicate}
use Rattle.std.specs.List.{range_with_len}
use Rattle.std.proofs.lemmas.Bool.{cases_lt, cases_eq, le-leb, lt-leb, leb-true, and_parts, and_from, and_left, and_right, false≢true}
use Rattle.std.proofs.lemmas.List.{get_or_past, get_or-set_same, get_or-set_other, length-set, get_or-replicate, length-replicate}
use Rattle.std.proofs.lemmas.List.Elements.{All-cons, All-nil, All-head}
use Rattle.std.proofs.lemmas.List.FromFn.{length-map-range_with_len, get_or-map-range_with_len, fill_by_all}
use Rattle.pull_system.specs.declared.pull.Pull.{Pull}
use Rattle.pull_system.specs.System.{RisesWithin, IsPull}
use Rattle.pull_system.specs.Pulls.{HoldsAt, ClosedUnder, first_below}
use Rattle.pull_system.proofs.PullLists.{first_within, first_passes, first_least, first_grows}
use Rattle.pull_system.proofs.FirstNumbers.{first_is, first_none}
use Rattle.local_preds.specs.LocalPulls.{is_true_from, next_true, local_pull, never_pull, constant_pulls_of}

-- a position that is true is the next one
next_here : (row : List Bool) (x : ℕ) → x < length row → get_or row x false ≡ true → x ≡ next_true row x
next_here row x there yes_ =
    sym (first_is (is_true_from row x) (length row) x there (and_from _ _ (le-leb x x (omega arith)) yes_) (λ y lt. and_left _ _ (lt-leb x y lt)))

-- a position that is false has the next one of the position behind it
next_behind : (row : List Bool) (x : ℕ) → get_or row x false ≡ false → next_true row (x + 1) ≡ next_true row x
next_behind row x no_ =
    let more : (y : ℕ) → y < length row → is_true_from row x y ≡ true → is_true_from row (x + 1) y ≡ true =
    λ y lt has.
    let parts = and_parts (nat_le x y) (get_or row y false) has in
    elim (cases_eq x y) [
      | inl same ↦ absurd (false≢true (sym no_ ∙ ap (λ (i : ℕ). get_or row i false) same ∙ parts.1))
      | inr other ↦ let ahead : x + 1 ≤ y = omega (arith, leb-true _ _ parts.0) in and_from _ _ (le-leb (x + 1) y ahead) parts.1
    ] in
    let less : (y : ℕ) → y < length row → is_true_from row (x + 1) y ≡ true → is_true_from row x y ≡ true =
    λ y lt has. let parts = and_parts (nat_le (x + 1) y) (get_or row y false) has in and_from _ _ (le-leb x y (omega (arith, leb-true _ _ parts.0))) parts.1 in
    omega (
      arith,
      first_grows (is_true_from row (x + 1)) (is_true_from row x) (length row) (length row) (omega arith) more,
      first_grows (is_true_from row x) (is_true_from row (x + 1)) (length row) (length row) (omega arith) less,
    )

-- behind the last position there is none
pub next_past : (row : List Bool) → length row ≡ next_true row (length row)
next_past row = sym (first_none (is_true_from row (length row)) (length row) (λ y lt. and_left _ _ (lt-leb (length row) y lt)))

-- ---- the table, from its end

-- the entries from x on are told, and the next true position from x on
pub record ToldFrom (row : List Bool) (x next : ℕ) (table : List ℕ) : Type 0 where
  pub size : length table ≡ length row + 1
  pub last : next ≡ next_true row x
  pub told : (y : ℕ) → x ≤ y → y ≤ length row → get_or table y 0 ≡ next_true row y

pub told_none : (row : List Bool) (none : ℕ) (table : List ℕ) → none ≡ length row → table ≡ replicate (length row + 1) none → ToldFrom row (length row) none table
told_none row none table is filled = record {
  size = ap (λ (l : List ℕ). length l) filled ∙ length-replicate (length row + 1) none;
  last = is ∙ next_past row;
  told = λ y behind there.
      let here : y ≡ length row = omega arith in
      ap (λ (l : List ℕ). get_or l y 0) filled ∙ get_or-replicate (length row + 1) y none 0 (omega arith) ∙ is ∙ next_past row ∙ ap (next_true row) (sym here);
}

next_chosen : (row : List Bool) (x : ℕ) (is_true : Bool) (next : ℕ) → x < length row → get_or row x false ≡ is_true → next ≡ next_true row (x + 1)
    → (if is_true then x else next) ≡ next_true row x
next_chosen row x true next there is last = next_here row x there is
next_chosen row x false next there is last = last ∙ next_behind row x is

-- one entry more, before those that are told
pub told_more : (row : List Bool) (p : ℕ) (is_true : Bool) (next after : ℕ) (table : List ℕ) → 0 < p → p ≤ length row → get_or row (p - 1) false ≡ is_true → ToldFrom row p next table
    → after ≡ (if is_true then p - 1 else next) → ToldFrom row (p - 1) after (set table (p - 1) after)
told_more row p is_true next after table some there is h chosen =
    let x = p - 1 in
    let behind : p ≡ x + 1 = omega arith in
    let last : after ≡ next_true row x = chosen ∙ next_chosen row x is_true next (omega arith) is (h.last ∙ ap (next_true row) behind) in
    record {
      size = length-set table x after ∙ h.size;
      last = last;
      told = λ y from end. elim (cases_eq y x) [
        | inl same ↦ ap (λ (i : ℕ). get_or (set table x after) i 0) same ∙ get_or-set_same table x after 0 (omega (arith, h.size)) ∙ last ∙ ap (next_true row) (sym same)
        | inr other ↦ get_or-set_other table x y after 0 other ∙ h.told y (omega arith) end
      ];
    }

pub all_told : (row : List Bool) (next : ℕ) (table : List ℕ) → ToldFrom row 0 next table → table ≡ map (next_true row) (range_with_len 0 (length row + 1))
all_told row next table h = fill_by_all (next_true row) table (length row + 1) 0 h.size (λ k lt. h.told k (omega arith) (omega arith))

-- ---- the pull of a process's truths

length-table : (row : List Bool) → length (map (next_true row) (range_with_len 0 (length row + 1))) ≡ length row + 1
length-table row = length-map-range_with_len (next_true row) 0 (length row + 1)

pub next_at : (row : List Bool) (x : ℕ) → x ≤ length row → get_or (map (next_true row) (range_with_len 0 (length row + 1))) x 0 ≡ next_true row x
next_at row x there = get_or-map-range_with_len (next_true row) 0 (length row + 1) x x 0 (omega arith) (omega arith)

next_rises : (row : List Bool) (x y : ℕ) → x ≤ y → next_true row x ≤ next_true row y
next_rises row x y h =
    first_grows (is_true_from row x) (is_true_from row y) (length row) (length row) (omega arith)
    (λ k lt has. let parts = and_parts (nat_le y k) (get_or row k false) has in and_from _ _ (le-leb x k (omega (arith, leb-true _ _ parts.0))) parts.1)

pub only : (P : Pull → Type 0) (pull : Pull) → P pull → All P (pull ∷ [])
only P pull h = All-cons P pull [] h (All-nil P)

pub local_fits : (lens : List ℕ) (p : ℕ) (row : List Bool) → p < length lens → length row ≡ get_or lens p 0 + 1 → IsPull lens (local_pull p row)
local_fits lens p row there size =
    let table = map (next_true row) (range_with_len 0 (length row + 1)) in
    record {
      source = there;
      target = there;
      size = omega (arith, length-table row);
      table = record {
        rises = λ x y h lt. omega (arith, length-table row, next_at row x (omega (arith, length-table row)), next_at row y (omega (arith, length-table row)), next_rises row x y h);
        within = λ x. elim (cases_lt x (length table)) [
          | inl lt ↦ omega (arith, next_at row x (omega (arith, length-table row)), first_within (is_true_from row x) (length row))
          | inr past ↦ omega (arith, get_or_past table x 0 past)
        ];
      };
    }

pub local_holds : (p : ℕ) (row : List Bool) (v : List ℕ) → get_or v p 0 < length row → HoldsAt v (local_pull p row) ↔ (get_or row (get_or v p 0) false ≡ true)
local_holds p row v there =
    let x = get_or v p 0 in
    let read = next_at row x (omega arith) in (
      λ holds.
          let here : next_true row x ≤ x = omega (arith, read, holds) in
          let passes = first_passes (is_true_from row x) (length row) (omega arith) in
          let parts = and_parts (nat_le x (next_true row x)) (get_or row (next_true row x) false) passes in
          let same : next_true row x ≡ x = omega (arith, leb-true _ _ parts.0) in
          ap (λ (i : ℕ). get_or row i false) (sym same) ∙ parts.1,
      λ yes_. omega (arith, read, first_least (is_true_from row x) (length row) x there (and_from _ _ (le-leb x x (omega arith)) yes_)),
    )

pub pulls_fit : (lens : List ℕ) (p : ℕ) (row : List Bool) (pulls : List Pull) → pulls ≡ local_pull p row ∷ [] → p < length lens → length row ≡ get_or lens p 0 + 1 → All (IsPull lens) pulls
pulls_fit lens p row pulls is there size = subst (λ (ps : List Pull). All (IsPull lens) ps) (sym is) (only (IsPull lens) (local_pull p row) (local_fits lens p row there size))

pub pulls_close : (p : ℕ) (row : List Bool) (pulls : List Pull) → pulls ≡ local_pull p row ∷ [] → (v : List ℕ) → get_or v p 0 < length row
    → ClosedUnder pulls v ↔ (get_or row (get_or v p 0) false ≡ true)
pulls_close p row pulls is v there =
    let hold = local_holds p row v there in
    subst (λ (ps : List Pull). ClosedUnder ps v ↔ (get_or row (get_or v p 0) false ≡ true)) (sym is) (
      λ closed. hold.0 (All-head (HoldsAt v) (local_pull p row) [] closed),
      λ yes_. only (HoldsAt v) (local_pull p row) (hold.1 yes_),
    )

-- ---- the pull that no cut keeps

pub never_filled : (lens : List ℕ) (none : ℕ) (table : List ℕ) → none ≡ get_or lens 0 0 + 1 → table ≡ replicate (none + 1) none → table ≡ (never_pull lens).table
never_filled lens none table is filled =
    let size : length table ≡ get_or lens 0 0 + 2 = ap (λ (l : List ℕ). length l) filled ∙ length-replicate (none + 1) none ∙ omega arith in
    fill_by_all (λ x. get_or lens 0 0 + 1) table (get_or lens 0 0 + 2) 0 size
    (λ k lt. ap (λ (l : List ℕ). get_or l k 0) filled ∙ get_or-replicate (none + 1) k none 0 (omega arith) ∙ is)

length-never : (lens : List ℕ) → length (never_pull lens).table ≡ get_or lens 0 0 + 2
length-never lens = length-map-range_with_len (λ x. get_or lens 0 0 + 1) 0 (get_or lens 0 0 + 2)

pub never_at : (lens : List ℕ) (x : ℕ) → x ≤ get_or lens 0 0 + 1 → get_or (never_pull lens).table x 0 ≡ get_or lens 0 0 + 1
never_at lens x there = get_or-map-range_with_len (λ x. get_or lens 0 0 + 1) 0 (get_or lens 0 0 + 2) x x 0 (omega arith) (omega arith)

never_fits : (lens : List ℕ) → 0 < length lens → IsPull lens (never_pull lens)
never_fits lens some = record {
  source = some;
  target = some;
  size = length-never lens;
  table = record {
    rises = λ x y h lt. omega (arith, length-never lens, never_at lens x (omega (arith, length-never lens)), never_at lens y (omega (arith, length-never lens)));
    within = λ x. elim (cases_lt x (length (never_pull lens).table)) [
      | inl lt ↦ omega (arith, never_at lens x (omega (arith, length-never lens)))
      | inr past ↦ omega (arith, get_or_past (never_pull lens).table x 0 past)
    ];
  };
}

pub constant_fits : (lens : List ℕ) (value : Bool) → 0 < length lens → All (IsPull lens) (constant_pulls_of lens value)
constant_fits lens true some = All-nil (IsPull lens)
constant_fits lens false some = only (IsPull lens) (never_pull lens) (never_fits lens some)

pub constant_closes : (lens : List ℕ) (value : Bool) (v : List ℕ) → get_or v 0 0 ≤ get_or lens 0 0 → ClosedUnder (constant_pulls_of lens value) v ↔ (value ≡ true)
constant_closes lens true v within = (λ closed. refl, λ yes_. All-nil (HoldsAt v))
constant_closes lens false v within = (
  λ closed. absurd (omega (arith, All-head (HoldsAt v) (never_pull lens) [] closed, never_at lens (get_or v 0 0) (omega arith))),
  λ yes_. absurd (false≢true yes_),
)

-- ---- a list of one pull, with its table told

abbrev pub staying : ℕ → List ℕ → List Pull
staying p table = record { src = p; dst = p; table = table } ∷ []

pub told_pulls : (pulls : List Pull) (p : ℕ) (table told : List ℕ) → table ≡ told → pulls ≡ staying p table → pulls ≡ staying p told
told_pulls pulls p table told same is = is ∙ ap (staying p) same
