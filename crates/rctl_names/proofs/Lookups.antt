-- Names looked up: what stands at the place that was found.
use Rattle.std.proofs.Common.{◌≡◌, ℕ, suc, ◌+◌, ◌<◌, List, [], ◌∷◌, length, get_or, Some, sym, ap, ◌∙◌, inl, inr, arith}
use Rattle.std.proofs.lemmas.Bool.{cases_Bool}
use Rattle.std.proofs.lemmas.Slice.Eq.{bytes_eq-Decides}
use Rattle.std.specs.Prelude.{bytes_eq}
use Rattle.run_model.specs.Run.{Name}
use Rattle.log_lines.specs.Names.{place_from, place_of}
use Rattle.rctl_names.specs.Numbers.{number, or_zero}

-- a name found so far behind a start
record IsFound (start : ℕ) (names : List Name) (name : Name) (i : ℕ) : Type 0 where
  pub place : ℕ
  pub behind : i ≡ start + place
  pub within : place < length names
  pub there : get_or names place [] ≡ name

found_from : (start : ℕ) (names : List Name) (name : Name) (i : ℕ) → place_from start names name ≡ Some i → IsFound start names name i
found_from start [] name i h = absurd (cc)
found_from start (n ∷ ns) name i h = elim (cases_Bool (bytes_eq n name)) [
  | inl is ↦ let e : Some start ≡ Some i = (let k = rw is at h in k) in
      record { place = 0; behind = (let same : start ≡ i = cc in omega (arith, same)); within = omega arith; there = (bytes_eq-Decides n name).0 is }
  | inr other ↦ let rest = found_from (start + 1) ns name i (rw other at h) in
      record { place = suc rest.place; behind = omega (arith, rest.behind); within = omega (arith, rest.within); there = rest.there }
]

-- the name stands at the place where it was found
pub found_there : (names : List Name) (name : Name) (i : ℕ) → place_of names name ≡ Some i → get_or names i [] ≡ name
found_there names name i h =
    let f = found_from 0 names name i h in
    ap (λ k. get_or names k []) (let e : i ≡ f.place = omega (arith, f.behind) in e) ∙ f.there

pub found_within : (names : List Name) (name : Name) (i : ℕ) → place_of names name ≡ Some i → i < length names
found_within names name i h = let f = found_from 0 names name i h in omega (arith, f.behind, f.within)

pub found_number : (names : List Name) (name : Name) (i : ℕ) → place_of names name ≡ Some i → number names name ≡ i
found_number names name i h = ap or_zero h

-- two names at one place are one
pub found_once : (names : List Name) (m n : Name) (i : ℕ) → place_of names m ≡ Some i → place_of names n ≡ Some i → m ≡ n
found_once names m n i h k = sym (found_there names m i h) ∙ found_there names n i k

pub same_place : (names : List Name) (n : Name) (i k : ℕ) → place_of names n ≡ Some i → place_of names n ≡ Some k → i ≡ k
same_place names n i k h l = let e = sym h ∙ l in cc
