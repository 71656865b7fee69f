-- Which parts give the order.
use Rattle.std.proofs.Common.{◌≡◌, Bool, true, false, List, [], ◌∷◌, ◌++◌, refl, ◌∙◌, ap}
use Rattle.std.specs.Prelude.{◌||◌}
use Rattle.rctl_parts.specs.Pieces.{Piece, atom, temporal}
use Rattle.conjunctions.specs.Numbering.{all_atoms}
use Rattle.conjunctions.specs.inside.Numbering.{part_gives_order, gives_order}

or_true : (b : Bool) → (b || true) ≡ true
or_true true = refl
or_true false = refl

pub some_gives : (ps : List Piece) (p : Piece) (later : List Piece) → part_gives_order p ≡ true → gives_order (ps ++ p ∷ later) ≡ true
some_gives [] p later h = ap (λ b. b || gives_order later) h
some_gives (q ∷ ps) p later h = ap (λ b. part_gives_order q || b) (some_gives ps p later h) ∙ or_true (part_gives_order q)

pub none_and_one : (ps : List Piece) (p : Piece) → gives_order ps ≡ false → part_gives_order p ≡ false → gives_order (ps ++ p ∷ []) ≡ false
none_and_one [] p none one = ap (λ b. b || false) one
none_and_one (q ∷ ps) p none one = neither (part_gives_order q) (gives_order ps) (gives_order (ps ++ p ∷ [])) none (λ h. none_and_one ps p h one)
  where
    neither : (a b c : Bool) → (a || b) ≡ false → (b ≡ false → c ≡ false) → (a || c) ≡ false
    neither true b c h more = h
    neither false b c h more = more h

-- atoms don't
pub atoms_give_none : (ps : List Piece) → all_atoms ps ≡ true → gives_order ps ≡ false
atoms_give_none [] h = refl
atoms_give_none (atom a ∷ ps) h = atoms_give_none ps h
atoms_give_none (temporal o qs ∷ ps) h = absurd (cc)

-- where none of the first parts does, but one of all, it is among the others
pub gives_right : (ps qs : List Piece) → gives_order ps ≡ false → gives_order (ps ++ qs) ≡ true → gives_order qs ≡ true
gives_right [] qs none some = some
gives_right (p ∷ ps) qs none some =
    gives_right ps qs (second (part_gives_order p) (gives_order ps) none) (rest (part_gives_order p) (gives_order ps) (gives_order (ps ++ qs)) none some)
  where
    second : (a b : Bool) → (a || b) ≡ false → b ≡ false
    second true b h = absurd (cc)
    second false b h = h

    rest : (a b c : Bool) → (a || b) ≡ false → (a || c) ≡ true → c ≡ true
    rest true b c h k = absurd (cc)
    rest false b c h k = k
