-- The parts of a list, and the disjuncts, one after the other.
use Rattle.std.proofs.Common.{◌≡◌, ℕ, suc, zero, ◌+◌, ◌<◌, ◌≤◌, List, [], ◌∷◌, ◌++◌, length, take, get_or, sym, ◌∙◌, ap, arith, add-one}
use Rattle.std.proofs.lemmas.List.{length-map, length-take-le, take_all}
use Rattle.rctl_parts.specs.declared.part.Part.{Part}
use Rattle.rctl_parts.specs.Pieces.{Piece, piece_of, pieces_of, disjuncts_of}
use Rattle.rctl_parts.specs.MadeFor.{Scope, PieceFits, EachFits, AllFit, part_count, parts_count, disjuncts_count}

-- the part that comes next, among all of them
pub record Splits (all ps : List Piece) (p : Piece) : Type 0 where
  pub later : List Piece
  pub is : all ≡ ps ++ p ∷ later

pub fits_at : (scope : Scope) (ps : List Piece) (p : Piece) (later : List Piece) → EachFits scope (ps ++ p ∷ later) → PieceFits scope p
fits_at scope [] p later h = h.0
fits_at scope (q ∷ ps) p later h = fits_at scope ps p later h.1

pub count_at : (ps : List Piece) (p : Piece) (later : List Piece) → part_count p ≤ parts_count (ps ++ p ∷ later)
count_at [] p later = omega arith
count_at (q ∷ ps) p later = omega (arith, count_at ps p later)

-- what comes before a place, what stands there, and what comes behind it
pub splits_at : (parts : List Part) (i : ℕ) (part : Part) → i < length parts → part ≡ get_or parts i part → Splits (pieces_of parts) (pieces_of (take i parts)) (piece_of part)
splits_at [] i part h at = absurd (omega arith)
splits_at (q ∷ parts) zero part h at = record { later = pieces_of parts; is = ap (λ r. piece_of r ∷ pieces_of parts) (sym at) }
splits_at (q ∷ parts) (suc i) part h at =
    let later = splits_at parts i part (omega arith) at in
    record { later = later.later; is = ap (λ ps. piece_of q ∷ ps) later.is }

-- one part more was taken
pub taken_more : (parts : List Part) (i : ℕ) (part : Part) → i < length parts → part ≡ get_or parts i part → pieces_of (take (i + 1) parts) ≡ pieces_of (take i parts) ++ piece_of part ∷ []
taken_more parts i part h at = ap (λ n. pieces_of (take n parts)) (add-one i) ∙ taken parts i part h at
  where
    taken : (parts : List Part) (i : ℕ) (part : Part) → i < length parts → part ≡ get_or parts i part → pieces_of (take (suc i) parts) ≡ pieces_of (take i parts) ++ piece_of part ∷ []
    taken [] i part h at = absurd (omega arith)
    taken (q ∷ parts) zero part h at = ap (λ r. piece_of r ∷ []) (sym at)
    taken (q ∷ parts) (suc i) part h at = ap (λ ps. piece_of q ∷ ps) (taken parts i part (omega arith) at)

pub length-taken : (parts : List Part) (i : ℕ) → i ≤ length parts → length (pieces_of (take i parts)) ≡ i
length-taken parts i h = length-map (take i parts) piece_of ∙ length-take-le i parts h

pub taken_all : (parts : List Part) (i : ℕ) → length parts ≤ i → pieces_of (take i parts) ≡ pieces_of parts
taken_all parts i h = ap pieces_of (take_all i parts h)

-- ---- disjuncts

pub record SplitsAt (all ds : List (List Piece)) (d : List Piece) : Type 0 where
  pub later : List (List Piece)
  pub is : all ≡ ds ++ d ∷ later

pub disjunct_at : (disjuncts : List (List Part)) (i : ℕ) (disjunct : List Part) → i < length disjuncts → disjunct ≡ get_or disjuncts i disjunct
    → SplitsAt (disjuncts_of disjuncts) (disjuncts_of (take i disjuncts)) (pieces_of disjunct)
disjunct_at [] i disjunct h at = absurd (omega arith)
disjunct_at (q ∷ disjuncts) zero disjunct h at = record { later = disjuncts_of disjuncts; is = ap (λ r. pieces_of r ∷ disjuncts_of disjuncts) (sym at) }
disjunct_at (q ∷ disjuncts) (suc i) disjunct h at =
    let later = disjunct_at disjuncts i disjunct (omega arith) at in record { later = later.later; is = ap (λ ds. pieces_of q ∷ ds) later.is }

pub disjuncts_taken : (disjuncts : List (List Part)) (i : ℕ) (disjunct : List Part) → i < length disjuncts → disjunct ≡ get_or disjuncts i disjunct
    → disjuncts_of (take (i + 1) disjuncts) ≡ disjuncts_of (take i disjuncts) ++ pieces_of disjunct ∷ []
disjuncts_taken disjuncts i disjunct h at = ap (λ n. disjuncts_of (take n disjuncts)) (add-one i) ∙ taken disjuncts i disjunct h at
  where
    taken : (disjuncts : List (List Part)) (i : ℕ) (disjunct : List Part) → i < length disjuncts → disjunct ≡ get_or disjuncts i disjunct
        → disjuncts_of (take (suc i) disjuncts) ≡ disjuncts_of (take i disjuncts) ++ pieces_of disjunct ∷ []
    taken [] i disjunct h at = absurd (omega arith)
    taken (q ∷ disjuncts) zero disjunct h at = ap (λ r. pieces_of r ∷ []) (sym at)
    taken (q ∷ disjuncts) (suc i) disjunct h at = ap (λ ds. pieces_of q ∷ ds) (taken disjuncts i disjunct (omega arith) at)

pub length-disjuncts : (disjuncts : List (List Part)) (i : ℕ) → i ≤ length disjuncts → length (disjuncts_of (take i disjuncts)) ≡ i
length-disjuncts disjuncts i h = length-map (take i disjuncts) pieces_of ∙ length-take-le i disjuncts h

pub all_taken : (disjuncts : List (List Part)) (i : ℕ) → length disjuncts ≤ i → disjuncts_of (take i disjuncts) ≡ disjuncts_of disjuncts
all_taken disjuncts i h = ap disjuncts_of (take_all i disjuncts h)

pub disjunct_fits : (scope : Scope) (ds : List (List Piece)) (d : List Piece) (later : List (List Piece)) → AllFit scope (ds ++ d ∷ later) → EachFits scope d
disjunct_fits scope [] d later h = h.0
disjunct_fits scope (e ∷ ds) d later h = disjunct_fits scope ds d later h.1

pub disjunct_count : (ds : List (List Piece)) (d : List Piece) (later : List (List Piece)) → parts_count d ≤ disjuncts_count (ds ++ d ∷ later)
disjunct_count [] d later = omega arith
disjunct_count (e ∷ ds) d later = omega (arith, disjunct_count ds d later)
