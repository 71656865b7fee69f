-- Of what something may be told: of a disjunct, of the parts under its operator, and of one part.
use Rattle.std.proofs.Common.{◌≡◌, ℕ, zero, suc, ◌+◌, ◌<◌, ◌≤◌, true, get_or, take, drop, List, [], ◌∷◌, ◌++◌, length, refl, sym, ◌∙◌, ap, subst, arith, append-nil}
use Rattle.std.proofs.lemmas.List.Concat.{flat_map-cons}
use Rattle.rctl_parts.specs.declared.part.Part.{Part}
use Rattle.rctl_parts.specs.Pieces as piece
use Rattle.rctl_parts.specs.Pieces.{Piece, Pieces, atom, temporal, pieces, listed, piece_of, pieces_of}
use Rattle.rctl_parts.specs.MadeFor.{Scope, PiecesFit, EachFits, part_count, operand_count, parts_count}
use Rattle.rctl_parts.proofs.Spelling.{listed-pieces}
use Rattle.rctl_grammar.specs.declared.tree.Operator.{Operator}
use Rattle.asked_parts.specs.Asked.{over}
use Rattle.part_pulls.specs.declared.observed.Observed.{Observed}
use Rattle.part_pulls.specs.Observing.{scope_seen}
use Rattle.part_pulls.specs.Systems.{is_atom}
use Rattle.part_pulls.specs.Counters.{AllRise, CountersRise, counters_of_part, counters_of_parts}
use Rattle.part_pulls.proofs.Taken.{disjunct_fits, disjunct_count, fits_at, count_at}
use Rattle.part_pulls.proofs.Rising.{disjunct_rises, rises_at, none_rise, listed_counters, first_rises}
use Rattle.conjunctions.specs.Settling.{CanAnswer}
use Rattle.question_outcomes.specs.inside.Nowhere.{operand_of}
use Rattle.question_outcomes.specs.inside.Telling.{CanTell}

pub disjunct_tells : (seen : Observed) (ds : List (List Piece)) (d : List Piece) (later : List (List Piece)) → CanAnswer seen (ds ++ d ∷ later) → CountersRise seen (ds ++ d ∷ later) → CanTell seen d
disjunct_tells seen ds d later can rise = record {
  fits = disjunct_fits (scope_seen seen) ds d later can.fit;
  counters = disjunct_rises seen ds d later rise;
  count = let most = can.parts in omega (arith, disjunct_count ds d later);
}

-- ---- the operand of one operator

operand_fits : (scope : Scope) (ps : Pieces) → PiecesFit scope ps → EachFits scope (listed ps)
operand_fits scope piece.none h = h
operand_fits scope (piece.more p ps) h = (h.0, operand_fits scope ps h.1)

operand_parts : (ps : Pieces) → operand_count ps ≡ parts_count (listed ps)
operand_parts piece.none = refl
operand_parts (piece.more p ps) = ap (λ n. part_count p + n) (operand_parts ps)

none_tells : (seen : Observed) → CanTell seen []
none_tells seen = record { fits = tt; counters = none_rise seen; count = omega arith }

under_tells : (seen : Observed) (o : Operator) (ps : Pieces) → CanTell seen (temporal o ps ∷ []) → CanTell seen (listed ps)
under_tells seen o ps can = record {
  fits = operand_fits (scope_seen seen) ps can.fits.0.1;
  counters = subst (AllRise seen) (listed_counters ps) (first_rises seen (temporal o ps) [] can.counters);
  count = let most = can.count in omega (arith, operand_parts ps);
}

pub operand_tells : (seen : Observed) (d : List Piece) → CanTell seen d → CanTell seen (operand_of d)
operand_tells seen [] can = none_tells seen
operand_tells seen (atom a ∷ ps) can = none_tells seen
operand_tells seen (temporal o qs ∷ []) can = under_tells seen o qs can
operand_tells seen (temporal o qs ∷ p ∷ ps) can = none_tells seen

-- the parts that a disjunct is an operator over
pub over_tells : (seen : Observed) (o : Operator) (d ps : List Piece) → d ≡ over o ps ∷ [] → CanTell seen d → CanTell seen ps
over_tells seen o d ps is can = subst (CanTell seen) (listed-pieces ps) (under_tells seen o (pieces ps) (subst (CanTell seen) is can))

-- ---- one part

pub part_tells : (seen : Observed) (ps : List Piece) (p : Piece) (later : List Piece) → CanTell seen (ps ++ p ∷ later) → CanTell seen (p ∷ [])
part_tells seen ps p later can = record {
  fits = (fits_at (scope_seen seen) ps p later can.fits, tt);
  counters = subst (AllRise seen) (one_counters p) (rises_at seen ps p later can.counters);
  count = let most = can.count in omega (arith, count_at ps p later);
}
  where
    one_counters : (p : Piece) → counters_of_part p ≡ counters_of_parts (p ∷ [])
    one_counters p = sym (flat_map-cons counters_of_part p [] ∙ append-nil (counters_of_part p))

-- so many parts are no more than are counted
pub few_parts : (ps : List Piece) → length ps ≤ parts_count ps
few_parts [] = omega arith
few_parts (p ∷ ps) = let some = one_at_least p in omega (arith, few_parts ps)
  where
    one_at_least : (p : Piece) → 1 ≤ part_count p
    one_at_least (atom a) = omega arith
    one_at_least (temporal o qs) = omega arith

-- ---- a list of one part

pub one_part : (parts : List Part) (part : Part) → length parts ≡ 1 → part ≡ get_or parts 0 part → pieces_of parts ≡ piece_of part ∷ []
one_part [] part one at = absurd (omega arith)
one_part (p ∷ []) part one at = ap (λ (q : Part). piece_of q ∷ []) (sym at)
one_part (p ∷ q ∷ parts) part one at = absurd (omega (arith, one))

pub atom_operand : (p : Piece) → is_atom p ≡ true → operand_of (p ∷ []) ≡ []
atom_operand (atom a) h = refl
atom_operand (temporal o qs) h = absurd (cc)

-- the part of a number, alone, between those before and those behind it
pub record IsAlone (parts : List Part) (i : ℕ) : Type 0 where
  pub part : Piece
  pub later : List Piece
  pub all : pieces_of parts ≡ pieces_of (take i parts) ++ part ∷ later
  pub alone : pieces_of (take 1 (drop i parts)) ≡ part ∷ []
  pub taken : pieces_of (take (i + 1) parts) ≡ pieces_of (take i parts) ++ part ∷ []

pub part_alone : (parts : List Part) (i : ℕ) → i < length parts → IsAlone parts i
part_alone [] i there = absurd (omega arith)
part_alone (p ∷ parts) zero there = record { part = piece_of p; later = pieces_of parts; all = refl; alone = refl; taken = refl }
part_alone (p ∷ parts) (suc i) there =
    let rest = part_alone parts i (omega arith) in
    record {
      part = rest.part;
      later = rest.later;
      all = ap (λ (ps : List Piece). piece_of p ∷ ps) rest.all;
      alone = rest.alone;
      taken = ap (λ (n : ℕ). pieces_of (take n (p ∷ parts))) (one_more i) ∙ ap (λ (ps : List Piece). piece_of p ∷ ps) rest.taken;
    }
  where
    one_more : (i : ℕ) → suc i + 1 ≡ suc (i + 1)
    one_more i = omega arith
