-- The counters of each conjunction of a formula.
use Rattle.std.proofs.Common.{List, [], ◌∷◌, ◌++◌, flat_map, sym, subst}
use Rattle.std.specs.Prelude.{⊤}
use Rattle.std.proofs.lemmas.List.Concat.{flat_map-cons}
use Rattle.rctl_parts.specs.Pieces.{Piece, Pieces, atom, temporal, none, more, listed}
use Rattle.part_pulls.specs.declared.observed.Observed.{Observed}
use Rattle.part_pulls.specs.Counters.{AllRise, CountersRise, counters_of_part, counters_of_operand, counters_of_parts}
use Rattle.part_pulls.proofs.Rising.{rise_left, rise_right, first_rises, others_rise, first_disjunct_rises, other_disjuncts_rise, listed_counters}
use Rattle.conjunctions.specs.Numbering.{within, within_operand, conjunctions_in, all_conjunctions}

-- no counter of any of them falls
abbrev pub EachRises : Observed → List (List Piece) → Type 0
EachRises seen [] = ⊤
EachRises seen (c ∷ cs) = AllRise seen (counters_of_parts c) × EachRises seen cs

each_joined : (seen : Observed) (xs ys : List (List Piece)) → EachRises seen xs → EachRises seen ys → EachRises seen (xs ++ ys)
each_joined seen [] ys left right = right
each_joined seen (x ∷ xs) ys left right = (left.0, each_joined seen xs ys left.1 right)

mutual
  within_rise : (seen : Observed) (p : Piece) → AllRise seen (counters_of_part p) → EachRises seen (within p)
  within_rise seen (atom a) h = tt
  within_rise seen (temporal o ps) h = each_joined seen (within_operand ps) (listed ps ∷ []) (operand_within_rise seen ps h) (subst (AllRise seen) (listed_counters ps) h, tt)

  operand_within_rise : (seen : Observed) (ps : Pieces) → AllRise seen (counters_of_operand ps) → EachRises seen (within_operand ps)
  operand_within_rise seen none h = tt
  operand_within_rise seen (more p ps) h =
      each_joined seen (within p) (within_operand ps) (within_rise seen p (rise_left seen (counters_of_part p) (counters_of_operand ps) h)) (operand_within_rise seen ps (rise_right seen (counters_of_part p) (counters_of_operand ps) h))

all_within_rise : (seen : Observed) (ps : List Piece) → AllRise seen (counters_of_parts ps) → EachRises seen (flat_map within ps)
all_within_rise seen [] h = tt
all_within_rise seen (p ∷ ps) h =
    subst (EachRises seen) (sym (flat_map-cons within p ps)) (each_joined seen (within p) (flat_map within ps) (within_rise seen p (first_rises seen p ps h)) (all_within_rise seen ps (others_rise seen p ps h)))

pub conjunctions_rise : (seen : Observed) (ds : List (List Piece)) → CountersRise seen ds → EachRises seen (all_conjunctions ds)
conjunctions_rise seen [] h = tt
conjunctions_rise seen (d ∷ ds) h =
    let first = first_disjunct_rises seen d ds h in
    subst (EachRises seen) (sym (flat_map-cons conjunctions_in d ds))
    (each_joined seen (conjunctions_in d) (all_conjunctions ds) (each_joined seen (flat_map within d) (d ∷ []) (all_within_rise seen d first) (first, tt)) (conjunctions_rise seen ds (other_disjuncts_rise seen d ds h)))
