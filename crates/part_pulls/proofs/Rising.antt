-- Counters of parts, of operands and of conjunctions.
use Rattle.std.proofs.Common.{◌≡◌, List, [], ◌∷◌, ◌++◌, refl, sym, ◌∙◌, ap, subst, arith}
use Rattle.std.proofs.lemmas.List.Concat.{flat_map-cons}
use Rattle.run_model.proofs.EdgeLemmas.{all_left, all_right}
use Rattle.counter_preds.specs.declared.values.Variable.{Variable}
use Rattle.counter_preds.specs.Counters.{IsCounter}
use Rattle.rctl_grammar.specs.declared.tree.Operator.{Operator}
use Rattle.rctl_parts.specs.Pieces.{Piece, Pieces, temporal, none, more, pieces, listed}
use Rattle.part_pulls.specs.declared.observed.Observed.{Observed}
use Rattle.part_pulls.specs.Counters.{AllRise, CountersRise, counters_of_part, counters_of_operand, counters_of_parts, counters_of}

pub rise_left : (seen : Observed) (vs ws : List Variable) → AllRise seen (vs ++ ws) → AllRise seen vs
rise_left seen vs ws h = all_left (IsCounter seen.trace.states) vs ws h

pub rise_right : (seen : Observed) (vs ws : List Variable) → AllRise seen (vs ++ ws) → AllRise seen ws
rise_right seen vs ws h = all_right (IsCounter seen.trace.states) vs ws h

-- without counters there is nothing to show
pub none_rise : (seen : Observed) → AllRise seen []
none_rise seen = λ k d there. absurd (omega arith)

-- both sides of a difference
pub left_rises : (seen : Observed) (v w : Variable) → AllRise seen (v ∷ w ∷ []) → IsCounter seen.trace.states v
left_rises seen v w h = h 0 v (omega arith)

pub right_rises : (seen : Observed) (v w : Variable) → AllRise seen (v ∷ w ∷ []) → IsCounter seen.trace.states w
right_rises seen v w h = h 1 w (omega arith)

-- those of a conjunction, by its first part and by one of them
pub first_rises : (seen : Observed) (p : Piece) (ps : List Piece) → AllRise seen (counters_of_parts (p ∷ ps)) → AllRise seen (counters_of_part p)
first_rises seen p ps h = rise_left seen (counters_of_part p) (counters_of_parts ps) (subst (AllRise seen) (flat_map-cons counters_of_part p ps) h)

pub others_rise : (seen : Observed) (p : Piece) (ps : List Piece) → AllRise seen (counters_of_parts (p ∷ ps)) → AllRise seen (counters_of_parts ps)
others_rise seen p ps h = rise_right seen (counters_of_part p) (counters_of_parts ps) (subst (AllRise seen) (flat_map-cons counters_of_part p ps) h)

pub rises_at : (seen : Observed) (ps : List Piece) (p : Piece) (later : List Piece) → AllRise seen (counters_of_parts (ps ++ p ∷ later)) → AllRise seen (counters_of_part p)
rises_at seen [] p later h = first_rises seen p later h
rises_at seen (q ∷ ps) p later h = rises_at seen ps p later (others_rise seen q (ps ++ p ∷ later) h)

-- those of an operand are those of its parts
pub counters_pieces : (ps : List Piece) → counters_of_operand (pieces ps) ≡ counters_of_parts ps
counters_pieces [] = refl
counters_pieces (p ∷ ps) = ap (λ (vs : List Variable). counters_of_part p ++ vs) (counters_pieces ps) ∙ sym (flat_map-cons counters_of_part p ps)

pub listed_counters : (ps : Pieces) → counters_of_operand ps ≡ counters_of_parts (listed ps)
listed_counters none = refl
listed_counters (more p ps) = ap (λ (vs : List Variable). counters_of_part p ++ vs) (listed_counters ps) ∙ sym (flat_map-cons counters_of_part p (listed ps))

pub temporal_rises : (seen : Observed) (p : Piece) (o : Operator) (ps : List Piece) → p ≡ temporal o (pieces ps) → AllRise seen (counters_of_part p) → AllRise seen (counters_of_parts ps)
temporal_rises seen p o ps is h = subst (AllRise seen) (ap counters_of_part is ∙ counters_pieces ps) h

-- those of disjuncts, by the first one and by one of them
pub first_disjunct_rises : (seen : Observed) (d : List Piece) (ds : List (List Piece)) → CountersRise seen (d ∷ ds) → AllRise seen (counters_of_parts d)
first_disjunct_rises seen d ds h = rise_left seen (counters_of_parts d) (counters_of ds) (subst (AllRise seen) (flat_map-cons counters_of_parts d ds) h)

pub other_disjuncts_rise : (seen : Observed) (d : List Piece) (ds : List (List Piece)) → CountersRise seen (d ∷ ds) → CountersRise seen ds
other_disjuncts_rise seen d ds h = rise_right seen (counters_of_parts d) (counters_of ds) (subst (AllRise seen) (flat_map-cons counters_of_parts d ds) h)

pub disjunct_rises : (seen : Observed) (ds : List (List Piece)) (d : List Piece) (later : List (List Piece)) → CountersRise seen (ds ++ d ∷ later) → AllRise seen (counters_of_parts d)
disjunct_rises seen [] d later h = first_disjunct_rises seen d later h
disjunct_rises seen (e ∷ ds) d later h = disjunct_rises seen ds d later (other_disjuncts_rise seen e (ds ++ d ∷ later) h)
