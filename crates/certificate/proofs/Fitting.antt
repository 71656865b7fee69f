-- The plan of a formula fits the run.
use Rattle.std.proofs.Common.{◌≡◌, ℕ, zero, suc, ◌+◌, ◌^◌, ◌<◌, ◌≤◌, List, [], ◌∷◌, ◌++◌, length, get_or, refl, sym, ◌∙◌, ap, subst, arith}
use Rattle.std.specs.Prelude.{All, ⊤}
use Rattle.std.proofs.lemmas.List.{length-append}
use Rattle.std.proofs.lemmas.List.Elements.{All-cons, All-nil}
use Rattle.run_model.proofs.Counts.{length-lengths}
use Rattle.trace_growth.specs.Growing.{IsTrace}
use Rattle.rctl_parts.specs.Pieces.{Piece, Pieces, atom, temporal, none, more, pieces}
use Rattle.rctl_parts.specs.MadeFor.{PieceFits, PiecesFit, AllFit, part_count, operand_count, parts_count, disjuncts_count}
use Rattle.part_pulls.specs.declared.observed.Observed.{Observed}
use Rattle.part_pulls.specs.Observing.{clocks_seen, lens_seen, scope_seen}
use Rattle.part_pulls.specs.Operating.{FitsProcesses}
use Rattle.part_pulls.specs.Counters.{AllRise, CountersRise, counters_of_part, counters_of_operand}
use Rattle.part_pulls.proofs.Atoms.{few_pulls}
use Rattle.part_pulls.proofs.Fitting.{atom_fits}
use Rattle.part_pulls.proofs.Operators.{processes_fit}
use Rattle.part_pulls.proofs.Rising.{rise_left, rise_right, counters_pieces, first_disjunct_rises, other_disjuncts_rise}
use Rattle.certificate_nodes.specs.declared.plan.Node.{Node}
use Rattle.certificate_nodes.specs.Plans.{no_node, no_parts, FitsPart, AreParts, IsNode, IsPlan}
use Rattle.certificate.specs.Numbering.{nodes_of, operand_nodes, asked_by, asked_by_all, nodes_in, nodes_in_all, operand_node, disjunct_count, disjunct_nodes, disjuncts_asked, plan_of}
use Rattle.certificate.proofs.Standing.{count_in, count_all}
use Rattle.certificate.proofs.Disjuncts.{parts_fit}

-- ---- nodes of these numbers

abbrev AreNodesFrom : List ℕ → ℕ → List Node → Type 0
AreNodesFrom lens before [] = ⊤
AreNodesFrom lens before (n ∷ ns) = IsNode lens before n × AreNodesFrom lens (before + 1) ns

joined : (lens : List ℕ) (before : ℕ) (xs ys : List Node) → AreNodesFrom lens before xs → AreNodesFrom lens (before + length xs) ys → AreNodesFrom lens before (xs ++ ys)
joined lens before [] ys left right = subst (λ (n : ℕ). AreNodesFrom lens n ys) (omega arith) right
joined lens before (x ∷ xs) ys left right =
    (left.0, joined lens (before + 1) xs ys left.1 (subst (λ (n : ℕ). AreNodesFrom lens n ys) (omega arith) right))

node_here : (lens : List ℕ) (before : ℕ) (xs : List Node) → AreNodesFrom lens before xs → (k : ℕ) → k < length xs → IsNode lens (before + k) (get_or xs k no_node)
node_here lens before [] h k there = absurd (omega (arith, there))
node_here lens before (x ∷ xs) h zero there = subst (λ (n : ℕ). IsNode lens n x) (omega arith) h.0
node_here lens before (x ∷ xs) h (suc k) there = subst (λ (n : ℕ). IsNode lens n (get_or xs k no_node)) (omega arith) (node_here lens (before + 1) xs h.1 k (omega (arith, there)))

-- ---- what parts ask

one_asked : (seen : Observed) → IsTrace seen.trace.states → (p : Piece) (before bound : ℕ) → before + nodes_of p ≤ bound → PieceFits (scope_seen seen) p → AllRise seen (counters_of_part p)
    → FitsPart (lens_seen seen) bound (asked_by seen before p)
one_asked seen trace (atom a) before bound within fits rise = (atom_fits seen trace a fits rise, few_pulls seen a)
one_asked seen trace (temporal o ps) before bound within fits rise = omega (arith, within)

all_asked : (seen : Observed) → IsTrace seen.trace.states → (ps : Pieces) (before bound : ℕ) → before + operand_nodes ps ≤ bound → PiecesFit (scope_seen seen) ps → AllRise seen (counters_of_operand ps)
    → All (FitsPart (lens_seen seen) bound) (asked_by_all seen before ps)
all_asked seen trace none before bound within fits rise = All-nil (FitsPart (lens_seen seen) bound)
all_asked seen trace (more p ps) before bound within fits rise =
    All-cons (FitsPart (lens_seen seen) bound) (asked_by seen before p) (asked_by_all seen (before + nodes_of p) ps)
    (one_asked seen trace p before bound (omega (arith, within)) fits.0 (rise_left seen (counters_of_part p) (counters_of_operand ps) rise))
    (all_asked seen trace ps (before + nodes_of p) bound (omega (arith, within)) fits.1 (rise_right seen (counters_of_part p) (counters_of_operand ps) rise))

some_part : (p : Piece) → 1 ≤ part_count p
some_part (atom a) = omega arith
some_part (temporal o ps) = omega arith

length-asked : (seen : Observed) (before : ℕ) (ps : Pieces) → length (asked_by_all seen before ps) ≤ operand_count ps
length-asked seen before none = omega arith
length-asked seen before (more p ps) = omega (arith, some_part p, length-asked seen (before + nodes_of p) ps)

parts_are : (seen : Observed) → IsTrace seen.trace.states → (ps : Pieces) (before bound : ℕ) → before + operand_nodes ps ≤ bound → PiecesFit (scope_seen seen) ps → AllRise seen (counters_of_operand ps)
    → operand_count ps ≤ 2 ^ 16 → AreParts (lens_seen seen) bound (asked_by_all seen before ps)
parts_are seen trace ps before bound within fits rise few = record { each = all_asked seen trace ps before bound within fits rise; few = omega (arith, few, length-asked seen before ps) }

-- ---- the nodes of parts

mutual
  nodes_are : (seen : Observed) → IsTrace seen.trace.states → (p : Piece) (before : ℕ) → PieceFits (scope_seen seen) p → AllRise seen (counters_of_part p) → part_count p ≤ 2 ^ 16
      → AreNodesFrom (lens_seen seen) before (nodes_in seen before p)
  nodes_are seen trace (atom a) before fits rise few = tt
  nodes_are seen trace (temporal o ps) before fits rise few =
      joined (lens_seen seen) before (nodes_in_all seen before ps) (operand_node seen before (temporal o ps))
      (all_nodes_are seen trace ps before fits.1 rise (omega (arith, few))) (
        record {
          operator = subst (λ (n : ℕ). FitsProcesses n o) (sym (length-lengths (clocks_seen seen))) (processes_fit seen trace o fits.0);
          parts = parts_are seen trace ps before (before + length (nodes_in_all seen before ps)) (omega (arith, count_all seen before ps)) fits.1 rise (omega (arith, few));
        },
        tt,
      )

  all_nodes_are : (seen : Observed) → IsTrace seen.trace.states → (ps : Pieces) (before : ℕ) → PiecesFit (scope_seen seen) ps → AllRise seen (counters_of_operand ps) → operand_count ps ≤ 2 ^ 16
      → AreNodesFrom (lens_seen seen) before (nodes_in_all seen before ps)
  all_nodes_are seen trace none before fits rise few = tt
  all_nodes_are seen trace (more p ps) before fits rise few =
      joined (lens_seen seen) before (nodes_in seen before p) (nodes_in_all seen (before + nodes_of p) ps)
      (nodes_are seen trace p before fits.0 (rise_left seen (counters_of_part p) (counters_of_operand ps) rise) (omega (arith, few)))
      (subst (λ (n : ℕ). AreNodesFrom (lens_seen seen) n (nodes_in_all seen (before + nodes_of p) ps)) (ap (λ (n : ℕ). before + n) (sym (count_in seen before p)))
      (all_nodes_are seen trace ps (before + nodes_of p) fits.1 (rise_right seen (counters_of_part p) (counters_of_operand ps) rise) (omega (arith, few))))

mutual
  few_nodes : (p : Piece) → nodes_of p ≤ part_count p
  few_nodes (atom a) = omega arith
  few_nodes (temporal o ps) = omega (arith, few_within ps)

  few_within : (ps : Pieces) → operand_nodes ps ≤ operand_count ps
  few_within none = omega arith
  few_within (more p ps) = omega (arith, few_nodes p, few_within ps)

-- ---- disjuncts

operand_is : (ps : List Piece) → operand_count (pieces ps) ≡ parts_count ps
operand_is [] = refl
operand_is (p ∷ ps) = ap (λ (n : ℕ). part_count p + n) (operand_is ps)

-- how many nodes a disjunct has is within how many parts it has
pub few_in : (ps : List Piece) → disjunct_count ps ≤ parts_count ps
few_in ps = omega (arith, few_within (pieces ps), operand_is ps)

disjuncts_are : (seen : Observed) → IsTrace seen.trace.states → (ds : List (List Piece)) (before : ℕ) → AllFit (scope_seen seen) ds → CountersRise seen ds → disjuncts_count ds ≤ 2 ^ 16
    → AreNodesFrom (lens_seen seen) before (disjunct_nodes seen before ds)
disjuncts_are seen trace [] before fits rise few = tt
disjuncts_are seen trace (ps ∷ ds) before fits rise few =
    let rest = disjunct_nodes seen (before + disjunct_count ps) ds in
    joined (lens_seen seen) before (nodes_in_all seen before (pieces ps)) rest
    (all_nodes_are seen trace (pieces ps) before (parts_fit (scope_seen seen) ps fits.0) (subst (AllRise seen) (sym (counters_pieces ps)) (first_disjunct_rises seen ps ds rise)) (omega (arith, few, operand_is ps)))
    (subst (λ (n : ℕ). AreNodesFrom (lens_seen seen) n rest) (ap (λ (n : ℕ). before + n) (sym (count_all seen before (pieces ps))))
    (disjuncts_are seen trace ds (before + disjunct_count ps) fits.1 (other_disjuncts_rise seen ps ds rise) (omega (arith, few))))

few_all : (seen : Observed) (ds : List (List Piece)) (before : ℕ) → length (disjunct_nodes seen before ds) ≤ disjuncts_count ds
few_all seen [] before = omega arith
few_all seen (ps ∷ ds) before =
    omega (arith, length-append (nodes_in_all seen before (pieces ps)) (disjunct_nodes seen (before + disjunct_count ps) ds), count_all seen before (pieces ps), few_in ps, few_all seen ds (before + disjunct_count ps))

-- the nodes of the first disjunct, and those of the others
count_first : (seen : Observed) (before : ℕ) (ps : List Piece) (ds : List (List Piece))
    → length (disjunct_nodes seen before (ps ∷ ds)) ≡ disjunct_count ps + length (disjunct_nodes seen (before + disjunct_count ps) ds)
count_first seen before ps ds =
    length-append (nodes_in_all seen before (pieces ps)) (disjunct_nodes seen (before + disjunct_count ps) ds) ∙ ap (λ (n : ℕ). n + length (disjunct_nodes seen (before + disjunct_count ps) ds)) (count_all seen before (pieces ps))

asked_are : (seen : Observed) → IsTrace seen.trace.states → (ds : List (List Piece)) (before bound : ℕ) → before + length (disjunct_nodes seen before ds) ≤ bound → AllFit (scope_seen seen) ds → CountersRise seen ds
    → disjuncts_count ds ≤ 2 ^ 16 → (n : ℕ) → n < length (disjuncts_asked seen before ds) → AreParts (lens_seen seen) bound (get_or (disjuncts_asked seen before ds) n no_parts)
asked_are seen trace [] before bound within fits rise few n there = absurd (omega (arith, there))
asked_are seen trace (ps ∷ ds) before bound within fits rise few zero there =
    parts_are seen trace (pieces ps) before bound (omega (arith, within, count_first seen before ps ds)) (parts_fit (scope_seen seen) ps fits.0)
    (subst (AllRise seen) (sym (counters_pieces ps)) (first_disjunct_rises seen ps ds rise)) (omega (arith, few, operand_is ps))
asked_are seen trace (ps ∷ ds) before bound within fits rise few (suc n) there =
    asked_are seen trace ds (before + disjunct_count ps) bound (omega (arith, within, count_first seen before ps ds)) fits.1 (other_disjuncts_rise seen ps ds rise) (omega (arith, few)) n (omega (arith, there))

pub plan_fits : (seen : Observed) → IsTrace seen.trace.states → (ds : List (List Piece)) → AllFit (scope_seen seen) ds → CountersRise seen ds → disjuncts_count ds ≤ 2 ^ 16 → IsPlan (lens_seen seen) (plan_of seen ds)
plan_fits seen trace ds fits rise few = record {
  few = omega (arith, few, few_all seen ds 0);
  nodes = λ n there. subst (λ (k : ℕ). IsNode (lens_seen seen) k (get_or (disjunct_nodes seen 0 ds) n no_node)) (omega arith) (node_here (lens_seen seen) 0 (disjunct_nodes seen 0 ds) (disjuncts_are seen trace ds 0 fits rise few) n there);
  disjuncts = asked_are seen trace ds 0 (length (disjunct_nodes seen 0 ds)) (omega arith) fits rise few;
}
