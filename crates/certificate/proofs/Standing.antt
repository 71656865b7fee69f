-- Where the nodes of a part stand among those of a plan.
use Rattle.std.proofs.Common.{◌≡◌, ℕ, ◌+◌, ◌<◌, List, [], ◌∷◌, ◌++◌, length, get_or, refl, sym, ◌∙◌, ap, arith, append_assoc, append-nil}
use Rattle.std.proofs.lemmas.List.{length-append}
use Rattle.std.proofs.Math.Seq.{get_or-append_seam}
use Rattle.rctl_parts.specs.Pieces.{Piece, Pieces, atom, temporal, none, more}
use Rattle.part_pulls.specs.declared.observed.Observed.{Observed}
use Rattle.certificate_nodes.specs.declared.plan.Node.{Node}
use Rattle.certificate_nodes.specs.Plans.{no_node}
use Rattle.certificate.specs.Numbering.{nodes_of, operand_nodes, nodes_in, nodes_in_all, operand_node}

-- these nodes stand among all, so many before them
pub record Stand (all : List Node) (before : ℕ) (here : List Node) : Type 0 where
  pub front : List Node
  pub back : List Node
  pub is : all ≡ front ++ (here ++ back)
  pub count : length front ≡ before

pub stand_left : (all : List Node) (before : ℕ) (xs ys : List Node) → Stand all before (xs ++ ys) → Stand all before xs
stand_left all before xs ys h = record {
  front = h.front;
  back = ys ++ h.back;
  is = h.is ∙ ap (λ (rest : List Node). h.front ++ rest) (append_assoc xs ys h.back);
  count = h.count;
}

pub stand_right : (all : List Node) (before many : ℕ) (xs ys : List Node) → length xs ≡ many → Stand all before (xs ++ ys) → Stand all (before + many) ys
stand_right all before many xs ys size h = record {
  front = h.front ++ xs;
  back = h.back;
  is = h.is ∙ ap (λ (rest : List Node). h.front ++ rest) (append_assoc xs ys h.back) ∙ sym (append_assoc h.front xs (ys ++ h.back));
  count = omega (arith, length-append h.front xs, h.count, size);
}

pub stand_there : (all : List Node) (before : ℕ) (node : Node) → Stand all before (node ∷ []) → before < length all
stand_there all before node h = omega (arith, ap length h.is, length-append h.front (node ∷ h.back), h.count)

pub stand_at : (all : List Node) (before : ℕ) (node : Node) → Stand all before (node ∷ []) → get_or all before no_node ≡ node
stand_at all before node h =
    ap (λ (list : List Node). get_or list before no_node) h.is ∙ ap (λ (n : ℕ). get_or (h.front ++ node ∷ h.back) n no_node) (sym h.count) ∙ get_or-append_seam h.front node h.back no_node

pub stand_all : (all : List Node) → Stand all 0 all
stand_all all = record { front = []; back = []; is = sym (append-nil all); count = refl }

mutual
  pub count_in : (seen : Observed) (before : ℕ) (p : Piece) → length (nodes_in seen before p) ≡ nodes_of p
  count_in seen before (atom a) = refl
  count_in seen before (temporal o ps) = omega (arith, length-append (nodes_in_all seen before ps) (operand_node seen before (temporal o ps)), count_all seen before ps)

  pub count_all : (seen : Observed) (before : ℕ) (ps : Pieces) → length (nodes_in_all seen before ps) ≡ operand_nodes ps
  count_all seen before none = refl
  count_all seen before (more p ps) =
      omega (arith, length-append (nodes_in seen before p) (nodes_in_all seen (before + nodes_of p) ps), count_in seen before p, count_all seen (before + nodes_of p) ps)
