-- The canonical text of a formula has no more levels than the formula has, and as many nodes.
use Rattle.std.proofs.Common.{◌≡◌, ℕ, ◌+◌, ◌≤◌, Bool, true, false, refl, ap, arith}
use Rattle.rctl_grammar.specs.Grammar.{Disjunction, one_conjunction, or, Conjunction, one_unary, and, Unary, leaf, negation, temporal, stepping, group, until, levels_disjunction, levels_conjunction, levels_unary, amp_nodes, bar_nodes, nodes_disjunction, nodes_conjunction, nodes_unary}
use Rattle.rctl_grammar.specs.Shape.{Shape, shape_disjunction, disjunct_shapes, shape_conjunction, conjunct_shapes, shape_unary}
use Rattle.rctl_print.specs.Canonical.{needs_brackets}
use Rattle.rctl_print.specs.declared.joint.Joint.{Joint}
use Rattle.rctl_print.specs.declared.joint.Joint.TheVariants.{Amp, Bar}
use Rattle.rctl_round_trip.proofs.Measures.{levels_in, levels, levels_joined, own_node, nodes, nodes_joined}

in-least : (b : Bool) (n : ℕ) → n ≤ levels_in b n
in-least true n = omega arith
in-least false n = omega arith

in-most : (b : Bool) (n : ℕ) → levels_in b n ≤ 1 + n
in-most true n = omega arith
in-most false n = omega arith

-- as a member, with brackets where it needs them
abbrev member_levels : Joint → Shape → ℕ
member_levels joint s = levels_in (needs_brackets joint s) (levels s)

mutual
  pub levels-disjunction : (d : Disjunction) → levels (shape_disjunction d) ≤ levels_disjunction d
  levels-disjunction (one_conjunction c) =
      omega (arith, in-least (needs_brackets Bar (shape_conjunction c)) (levels (shape_conjunction c)), levels-conjunction c)
  levels-disjunction (or d at c) = omega (arith, levels-disjuncts d, levels-conjunction c)

  levels-disjuncts : (d : Disjunction) → levels_joined Bar (disjunct_shapes d) ≤ levels_disjunction d
  levels-disjuncts (one_conjunction c) = levels-conjunction c
  levels-disjuncts (or d at c) = omega (arith, levels-disjuncts d, levels-conjunction c)

  levels-conjunction : (c : Conjunction) → member_levels Bar (shape_conjunction c) ≤ levels_conjunction c
  levels-conjunction (one_unary u) = levels-unary Bar u
  levels-conjunction (and c at u) = omega (arith, levels-conjuncts c, levels-unary Amp u)

  levels-conjuncts : (c : Conjunction) → levels_joined Amp (conjunct_shapes c) ≤ levels_conjunction c
  levels-conjuncts (one_unary u) = levels-unary Amp u
  levels-conjuncts (and c at u) = omega (arith, levels-conjuncts c, levels-unary Amp u)

  levels-unary : (joint : Joint) (u : Unary) → member_levels joint (shape_unary u) ≤ levels_unary u
  levels-unary joint (leaf l) = omega arith
  levels-unary joint (negation at u) = omega (arith, levels-unary Amp u)
  levels-unary joint (temporal operator name at u) = omega (arith, levels-unary Amp u)
  levels-unary joint (stepping name at process u) = omega (arith, levels-unary Amp u)
  levels-unary joint (group opened d closed) =
      omega (arith, in-most (needs_brackets joint (shape_disjunction d)) (levels (shape_disjunction d)), levels-disjunction d)
  levels-unary joint (until path left name at right closed) = omega (arith, levels-disjunction left, levels-disjunction right)

own-disjuncts : (d : Disjunction) → own_node (disjunct_shapes d) ≡ bar_nodes d
own-disjuncts (one_conjunction c) = refl
own-disjuncts (or d at c) = refl

own-conjuncts : (c : Conjunction) → own_node (conjunct_shapes c) ≡ amp_nodes c
own-conjuncts (one_unary u) = refl
own-conjuncts (and c at u) = refl

mutual
  pub nodes-disjunction : (d : Disjunction) → nodes (shape_disjunction d) ≡ nodes_disjunction d
  nodes-disjunction (one_conjunction c) = nodes-conjunction c
  nodes-disjunction (or d at c) = omega (arith, nodes-disjuncts d, own-disjuncts d, nodes-conjunction c)

  nodes-disjuncts : (d : Disjunction) → nodes_joined (disjunct_shapes d) ≡ nodes_disjunction d
  nodes-disjuncts (one_conjunction c) = nodes-conjunction c
  nodes-disjuncts (or d at c) = omega (arith, nodes-disjuncts d, own-disjuncts d, nodes-conjunction c)

  nodes-conjunction : (c : Conjunction) → nodes (shape_conjunction c) ≡ nodes_conjunction c
  nodes-conjunction (one_unary u) = nodes-unary u
  nodes-conjunction (and c at u) = omega (arith, nodes-conjuncts c, own-conjuncts c, nodes-unary u)

  nodes-conjuncts : (c : Conjunction) → nodes_joined (conjunct_shapes c) ≡ nodes_conjunction c
  nodes-conjuncts (one_unary u) = nodes-unary u
  nodes-conjuncts (and c at u) = omega (arith, nodes-conjuncts c, own-conjuncts c, nodes-unary u)

  nodes-unary : (u : Unary) → nodes (shape_unary u) ≡ nodes_unary u
  nodes-unary (leaf l) = refl
  nodes-unary (negation at u) = ap (λ n. 1 + n) (nodes-unary u)
  nodes-unary (temporal operator name at u) = ap (λ n. 1 + n) (nodes-unary u)
  nodes-unary (stepping name at process u) = ap (λ n. 1 + n) (nodes-unary u)
  nodes-unary (group opened d closed) = nodes-disjunction d
  nodes-unary (until path left name at right closed) = omega (arith, nodes-disjunction left, nodes-disjunction right)
