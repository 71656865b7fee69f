-- The shape of a tree, variant by variant, and that the tree of a derivation has the derivation's shape.
use Rattle.std.specs.Prelude.{ℕ, Bool, List, [], ◌∷◌, ◌++◌, map}
use Rattle.std.proofs.Common.{◌≡◌, refl, sym, ◌∙◌, ap, append_assoc, append-nil}
use Rattle.std.proofs.lemmas.List.{map-append}
use Rattle.run_model.specs.Formula as model
use Rattle.rctl_grammar.specs.declared.tree.Operator.{Operator}
use Rattle.rctl_grammar.specs.declared.tree.Place.{Place}
use Rattle.rctl_grammar.specs.declared.tree.Atom.{Atom}
use Rattle.rctl_grammar.specs.declared.tree.Tree.{Tree}
use Rattle.rctl_grammar.specs.declared.tree.Tree.TheVariants as tree
use Rattle.rctl_grammar.specs.declared.tree.Tree.TheVariants.{rolls-Leaf, rolls-Not, rolls-And, rolls-Or, rolls-Temporal, rolls-Next, rolls-Until}
use Rattle.rctl_grammar.specs.declared.tree.Tree.TheOpen.{Tree-F}
use Rattle.rctl_grammar.specs.declared.tree.Tree.TheFolds.{fold-roll-Tree}
use Rattle.rctl_grammar.specs.Grammar.{Disjunction, one_conjunction, or, Conjunction, one_unary, and, Unary, leaf, negation, temporal, stepping, group, until, atom_of, operator_of, first_token, first_amp, first_bar, tree_disjunction, disjuncts, tree_conjunction, conjuncts, tree_unary}
use Rattle.rctl_grammar.specs.Shape.{Shape, Shapes, one, more, plain, not, conjunction_of, conjunction_on, disjunction_of, disjunction_on, under, under_of, stepped, until_of, plain_atom, shape_step, shape_of, shape_disjunction, disjunct_shapes, shape_conjunction, conjunct_shapes, shape_unary}

pub shape-Leaf : (a : Atom) (at : ℕ) → shape_of (tree.Leaf a at) ≡ plain (plain_atom a)
unfolding shape_of
shape-Leaf a at = ap shape_of (sym (rolls-Leaf a at)) ∙ fold-roll-Tree Shape shape_step (Tree-F.Leaf a at)

pub shape-Not : (t : Tree) (at : ℕ) → shape_of (tree.Not t at) ≡ not (shape_of t)
unfolding shape_of
shape-Not t at = ap shape_of (sym (rolls-Not t at)) ∙ fold-roll-Tree Shape shape_step (Tree-F.Not t at)

pub shape-And : (ts : List Tree) (at : ℕ) → shape_of (tree.And ts at) ≡ conjunction_of (map shape_of ts)
unfolding shape_of
shape-And ts at = ap shape_of (sym (rolls-And ts at)) ∙ fold-roll-Tree Shape shape_step (Tree-F.And ts at)

pub shape-Or : (ts : List Tree) (at : ℕ) → shape_of (tree.Or ts at) ≡ disjunction_of (map shape_of ts)
unfolding shape_of
shape-Or ts at = ap shape_of (sym (rolls-Or ts at)) ∙ fold-roll-Tree Shape shape_step (Tree-F.Or ts at)

pub shape-Temporal : (operator : Operator) (t : Tree) (at : ℕ) → shape_of (tree.Temporal operator t at) ≡ under_of operator (shape_of t)
unfolding shape_of
shape-Temporal operator t at = ap shape_of (sym (rolls-Temporal operator t at)) ∙ fold-roll-Tree Shape shape_step (Tree-F.Temporal operator t at)

pub shape-Next : (process : Place) (t : Tree) (at : ℕ) → shape_of (tree.Next process t at) ≡ stepped process.name (shape_of t)
unfolding shape_of
shape-Next process t at = ap shape_of (sym (rolls-Next process t at)) ∙ fold-roll-Tree Shape shape_step (Tree-F.Next process t at)

pub shape-Until : (all : Bool) (left right : Tree) (at : ℕ) → shape_of (tree.Until all left right at) ≡ until_of all (shape_of left) (shape_of right)
unfolding shape_of
shape-Until all left right at = ap shape_of (sym (rolls-Until all left right at)) ∙ fold-roll-Tree Shape shape_step (Tree-F.Until all left right at)

-- ---- derivations

pub under_operator : (operator : model.Operator) (s : Shape) → under_of (operator_of operator) s ≡ under operator s
under_operator model.Ef s = refl
under_operator model.Ag s = refl
under_operator model.Eg s = refl
under_operator model.Af s = refl
under_operator model.Ax s = refl

-- the members in their order, and then the rest
abbrev listed : Shapes → List Shape → List Shape
listed (one s) rest = s ∷ rest
listed (more front s) rest = listed front (s ∷ rest)

conjunction_listed : (front : Shapes) (s : Shape) (rest : List Shape) → conjunction_of (listed front (s ∷ rest)) ≡ conjunction_on front s rest
conjunction_listed (one a) s rest = refl
conjunction_listed (more front a) s rest = conjunction_listed front a (s ∷ rest)

disjunction_listed : (front : Shapes) (s : Shape) (rest : List Shape) → disjunction_of (listed front (s ∷ rest)) ≡ disjunction_on front s rest
disjunction_listed (one a) s rest = refl
disjunction_listed (more front a) s rest = disjunction_listed front a (s ∷ rest)

-- one more member at the end
mapped_end : (ts : List Tree) (t : Tree) (rest : List Shape) → map shape_of (ts ++ t ∷ []) ++ rest ≡ map shape_of ts ++ (shape_of t ∷ rest)
mapped_end ts t rest = rw (map-append shape_of ts (t ∷ []), append_assoc) refl

mutual
  pub tree-disjunction : (d : Disjunction) → shape_of (tree_disjunction d) ≡ shape_disjunction d
  tree-disjunction (one_conjunction c) = tree-conjunction c
  tree-disjunction (or d at c) = shape-Or (disjuncts d ++ tree_conjunction c ∷ []) (first_bar d at)
      ∙ ap disjunction_of (sym (append-nil (map shape_of (disjuncts d ++ tree_conjunction c ∷ []))) ∙ mapped_end (disjuncts d) (tree_conjunction c) []
      ∙ tree-disjuncts d (shape_of (tree_conjunction c) ∷ []) ∙ ap (λ s. listed (disjunct_shapes d) (s ∷ [])) (tree-conjunction c))
      ∙ disjunction_listed (disjunct_shapes d) (shape_conjunction c) []

  tree-disjuncts : (d : Disjunction) (rest : List Shape) → map shape_of (disjuncts d) ++ rest ≡ listed (disjunct_shapes d) rest
  tree-disjuncts (one_conjunction c) rest = ap (λ s. s ∷ rest) (tree-conjunction c)
  tree-disjuncts (or d at c) rest = mapped_end (disjuncts d) (tree_conjunction c) rest ∙ tree-disjuncts d (shape_of (tree_conjunction c) ∷ rest)
      ∙ ap (λ s. listed (disjunct_shapes d) (s ∷ rest)) (tree-conjunction c)

  pub tree-conjunction : (c : Conjunction) → shape_of (tree_conjunction c) ≡ shape_conjunction c
  tree-conjunction (one_unary u) = tree-unary u
  tree-conjunction (and c at u) = shape-And (conjuncts c ++ tree_unary u ∷ []) (first_amp c at)
      ∙ ap conjunction_of (sym (append-nil (map shape_of (conjuncts c ++ tree_unary u ∷ []))) ∙ mapped_end (conjuncts c) (tree_unary u) []
      ∙ tree-conjuncts c (shape_of (tree_unary u) ∷ []) ∙ ap (λ s. listed (conjunct_shapes c) (s ∷ [])) (tree-unary u))
      ∙ conjunction_listed (conjunct_shapes c) (shape_unary u) []

  tree-conjuncts : (c : Conjunction) (rest : List Shape) → map shape_of (conjuncts c) ++ rest ≡ listed (conjunct_shapes c) rest
  tree-conjuncts (one_unary u) rest = ap (λ s. s ∷ rest) (tree-unary u)
  tree-conjuncts (and c at u) rest = mapped_end (conjuncts c) (tree_unary u) rest ∙ tree-conjuncts c (shape_of (tree_unary u) ∷ rest)
      ∙ ap (λ s. listed (conjunct_shapes c) (s ∷ rest)) (tree-unary u)

  pub tree-unary : (u : Unary) → shape_of (tree_unary u) ≡ shape_unary u
  tree-unary (leaf l) = shape-Leaf (atom_of l) (first_token l)
  tree-unary (negation at u) = shape-Not (tree_unary u) at ∙ ap not (tree-unary u)
  tree-unary (temporal operator name at u) = shape-Temporal (operator_of operator) (tree_unary u) at
      ∙ under_operator operator (shape_of (tree_unary u)) ∙ ap (under operator) (tree-unary u)
  tree-unary (stepping name at process u) = shape-Next _ (tree_unary u) at ∙ ap (stepped process.name) (tree-unary u)
  tree-unary (group opened d closed) = tree-disjunction d
  tree-unary (until path left name at right closed) = shape-Until path.all (tree_disjunction left) (tree_disjunction right) path.at
      ∙ ap (λ s. until_of path.all s (shape_of (tree_disjunction right))) (tree-disjunction left)
      ∙ ap (until_of path.all (shape_disjunction left)) (tree-disjunction right)
