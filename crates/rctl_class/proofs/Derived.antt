-- What is so of the nodes of each formula that was read, by its derivation.
use Rattle.std.proofs.Common.{◌≡◌, ℕ, ◌+◌, ◌<◌, ◌≤◌, ◌^◌, true, false, ◌&&◌, List, [], ◌∷◌, ◌++◌, map, nat_lt, sym, ap, refl, ◌∙◌, subst, arith, rules}
use Rattle.std.specs.Prelude.{ℤ, pos, neg_ℤ, int_le, int_lt, FitsSigned}
use Rattle.std.specs.Int.{w64}
use Rattle.std.proofs.lemmas.Int.{ints}
use Rattle.std.proofs.lemmas.Bool.Decides.{nat_tests}
use Rattle.std.proofs.lemmas.List.{map-append}
use Rattle.run_model.specs.Formula as model
use Rattle.run_model.specs.Formula.{Formula, Formulas}
use Rattle.run_model.specs.Class.{is_wide, all_wide, has_two}
use Rattle.rctl_grammar.specs.declared.token.Token.{Token}
use Rattle.rctl_grammar.specs.declared.tree.Tree.{Tree}
use Rattle.rctl_grammar.specs.Grammar as grammar
use Rattle.rctl_grammar.specs.Grammar.{Leaf, Disjunction, one_conjunction, or, Conjunction, one_unary, and, Unary, temporal, group, until, atom_of, first_token, first_amp, first_bar, amp_nodes, bar_nodes, nodes_disjunction, nodes_conjunction, nodes_unary, tree_disjunction, disjuncts, tree_conjunction, conjuncts, tree_unary, IsFormula, text_disjunction}
use Rattle.rctl_grammar.specs.Shape as shape
use Rattle.rctl_grammar.specs.Shape.{Shape, Shapes, plain_atom, model_atom, model_of, models, meaning, shape_of, shape_disjunction, disjunct_shapes, shape_conjunction, conjunct_shapes, shape_unary}
use Rattle.rctl_grammar.proofs.Shapes.{tree-disjunction}
use Rattle.rctl_round_trip.specs.PassedOn.{lex}
use Rattle.rctl_round_trip.specs.PassedOn.{IsReadAs}
use Rattle.rctl_round_trip.proofs.Texts.{IsAtom, IsSpellable, AreSpellable}
use Rattle.rctl_round_trip.proofs.Sound.{AreSound, lex-sound, disjunction-spelled}
use Rattle.rctl_class.specs.Nodes.{Node, Nodes, leaf, negation, conjunction, disjunction, under, stepping, until_of, none, more, nodes_of, node_of, formula_of, formulas_of, is_small, counts_fit, all_counts_fit, node_count, nodes_count, IsWithinLimits}
use Rattle.rctl_class.proofs.Folds.{node-Leaf, node-Not, node-And, node-Or, node-Temporal, node-Next, node-Until}
use Rattle.rctl_class.proofs.Members.{joined}

-- a node of a derivation of so many nodes, and its formula
record IsDerived (n : Node) (most : ℕ) (f : Formula) : Type 0 where
  pub counts : counts_fit n ≡ true
  pub wide : is_wide (formula_of n) ≡ true
  pub few : node_count n ≤ most
  pub spells : formula_of n ≡ f

-- the members of one: with one more they are two
record AreDerived (ns : Nodes) (most : ℕ) (shapes : Shapes) : Type 0 where
  pub counts : all_counts_fit ns ≡ true
  pub wide : all_wide (formulas_of ns) ≡ true
  pub few : 1 + nodes_count ns ≤ most
  pub two : (n : Node) (ms : Nodes) → has_two (formulas_of (joined ns (more n ms))) ≡ true
  pub spell : (ms : Nodes) → formulas_of (joined ns ms) ≡ models shapes (formulas_of ms)

-- ---- members joined

counts_joined : (ns ms : Nodes) → all_counts_fit (joined ns ms) ≡ all_counts_fit ns && all_counts_fit ms
counts_joined none ms = refl
counts_joined (more n ns) ms = elim (counts_fit n) as (λ b. b && all_counts_fit (joined ns ms) ≡ (b && all_counts_fit ns) && all_counts_fit ms) [ true ↦ counts_joined ns ms | false ↦ refl ]

wide_joined : (ns ms : Nodes) → all_wide (formulas_of (joined ns ms)) ≡ all_wide (formulas_of ns) && all_wide (formulas_of ms)
unfolding all_wide
wide_joined none ms = refl
wide_joined (more n ns) ms =
    elim (is_wide (formula_of n)) as (λ b. b && all_wide (formulas_of (joined ns ms)) ≡ (b && all_wide (formulas_of ns)) && all_wide (formulas_of ms)) [ true ↦ wide_joined ns ms | false ↦ refl ]

few_joined : (ns ms : Nodes) → nodes_count (joined ns ms) ≡ nodes_count ns + nodes_count ms
few_joined none ms = omega arith
few_joined (more n ns) ms = omega (arith, few_joined ns ms)

joined_on : (ns : Nodes) (m : Node) (ms : Nodes) → joined (joined ns (more m none)) ms ≡ joined ns (more m ms)
joined_on none m ms = refl
joined_on (more n ns) m ms = ap (more n) (joined_on ns m ms)

nodes_joined : (xs ys : List Node) → nodes_of (xs ++ ys) ≡ joined (nodes_of xs) (nodes_of ys)
nodes_joined [] ys = refl
nodes_joined (x ∷ xs) ys = ap (more x) (nodes_joined xs ys)

-- the nodes of trees, and one more
more_trees : (ts : List Tree) (t : Tree) → nodes_of (map node_of (ts ++ t ∷ [])) ≡ joined (nodes_of (map node_of ts)) (more (node_of t) none)
more_trees ts t = ap nodes_of (map-append node_of ts (t ∷ [])) ∙ nodes_joined (map node_of ts) (node_of t ∷ [])

first_member : (n : Node) (most all : ℕ) (s : Shape) → IsDerived n most (model_of s) → most + 1 ≤ all → AreDerived (more n none) all (shape.one s)
unfolding all_wide
first_member n most all s is fits = record {
  counts = rw is.counts refl;
  wide = rw is.wide refl;
  few = omega (arith, is.few);
  two = λ m ms. refl;
  spell = λ ms. ap (λ f. model.Cons f (formulas_of ms)) is.spells;
}

next_member : (ns : Nodes) (n : Node) (before most all : ℕ) (shapes : Shapes) (s : Shape) → AreDerived ns before shapes → IsDerived n most (model_of s) →
    before + most ≤ all → AreDerived (joined ns (more n none)) all (shape.more shapes s)
unfolding all_wide
next_member ns n before most all shapes s are is fits = record {
  counts = counts_joined ns (more n none) ∙ rw (are.counts, is.counts) refl;
  wide = wide_joined ns (more n none) ∙ rw (are.wide, is.wide) refl;
  few = omega (arith, few_joined ns (more n none), are.few, is.few);
  two = λ m ms. ap (λ l. has_two (formulas_of l)) (joined_on ns n (more m ms)) ∙ are.two n (more m ms);
  spell = λ ms. ap formulas_of (joined_on ns n ms) ∙ are.spell (more n ms) ∙ ap (λ f. models shapes (model.Cons f (formulas_of ms))) is.spells;
}

-- a conjunction of derived members, and a disjunction
whole_and : (ns : Nodes) (n m : Node) (at before most all : ℕ) (shapes : Shapes) (s : Shape) → m ≡ conjunction (joined ns (more n none)) at →
    AreDerived ns before shapes → IsDerived n most (model_of s) → before + most ≤ all → IsDerived m all (model_of (shape.conjunction shapes s))
unfolding is_wide all_wide
whole_and ns n m at before most all shapes s form are is fits =
    let made : IsDerived (conjunction (joined ns (more n none)) at) all (model_of (shape.conjunction shapes s)) = record {
      counts = counts_joined ns (more n none) ∙ rw (are.counts, is.counts) refl;
      wide = rw (are.two n none, wide_joined ns (more n none), are.wide, is.wide) refl;
      few = omega (arith, few_joined ns (more n none), are.few, is.few);
      spells = ap model.And (are.spell (more n none) ∙ ap (λ f. models shapes (model.Cons f model.Nil)) is.spells);
    } in
    let P : Node → Type 0 = λ k. IsDerived k all (model_of (shape.conjunction shapes s)) in subst P (sym form) made

whole_or : (ns : Nodes) (n m : Node) (at before most all : ℕ) (shapes : Shapes) (s : Shape) → m ≡ disjunction (joined ns (more n none)) at →
    AreDerived ns before shapes → IsDerived n most (model_of s) → before + most ≤ all → IsDerived m all (model_of (shape.disjunction shapes s))
unfolding is_wide all_wide
whole_or ns n m at before most all shapes s form are is fits =
    let made : IsDerived (disjunction (joined ns (more n none)) at) all (model_of (shape.disjunction shapes s)) = record {
      counts = counts_joined ns (more n none) ∙ rw (are.counts, is.counts) refl;
      wide = rw (are.two n none, wide_joined ns (more n none), are.wide, is.wide) refl;
      few = omega (arith, few_joined ns (more n none), are.few, is.few);
      spells = ap model.Or (are.spell (more n none) ∙ ap (λ f. models shapes (model.Cons f model.Nil)) is.spells);
    } in
    let P : Node → Type 0 = λ k. IsDerived k all (model_of (shape.disjunction shapes s)) in subst P (sym form) made

same_members : (ns ms : Nodes) (most : ℕ) (shapes : Shapes) → ns ≡ ms → AreDerived ms most shapes → AreDerived ns most shapes
same_members ns ms most shapes e are = let P : Nodes → Type 0 = λ k. AreDerived k most shapes in subst P (sym e) are

same_node : (n m : Node) (most : ℕ) (f : Formula) → n ≡ m → IsDerived m most f → IsDerived n most f
same_node n m most f e is = let P : Node → Type 0 = λ k. IsDerived k most f in subst P (sym e) is

-- ---- leaves

count_fits : (k : ℕ) → FitsSigned w64 (pos k) → nat_lt k (2 ^ 63) ≡ true
count_fits k h = let below : k < 2 ^ 63 = omega (arith, ints) in search (rules, nat_tests)

small : (k : ℤ) → FitsSigned w64 k → is_small k ≡ true
small k h =
    let low : int_le (neg_ℤ (pos (2 ^ 63))) k ≡ true = grind (arith, ints, h) in
    let high : int_lt k (pos (2 ^ 63)) ≡ true = grind (arith, ints, h) in
    rw (low, high) refl

leaf_derived : (l : Leaf) → IsAtom (plain_atom (atom_of l)) → IsDerived (leaf (atom_of l) (first_token l)) 1 (model_atom (plain_atom (atom_of l)))
unfolding is_wide
leaf_derived (grammar.constant value name at) h = record { counts = refl; wide = refl; few = omega arith; spells = refl }
leaf_derived (grammar.comparison left compare at right) h = record { counts = refl; wide = refl; few = omega arith; spells = refl }
leaf_derived (grammar.watch process at name) h = record { counts = refl; wide = refl; few = omega arith; spells = refl }
leaf_derived (grammar.transit name at channel compare compare_at value value_at) h = record { counts = count_fits _ h.2; wide = refl; few = omega arith; spells = refl }
leaf_derived (grammar.emptiness name at channel) h = record { counts = refl; wide = refl; few = omega arith; spells = refl }
leaf_derived (grammar.difference left minus right compare compare_at value value_at) h = record { counts = small _ h.4; wide = refl; few = omega arith; spells = refl }

operator_back : (operator : model.Operator) → shape.model_operator (grammar.operator_of operator) ≡ operator
operator_back model.Ef = refl
operator_back model.Ag = refl
operator_back model.Eg = refl
operator_back model.Af = refl
operator_back model.Ax = refl

-- ---- derivations

mutual
  unfolding is_wide all_wide

  disjunction_derived : (d : Disjunction) → IsSpellable (shape_disjunction d) → IsDerived (node_of (tree_disjunction d)) (nodes_disjunction d) (model_of (shape_disjunction d))
  disjunction_derived (one_conjunction c) h = conjunction_derived c h
  disjunction_derived (or d at c) h =
      whole_or (nodes_of (map node_of (disjuncts d))) (node_of (tree_conjunction c)) (node_of (tree_disjunction (or d at c))) (first_bar d at)
      (nodes_disjunction d + bar_nodes d) (nodes_conjunction c) (nodes_disjunction (or d at c)) (disjunct_shapes d) (shape_conjunction c)
      (node-Or (disjuncts d ++ tree_conjunction c ∷ []) (first_bar d at) ∙ ap (λ ns. disjunction ns (first_bar d at)) (more_trees (disjuncts d) (tree_conjunction c)))
      (disjuncts_derived d h.0) (conjunction_derived c h.1) (omega arith)

  disjuncts_derived : (d : Disjunction) → AreSpellable (disjunct_shapes d) → AreDerived (nodes_of (map node_of (disjuncts d))) (nodes_disjunction d + bar_nodes d) (disjunct_shapes d)
  disjuncts_derived (one_conjunction c) h =
      first_member (node_of (tree_conjunction c)) (nodes_conjunction c) (nodes_conjunction c + 1) (shape_conjunction c) (conjunction_derived c h) (omega arith)
  disjuncts_derived (or d at c) h =
      same_members _ _ _ _ (more_trees (disjuncts d) (tree_conjunction c))
      (next_member (nodes_of (map node_of (disjuncts d))) (node_of (tree_conjunction c)) (nodes_disjunction d + bar_nodes d) (nodes_conjunction c) (nodes_disjunction (or d at c) + bar_nodes (or d at c))
      (disjunct_shapes d) (shape_conjunction c) (disjuncts_derived d h.0) (conjunction_derived c h.1) (omega arith))

  conjunction_derived : (c : Conjunction) → IsSpellable (shape_conjunction c) → IsDerived (node_of (tree_conjunction c)) (nodes_conjunction c) (model_of (shape_conjunction c))
  conjunction_derived (one_unary u) h = unary_derived u h
  conjunction_derived (and c at u) h =
      whole_and (nodes_of (map node_of (conjuncts c))) (node_of (tree_unary u)) (node_of (tree_conjunction (and c at u))) (first_amp c at)
      (nodes_conjunction c + amp_nodes c) (nodes_unary u) (nodes_conjunction (and c at u)) (conjunct_shapes c) (shape_unary u)
      (node-And (conjuncts c ++ tree_unary u ∷ []) (first_amp c at) ∙ ap (λ ns. conjunction ns (first_amp c at)) (more_trees (conjuncts c) (tree_unary u)))
      (conjuncts_derived c h.0) (unary_derived u h.1) (omega arith)

  conjuncts_derived : (c : Conjunction) → AreSpellable (conjunct_shapes c) → AreDerived (nodes_of (map node_of (conjuncts c))) (nodes_conjunction c + amp_nodes c) (conjunct_shapes c)
  conjuncts_derived (one_unary u) h =
      first_member (node_of (tree_unary u)) (nodes_unary u) (nodes_unary u + 1) (shape_unary u) (unary_derived u h) (omega arith)
  conjuncts_derived (and c at u) h =
      same_members _ _ _ _ (more_trees (conjuncts c) (tree_unary u))
      (next_member (nodes_of (map node_of (conjuncts c))) (node_of (tree_unary u)) (nodes_conjunction c + amp_nodes c) (nodes_unary u) (nodes_conjunction (and c at u) + amp_nodes (and c at u))
      (conjunct_shapes c) (shape_unary u) (conjuncts_derived c h.0) (unary_derived u h.1) (omega arith))

  unary_derived : (u : Unary) → IsSpellable (shape_unary u) → IsDerived (node_of (tree_unary u)) (nodes_unary u) (model_of (shape_unary u))
  unary_derived (grammar.leaf l) h = same_node _ _ _ _ (node-Leaf (atom_of l) (first_token l)) (leaf_derived l h)
  unary_derived (grammar.negation at u) h =
      let inner = unary_derived u h in
      same_node _ (negation (node_of (tree_unary u)) at) _ _ (node-Not (tree_unary u) at)
      (record { counts = inner.counts; wide = inner.wide; few = omega (arith, inner.few); spells = ap model.Not inner.spells })
  unary_derived (temporal operator name at u) h =
      let inner = unary_derived u h in
      same_node _ (under (grammar.operator_of operator) (node_of (tree_unary u)) at) _ _ (node-Temporal (grammar.operator_of operator) (tree_unary u) at)
      (record {
        counts = inner.counts;
        wide = inner.wide;
        few = omega (arith, inner.few);
        spells = ap (λ o. model.Temporal o (formula_of (node_of (tree_unary u)))) (operator_back operator) ∙ ap (model.Temporal operator) inner.spells;
      })
  unary_derived (grammar.stepping name at process u) h =
      let inner = unary_derived u h.1 in
      same_node _ (stepping (grammar.placed_name process) (node_of (tree_unary u)) at) _ _ (node-Next (grammar.placed_name process) (tree_unary u) at)
      (record { counts = inner.counts; wide = inner.wide; few = omega (arith, inner.few); spells = ap (model.Next process.name) inner.spells })
  unary_derived (group opened d closed) h = disjunction_derived d h
  unary_derived (until path left name at right closed) h =
      let first = disjunction_derived left h.0 in
      let second = disjunction_derived right h.1 in
      same_node _ (until_of path.all (node_of (tree_disjunction left)) (node_of (tree_disjunction right)) path.at) _ _ (node-Until path.all (tree_disjunction left) (tree_disjunction right) path.at)
      (record {
        counts = rw (first.counts, second.counts) refl;
        wide = rw (first.wide, second.wide) refl;
        few = omega (arith, first.few, second.few);
        spells = ap (λ f. model.Until path.all f (formula_of (node_of (tree_disjunction right)))) first.spells ∙ ap (model.Until path.all (model_of (shape_disjunction left))) second.spells;
      })

-- ---- formulas that were read

read_derived : (text : List ℕ) (d : Disjunction) → IsFormula (lex text).tokens d → IsDerived (node_of (tree_disjunction d)) (nodes_disjunction d) (model_of (shape_disjunction d))
read_derived text d is =
    let P : List Token → Type 0 = λ ts. AreSound ts in
    disjunction_derived d (disjunction-spelled d [] (subst P (sym is) (lex-sound text))).0

pub within_limits : (text : List ℕ) (t : Tree) → IsReadAs text t → IsWithinLimits (node_of t)
within_limits text t read =
    let is = read_derived text read.d read.text in
    let made : IsWithinLimits (node_of (tree_disjunction read.d)) = record { counts = is.counts; wide = is.wide; few = omega (arith, is.few, read.limits.nodes) } in
    let P : Tree → Type 0 = λ k. IsWithinLimits (node_of k) in subst P read.tree made

pub nodes_spell : (text : List ℕ) (t : Tree) → IsReadAs text t → formula_of (node_of t) ≡ meaning t
nodes_spell text t read =
    let P : Tree → Type 0 = λ k. formula_of (node_of k) ≡ meaning k in
    subst P read.tree ((read_derived text read.d read.text).spells ∙ ap model_of (sym (tree-disjunction read.d)))
