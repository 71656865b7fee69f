-- The parser's lists of members: what a turn of a loop makes of those so far.
use Rattle.std.specs.Prelude.{ℕ, ◌<◌, ◌≤◌, ◌+◌, List, [], ◌∷◌, ◌++◌, None, Some}
use Rattle.std.proofs.Common.{◌≡◌, refl, sym, ◌∙◌, ap, subst, arith}
use Rattle.pota_base.specs.Limits.{most_nodes}
use Rattle.rctl_grammar.specs.declared.token.Kind.{Kind}
use Rattle.rctl_grammar.specs.declared.token.Kind.TheVariants as kind
use Rattle.rctl_grammar.specs.declared.token.Token.{Token}
use Rattle.rctl_grammar.specs.declared.fault.FormulaFault.{FormulaFault}
use Rattle.rctl_grammar.specs.declared.tree.Tree.{Tree}
use Rattle.rctl_grammar.specs.declared.tree.Tree.TheVariants as tree
use Rattle.rctl_grammar.specs.Grammar.{Disjunction, one_conjunction, or, one_unary, and, tok, tree_unary, tree_conjunction, text_conjunction, text_disjunction, first_amp, first_bar, nodes_conjunction, amp_nodes, nodes_disjunction, bar_nodes}
use Rattle.rctl_grammar.specs.Machine.{nothing, bar, Outer, first_of, next_of, after}
use Rattle.rctl_grammar.specs.FirstFault.{fault_of, nodes_outer, nodes_before, too_many_at}
use Rattle.rctl_parse.specs.declared.around.Around.{Around}
use Rattle.rctl_parse.specs.inside.Reading.{found, amp_in, bar_in}
use Rattle.rctl_parse.specs.inside.Parts.{UnaryFault, UnaryRead, ConjunctionFault, ConjunctionRead, ConjunctionSoFar, FormulaFails, FormulaRead, FormulaSoFar}
use Rattle.rctl_parse.proofs.LeafSteps.{found_is, longer}
use Rattle.rctl_parse.proofs.UnarySteps.{node_passes, node_stops}

amp_is : (k : Kind) (at a : ℕ) → amp_in k at ≡ Some a → tok k at ≡ tok kind.Amp a
amp_is kind.Amp at a h = let same : at ≡ a = cc in ap (tok kind.Amp) same
amp_is k at a h = cc

bar_is : (k : Kind) (at a : ℕ) → bar_in k at ≡ Some a → tok k at ≡ tok kind.Bar a
bar_is kind.Bar at a h = let same : at ≡ a = cc in ap (tok kind.Bar) same
bar_is k at a h = cc

amp_there : (ts rest : List Token) (a : ℕ) → found amp_in ts ≡ Some (a, rest) → ts ≡ tok kind.Amp a ∷ rest
amp_there = found_is amp_in (tok kind.Amp) amp_is

bar_there : (ts rest : List Token) (a : ℕ) → found bar_in ts ≡ Some (a, rest) → ts ≡ tok kind.Bar a ∷ rest
bar_there = found_is bar_in (tok kind.Bar) bar_is

-- the limit on nodes passed at the first separator
abbrev pub OneMore : ℕ → ℕ → Type 0
OneMore nodes behind = (nodes < most_nodes) × (behind ≡ nodes + 1)

-- ---- conjunctions

pub conjunction_one : (around : Around) (ts rest : List Token) (nodes : ℕ) (t : Tree) → UnaryRead ts rest around nodes t → found amp_in rest ≡ None → ConjunctionRead ts rest around nodes t
conjunction_one around ts rest nodes t read none = record {
  c = one_unary read.u;
  tree = read.tree;
  text = read.text;
  goes = λ outer before d m. read.goes (first_of outer before) d m;
  counts = read.counts;
  fits = read.fits;
  levels = read.levels;
  in_range = read.in_range;
  ends = none;
  shorter = read.shorter;
}

pub conjunction_fault : (around : Around) (ts : List Token) (f : FormulaFault) → UnaryFault ts around f → ConjunctionFault ts around f
conjunction_fault around ts f bad outer before d m = bad (first_of outer before) d m

pub conjunction_bound : (around : Around) (ts rest more : List Token) (nodes at : ℕ) (t : Tree) (f : FormulaFault) → UnaryRead ts rest around nodes t → found amp_in rest ≡ Some (at, more)
    → most_nodes ≤ nodes → f ≡ too_many_at at → ConjunctionFault ts around f
conjunction_bound around ts rest more nodes at t f read h many is outer before d m =
    read.goes (first_of outer before) d m ∙ ap (λ x. fault_of (after outer before (one_unary read.u)) x around.end) (amp_there rest more at h)
    ∙ rw (node_stops (nodes_outer outer + nodes_before before + nodes_conjunction (one_unary read.u)) at (omega (arith, read.counts)), is) refl

pub conjunction_starts : (around : Around) (ts rest more : List Token) (nodes behind at : ℕ) (t : Tree) → UnaryRead ts rest around nodes t → found amp_in rest ≡ Some (at, more)
    → OneMore nodes behind → ConjunctionSoFar ts more around behind (t ∷ []) at
conjunction_starts around ts rest more nodes behind at t read h (room, one_more) = let is : rest ≡ tok kind.Amp at ∷ more = amp_there rest more at h in record {
  c = one_unary read.u;
  amp = at;
  trees = ap (λ x. x ∷ []) read.tree;
  first = refl;
  text = read.text ∙ ap (text_conjunction (one_unary read.u)) is;
  goes = λ outer before d m. read.goes (first_of outer before) d m ∙ ap (λ x. fault_of (after outer before (one_unary read.u)) x around.end) is
      ∙ rw (node_passes (nodes_outer outer + nodes_before before + nodes_conjunction (one_unary read.u)) at (omega (arith, read.counts))) refl;
  counts = omega (arith, read.counts);
  levels = read.levels;
  in_range = read.in_range;
  shorter = omega (arith, read.shorter, longer (tok kind.Amp at) rest more is);
}

pub conjunction_member_fault : (around : Around) (ts more : List Token) (nodes at : ℕ) (members : List Tree) (f : FormulaFault) → ConjunctionSoFar ts more around nodes members at
    → UnaryFault more (record around { nodes = nodes }) f → ConjunctionFault ts around f
conjunction_member_fault around ts more nodes at members f so bad outer before d m =
    so.goes outer before d m ∙ bad (next_of outer before so.c so.amp) d (ap (λ x. x + nodes_conjunction so.c + amp_nodes so.c) m ∙ sym so.counts)

pub conjunction_goes_on : (around : Around) (ts more rest further : List Token) (nodes total at a : ℕ) (members : List Tree) (t : Tree) → ConjunctionSoFar ts more around nodes members at
    → UnaryRead more rest (record around { nodes = nodes }) total t → found amp_in rest ≡ Some (a, further) → ConjunctionSoFar ts further around total (members ++ t ∷ []) at
conjunction_goes_on around ts more rest further nodes total at a members t so read h = let is : rest ≡ tok kind.Amp a ∷ further = amp_there rest further a h in record {
  c = and so.c so.amp read.u;
  amp = a;
  trees = ap (λ x. x ++ tree_unary read.u ∷ []) so.trees ∙ ap (λ x. members ++ x ∷ []) read.tree;
  first = so.first;
  text = so.text ∙ ap (λ x. text_conjunction so.c (tok kind.Amp so.amp ∷ x)) read.text ∙ ap (text_conjunction (and so.c so.amp read.u)) is;
  goes = λ outer before d m. so.goes outer before d m ∙ read.goes (next_of outer before so.c so.amp) d (ap (λ x. x + nodes_conjunction so.c + amp_nodes so.c) m ∙ sym so.counts)
      ∙ ap (λ x. fault_of (after outer before (and so.c so.amp read.u)) x around.end) is;
  counts = omega (arith, read.counts, so.counts);
  levels = omega (arith, read.levels, so.levels);
  in_range = rw (so.in_range, read.in_range) refl;
  shorter = omega (arith, so.shorter, read.shorter, longer (tok kind.Amp a) rest further is);
}

pub conjunction_last : (around : Around) (ts more rest : List Token) (nodes total at : ℕ) (members : List Tree) (t : Tree) → ConjunctionSoFar ts more around nodes members at
    → UnaryRead more rest (record around { nodes = nodes }) total t → found amp_in rest ≡ None → ConjunctionRead ts rest around total (tree.And (members ++ t ∷ []) at)
conjunction_last around ts more rest nodes total at members t so read none = record {
  c = and so.c so.amp read.u;
  tree = ap (λ x. tree.And (x ++ tree_unary read.u ∷ []) (first_amp so.c so.amp)) so.trees ∙ ap (λ x. tree.And (members ++ x ∷ []) (first_amp so.c so.amp)) read.tree
      ∙ ap (tree.And (members ++ t ∷ [])) so.first;
  text = so.text ∙ ap (λ x. text_conjunction so.c (tok kind.Amp so.amp ∷ x)) read.text;
  goes = λ outer before d m. so.goes outer before d m ∙ read.goes (next_of outer before so.c so.amp) d (ap (λ x. x + nodes_conjunction so.c + amp_nodes so.c) m ∙ sym so.counts);
  counts = omega (arith, read.counts, so.counts);
  fits = read.fits;
  levels = omega (arith, read.levels, so.levels);
  in_range = rw (so.in_range, read.in_range) refl;
  ends = none;
  shorter = omega (arith, so.shorter, read.shorter);
}

-- ---- formulas

pub formula_one : (around : Around) (ts rest : List Token) (nodes : ℕ) (t : Tree) → ConjunctionRead ts rest around nodes t → found bar_in rest ≡ None → FormulaRead ts rest around nodes t
formula_one around ts rest nodes t read none = record {
  before = nothing;
  c = read.c;
  tree = read.tree;
  text = read.text;
  goes = λ outer d m. read.goes outer nothing d (omega arith);
  counts = read.counts;
  fits = read.fits;
  levels = read.levels;
  in_range = read.in_range;
  no_amp = read.ends;
  no_bar = none;
  shorter = read.shorter;
}

pub formula_fault : (around : Around) (ts : List Token) (f : FormulaFault) → ConjunctionFault ts around f → FormulaFails ts around f
formula_fault around ts f bad outer d m = bad outer nothing d (omega arith)

pub formula_bound : (around : Around) (ts rest more : List Token) (nodes at : ℕ) (t : Tree) (f : FormulaFault) → ConjunctionRead ts rest around nodes t → found bar_in rest ≡ Some (at, more)
    → most_nodes ≤ nodes → f ≡ too_many_at at → FormulaFails ts around f
formula_bound around ts rest more nodes at t f read h many is outer d m =
    read.goes outer nothing d (omega arith) ∙ ap (λ x. fault_of (after outer nothing read.c) x around.end) (bar_there rest more at h)
    ∙ rw (node_stops (nodes_outer outer + nodes_conjunction read.c) at (omega (arith, read.counts)), is) refl

pub formula_starts : (around : Around) (ts rest more : List Token) (nodes behind at : ℕ) (t : Tree) → ConjunctionRead ts rest around nodes t → found bar_in rest ≡ Some (at, more)
    → OneMore nodes behind → FormulaSoFar ts more around behind (t ∷ []) at
formula_starts around ts rest more nodes behind at t read h (room, one_more) = let is : rest ≡ tok kind.Bar at ∷ more = bar_there rest more at h in record {
  d = one_conjunction read.c;
  bar_at = at;
  trees = ap (λ x. x ∷ []) read.tree;
  first = refl;
  text = read.text ∙ ap (text_disjunction (one_conjunction read.c)) is;
  goes = λ outer d m. read.goes outer nothing d (omega arith) ∙ ap (λ x. fault_of (after outer nothing read.c) x around.end) is
      ∙ rw (node_passes (nodes_outer outer + nodes_conjunction read.c) at (omega (arith, read.counts))) refl;
  counts = omega (arith, read.counts);
  levels = read.levels;
  in_range = read.in_range;
  shorter = omega (arith, read.shorter, longer (tok kind.Bar at) rest more is);
}

-- the nodes before the next member
counted : (outer : Outer) (d : Disjunction) (at around nodes : ℕ) → nodes_outer outer ≡ around → nodes ≡ around + nodes_disjunction d + bar_nodes d → nodes_outer outer + nodes_before (bar d at) ≡ nodes
counted outer d at around nodes m n = omega arith

pub formula_member_fault : (around : Around) (ts more : List Token) (nodes at : ℕ) (members : List Tree) (f : FormulaFault) → FormulaSoFar ts more around nodes members at
    → ConjunctionFault more (record around { nodes = nodes }) f → FormulaFails ts around f
formula_member_fault around ts more nodes at members f so bad outer d m = so.goes outer d m ∙ bad outer (bar so.d so.bar_at) d (counted outer so.d so.bar_at around.nodes nodes m so.counts)

pub formula_goes_on : (around : Around) (ts more rest further : List Token) (nodes total at a : ℕ) (members : List Tree) (t : Tree) → FormulaSoFar ts more around nodes members at
    → ConjunctionRead more rest (record around { nodes = nodes }) total t → found bar_in rest ≡ Some (a, further) → FormulaSoFar ts further around total (members ++ t ∷ []) at
formula_goes_on around ts more rest further nodes total at a members t so read h = let is : rest ≡ tok kind.Bar a ∷ further = bar_there rest further a h in record {
  d = or so.d so.bar_at read.c;
  bar_at = a;
  trees = ap (λ x. x ++ tree_conjunction read.c ∷ []) so.trees ∙ ap (λ x. members ++ x ∷ []) read.tree;
  first = so.first;
  text = so.text ∙ ap (λ x. text_disjunction so.d (tok kind.Bar so.bar_at ∷ x)) read.text ∙ ap (text_disjunction (or so.d so.bar_at read.c)) is;
  goes = λ outer d m. so.goes outer d m ∙ read.goes outer (bar so.d so.bar_at) d (counted outer so.d so.bar_at around.nodes nodes m so.counts)
      ∙ ap (λ x. fault_of (after outer (bar so.d so.bar_at) read.c) x around.end) is;
  counts = omega (arith, read.counts, so.counts);
  levels = omega (arith, read.levels, so.levels);
  in_range = rw (so.in_range, read.in_range) refl;
  shorter = omega (arith, so.shorter, read.shorter, longer (tok kind.Bar a) rest further is);
}

pub formula_last : (around : Around) (ts more rest : List Token) (nodes total at : ℕ) (members : List Tree) (t : Tree) → FormulaSoFar ts more around nodes members at
    → ConjunctionRead more rest (record around { nodes = nodes }) total t → found bar_in rest ≡ None → FormulaRead ts rest around total (tree.Or (members ++ t ∷ []) at)
formula_last around ts more rest nodes total at members t so read none = record {
  before = bar so.d so.bar_at;
  c = read.c;
  tree = ap (λ x. tree.Or (x ++ tree_conjunction read.c ∷ []) (first_bar so.d so.bar_at)) so.trees ∙ ap (λ x. tree.Or (members ++ x ∷ []) (first_bar so.d so.bar_at)) read.tree
      ∙ ap (tree.Or (members ++ t ∷ [])) so.first;
  text = so.text ∙ ap (λ x. text_disjunction so.d (tok kind.Bar so.bar_at ∷ x)) read.text;
  goes = λ outer d m. so.goes outer d m ∙ read.goes outer (bar so.d so.bar_at) d (counted outer so.d so.bar_at around.nodes nodes m so.counts);
  counts = omega (arith, read.counts, so.counts);
  fits = read.fits;
  levels = omega (arith, read.levels, so.levels);
  in_range = rw (so.in_range, read.in_range) refl;
  no_amp = read.ends;
  no_bar = none;
  shorter = omega (arith, so.shorter, read.shorter);
}

-- ---- turns, as the loops have them

pub counted_over : (a around : Around) (nodes : ℕ) → a ≡ record around { nodes = nodes } → most_nodes ≤ a.nodes → most_nodes ≤ nodes
counted_over a around nodes is many = let same : a.nodes ≡ nodes = ap (λ (x : Around). x.nodes) is in omega arith

pub one_more : (a around : Around) (nodes behind : ℕ) → a ≡ record around { nodes = nodes } → OneMore a.nodes behind → OneMore nodes behind
one_more a around nodes behind is (room, next) = let same : a.nodes ≡ nodes = ap (λ (x : Around). x.nodes) is in (omega arith, omega arith)

pub conjunction_init : (around : Around) (ts rest more : List Token) (nodes behind at : ℕ) (t : Tree) (fresh members : List Tree) → UnaryRead ts rest around nodes t → found amp_in rest ≡ Some (at, more)
    → OneMore nodes behind → fresh ≡ [] → members ≡ fresh ++ t ∷ [] → ConjunctionSoFar ts more around behind members at
conjunction_init around ts rest more nodes behind at t fresh members read h room none is =
    subst (λ (m : List Tree). ConjunctionSoFar ts more around behind m at) (sym (is ∙ ap (λ (m : List Tree). m ++ t ∷ []) none)) (conjunction_starts around ts rest more nodes behind at t read h room)

pub conjunction_stops : (around inner : Around) (ts more : List Token) (nodes at : ℕ) (members : List Tree) (f : FormulaFault) → ConjunctionSoFar ts more around nodes members at
    → inner ≡ record around { nodes = nodes } → UnaryFault more inner f → ConjunctionFault ts around f
conjunction_stops around inner ts more nodes at members f so is bad = conjunction_member_fault around ts more nodes at members f so (subst (λ (a : Around). UnaryFault more a f) is bad)

pub conjunction_turn : (around inner : Around) (ts more rest further : List Token) (nodes total at a : ℕ) (members next : List Tree) (t : Tree) → ConjunctionSoFar ts more around nodes members at
    → inner ≡ record around { nodes = nodes } → UnaryRead more rest inner total t → next ≡ members ++ t ∷ [] → found amp_in rest ≡ Some (a, further) → ConjunctionSoFar ts further around total next at
conjunction_turn around inner ts more rest further nodes total at a members next t so is read pushed h =
    subst (λ (m : List Tree). ConjunctionSoFar ts further around total m at) (sym pushed)
    (conjunction_goes_on around ts more rest further nodes total at a members t so (subst (λ (x : Around). UnaryRead more rest x total t) is read) h)

pub conjunction_ends : (around inner : Around) (ts more rest : List Token) (nodes total at : ℕ) (members next : List Tree) (t : Tree) → ConjunctionSoFar ts more around nodes members at
    → inner ≡ record around { nodes = nodes } → UnaryRead more rest inner total t → next ≡ members ++ t ∷ [] → found amp_in rest ≡ None → ConjunctionRead ts rest around total (tree.And next at)
conjunction_ends around inner ts more rest nodes total at members next t so is read pushed none =
    subst (λ (m : List Tree). ConjunctionRead ts rest around total (tree.And m at)) (sym pushed)
    (conjunction_last around ts more rest nodes total at members t so (subst (λ (x : Around). UnaryRead more rest x total t) is read) none)

pub formula_init : (around : Around) (ts rest more : List Token) (nodes behind at : ℕ) (t : Tree) (fresh members : List Tree) → ConjunctionRead ts rest around nodes t → found bar_in rest ≡ Some (at, more)
    → OneMore nodes behind → fresh ≡ [] → members ≡ fresh ++ t ∷ [] → FormulaSoFar ts more around behind members at
formula_init around ts rest more nodes behind at t fresh members read h room none is =
    subst (λ (m : List Tree). FormulaSoFar ts more around behind m at) (sym (is ∙ ap (λ (m : List Tree). m ++ t ∷ []) none)) (formula_starts around ts rest more nodes behind at t read h room)

pub formula_stops : (around inner : Around) (ts more : List Token) (nodes at : ℕ) (members : List Tree) (f : FormulaFault) → FormulaSoFar ts more around nodes members at
    → inner ≡ record around { nodes = nodes } → ConjunctionFault more inner f → FormulaFails ts around f
formula_stops around inner ts more nodes at members f so is bad = formula_member_fault around ts more nodes at members f so (subst (λ (a : Around). ConjunctionFault more a f) is bad)

pub formula_turn : (around inner : Around) (ts more rest further : List Token) (nodes total at a : ℕ) (members next : List Tree) (t : Tree) → FormulaSoFar ts more around nodes members at
    → inner ≡ record around { nodes = nodes } → ConjunctionRead more rest inner total t → next ≡ members ++ t ∷ [] → found bar_in rest ≡ Some (a, further) → FormulaSoFar ts further around total next at
formula_turn around inner ts more rest further nodes total at a members next t so is read pushed h =
    subst (λ (m : List Tree). FormulaSoFar ts further around total m at) (sym pushed)
    (formula_goes_on around ts more rest further nodes total at a members t so (subst (λ (x : Around). ConjunctionRead more rest x total t) is read) h)

pub formula_ends : (around inner : Around) (ts more rest : List Token) (nodes total at : ℕ) (members next : List Tree) (t : Tree) → FormulaSoFar ts more around nodes members at
    → inner ≡ record around { nodes = nodes } → ConjunctionRead more rest inner total t → next ≡ members ++ t ∷ [] → found bar_in rest ≡ None → FormulaRead ts rest around total (tree.Or next at)
formula_ends around inner ts more rest nodes total at members next t so is read pushed none =
    subst (λ (m : List Tree). FormulaRead ts rest around total (tree.Or m at)) (sym pushed)
    (formula_last around ts more rest nodes total at members t so (subst (λ (x : Around). ConjunctionRead more rest x total t) is read) none)
