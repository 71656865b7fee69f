-- The parser's parts: what a function reads, from what those that it calls read.
use Rattle.std.specs.Prelude.{ℕ, Bool, true, ◌<◌, ◌≤◌, ◌+◌, ◌-◌, length, List, [], ◌∷◌, Option, None, Some}
use Rattle.std.proofs.Common.{◌≡◌, refl, sym, ◌∙◌, ap, subst, arith}
use Rattle.pota_base.specs.Number.{◌>>=◌}
use Rattle.run_model.specs.Run.{Name}
use Rattle.rctl_grammar.specs.declared.token.Kind.{Kind}
use Rattle.rctl_grammar.specs.declared.token.Kind.TheVariants as kind
use Rattle.rctl_grammar.specs.declared.token.Word.TheVariants as word
use Rattle.rctl_grammar.specs.declared.token.Token.{Token}
use Rattle.rctl_grammar.specs.declared.token.End.{End}
use Rattle.rctl_grammar.specs.declared.token.End.TheVariants as end
use Rattle.rctl_grammar.specs.declared.fault.FormulaFault.{FormulaFault}
use Rattle.run_model.specs.Formula as model
use Rattle.pota_base.specs.Limits.{deepest, most_nodes}
use Rattle.rctl_grammar.specs.declared.tree.Tree.{Tree}
use Rattle.rctl_grammar.specs.declared.tree.Tree.TheVariants as tree
use Rattle.rctl_grammar.specs.Grammar.{negation, temporal, group, until, Path, Disjunction, Conjunction, tok, spelled, operator_of, word_of, path_word, text_disjunction, tree_disjunction, nodes_disjunction, levels_disjunction, disjunction_in_range}
use Rattle.rctl_grammar.specs.Machine.{Before, nothing, Outer, in_group, in_left, in_right, Open, first_of, in_negation, in_temporal, State, operand, after, plug, joined, settled, no_sign, close_round_in, close_square_in, until_in, step_close, by_another, following, whole_now}
use Rattle.rctl_grammar.specs.FirstFault.{fault_of, placed, then_on, depth, nodes_open, level_opens, node_stands, either, is_operator, too_deep_at}
use Rattle.rctl_parse.specs.declared.around.Around.{Around}
use Rattle.rctl_parse.specs.inside.Reading.{found, beside, here, amp_in, bar_in, until_at}
use Rattle.rctl_parse.specs.inside.Parts.{sign_of, UnaryFault, UnaryRead, PathRead, FormulaFails, FormulaRead, place_by}
use Rattle.rctl_parse.specs.inside.Limits.{Opened, Entered}
use Rattle.rctl_parse.proofs.LeafSteps.{beside_is, found_is, longer, close_round_is}
use Rattle.rctl_parse.proofs.UnarySteps.{level_passes, level_stops, node_passes, settle, word_free, word_bound}

-- ---- negations

pub negation_read : (around inside : Around) (at : ℕ) (ts rest : List Token) (nodes : ℕ) (t : Tree) → Entered around inside → UnaryRead ts rest inside nodes t
    → UnaryRead (tok kind.Bang at ∷ ts) rest around nodes (tree.Not t at)
negation_read around inside at ts rest nodes t (deep, room, is) given =
    let read : UnaryRead ts rest (record around { level = around.level + 1; nodes = around.nodes + 1 }) nodes t = subst (λ (a : Around). UnaryRead ts rest a nodes t) is given in record {
      u = negation at read.u;
      tree = ap (λ x. tree.Not x at) read.tree;
      text = ap (λ x. tok kind.Bang at ∷ x) read.text;
      goes = λ o d m.
          let first : fault_of (operand o) (tok kind.Bang at ∷ ts) around.end ≡ fault_of (operand (in_negation o at)) ts around.end =
          rw (level_passes (depth o) at (omega arith), node_passes (nodes_open o) at (omega arith)) refl in
          first ∙ read.goes (in_negation o at) (ap (λ x. x + 1) d) (ap (λ x. x + 1) m);
      counts = omega (arith, read.counts);
      fits = read.fits;
      levels = omega (arith, read.levels);
      in_range = read.in_range;
      shorter = omega (arith, read.shorter);
    }

pub negation_bound : (around : Around) (at : ℕ) (ts : List Token) (f : FormulaFault) → either (level_opens around.level at) (node_stands around.nodes at) ≡ Some f
    → UnaryFault (tok kind.Bang at ∷ ts) around f
negation_bound around at ts f bound o d m = rw (d, m, bound) refl

pub negation_fault : (around inside : Around) (at : ℕ) (ts : List Token) (f : FormulaFault) → Entered around inside → UnaryFault ts inside f → UnaryFault (tok kind.Bang at ∷ ts) around f
negation_fault around inside at ts f (deep, room, is) given o d m =
    let bad : UnaryFault ts (record around { level = around.level + 1; nodes = around.nodes + 1 }) f = subst (λ (a : Around). UnaryFault ts a f) is given in
    let first : fault_of (operand o) (tok kind.Bang at ∷ ts) around.end ≡ fault_of (operand (in_negation o at)) ts around.end =
    rw (level_passes (depth o) at (omega arith), node_passes (nodes_open o) at (omega arith)) refl in
    first ∙ bad (in_negation o at) (ap (λ x. x + 1) d) (ap (λ x. x + 1) m)

-- ---- operators

operator_opens : (op : model.Operator) → is_operator (word_of op) ≡ true
operator_opens model.Ef = refl
operator_opens model.Ag = refl
operator_opens model.Eg = refl
operator_opens model.Af = refl
operator_opens model.Ax = refl

settled_operator : (o : Open) (op : model.Operator) (name : Name) (at : ℕ) → settled o (record { word = word_of op; name = name; at = at }) ≡ Some (operand (in_temporal o op name at))
settled_operator o model.Ef name at = refl
settled_operator o model.Ag name at = refl
settled_operator o model.Eg name at = refl
settled_operator o model.Af name at = refl
settled_operator o model.Ax name at = refl

operator_goes : (o : Open) (op : model.Operator) (name : Name) (at : ℕ) (ts : List Token) (ending : End) → sign_of ts ≡ no_sign → depth o < deepest → nodes_open o < most_nodes
    → fault_of (operand o) (spelled (word_of op) name at ∷ ts) ending ≡ fault_of (operand (in_temporal o op name at)) ts ending
unfolding settle
operator_goes o op name at ts ending other deep room =
    word_free o (record { word = word_of op; name = name; at = at }) ts ending other (rw (operator_opens op, level_passes (depth o) at deep, node_passes (nodes_open o) at room) refl)
    ∙ ap (λ x. settle x ts ending) (settled_operator o op name at)

pub temporal_read : (around inside : Around) (op : model.Operator) (name : Name) (at : ℕ) (ts rest : List Token) (nodes : ℕ) (t : Tree) → sign_of ts ≡ no_sign → Entered around inside
    → UnaryRead ts rest inside nodes t → UnaryRead (spelled (word_of op) name at ∷ ts) rest around nodes (tree.Temporal (operator_of op) t at)
temporal_read around inside op name at ts rest nodes t other (deep, room, is) given =
    let read : UnaryRead ts rest (record around { level = around.level + 1; nodes = around.nodes + 1 }) nodes t = subst (λ (a : Around). UnaryRead ts rest a nodes t) is given in record {
      u = temporal op name at read.u;
      tree = ap (λ x. tree.Temporal (operator_of op) x at) read.tree;
      text = ap (λ x. spelled (word_of op) name at ∷ x) read.text;
      goes = λ o d m. operator_goes o op name at ts around.end other (omega arith) (omega arith) ∙ read.goes (in_temporal o op name at) (ap (λ x. x + 1) d) (ap (λ x. x + 1) m);
      counts = omega (arith, read.counts);
      fits = read.fits;
      levels = omega (arith, read.levels);
      in_range = read.in_range;
      shorter = omega (arith, read.shorter);
    }

pub temporal_bound : (around : Around) (op : model.Operator) (name : Name) (at : ℕ) (ts : List Token) (f : FormulaFault) → sign_of ts ≡ no_sign
    → either (level_opens around.level at) (node_stands around.nodes at) ≡ Some f → UnaryFault (spelled (word_of op) name at ∷ ts) around f
temporal_bound around op name at ts f other bound o d m =
    word_bound o (record { word = word_of op; name = name; at = at }) ts around.end f other (rw (operator_opens op, d, m) bound)

pub temporal_fault : (around inside : Around) (op : model.Operator) (name : Name) (at : ℕ) (ts : List Token) (f : FormulaFault) → sign_of ts ≡ no_sign → Entered around inside
    → UnaryFault ts inside f → UnaryFault (spelled (word_of op) name at ∷ ts) around f
temporal_fault around inside op name at ts f other (deep, room, is) given o d m =
    let bad : UnaryFault ts (record around { level = around.level + 1; nodes = around.nodes + 1 }) f = subst (λ (a : Around). UnaryFault ts a f) is given in
    operator_goes o op name at ts around.end other (omega arith) (omega arith) ∙ bad (in_temporal o op name at) (ap (λ x. x + 1) d) (ap (λ x. x + 1) m)

-- ---- the end of a formula inside another

pub another : (k : Kind) (at : ℕ) (ts : List Token) → beside (amp_in k at) ts ≡ None → beside (bar_in k at) ts ≡ None → following k ≡ by_another
another kind.Amp at ts a b = cc
another kind.Bar at ts a b = cc
another k at ts a b = refl

-- what closes the formula is there
taken_close : {A : Type 0} (x : Option A) (next : A → State) (ts rest : List Token) (ending : End) (at : ℕ) (a : A) → beside x ts ≡ Some (a, rest)
    → then_on (placed None (x >>= λ v. Some (next v)) at) (λ s. fault_of s ts ending) ≡ fault_of (next a) rest ending
taken_close None next ts rest ending at a h = cc
taken_close (Some v) next ts rest ending at a h = let parts = beside_is (Some v) ts rest a h in let same : v ≡ a = let e = parts.0 in cc in
    ap (λ p. fault_of (next p) ts ending) same ∙ ap (λ p. fault_of (next a) p ending) parts.1

pub missing_close : {A : Type 0} (x : Option A) (next : A → State) (ts : List Token) (ending : End) (t : Token) → beside x ts ≡ None
    → then_on (placed None (x >>= λ v. Some (next v)) t.at) (λ s. fault_of s ts ending) ≡ Some (here (t ∷ ts) ending)
missing_close None next ts ending t h = refl
missing_close (Some v) next ts ending t h = cc

-- what closes a formula of this surrounding
record Closes {A : Type 0} (look : Kind → ℕ → Option A) (outer : Outer) (before : Before) (c : Conjunction) (next : A → State) : Type 0 where
  steps : (k : Kind) (at : ℕ) → step_close outer (joined before c) k at ≡ (look k at >>= λ a. Some (next a))
  unfinished : whole_now (after outer before c) ≡ None

closes : {A : Type 0} (look : Kind → ℕ → Option A) (outer : Outer) (before : Before) (c : Conjunction) (next : A → State) → Closes look outer before c next
    → (ts rest : List Token) (ending : End) (a : A) → found amp_in ts ≡ None → found bar_in ts ≡ None → found look ts ≡ Some (a, rest)
    → fault_of (after outer before c) ts ending ≡ fault_of (next a) rest ending
closes look outer before c next l [] rest ending a no_amp no_bar h = cc
closes look outer before c next l (t ∷ ts) rest ending a no_amp no_bar h = rw (another t.kind t.at ts no_amp no_bar, l.steps t.kind t.at) (taken_close (look t.kind t.at) next ts rest ending t.at a h)

unclosed_end : (outer : Outer) (before : Before) (c : Conjunction) (ending : End) → whole_now (after outer before c) ≡ None → fault_of (after outer before c) [] ending ≡ Some (here [] ending)
unclosed_end outer before c (end.Ends at) h = rw h refl
unclosed_end outer before c (end.BadToken at) h = refl

unclosed : {A : Type 0} (look : Kind → ℕ → Option A) (outer : Outer) (before : Before) (c : Conjunction) (next : A → State) → Closes look outer before c next
    → (ts : List Token) (ending : End) → found amp_in ts ≡ None → found bar_in ts ≡ None → found look ts ≡ None → fault_of (after outer before c) ts ending ≡ Some (here ts ending)
unclosed look outer before c next l [] ending no_amp no_bar h = unclosed_end outer before c ending l.unfinished
unclosed look outer before c next l (t ∷ ts) ending no_amp no_bar h = rw (another t.kind t.at ts no_amp no_bar, l.steps t.kind t.at) (missing_close (look t.kind t.at) next ts ending t h)

-- ---- groups

group_closes : (o : Open) (at : ℕ) (before : Before) (c : Conjunction) → Closes close_round_in (in_group o at) before c (λ closed. plug o (group at (joined before c) closed))
group_closes o at before c = record { steps = λ k here_at. refl; unfinished = refl }

group_opens : (o : Open) (at : ℕ) (ts : List Token) (ending : End) → depth o < deepest → fault_of (operand o) (tok kind.OpenRound at ∷ ts) ending ≡ fault_of (operand (first_of (in_group o at) nothing)) ts ending
group_opens o at ts ending deep = rw (level_passes (depth o) at deep) refl

pub group_read : (around inside : Around) (at : ℕ) (ts middle rest : List Token) (nodes closed : ℕ) (t : Tree) → Opened around inside → FormulaRead ts middle inside nodes t
    → found close_round_in middle ≡ Some (closed, rest) → UnaryRead (tok kind.OpenRound at ∷ ts) rest around nodes t
group_read around inside at ts middle rest nodes closed t (deep, is) given h =
    let read : FormulaRead ts middle (record around { level = around.level + 1 }) nodes t = subst (λ (a : Around). FormulaRead ts middle a nodes t) is given in
    let closing : middle ≡ tok kind.CloseRound closed ∷ rest = found_is close_round_in (tok kind.CloseRound) close_round_is middle rest closed h in record {
      u = group at (joined read.before read.c) closed;
      tree = read.tree;
      text = ap (λ x. tok kind.OpenRound at ∷ x) (read.text ∙ ap (text_disjunction (joined read.before read.c)) closing);
      goes = λ o d m. group_opens o at ts around.end (omega arith) ∙ read.goes (in_group o at) (ap (λ x. x + 1) d) m
          ∙ closes close_round_in (in_group o at) read.before read.c (λ x. plug o (group at (joined read.before read.c) x)) (group_closes o at read.before read.c) middle rest around.end closed read.no_amp read.no_bar h;
      counts = read.counts;
      fits = read.fits;
      levels = omega (arith, read.levels);
      in_range = read.in_range;
      shorter = omega (arith, read.shorter, longer (tok kind.CloseRound closed) middle rest closing);
    }

pub group_bound : (around : Around) (at : ℕ) (ts : List Token) (f : FormulaFault) → deepest ≤ around.level → f ≡ too_deep_at at → UnaryFault (tok kind.OpenRound at ∷ ts) around f
group_bound around at ts f deep is o d m = rw (level_stops (depth o) at (omega arith), is) refl

pub group_fault : (around inside : Around) (at : ℕ) (ts : List Token) (f : FormulaFault) → Opened around inside → FormulaFails ts inside f → UnaryFault (tok kind.OpenRound at ∷ ts) around f
group_fault around inside at ts f (deep, is) given o d m =
    let bad : FormulaFails ts (record around { level = around.level + 1 }) f = subst (λ (a : Around). FormulaFails ts a f) is given in
    group_opens o at ts around.end (omega arith) ∙ bad (in_group o at) (ap (λ x. x + 1) d) m

pub group_unclosed : (around inside : Around) (at : ℕ) (ts middle : List Token) (nodes : ℕ) (t : Tree) (f : FormulaFault) → Opened around inside → FormulaRead ts middle inside nodes t
    → (found close_round_in middle ≡ None) × (f ≡ here middle around.end) → UnaryFault (tok kind.OpenRound at ∷ ts) around f
group_unclosed around inside at ts middle nodes t f (deep, is) given (missing, fault_is) o d m =
    let read : FormulaRead ts middle (record around { level = around.level + 1 }) nodes t = subst (λ (a : Around). FormulaRead ts middle a nodes t) is given in
    group_opens o at ts around.end (omega arith) ∙ read.goes (in_group o at) (ap (λ x. x + 1) d) m
    ∙ unclosed close_round_in (in_group o at) read.before read.c (λ x. plug o (group at (joined read.before read.c) x)) (group_closes o at read.before read.c) middle around.end read.no_amp read.no_bar missing
    ∙ ap Some (sym fault_is)

-- ---- untils

-- the word "U", with its name
until_word : (k : Kind) (at a : ℕ) → until_at k at ≡ Some a → (name : Name) × (until_in k at ≡ Some (name, a)) × (tok k at ≡ spelled word.U name a)
until_word (kind.Word word.U name) at a h = let same : at ≡ a = cc in (name, ap (λ x. Some (name, x)) same, ap (spelled word.U name) same)
until_word k at a h = cc

no_until : (k : Kind) (at : ℕ) (ts : List Token) → beside (until_at k at) ts ≡ None → beside (until_in k at) ts ≡ None
no_until (kind.Word word.U name) at ts h = cc
no_until k at ts h = refl

until_there : (ts rest : List Token) (a : ℕ) → found until_at ts ≡ Some (a, rest) → (name : Name) × (found until_in ts ≡ Some ((name, a), rest)) × (ts ≡ spelled word.U name a ∷ rest)
until_there [] rest a h = cc
until_there (t ∷ ts) rest a h = let parts = beside_is (until_at t.kind t.at) ts rest a h in let is = until_word t.kind t.at a parts.0 in
    (is.0, ap (λ x. beside x ts) is.1 ∙ ap (λ x. Some ((is.0, a), x)) parts.1, ap (λ x. x ∷ ts) is.2 ∙ ap (λ x. spelled word.U is.0 a ∷ x) parts.1)

until_missing : (ts : List Token) → found until_at ts ≡ None → found until_in ts ≡ None
until_missing [] h = refl
until_missing (t ∷ ts) h = no_until t.kind t.at ts h

close_square_is : (k : Kind) (at a : ℕ) → close_square_in k at ≡ Some a → tok k at ≡ tok kind.CloseSquare a
close_square_is kind.CloseSquare at a h = let same : at ≡ a = cc in ap (tok kind.CloseSquare) same
close_square_is k at a h = cc

abbrev path_of : Bool → Name → ℕ → ℕ → Path
path_of all name at opened = record { all = all; name = name; at = at; opened = opened }

left_closes : (o : Open) (p : Path) (before : Before) (c : Conjunction) → Closes until_in (in_left o p) before c (λ u. operand (first_of (in_right o p (joined before c) u.0 u.1) nothing))
left_closes o p before c = record { steps = λ k at. refl; unfinished = refl }

right_closes : (o : Open) (p : Path) (left : Disjunction) (name : Name) (at : ℕ) (before : Before) (c : Conjunction)
    → Closes close_square_in (in_right o p left name at) before c (λ closed. plug o (until p left name at (joined before c) closed))
right_closes o p left name at before c = record { steps = λ k here_at. refl; unfinished = refl }

-- as far as behind the "U"
pub record LeftRead (all : Bool) (name : Name) (at : ℕ) (ts rest : List Token) (around inside : Around) (nodes : ℕ) (t : Tree) : Type 0 where
  pub opened : ℕ
  pub left : Disjunction
  pub u_name : Name
  pub u_at : ℕ
  pub enters : Entered around inside
  pub tree : tree_disjunction left ≡ t
  pub text : ts ≡ tok kind.OpenSquare opened ∷ text_disjunction left (spelled word.U u_name u_at ∷ rest)
  pub goes : (o : Open) → depth o ≡ around.level → nodes_open o ≡ around.nodes
      → fault_of (operand o) (spelled (path_word all) name at ∷ ts) around.end ≡ fault_of (operand (first_of (in_right o (path_of all name at opened) left u_name u_at) nothing)) rest around.end
  pub counts : nodes ≡ around.nodes + 1 + nodes_disjunction left
  pub levels : levels_disjunction left ≤ deepest - (around.level + 1)
  pub in_range : disjunction_in_range left ≡ true
  pub shorter : length rest < length ts

pub inside_end : (around inside : Around) → Entered around inside → inside.end ≡ around.end
inside_end around inside (deep, room, is) = ap (λ (a : Around). a.end) is

pub left_read : (around inside : Around) (all : Bool) (name : Name) (at : ℕ) (ts middle behind rest : List Token) (nodes u_at : ℕ) (t : Tree) → PathRead all (place_by name at) ts middle around inside
    → FormulaRead middle behind inside nodes t → found until_at behind ≡ Some (u_at, rest) → LeftRead all name at ts rest around inside nodes t
left_read around inside all name at ts middle behind rest nodes u_at t p given h =
    let inner : Around = record around { level = around.level + 1; nodes = around.nodes + 1 } in
    let read : FormulaRead middle behind inner nodes t = subst (λ (a : Around). FormulaRead middle behind a nodes t) p.enters.2 given in
    let u = until_there behind rest u_at h in
    let left : Disjunction = joined read.before read.c in record {
      opened = p.opened;
      left = left;
      u_name = u.0;
      u_at = u_at;
      enters = p.enters;
      tree = read.tree;
      text = p.text ∙ ap (λ x. tok kind.OpenSquare p.opened ∷ x) (read.text ∙ ap (text_disjunction left) u.2);
      goes = λ o d m. p.goes o d m ∙ read.goes (in_left o (path_of all name at p.opened)) (ap (λ x. x + 1) d) (ap (λ x. x + 1) m)
          ∙ closes until_in (in_left o (path_of all name at p.opened)) read.before read.c (λ v. operand (first_of (in_right o (path_of all name at p.opened) left v.0 v.1) nothing))
          (left_closes o (path_of all name at p.opened) read.before read.c) behind rest around.end (u.0, u_at) read.no_amp read.no_bar u.1;
      counts = read.counts;
      levels = read.levels;
      in_range = read.in_range;
      shorter = let a : length middle < length ts = longer (tok kind.OpenSquare p.opened) ts middle p.text in
          let b : length rest < length behind = longer (spelled word.U u.0 u_at) behind rest u.2 in omega (arith, read.shorter);
    }

pub left_fault : (around inside : Around) (all : Bool) (name : Name) (at : ℕ) (ts middle : List Token) (f : FormulaFault) → PathRead all (place_by name at) ts middle around inside
    → FormulaFails middle inside f → UnaryFault (spelled (path_word all) name at ∷ ts) around f
left_fault around inside all name at ts middle f p given o d m =
    let inner : Around = record around { level = around.level + 1; nodes = around.nodes + 1 } in
    let bad : FormulaFails middle inner f = subst (λ (a : Around). FormulaFails middle a f) p.enters.2 given in
    p.goes o d m ∙ bad (in_left o (path_of all name at p.opened)) (ap (λ x. x + 1) d) (ap (λ x. x + 1) m)

pub left_unclosed : (around inside : Around) (all : Bool) (name : Name) (at : ℕ) (ts middle behind : List Token) (nodes : ℕ) (t : Tree) (f : FormulaFault)
    → PathRead all (place_by name at) ts middle around inside → FormulaRead middle behind inside nodes t → (found until_at behind ≡ None) × (f ≡ here behind around.end)
    → UnaryFault (spelled (path_word all) name at ∷ ts) around f
left_unclosed around inside all name at ts middle behind nodes t f p given (missing, is) o d m =
    let inner : Around = record around { level = around.level + 1; nodes = around.nodes + 1 } in
    let read : FormulaRead middle behind inner nodes t = subst (λ (a : Around). FormulaRead middle behind a nodes t) p.enters.2 given in
    p.goes o d m ∙ read.goes (in_left o (path_of all name at p.opened)) (ap (λ x. x + 1) d) (ap (λ x. x + 1) m)
    ∙ unclosed until_in (in_left o (path_of all name at p.opened)) read.before read.c (λ v. operand (first_of (in_right o (path_of all name at p.opened) (joined read.before read.c) v.0 v.1) nothing))
    (left_closes o (path_of all name at p.opened) read.before read.c) behind around.end read.no_amp read.no_bar (until_missing behind missing)
    ∙ ap Some (sym is)

-- what stands around the right side
right_around : (around inside : Around) (nodes : ℕ) → Entered around inside → record inside { nodes = nodes } ≡ record around { level = around.level + 1; nodes = nodes }
right_around around inside nodes (deep, room, is) = ap (λ (a : Around). record a { nodes = nodes }) is

pub until_read : (around inside : Around) (all : Bool) (name : Name) (at : ℕ) (ts more behind rest : List Token) (left_nodes nodes closed : ℕ) (left right : Tree)
    → LeftRead all name at ts more around inside left_nodes left → FormulaRead more behind (record inside { nodes = left_nodes }) nodes right
    → found close_square_in behind ≡ Some (closed, rest) → UnaryRead (spelled (path_word all) name at ∷ ts) rest around nodes (tree.Until all left right at)
until_read around inside all name at ts more behind rest left_nodes nodes closed left right l given h =
    let inner : Around = record around { level = around.level + 1; nodes = left_nodes } in
    let read : FormulaRead more behind inner nodes right = subst (λ (a : Around). FormulaRead more behind a nodes right) (right_around around inside left_nodes l.enters) given in
    let closing : behind ≡ tok kind.CloseSquare closed ∷ rest = found_is close_square_in (tok kind.CloseSquare) close_square_is behind rest closed h in
    let p : Path = path_of all name at l.opened in
    let d2 : Disjunction = joined read.before read.c in record {
      u = until p l.left l.u_name l.u_at d2 closed;
      tree = ap (λ x. tree.Until all x (tree_disjunction d2) at) l.tree ∙ ap (λ x. tree.Until all left x at) read.tree;
      text = ap (λ x. spelled (path_word all) name at ∷ x) (l.text ∙ ap (λ x. tok kind.OpenSquare l.opened ∷ text_disjunction l.left (spelled word.U l.u_name l.u_at ∷ x)) (read.text ∙ ap (text_disjunction d2) closing));
      goes = λ o d m. l.goes o d m
          ∙ read.goes (in_right o p l.left l.u_name l.u_at) (ap (λ x. x + 1) d) (ap (λ x. x + 1 + nodes_disjunction l.left) m ∙ sym l.counts)
          ∙ closes close_square_in (in_right o p l.left l.u_name l.u_at) read.before read.c (λ x. plug o (until p l.left l.u_name l.u_at d2 x))
          (right_closes o p l.left l.u_name l.u_at read.before read.c) behind rest around.end closed read.no_amp read.no_bar h;
      counts = omega (arith, read.counts, l.counts);
      fits = read.fits;
      levels = let deep : around.level < deepest = l.enters.0 in omega (arith, l.levels, read.levels);
      in_range = rw (l.in_range, read.in_range) refl;
      shorter = let b : length rest < length behind = longer (tok kind.CloseSquare closed) behind rest closing in omega (arith, l.shorter, read.shorter);
    }

pub right_fault : (around inside : Around) (all : Bool) (name : Name) (at : ℕ) (ts more : List Token) (left_nodes : ℕ) (left : Tree) (f : FormulaFault)
    → LeftRead all name at ts more around inside left_nodes left → FormulaFails more (record inside { nodes = left_nodes }) f → UnaryFault (spelled (path_word all) name at ∷ ts) around f
right_fault around inside all name at ts more left_nodes left f l given o d m =
    let inner : Around = record around { level = around.level + 1; nodes = left_nodes } in
    let bad : FormulaFails more inner f = subst (λ (a : Around). FormulaFails more a f) (right_around around inside left_nodes l.enters) given in
    l.goes o d m ∙ bad (in_right o (path_of all name at l.opened) l.left l.u_name l.u_at) (ap (λ x. x + 1) d) (ap (λ x. x + 1 + nodes_disjunction l.left) m ∙ sym l.counts)

pub right_unclosed : (around inside : Around) (all : Bool) (name : Name) (at : ℕ) (ts more behind : List Token) (left_nodes nodes : ℕ) (left right : Tree) (f : FormulaFault)
    → LeftRead all name at ts more around inside left_nodes left → FormulaRead more behind (record inside { nodes = left_nodes }) nodes right
    → (found close_square_in behind ≡ None) × (f ≡ here behind around.end) → UnaryFault (spelled (path_word all) name at ∷ ts) around f
right_unclosed around inside all name at ts more behind left_nodes nodes left right f l given (missing, is) o d m =
    let inner : Around = record around { level = around.level + 1; nodes = left_nodes } in
    let read : FormulaRead more behind inner nodes right = subst (λ (a : Around). FormulaRead more behind a nodes right) (right_around around inside left_nodes l.enters) given in
    let p : Path = path_of all name at l.opened in
    l.goes o d m
    ∙ read.goes (in_right o p l.left l.u_name l.u_at) (ap (λ x. x + 1) d) (ap (λ x. x + 1 + nodes_disjunction l.left) m ∙ sym l.counts)
    ∙ unclosed close_square_in (in_right o p l.left l.u_name l.u_at) read.before read.c (λ x. plug o (until p l.left l.u_name l.u_at (joined read.before read.c) x))
    (right_closes o p l.left l.u_name l.u_at read.before read.c) behind around.end read.no_amp read.no_bar missing
    ∙ ap Some (sym is)
