-- Tokens of the kinds of a shape are a formula of that shape, with as many levels and nodes.
use Rattle.std.proofs.Common.{◌≡◌, ℕ, ◌+◌, max, Bool, true, false, List, [], ◌∷◌, map, Some, codes, refl, ap, ◌∙◌, arith}
use Rattle.std.specs.Prelude.{pos}
use Rattle.run_model.specs.Run.{Name}
use Rattle.run_model.specs.Formula as model
use Rattle.rctl_grammar.specs.declared.token.Kind.{Kind}
use Rattle.rctl_grammar.specs.declared.token.Kind.TheVariants as kind
use Rattle.rctl_grammar.specs.declared.token.Token.{Token}
use Rattle.rctl_grammar.specs.Grammar as grammar
use Rattle.rctl_grammar.specs.Grammar.{Spelled, Channel, Variable, RightSide, Leaf, constant, Path, Disjunction, one_conjunction, or, Conjunction, one_unary, and, Unary, leaf, negation, temporal, stepping, group, until, tok, text_channel, text_variable, text_side, text_leaf, text_path, text_disjunction, text_conjunction, text_unary, levels_disjunction, levels_conjunction, levels_unary, amp_nodes, bar_nodes, nodes_disjunction, nodes_conjunction, nodes_unary, side_of, side_in_range, disjunction_in_range, conjunction_in_range, unary_in_range}
use Rattle.rctl_grammar.specs.Shape.{PlainSide, PlainAtom, truth, comparison, watch, transit, emptiness, difference, Shape, plain, not, conjunction, disjunction, under, stepped, until_of, Shapes, one, more, plain_side, shape_disjunction, disjunct_shapes, shape_conjunction, conjunct_shapes, shape_unary}
use Rattle.rctl_grammar.specs.Shape as shape
use Rattle.rctl_lexer.specs.Words.{word_of}
use Rattle.rctl_print.specs.Canonical as print
use Rattle.rctl_print.specs.Canonical.{needs_brackets, operator_word, until_word}
use Rattle.rctl_print.specs.declared.joint.Joint.TheVariants.{Amp, Bar}
use Rattle.rctl_round_trip.proofs.Pieces.{kind_of}
use Rattle.rctl_round_trip.proofs.Spelling.{named, side_kinds, channel_kinds, atom_kinds, kinds_in, kinds_of, joined_kinds}
use Rattle.rctl_round_trip.proofs.Measures.{levels_in, levels, levels_joined, own_node, nodes, nodes_joined}

-- ---- one token

-- the first token, and those behind it
record Head (ts : List Token) (k : Kind) (ks : List Kind) : Type 0 where
  pub at : ℕ
  pub rest : List Token
  pub is : ts ≡ tok k at ∷ rest
  pub kinds : map kind_of rest ≡ ks

head : (ts : List Token) (k : Kind) (ks : List Kind) → map kind_of ts ≡ k ∷ ks → Head ts k ks
head [] k ks h = absurd cc
head (t ∷ ts) k ks h =
    let e : t.kind ≡ k = cc in
    record { at = t.at; rest = ts; is = ap (λ (x : Kind). tok x t.at ∷ ts) e; kinds = cc }

behind : (t : Token) {a b : List Token} → a ≡ b → t ∷ a ≡ t ∷ b
behind t e = ap (λ (ts : List Token). t ∷ ts) e

-- ---- parts of a formula, and the tokens behind them

pub record AsUnary (s : Shape) (n : ℕ) (ts : List Token) (ks : List Kind) : Type 0 where
  pub u : Unary
  pub rest : List Token
  pub text : ts ≡ text_unary u rest
  pub kinds : map kind_of rest ≡ ks
  pub shape : shape_unary u ≡ s
  pub deep : levels_unary u ≡ n
  pub many : nodes_unary u ≡ nodes s
  pub in_range : unary_in_range u ≡ true

pub record AsConjunction (s : Shape) (n : ℕ) (ts : List Token) (ks : List Kind) : Type 0 where
  pub c : Conjunction
  pub rest : List Token
  pub text : ts ≡ text_conjunction c rest
  pub kinds : map kind_of rest ≡ ks
  pub shape : shape_conjunction c ≡ s
  pub deep : levels_conjunction c ≡ n
  pub many : nodes_conjunction c ≡ nodes s
  pub in_range : conjunction_in_range c ≡ true

pub record AsDisjunction (s : Shape) (n : ℕ) (ts : List Token) (ks : List Kind) : Type 0 where
  pub d : Disjunction
  pub rest : List Token
  pub text : ts ≡ text_disjunction d rest
  pub kinds : map kind_of rest ≡ ks
  pub shape : shape_disjunction d ≡ s
  pub deep : levels_disjunction d ≡ n
  pub many : nodes_disjunction d ≡ nodes s
  pub in_range : disjunction_in_range d ≡ true

record AsConjuncts (front : Shapes) (ts : List Token) (ks : List Kind) : Type 0 where
  pub c : Conjunction
  pub rest : List Token
  pub text : ts ≡ text_conjunction c rest
  pub kinds : map kind_of rest ≡ ks
  pub shapes : conjunct_shapes c ≡ front
  pub deep : levels_conjunction c ≡ levels_joined Amp front
  pub many : nodes_conjunction c ≡ nodes_joined front
  pub own : amp_nodes c ≡ own_node front
  pub in_range : conjunction_in_range c ≡ true

record AsDisjuncts (front : Shapes) (ts : List Token) (ks : List Kind) : Type 0 where
  pub d : Disjunction
  pub rest : List Token
  pub text : ts ≡ text_disjunction d rest
  pub kinds : map kind_of rest ≡ ks
  pub shapes : disjunct_shapes d ≡ front
  pub deep : levels_disjunction d ≡ levels_joined Bar front
  pub many : nodes_disjunction d ≡ nodes_joined front
  pub own : bar_nodes d ≡ own_node front
  pub in_range : disjunction_in_range d ≡ true

alone_unary : (s : Shape) (n : ℕ) (ts : List Token) (ks : List Kind) → AsUnary s n ts ks → AsConjunction s n ts ks
alone_unary s n ts ks x = record { c = one_unary x.u; rest = x.rest; text = x.text; kinds = x.kinds; shape = x.shape; deep = x.deep; many = x.many; in_range = x.in_range }

alone_conjunction : (s : Shape) (n : ℕ) (ts : List Token) (ks : List Kind) → AsConjunction s n ts ks → AsDisjunction s n ts ks
alone_conjunction s n ts ks x = record { d = one_conjunction x.c; rest = x.rest; text = x.text; kinds = x.kinds; shape = x.shape; deep = x.deep; many = x.many; in_range = x.in_range }

-- ---- leaves

abbrev at_word : Name → ℕ → Spelled
at_word name at = record { word = word_of name; name = name; at = at }

record AsVariable (process name : Name) (ts : List Token) (ks : List Kind) : Type 0 where
  pub variable : Variable
  pub rest : List Token
  pub text : ts ≡ text_variable variable rest
  pub kinds : map kind_of rest ≡ ks
  pub is_process : variable.process.name ≡ process
  pub is_name : variable.variable.name ≡ name

as_variable : (process name : Name) (ts : List Token) (ks : List Kind) → map kind_of ts ≡ named process ∷ kind.Dot ∷ named name ∷ ks → AsVariable process name ts ks
as_variable process name ts ks h =
    let a = head ts _ _ h in
    let b = head a.rest _ _ a.kinds in
    let c = head b.rest _ _ b.kinds in
    record {
      variable = record { process = at_word process a.at; dot = b.at; variable = at_word name c.at };
      rest = c.rest;
      text = a.is ∙ behind _ (b.is ∙ behind _ c.is);
      kinds = c.kinds;
      is_process = refl;
      is_name = refl;
    }

record AsSide (right : PlainSide) (ts : List Token) (ks : List Kind) : Type 0 where
  pub side : RightSide
  pub rest : List Token
  pub text : ts ≡ text_side side rest
  pub kinds : map kind_of rest ≡ ks
  pub is : plain_side (side_of side) ≡ right
  pub in_range : side_in_range side ≡ true

as_side : (right : PlainSide) (ts : List Token) (ks : List Kind) → map kind_of ts ≡ side_kinds right ks → AsSide right ts ks
as_side (shape.number value) ts ks h =
    let a = head ts _ _ h in
    record { side = grammar.number (Some value) a.at; rest = a.rest; text = a.is; kinds = a.kinds; is = refl; in_range = refl }
as_side (shape.variable process name) ts ks h =
    let a = as_variable process name ts ks h in
    record {
      side = grammar.variable a.variable;
      rest = a.rest;
      text = a.text;
      kinds = a.kinds;
      is = ap (λ (p : Name). shape.variable p a.variable.variable.name) a.is_process ∙ ap (shape.variable process) a.is_name;
      in_range = refl;
    }

record AsChannel (sender receiver : Name) (ts : List Token) (ks : List Kind) : Type 0 where
  pub channel : Channel
  pub rest : List Token
  pub text : ts ≡ text_channel channel rest
  pub kinds : map kind_of rest ≡ ks
  pub from : channel.sender.name ≡ sender
  pub to : channel.receiver.name ≡ receiver

as_channel : (sender receiver : Name) (ts : List Token) (ks : List Kind) → map kind_of ts ≡ channel_kinds sender receiver ks → AsChannel sender receiver ts ks
as_channel sender receiver ts ks h =
    let a = head ts _ _ h in
    let b = head a.rest _ _ a.kinds in
    let c = head b.rest _ _ b.kinds in
    let d = head c.rest _ _ c.kinds in
    let e = head d.rest _ _ d.kinds in
    record {
      channel = record { opened = a.at; sender = at_word sender b.at; comma = c.at; receiver = at_word receiver d.at; closed = e.at };
      rest = e.rest;
      text = a.is ∙ behind _ (b.is ∙ behind _ (c.is ∙ behind _ (d.is ∙ behind _ e.is)));
      kinds = e.kinds;
      from = refl;
      to = refl;
    }

as_leaf : (a : PlainAtom) (ts : List Token) (ks : List Kind) → map kind_of ts ≡ atom_kinds a ks → AsUnary (plain a) 0 ts ks
as_leaf (truth value) ts ks h =
    let a = head ts _ _ h in
    record { u = leaf (constant value (print.truth_word value) a.at); rest = a.rest; text = a.is; kinds = a.kinds; shape = refl; deep = refl; many = refl; in_range = refl }
as_leaf (comparison process name compare right) ts ks h =
    let a = head ts _ _ h in
    let b = head a.rest _ _ a.kinds in
    let c = head b.rest _ _ b.kinds in
    let d = head c.rest _ _ c.kinds in
    let e = as_side right d.rest ks d.kinds in
    record {
      u = leaf (grammar.comparison (record { process = at_word process a.at; dot = b.at; variable = at_word name c.at }) compare d.at e.side);
      rest = e.rest;
      text = a.is ∙ behind _ (b.is ∙ behind _ (c.is ∙ behind _ (d.is ∙ behind _ e.text)));
      kinds = e.kinds;
      shape = ap (λ (side : PlainSide). plain (comparison process name compare side)) e.is;
      deep = refl;
      many = refl;
      in_range = e.in_range;
    }
as_leaf (watch process name) ts ks h =
    let a = head ts _ _ h in
    let b = head a.rest _ _ a.kinds in
    let c = head b.rest _ _ b.kinds in
    record {
      u = leaf (grammar.watch (at_word process a.at) b.at (at_word name c.at));
      rest = c.rest;
      text = a.is ∙ behind _ (b.is ∙ behind _ c.is);
      kinds = c.kinds;
      shape = refl;
      deep = refl;
      many = refl;
      in_range = refl;
    }
as_leaf (transit sender receiver compare k) ts ks h =
    let a = head ts _ _ h in
    let b = as_channel sender receiver a.rest _ a.kinds in
    let c = head b.rest _ _ b.kinds in
    let d = head c.rest _ _ c.kinds in
    record {
      u = leaf (grammar.transit (codes "intransit") a.at b.channel compare c.at (Some (pos k)) d.at);
      rest = d.rest;
      text = a.is ∙ behind _ (b.text ∙ ap (text_channel b.channel) (c.is ∙ behind _ d.is));
      kinds = d.kinds;
      shape = ap (λ (name : Name). plain (transit name b.channel.receiver.name compare k)) b.from ∙ ap (λ (name : Name). plain (transit sender name compare k)) b.to;
      deep = refl;
      many = refl;
      in_range = refl;
    }
as_leaf (emptiness sender receiver) ts ks h =
    let a = head ts _ _ h in
    let b = as_channel sender receiver a.rest _ a.kinds in
    record {
      u = leaf (grammar.emptiness (codes "empty") a.at b.channel);
      rest = b.rest;
      text = a.is ∙ behind _ b.text;
      kinds = b.kinds;
      shape = ap (λ (name : Name). plain (emptiness name b.channel.receiver.name)) b.from ∙ ap (λ (name : Name). plain (emptiness sender name)) b.to;
      deep = refl;
      many = refl;
      in_range = refl;
    }
as_leaf (difference left_process left right_process right compare k) ts ks h =
    let a = as_variable left_process left ts _ h in
    let b = head a.rest _ _ a.kinds in
    let c = as_variable right_process right b.rest _ b.kinds in
    let d = head c.rest _ _ c.kinds in
    let e = head d.rest _ _ d.kinds in
    record {
      u = leaf (grammar.difference a.variable b.at c.variable compare d.at (Some k) e.at);
      rest = e.rest;
      text = a.text ∙ ap (text_variable a.variable) (b.is ∙ behind _ (c.text ∙ ap (text_variable c.variable) (d.is ∙ behind _ e.is)));
      kinds = e.kinds;
      shape = ap (λ (name : Name). plain (difference name a.variable.variable.name c.variable.process.name c.variable.variable.name compare k)) a.is_process
          ∙ ap (λ (name : Name). plain (difference left_process name c.variable.process.name c.variable.variable.name compare k)) a.is_name
          ∙ ap (λ (name : Name). plain (difference left_process left name c.variable.variable.name compare k)) c.is_process
          ∙ ap (λ (name : Name). plain (difference left_process left right_process name compare k)) c.is_name;
      deep = refl;
      many = refl;
      in_range = refl;
    }

-- ---- in brackets, and without

abbrev Unaries : Shape → Bool → Type 0
Unaries s b = (ts : List Token) (ks : List Kind) → map kind_of ts ≡ kinds_in b (kinds_of s) ks → AsUnary s (levels_in b (levels s)) ts ks

abbrev Conjunctions : Shape → Bool → Type 0
Conjunctions s b = (ts : List Token) (ks : List Kind) → map kind_of ts ≡ kinds_in b (kinds_of s) ks → AsConjunction s (levels_in b (levels s)) ts ks

abbrev Disjunctions : Shape → Type 0
Disjunctions s = (ts : List Token) (ks : List Kind) → map kind_of ts ≡ kinds_of s ks → AsDisjunction s (levels s) ts ks

-- the tokens as a member of an And, as a member of an Or, and alone, where brackets stand round the first two or not
record Derives (s : Shape) (in_and in_or : Bool) : Type 0 where
  pub amp : Unaries s in_and
  pub bar : Conjunctions s in_or
  pub whole : Disjunctions s

grouped : (s : Shape) → Disjunctions s → Unaries s true
grouped s g ts ks h =
    let a = head ts _ _ h in
    let x = g a.rest (kind.CloseRound ∷ ks) a.kinds in
    let b = head x.rest _ _ x.kinds in
    record {
      u = group a.at x.d b.at;
      rest = b.rest;
      text = a.is ∙ behind _ (x.text ∙ ap (text_disjunction x.d) b.is);
      kinds = b.kinds;
      shape = x.shape;
      deep = ap (λ n. 1 + n) x.deep;
      many = x.many;
      in_range = x.in_range;
    }

of_unary : (s : Shape) → Unaries s false → Derives s false false
of_unary s f = record {
  amp = f;
  bar = λ ts ks h. alone_unary s (levels s) ts ks (f ts ks h);
  whole = λ ts ks h. alone_conjunction s (levels s) ts ks (alone_unary s (levels s) ts ks (f ts ks h));
}

of_conjunction : (s : Shape) → Conjunctions s false → Derives s true false
of_conjunction s f =
    let whole : Disjunctions s = λ ts ks h. alone_conjunction s (levels s) ts ks (f ts ks h) in
    record { amp = grouped s whole; bar = f; whole = whole }

of_disjunction : (s : Shape) → Disjunctions s → Derives s true true
of_disjunction s f = record { amp = grouped s f; bar = λ ts ks h. alone_unary s (1 + levels s) ts ks (grouped s f ts ks h); whole = f }

-- ---- the nodes

as_negation : (s : Shape) → Unaries s (needs_brackets Amp s) → Unaries (not s) false
as_negation s f ts ks h =
    let a = head ts _ _ h in
    let x = f a.rest ks a.kinds in
    record {
      u = negation a.at x.u;
      rest = x.rest;
      text = a.is ∙ behind _ x.text;
      kinds = x.kinds;
      shape = ap not x.shape;
      deep = ap (λ n. 1 + n) x.deep;
      many = ap (λ n. 1 + n) x.many;
      in_range = x.in_range;
    }

as_temporal : (operator : model.Operator) (s : Shape) → Unaries s (needs_brackets Amp s) → Unaries (under operator s) false
as_temporal operator s f ts ks h =
    let a = head ts _ _ h in
    let x = f a.rest ks a.kinds in
    record {
      u = temporal operator (operator_word (grammar.operator_of operator)) a.at x.u;
      rest = x.rest;
      text = a.is ∙ behind _ x.text;
      kinds = x.kinds;
      shape = ap (under operator) x.shape;
      deep = ap (λ n. 1 + n) x.deep;
      many = ap (λ n. 1 + n) x.many;
      in_range = x.in_range;
    }

as_stepping : (process : Name) (s : Shape) → Unaries s (needs_brackets Amp s) → Unaries (stepped process s) false
as_stepping process s f ts ks h =
    let a = head ts _ _ h in
    let b = head a.rest _ _ a.kinds in
    let x = f b.rest ks b.kinds in
    record {
      u = stepping (codes "EX") a.at (at_word process b.at) x.u;
      rest = x.rest;
      text = a.is ∙ behind _ (b.is ∙ behind _ x.text);
      kinds = x.kinds;
      shape = ap (stepped process) x.shape;
      deep = ap (λ n. 1 + n) x.deep;
      many = ap (λ n. 1 + n) x.many;
      in_range = x.in_range;
    }

as_until : (all : Bool) (left right : Shape) → Disjunctions left → Disjunctions right → Unaries (until_of all left right) false
as_until all left right f g ts ks h =
    let a = head ts _ _ h in
    let b = head a.rest _ _ a.kinds in
    let x = f b.rest _ b.kinds in
    let c = head x.rest _ _ x.kinds in
    let y = g c.rest _ c.kinds in
    let d = head y.rest _ _ y.kinds in
    record {
      u = until (record { all = all; name = until_word all; at = a.at; opened = b.at }) x.d (codes "U") c.at y.d d.at;
      rest = d.rest;
      text = a.is ∙ behind _ (b.is ∙ behind _ (x.text ∙ ap (text_disjunction x.d) (c.is ∙ behind _ (y.text ∙ ap (text_disjunction y.d) d.is))));
      kinds = d.kinds;
      shape = ap (λ (s : Shape). until_of all s (shape_disjunction y.d)) x.shape ∙ ap (until_of all left) y.shape;
      deep = ap (λ n. 1 + max n (levels_disjunction y.d)) x.deep ∙ ap (λ n. 1 + max (levels left) n) y.deep;
      many = omega (arith, x.many, y.many);
      in_range = rw (x.in_range, y.in_range) refl;
    }

as_conjunction : (front : Shapes) (last : Shape) → ((ts : List Token) (ks : List Kind) → map kind_of ts ≡ joined_kinds Amp front ks → AsConjuncts front ts ks) →
    Unaries last (needs_brackets Amp last) → Conjunctions (conjunction front last) false
as_conjunction front last f g ts ks h =
    let x = f ts _ h in
    let a = head x.rest _ _ x.kinds in
    let y = g a.rest ks a.kinds in
    record {
      c = and x.c a.at y.u;
      rest = y.rest;
      text = x.text ∙ ap (text_conjunction x.c) (a.is ∙ behind _ y.text);
      kinds = y.kinds;
      shape = ap (λ (ss : Shapes). conjunction ss (shape_unary y.u)) x.shapes ∙ ap (conjunction front) y.shape;
      deep = ap (λ n. max n (levels_unary y.u)) x.deep ∙ ap (max (levels_joined Amp front)) y.deep;
      many = omega (arith, x.many, x.own, y.many);
      in_range = rw (x.in_range, y.in_range) refl;
    }

as_disjunction : (front : Shapes) (last : Shape) → ((ts : List Token) (ks : List Kind) → map kind_of ts ≡ joined_kinds Bar front ks → AsDisjuncts front ts ks) →
    Conjunctions last (needs_brackets Bar last) → Disjunctions (disjunction front last)
as_disjunction front last f g ts ks h =
    let x = f ts _ h in
    let a = head x.rest _ _ x.kinds in
    let y = g a.rest ks a.kinds in
    record {
      d = or x.d a.at y.c;
      rest = y.rest;
      text = x.text ∙ ap (text_disjunction x.d) (a.is ∙ behind _ y.text);
      kinds = y.kinds;
      shape = ap (λ (ss : Shapes). disjunction ss (shape_conjunction y.c)) x.shapes ∙ ap (disjunction front) y.shape;
      deep = ap (λ n. max n (levels_conjunction y.c)) x.deep ∙ ap (max (levels_joined Bar front)) y.deep;
      many = omega (arith, x.many, x.own, y.many);
      in_range = rw (x.in_range, y.in_range) refl;
    }

more_conjuncts : (front : Shapes) (s : Shape) (ts : List Token) (ks : List Kind) → Unaries s (needs_brackets Amp s) → AsConjuncts front ts (kind.Amp ∷ kinds_in (needs_brackets Amp s) (kinds_of s) ks) →
    AsConjuncts (more front s) ts ks
more_conjuncts front s ts ks g x =
    let a = head x.rest _ _ x.kinds in
    let y = g a.rest ks a.kinds in
    record {
      c = and x.c a.at y.u;
      rest = y.rest;
      text = x.text ∙ ap (text_conjunction x.c) (a.is ∙ behind _ y.text);
      kinds = y.kinds;
      shapes = ap (λ (ss : Shapes). more ss (shape_unary y.u)) x.shapes ∙ ap (more front) y.shape;
      deep = ap (λ n. max n (levels_unary y.u)) x.deep ∙ ap (max (levels_joined Amp front)) y.deep;
      many = omega (arith, x.many, x.own, y.many);
      own = refl;
      in_range = rw (x.in_range, y.in_range) refl;
    }

more_disjuncts : (front : Shapes) (s : Shape) (ts : List Token) (ks : List Kind) → Conjunctions s (needs_brackets Bar s) → AsDisjuncts front ts (kind.Bar ∷ kinds_in (needs_brackets Bar s) (kinds_of s) ks) →
    AsDisjuncts (more front s) ts ks
more_disjuncts front s ts ks g x =
    let a = head x.rest _ _ x.kinds in
    let y = g a.rest ks a.kinds in
    record {
      d = or x.d a.at y.c;
      rest = y.rest;
      text = x.text ∙ ap (text_disjunction x.d) (a.is ∙ behind _ y.text);
      kinds = y.kinds;
      shapes = ap (λ (ss : Shapes). more ss (shape_conjunction y.c)) x.shapes ∙ ap (more front) y.shape;
      deep = ap (λ n. max n (levels_conjunction y.c)) x.deep ∙ ap (max (levels_joined Bar front)) y.deep;
      many = omega (arith, x.many, x.own, y.many);
      own = refl;
      in_range = rw (x.in_range, y.in_range) refl;
    }

mutual
  derive : (s : Shape) → Derives s (needs_brackets Amp s) (needs_brackets Bar s)
  derive (plain a) = of_unary (plain a) (as_leaf a)
  derive (not s) = of_unary (not s) (as_negation s (derive s).amp)
  derive (conjunction front last) = of_conjunction (conjunction front last) (as_conjunction front last (amps front) (derive last).amp)
  derive (disjunction front last) = of_disjunction (disjunction front last) (as_disjunction front last (bars front) (derive last).bar)
  derive (under operator s) = of_unary (under operator s) (as_temporal operator s (derive s).amp)
  derive (stepped process s) = of_unary (stepped process s) (as_stepping process s (derive s).amp)
  derive (until_of all left right) = of_unary (until_of all left right) (as_until all left right (derive left).whole (derive right).whole)

  amps : (front : Shapes) (ts : List Token) (ks : List Kind) → map kind_of ts ≡ joined_kinds Amp front ks → AsConjuncts front ts ks
  amps (one s) ts ks h =
      let x = (derive s).amp ts ks h in
      record { c = one_unary x.u; rest = x.rest; text = x.text; kinds = x.kinds; shapes = ap one x.shape; deep = x.deep; many = x.many; own = refl; in_range = x.in_range }
  amps (more front s) ts ks h = more_conjuncts front s ts ks (derive s).amp (amps front ts _ h)

  bars : (front : Shapes) (ts : List Token) (ks : List Kind) → map kind_of ts ≡ joined_kinds Bar front ks → AsDisjuncts front ts ks
  bars (one s) ts ks h =
      let x = (derive s).bar ts ks h in
      record { d = one_conjunction x.c; rest = x.rest; text = x.text; kinds = x.kinds; shapes = ap one x.shape; deep = x.deep; many = x.many; own = refl; in_range = x.in_range }
  bars (more front s) ts ks h = more_disjuncts front s ts ks (derive s).bar (bars front ts _ h)

-- tokens of these kinds alone are a formula of that shape
pub derived : (s : Shape) (ts : List Token) → map kind_of ts ≡ kinds_of s [] → AsDisjunction s (levels s) ts []
derived s ts h = (derive s).whole ts [] h
