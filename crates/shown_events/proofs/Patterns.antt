-- What stands among the tokens of a formula, by any pattern that begins with a word.
use Rattle.std.proofs.Common.{◌≡◌, ℕ, Bool, true, false, List, [], ◌∷◌, refl, sym, ap, ◌∙◌}
use Rattle.std.specs.Prelude.{◌||◌}
use Rattle.run_model.specs.Run.{Name}
use Rattle.run_model.specs.Formula as model
use Rattle.run_model.specs.Formula.{Formula, Formulas, Nil, Cons}
use Rattle.rctl_grammar.specs.declared.token.Kind.{Kind}
use Rattle.rctl_grammar.specs.declared.token.Kind.TheVariants as kind
use Rattle.rctl_grammar.specs.declared.token.Word.{Word}
use Rattle.rctl_grammar.specs.declared.token.Word.TheVariants as word
use Rattle.rctl_grammar.specs.declared.token.Token.{Token}
use Rattle.rctl_grammar.specs.Grammar.{Spelled, Leaf, constant, comparison, watch, transit, emptiness, difference, Disjunction, one_conjunction, or, Conjunction, one_unary, and, Unary, leaf, negation, temporal, stepping, group, until, tok, spelled, named, word_of, path_word, atom_of, text_leaf, text_disjunction, text_conjunction, text_unary}
use Rattle.rctl_grammar.specs.Shape.{Shapes, one, more, plain_atom, model_atom, model_of, models, shape_disjunction, disjunct_shapes, shape_conjunction, conjunct_shapes, shape_unary}
use Rattle.view_parts.specs.Naming.{is_dot, is_at, is_opening, is_comma, is_transit, is_some_word, names}

-- ---- what tokens begin with

abbrev pub head_is : (Kind → Bool) → List Token → Bool
head_is test [] = false
head_is test (t ∷ ts) = test t.kind

-- neither a dot, nor an `@`, nor a comma
pub record Goes (ts : List Token) : Type 0 where
  pub dot : head_is is_dot ts ≡ false
  pub at : head_is is_at ts ≡ false
  pub comma : head_is is_comma ts ≡ false

-- no bracket that opens either
pub record Follows (ts : List Token) : Type 0 where
  pub goes : Goes ts
  pub opening : head_is is_opening ts ≡ false

mutual
  pub unary_goes : (u : Unary) (rest : List Token) → Goes (text_unary u rest)
  unary_goes (leaf (constant value name at)) rest = record { dot = refl; at = refl; comma = refl }
  unary_goes (leaf (comparison left compare at right)) rest = record { dot = refl; at = refl; comma = refl }
  unary_goes (leaf (watch process at name)) rest = record { dot = refl; at = refl; comma = refl }
  unary_goes (leaf (transit name at channel compare compare_at value value_at)) rest = record { dot = refl; at = refl; comma = refl }
  unary_goes (leaf (emptiness name at channel)) rest = record { dot = refl; at = refl; comma = refl }
  unary_goes (leaf (difference left minus right compare compare_at value value_at)) rest = record { dot = refl; at = refl; comma = refl }
  unary_goes (negation at u) rest = record { dot = refl; at = refl; comma = refl }
  unary_goes (temporal operator name at u) rest = record { dot = refl; at = refl; comma = refl }
  unary_goes (stepping name at process u) rest = record { dot = refl; at = refl; comma = refl }
  unary_goes (group opened d closed) rest = record { dot = refl; at = refl; comma = refl }
  unary_goes (until path left name at right closed) rest = record { dot = refl; at = refl; comma = refl }

  pub conjunction_goes : (c : Conjunction) (rest : List Token) → Goes (text_conjunction c rest)
  conjunction_goes (one_unary u) rest = unary_goes u rest
  conjunction_goes (and c at u) rest = conjunction_goes c (tok kind.Amp at ∷ text_unary u rest)

  pub disjunction_goes : (d : Disjunction) (rest : List Token) → Goes (text_disjunction d rest)
  disjunction_goes (one_conjunction c) rest = conjunction_goes c rest
  disjunction_goes (or d at c) rest = disjunction_goes d (tok kind.Bar at ∷ text_conjunction c rest)

-- the second token is such a one
abbrev pub second_is : (Kind → Bool) → List Token → Bool
second_is test [] = false
second_is test (t ∷ ts) = head_is test ts

mutual
  second_unary : (u : Unary) (rest : List Token) → head_is is_comma rest ≡ false → second_is is_comma (text_unary u rest) ≡ false
  second_unary (leaf (constant value name at)) rest h = h
  second_unary (leaf (comparison left compare at right)) rest h = refl
  second_unary (leaf (watch process at name)) rest h = refl
  second_unary (leaf (transit name at channel compare compare_at value value_at)) rest h = refl
  second_unary (leaf (emptiness name at channel)) rest h = refl
  second_unary (leaf (difference left minus right compare compare_at value value_at)) rest h = refl
  second_unary (negation at u) rest h = (unary_goes u rest).comma
  second_unary (temporal operator name at u) rest h = (unary_goes u rest).comma
  second_unary (stepping name at process u) rest h = refl
  second_unary (group opened d closed) rest h = (disjunction_goes d (tok kind.CloseRound closed ∷ rest)).comma
  second_unary (until path left name at right closed) rest h = refl

  second_conjunction : (c : Conjunction) (rest : List Token) → head_is is_comma rest ≡ false → second_is is_comma (text_conjunction c rest) ≡ false
  second_conjunction (one_unary u) rest h = second_unary u rest h
  second_conjunction (and c at u) rest h = second_conjunction c (tok kind.Amp at ∷ text_unary u rest) refl

  pub second_disjunction : (d : Disjunction) (rest : List Token) → head_is is_comma rest ≡ false → second_is is_comma (text_disjunction d rest) ≡ false
  second_disjunction (one_conjunction c) rest h = second_conjunction c rest h
  second_disjunction (or d at c) rest h = second_disjunction d (tok kind.Bar at ∷ text_conjunction c rest) refl

-- ---- patterns

pub skip : (begin : List Token → Bool) (t : Token) (ts : List Token) → begin (t ∷ ts) ≡ false → names begin (t ∷ ts) ≡ names begin ts
unfolding names
skip begin t ts h = rw h refl

pub hit : (begin : List Token → Bool) (t : Token) (ts : List Token) → names begin (t ∷ ts) ≡ (begin (t ∷ ts) || names begin ts)
unfolding names
hit begin t ts = refl

pub nothing_named : (begin : List Token → Bool) → names begin [] ≡ false
unfolding names
nothing_named begin = refl

-- a pattern, and what a formula has of it
pub record IsPattern (begin : List Token → Bool) (has : Formula → Bool) (have : Formulas → Bool) : Type 0 where
  pub other : (k : Kind) (at : ℕ) (ts : List Token) → is_some_word k ≡ false → begin (tok k at ∷ ts) ≡ false
  pub word : (w : Word) (name : Name) (at : ℕ) (ts : List Token) → is_transit (kind.Word w name) ≡ false → Goes ts → begin (spelled w name at ∷ ts) ≡ false
  pub step : (p : Spelled) (u : Unary) (rest : List Token) → begin (named p ∷ text_unary u rest) ≡ false
  pub leaf : (l : Leaf) (rest : List Token) → Follows rest → names begin (text_leaf l rest) ≡ (has (model_atom (plain_atom (atom_of l))) || names begin rest)
  pub not_is : (f : Formula) → has (model.Not f) ≡ has f
  pub and_is : (fs : Formulas) → has (model.And fs) ≡ have fs
  pub or_is : (fs : Formulas) → has (model.Or fs) ≡ have fs
  pub temporal_is : (o : model.Operator) (f : Formula) → has (model.Temporal o f) ≡ has f
  pub next_is : (p : Name) (f : Formula) → has (model.Next p f) ≡ has f
  pub until_is : (all : Bool) (f g : Formula) → has (model.Until all f g) ≡ (has f || has g)
  pub nil_is : have Nil ≡ false
  pub cons_is : (f : Formula) (fs : Formulas) → have (Cons f fs) ≡ (has f || have fs)

pub or_false : (b : Bool) → (b || false) ≡ b
or_false true = refl
or_false false = refl

pub or_assoc : (a b c : Bool) → ((a || b) || c) ≡ (a || (b || c))
or_assoc true b c = refl
or_assoc false b c = refl

one_is : (begin : List Token → Bool) (has : Formula → Bool) (have : Formulas → Bool) → IsPattern begin has have → (f : Formula) → have (Cons f Nil) ≡ has f
one_is begin has have p f = p.cons_is f Nil ∙ ap (λ (b : Bool). has f || b) p.nil_is ∙ or_false (has f)

models_or : (begin : List Token → Bool) (has : Formula → Bool) (have : Formulas → Bool) → IsPattern begin has have → (shapes : Shapes) (fs : Formulas) → have (models shapes fs) ≡ (have (models shapes Nil) || have fs)
models_or begin has have p (one s) fs = p.cons_is (model_of s) fs ∙ ap (λ (b : Bool). b || have fs) (sym (one_is begin has have p (model_of s)))
models_or begin has have p (more front s) fs =
    let m = model_of s in
    let a = have (models front Nil) in
    models_or begin has have p front (Cons m fs) ∙ ap (λ (b : Bool). a || b) (p.cons_is m fs) ∙ sym (or_assoc a (has m) (have fs))
    ∙ ap (λ (b : Bool). b || have fs) (ap (λ (b : Bool). a || b) (sym (one_is begin has have p m)) ∙ sym (models_or begin has have p front (Cons m Nil)))

signs_follow : (k : Kind) (at : ℕ) (ts : List Token) → is_dot k ≡ false → is_at k ≡ false → is_comma k ≡ false → is_opening k ≡ false → Follows (tok k at ∷ ts)
signs_follow k at ts dot is_at comma opening = record { goes = record { dot = dot; at = is_at; comma = comma }; opening = opening }

-- what was found of an operand, and then the rest
passed : (begin : List Token → Bool) (t : Token) (ts rest : List Token) (a b : Bool) → begin (t ∷ ts) ≡ false → names begin ts ≡ (a || names begin rest) → a ≡ b → names begin (t ∷ ts) ≡ (b || names begin rest)
passed begin t ts rest a b h k e = skip begin t ts h ∙ k ∙ ap (λ (x : Bool). x || names begin rest) e

-- what was found of a text: as a formula, and as the members of one
pub record Found (begin : List Token → Bool) (text rest : List Token) (all each : Bool) : Type 0 where
  pub whole : names begin text ≡ (all || names begin rest)
  pub members : names begin text ≡ (each || names begin rest)

no_transit : (o : model.Operator) (name : Name) → is_transit (kind.Word (word_of o) name) ≡ false
no_transit model.Ef name = refl
no_transit model.Ag name = refl
no_transit model.Eg name = refl
no_transit model.Af name = refl
no_transit model.Ax name = refl

no_path_transit : (all : Bool) (name : Name) → is_transit (kind.Word (path_word all) name) ≡ false
no_path_transit true name = refl
no_path_transit false name = refl

mutual
  pub found_unary : (begin : List Token → Bool) (has : Formula → Bool) (have : Formulas → Bool) → IsPattern begin has have → (u : Unary) (rest : List Token) → Follows rest
      → names begin (text_unary u rest) ≡ (has (model_of (shape_unary u)) || names begin rest)
  found_unary begin has have p (leaf l) rest follows = p.leaf l rest follows
  found_unary begin has have p (negation at u) rest follows =
      passed begin (tok kind.Bang at) (text_unary u rest) rest _ _ (p.other kind.Bang at (text_unary u rest) refl) (found_unary begin has have p u rest follows) (sym (p.not_is (model_of (shape_unary u))))
  found_unary begin has have p (temporal operator name at u) rest follows =
      passed begin (spelled (word_of operator) name at) (text_unary u rest) rest _ _ (p.word (word_of operator) name at (text_unary u rest) (no_transit operator name) (unary_goes u rest))
      (found_unary begin has have p u rest follows) (sym (p.temporal_is operator (model_of (shape_unary u))))
  found_unary begin has have p (stepping name at process u) rest follows =
      skip begin (spelled word.Ex name at) (named process ∷ text_unary u rest) (p.word word.Ex name at (named process ∷ text_unary u rest) refl (record { dot = refl; at = refl; comma = refl }))
      ∙ passed begin (named process) (text_unary u rest) rest _ _ (p.step process u rest) (found_unary begin has have p u rest follows) (sym (p.next_is process.name (model_of (shape_unary u))))
  found_unary begin has have p (group opened d closed) rest follows =
      let behind = tok kind.CloseRound closed ∷ rest in
      skip begin (tok kind.OpenRound opened) (text_disjunction d behind) (p.other kind.OpenRound opened (text_disjunction d behind) refl)
      ∙ (found_disjunction begin has have p d behind (signs_follow kind.CloseRound closed rest refl refl refl refl)).whole
      ∙ ap (λ (b : Bool). has (model_of (shape_disjunction d)) || b) (skip begin (tok kind.CloseRound closed) rest (p.other kind.CloseRound closed rest refl))
  found_unary begin has have p (until path left name at right closed) rest follows =
      let closing = tok kind.CloseSquare closed ∷ rest in
      let second = text_disjunction right closing in
      let behind = spelled word.U name at ∷ second in
      let first = text_disjunction left behind in
      let l = has (model_of (shape_disjunction left)) in
      let r = has (model_of (shape_disjunction right)) in
      skip begin (spelled (path_word path.all) path.name path.at) (tok kind.OpenSquare path.opened ∷ first) (p.word (path_word path.all) path.name path.at (tok kind.OpenSquare path.opened ∷ first) (no_path_transit path.all path.name) (record { dot = refl; at = refl; comma = refl }))
      ∙ skip begin (tok kind.OpenSquare path.opened) first (p.other kind.OpenSquare path.opened first refl)
      ∙ (found_disjunction begin has have p left behind (record { goes = record { dot = refl; at = refl; comma = refl }; opening = refl })).whole
      ∙ ap (λ (b : Bool). l || b)
      (skip begin (spelled word.U name at) second (p.word word.U name at second refl (disjunction_goes right closing))
      ∙ (found_disjunction begin has have p right closing (signs_follow kind.CloseSquare closed rest refl refl refl refl)).whole
      ∙ ap (λ (b : Bool). r || b) (skip begin (tok kind.CloseSquare closed) rest (p.other kind.CloseSquare closed rest refl)))
      ∙ sym (or_assoc l r (names begin rest)) ∙ ap (λ (b : Bool). b || names begin rest) (sym (p.until_is path.all (model_of (shape_disjunction left)) (model_of (shape_disjunction right))))

  pub found_conjunction : (begin : List Token → Bool) (has : Formula → Bool) (have : Formulas → Bool) → IsPattern begin has have → (c : Conjunction) (rest : List Token) → Follows rest
      → Found begin (text_conjunction c rest) rest (has (model_of (shape_conjunction c))) (have (models (conjunct_shapes c) Nil))
  found_conjunction begin has have p (one_unary u) rest follows =
      let whole = found_unary begin has have p u rest follows in
      record { whole = whole; members = whole ∙ ap (λ (b : Bool). b || names begin rest) (sym (one_is begin has have p (model_of (shape_unary u)))) }
  found_conjunction begin has have p (and c at u) rest follows =
      let behind = tok kind.Amp at ∷ text_unary u rest in
      let m = model_of (shape_unary u) in
      let a = have (models (conjunct_shapes c) Nil) in
      let members =
      (found_conjunction begin has have p c behind (signs_follow kind.Amp at (text_unary u rest) refl refl refl refl)).members
      ∙ ap (λ (b : Bool). a || b) (skip begin (tok kind.Amp at) (text_unary u rest) (p.other kind.Amp at (text_unary u rest) refl) ∙ found_unary begin has have p u rest follows)
      ∙ sym (or_assoc a (has m) (names begin rest))
      ∙ ap (λ (b : Bool). b || names begin rest) (ap (λ (b : Bool). a || b) (sym (one_is begin has have p m)) ∙ sym (models_or begin has have p (conjunct_shapes c) (Cons m Nil))) in
      record { whole = members ∙ ap (λ (b : Bool). b || names begin rest) (sym (p.and_is (models (conjunct_shapes c) (Cons m Nil)))); members = members }

  pub found_disjunction : (begin : List Token → Bool) (has : Formula → Bool) (have : Formulas → Bool) → IsPattern begin has have → (d : Disjunction) (rest : List Token) → Follows rest
      → Found begin (text_disjunction d rest) rest (has (model_of (shape_disjunction d))) (have (models (disjunct_shapes d) Nil))
  found_disjunction begin has have p (one_conjunction c) rest follows =
      let whole = (found_conjunction begin has have p c rest follows).whole in
      record { whole = whole; members = whole ∙ ap (λ (b : Bool). b || names begin rest) (sym (one_is begin has have p (model_of (shape_conjunction c)))) }
  found_disjunction begin has have p (or d at c) rest follows =
      let behind = tok kind.Bar at ∷ text_conjunction c rest in
      let m = model_of (shape_conjunction c) in
      let a = have (models (disjunct_shapes d) Nil) in
      let members =
      (found_disjunction begin has have p d behind (signs_follow kind.Bar at (text_conjunction c rest) refl refl refl refl)).members
      ∙ ap (λ (b : Bool). a || b) (skip begin (tok kind.Bar at) (text_conjunction c rest) (p.other kind.Bar at (text_conjunction c rest) refl) ∙ (found_conjunction begin has have p c rest follows).whole)
      ∙ sym (or_assoc a (has m) (names begin rest))
      ∙ ap (λ (b : Bool). b || names begin rest) (ap (λ (b : Bool). a || b) (sym (one_is begin has have p m)) ∙ sym (models_or begin has have p (disjunct_shapes d) (Cons m Nil))) in
      record { whole = members ∙ ap (λ (b : Bool). b || names begin rest) (sym (p.or_is (models (disjunct_shapes d) (Cons m Nil)))); members = members }
