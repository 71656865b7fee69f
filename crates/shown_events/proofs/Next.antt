-- A formula in whose text no `EX` stands with a name behind it has no `EX`.
use Rattle.std.proofs.Common.{◌≡◌, ℕ, true, false, List, [], ◌∷◌, sym, subst, ◌∙◌}
use Rattle.std.proofs.lemmas.Bool.{or_parts, true≢false}
use Rattle.run_model.specs.Formula.{Formula, Formulas, Nil, Cons}
use Rattle.kept_runs.specs.Naming.{HasNoNext, HaveNoNext}
use Rattle.rctl_grammar.specs.declared.token.Kind.TheVariants as kind
use Rattle.rctl_grammar.specs.declared.token.Word.TheVariants as word
use Rattle.rctl_grammar.specs.declared.token.Token.{Token}
use Rattle.rctl_grammar.specs.declared.tree.Tree.{Tree}
use Rattle.rctl_grammar.specs.Grammar.{Channel, Variable, RightSide, number, variable, Leaf, constant, comparison, watch, transit, emptiness, difference, Disjunction, one_conjunction, or, Conjunction, one_unary, and, Unary, leaf, negation, temporal, stepping, group, until, tok, spelled, named, word_of, path_word, text_variable, text_channel, text_side, text_leaf, text_disjunction, text_conjunction, text_unary, atom_of}
use Rattle.rctl_grammar.specs.Shape.{plain_atom, model_atom, model_of, models, meaning, shape_disjunction, disjunct_shapes, shape_conjunction, conjunct_shapes, shape_unary}
use Rattle.rctl_grammar.proofs.Shapes.{tree-disjunction}
use Rattle.rctl_lexer.specs.Lexing.{lex}
use Rattle.rctl_parse.specs.Parsing.{IsReadAs}
use Rattle.view_parts.specs.Naming.{begin_with_next, names}
use Rattle.shown_events.proofs.Patterns.{hit}

-- no `EX` among the tokens
abbrev None : List Token → Type 0
None ts = names begin_with_next ts ≡ false

later : (t : Token) (ts : List Token) → None (t ∷ ts) → None ts
later t ts h = (or_parts (begin_with_next (t ∷ ts)) (names begin_with_next ts) (sym (hit begin_with_next t ts) ∙ h)).1

behind_variable : (v : Variable) (rest : List Token) → None (text_variable v rest) → None rest
behind_variable v rest h =
    let last = named v.variable ∷ rest in
    let dot = tok kind.Dot v.dot ∷ last in
    later (named v.variable) rest (later (tok kind.Dot v.dot) last (later (named v.process) dot h))

behind_side : (s : RightSide) (rest : List Token) → None (text_side s rest) → None rest
behind_side (number value at) rest h = later (tok (kind.Number value) at) rest h
behind_side (variable v) rest h = behind_variable v rest h

behind_channel : (c : Channel) (rest : List Token) → None (text_channel c rest) → None rest
behind_channel c rest h =
    let closed = tok kind.CloseRound c.closed ∷ rest in
    let receiver = named c.receiver ∷ closed in
    let comma = tok kind.Comma c.comma ∷ receiver in
    let sender = named c.sender ∷ comma in
    later (tok kind.CloseRound c.closed) rest (later (named c.receiver) closed (later (tok kind.Comma c.comma) receiver
    (later (named c.sender) comma (later (tok kind.OpenRound c.opened) sender h))))

behind_leaf : (l : Leaf) (rest : List Token) → None (text_leaf l rest) → None rest
behind_leaf (constant true name at) rest h = later (spelled word.True name at) rest h
behind_leaf (constant false name at) rest h = later (spelled word.False name at) rest h
behind_leaf (comparison left compare at right) rest h =
    let side = text_side right rest in
    let behind = tok (kind.Compare compare) at ∷ side in
    behind_side right rest (later (tok (kind.Compare compare) at) side (behind_variable left behind h))
behind_leaf (watch process at name) rest h =
    let last = named name ∷ rest in
    later (named name) rest (later (tok kind.At at) last (later (named process) (tok kind.At at ∷ last) h))
behind_leaf (transit name at channel compare compare_at value value_at) rest h =
    let last = tok (kind.Number value) value_at ∷ rest in
    let behind = tok (kind.Compare compare) compare_at ∷ last in
    later (tok (kind.Number value) value_at) rest (later (tok (kind.Compare compare) compare_at) last
    (behind_channel channel behind (later (spelled word.InTransit name at) (text_channel channel behind) h)))
behind_leaf (emptiness name at channel) rest h = behind_channel channel rest (later (spelled word.Empty name at) (text_channel channel rest) h)
behind_leaf (difference left minus right compare compare_at value value_at) rest h =
    let last = tok (kind.Number value) value_at ∷ rest in
    let behind = tok (kind.Compare compare) compare_at ∷ last in
    let second = text_variable right behind in
    later (tok (kind.Number value) value_at) rest (later (tok (kind.Compare compare) compare_at) last
    (behind_variable right behind (later (tok kind.Minus minus) second (behind_variable left (tok kind.Minus minus ∷ second) h))))

leaf_has_none : (l : Leaf) → HasNoNext (model_atom (plain_atom (atom_of l)))
leaf_has_none (constant value name at) = tt
leaf_has_none (comparison left compare at right) = tt
leaf_has_none (watch process at name) = tt
leaf_has_none (transit name at channel compare compare_at value value_at) = tt
leaf_has_none (emptiness name at channel) = tt
leaf_has_none (difference left minus right compare compare_at value value_at) = tt

-- neither the formula, nor its members before others, nor the rest of the tokens has any
record HasNone (f : Formula) (before : Formulas → Formulas) (rest : List Token) : Type 0 where
  pub formula : HasNoNext f
  pub members : (fs : Formulas) → HaveNoNext fs → HaveNoNext (before fs)
  pub behind : None rest

mutual
  none_in_unary : (u : Unary) (rest : List Token) → None (text_unary u rest) → HasNoNext (model_of (shape_unary u)) × None rest
  none_in_unary (leaf l) rest h = (leaf_has_none l, behind_leaf l rest h)
  none_in_unary (negation at u) rest h = none_in_unary u rest (later (tok kind.Bang at) (text_unary u rest) h)
  none_in_unary (temporal operator name at u) rest h = none_in_unary u rest (later (spelled (word_of operator) name at) (text_unary u rest) h)
  none_in_unary (stepping name at process u) rest h =
      absurd (true≢false (sym (hit begin_with_next (spelled word.Ex name at) (named process ∷ text_unary u rest)) ∙ h))
  none_in_unary (group opened d closed) rest h =
      let behind = tok kind.CloseRound closed ∷ rest in
      let inner = none_in_disjunction d behind (later (tok kind.OpenRound opened) (text_disjunction d behind) h) in
      (inner.formula, later (tok kind.CloseRound closed) rest inner.behind)
  none_in_unary (until path left name at right closed) rest h =
      let closing = tok kind.CloseSquare closed ∷ rest in
      let second = text_disjunction right closing in
      let behind = spelled word.U name at ∷ second in
      let first = text_disjunction left behind in
      let open_ = tok kind.OpenSquare path.opened ∷ first in
      let l = none_in_disjunction left behind (later (tok kind.OpenSquare path.opened) first (later (spelled (path_word path.all) path.name path.at) open_ h)) in
      let r = none_in_disjunction right closing (later (spelled word.U name at) second l.behind) in
      ((l.formula, r.formula), later (tok kind.CloseSquare closed) rest r.behind)

  none_in_conjunction : (c : Conjunction) (rest : List Token) → None (text_conjunction c rest) → HasNone (model_of (shape_conjunction c)) (models (conjunct_shapes c)) rest
  none_in_conjunction (one_unary u) rest h =
      let whole = none_in_unary u rest h in
      record { formula = whole.0; members = λ fs k. (whole.0, k); behind = whole.1 }
  none_in_conjunction (and c at u) rest h =
      let first = none_in_conjunction c (tok kind.Amp at ∷ text_unary u rest) h in
      let last = none_in_unary u rest (later (tok kind.Amp at) (text_unary u rest) first.behind) in
      let m = model_of (shape_unary u) in
      record { formula = first.members (Cons m Nil) (last.0, tt); members = λ fs k. first.members (Cons m fs) (last.0, k); behind = last.1 }

  none_in_disjunction : (d : Disjunction) (rest : List Token) → None (text_disjunction d rest) → HasNone (model_of (shape_disjunction d)) (models (disjunct_shapes d)) rest
  none_in_disjunction (one_conjunction c) rest h =
      let whole = none_in_conjunction c rest h in
      record { formula = whole.formula; members = λ fs k. (whole.formula, k); behind = whole.behind }
  none_in_disjunction (or d at c) rest h =
      let first = none_in_disjunction d (tok kind.Bar at ∷ text_conjunction c rest) h in
      let last = none_in_conjunction c rest (later (tok kind.Bar at) (text_conjunction c rest) first.behind) in
      let m = model_of (shape_conjunction c) in
      record { formula = first.members (Cons m Nil) (last.formula, tt); members = λ fs k. first.members (Cons m fs) (last.formula, k); behind = last.behind }

pub no_next : (text : List ℕ) (t : Tree) → IsReadAs text t → names begin_with_next (lex text).tokens ≡ false → HasNoNext (meaning t)
no_next text t read h =
    let d = read.d in
    let whole = none_in_disjunction d [] (subst None (sym read.text) h) in
    subst (λ u. HasNoNext (meaning u)) read.tree (subst (λ s. HasNoNext (model_of s)) (sym (tree-disjunction d)) whole.formula)
