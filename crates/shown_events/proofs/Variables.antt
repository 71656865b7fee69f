-- The variables that stand among the tokens of a formula.
use Rattle.std.proofs.Common.{◌≡◌, ℕ, Bool, false, List, [], ◌∷◌, refl, ap, ◌∙◌}
use Rattle.std.specs.Prelude.{◌||◌, ◌&&◌}
use Rattle.std.specs.List.{list_any}
use Rattle.std.proofs.lemmas.List.Folds.{list_any-append}
use Rattle.run_model.specs.Run.{Name}
use Rattle.run_model.specs.Formula.{Formula, Formulas}
use Rattle.kept_runs.specs.Kept.{Pair}
use Rattle.kept_runs.specs.Naming.{variables_of, all_variables}
use Rattle.rctl_grammar.specs.declared.token.Kind.{Kind}
use Rattle.rctl_grammar.specs.declared.token.Kind.TheVariants as kind
use Rattle.rctl_grammar.specs.declared.token.Word.TheVariants as word
use Rattle.rctl_grammar.specs.declared.token.Token.{Token}
use Rattle.rctl_grammar.specs.Grammar.{Variable, number, variable, Leaf, constant, comparison, watch, transit, emptiness, difference, tok, spelled, named, truth_word, atom_of, text_variable, text_channel, text_leaf, text_unary}
use Rattle.rctl_grammar.specs.Shape.{plain_atom, model_atom}
use Rattle.view_parts.specs.Naming.{is_dot, is_word, is_some_word, begin_with_variable, names}
use Rattle.shown_events.specs.Laws.{is_pair}
use Rattle.shown_events.proofs.Patterns.{head_is, Follows, unary_goes, hit, IsPattern}
use Rattle.shown_events.proofs.Passing.{IsBehind, pass_word, pass_sign, pass_channel, and_false, no_word, one_found, two_found}

abbrev pub has_variable : Name → Name → Formula → Bool
has_variable p v f = list_any (is_pair p v) (variables_of f)

abbrev pub have_variable : Name → Name → Formulas → Bool
have_variable p v fs = list_any (is_pair p v) (all_variables fs)

no_variable : (p v : Name) (t : Token) (ts : List Token) → head_is is_dot ts ≡ false → begin_with_variable p v (t ∷ ts) ≡ false
no_variable p v t [] h = refl
no_variable p v t (u ∷ []) h = refl
no_variable p v t (u ∷ w ∷ ts) h = ap (λ (b : Bool). b && (is_word p t.kind && is_word v w.kind)) h

no_variable_sign : (p v : Name) (k : Kind) (at : ℕ) (ts : List Token) → is_some_word k ≡ false → begin_with_variable p v (tok k at ∷ ts) ≡ false
no_variable_sign p v k at [] h = refl
no_variable_sign p v k at (u ∷ []) h = refl
no_variable_sign p v k at (u ∷ w ∷ ts) h = ap (λ (b : Bool). is_dot u.kind && (b && is_word v w.kind)) (no_word p k h) ∙ and_false (is_dot u.kind)

behind_dot : (p v : Name) → IsBehind (begin_with_variable p v) is_dot
behind_dot p v = record { word = no_variable p v; sign = no_variable_sign p v }

abbrev pair_of : Variable → Pair
pair_of x = record { first = x.process.name; second = x.variable.name }

variable_found : (p v : Name) (x : Variable) (rest : List Token) → head_is is_dot rest ≡ false
    → names (begin_with_variable p v) (text_variable x rest) ≡ (is_pair p v (pair_of x) || names (begin_with_variable p v) rest)
variable_found p v x rest h =
    let begin = begin_with_variable p v in
    let last = named x.variable ∷ rest in
    hit begin (named x.process) (tok kind.Dot x.dot ∷ last)
    ∙ ap (λ (b : Bool). is_pair p v (pair_of x) || b)
    (pass_sign begin is_dot (behind_dot p v) kind.Dot x.dot last refl ∙ pass_word begin is_dot (behind_dot p v) (named x.variable) rest h)

leaf_found : (p v : Name) (l : Leaf) (rest : List Token) → Follows rest
    → names (begin_with_variable p v) (text_leaf l rest) ≡ (has_variable p v (model_atom (plain_atom (atom_of l))) || names (begin_with_variable p v) rest)
unfolding variables_of
leaf_found p v (constant value name at) rest follows = pass_word (begin_with_variable p v) is_dot (behind_dot p v) (spelled (truth_word value) name at) rest follows.goes.dot
leaf_found p v (comparison left compare at (number value value_at)) rest follows =
    let begin = begin_with_variable p v in
    let b = behind_dot p v in
    let side = tok (kind.Number value) value_at ∷ rest in
    let behind = tok (kind.Compare compare) at ∷ side in
    one_found (names begin (text_variable left behind)) (is_pair p v (pair_of left)) (names begin rest)
    (variable_found p v left behind refl
    ∙ ap (λ (b : Bool). is_pair p v (pair_of left) || b)
    (pass_sign begin is_dot b (kind.Compare compare) at side refl ∙ pass_sign begin is_dot b (kind.Number value) value_at rest refl))
leaf_found p v (comparison left compare at (variable right)) rest follows =
    let begin = begin_with_variable p v in
    let side = text_variable right rest in
    let behind = tok (kind.Compare compare) at ∷ side in
    two_found (names begin (text_variable left behind)) (is_pair p v (pair_of left)) (is_pair p v (pair_of right)) (names begin rest)
    (variable_found p v left behind refl
    ∙ ap (λ (b : Bool). is_pair p v (pair_of left) || b)
    (pass_sign begin is_dot (behind_dot p v) (kind.Compare compare) at side refl ∙ variable_found p v right rest follows.goes.dot))
leaf_found p v (watch process at name) rest follows =
    let begin = begin_with_variable p v in
    let b = behind_dot p v in
    let last = named name ∷ rest in
    pass_word begin is_dot b (named process) (tok kind.At at ∷ last) refl
    ∙ pass_sign begin is_dot b kind.At at last refl
    ∙ pass_word begin is_dot b (named name) rest follows.goes.dot
leaf_found p v (transit name at channel compare compare_at value value_at) rest follows =
    let begin = begin_with_variable p v in
    let b = behind_dot p v in
    let last = tok (kind.Number value) value_at ∷ rest in
    let behind = tok (kind.Compare compare) compare_at ∷ last in
    pass_word begin is_dot b (spelled word.InTransit name at) (text_channel channel behind) refl
    ∙ pass_channel begin is_dot b refl refl channel behind
    ∙ pass_sign begin is_dot b (kind.Compare compare) compare_at last refl
    ∙ pass_sign begin is_dot b (kind.Number value) value_at rest refl
leaf_found p v (emptiness name at channel) rest follows =
    let begin = begin_with_variable p v in
    let b = behind_dot p v in
    pass_word begin is_dot b (spelled word.Empty name at) (text_channel channel rest) refl
    ∙ pass_channel begin is_dot b refl refl channel rest
leaf_found p v (difference left minus right compare compare_at value value_at) rest follows =
    let begin = begin_with_variable p v in
    let b = behind_dot p v in
    let last = tok (kind.Number value) value_at ∷ rest in
    let behind = tok (kind.Compare compare) compare_at ∷ last in
    let second = text_variable right behind in
    let first = tok kind.Minus minus ∷ second in
    two_found (names begin (text_variable left first)) (is_pair p v (pair_of left)) (is_pair p v (pair_of right)) (names begin rest)
    (variable_found p v left first refl
    ∙ ap (λ (b : Bool). is_pair p v (pair_of left) || b)
    (pass_sign begin is_dot b kind.Minus minus second refl
    ∙ variable_found p v right behind refl
    ∙ ap (λ (b : Bool). is_pair p v (pair_of right) || b)
    (pass_sign begin is_dot b (kind.Compare compare) compare_at last refl ∙ pass_sign begin is_dot b (kind.Number value) value_at rest refl)))

pub variables_are_pattern : (p v : Name) → IsPattern (begin_with_variable p v) (has_variable p v) (have_variable p v)
unfolding variables_of all_variables
variables_are_pattern p v = record {
  other = no_variable_sign p v;
  word = λ w name at ts h goes. no_variable p v (spelled w name at) ts goes.dot;
  step = λ s u rest. no_variable p v (named s) (text_unary u rest) (unary_goes u rest).dot;
  leaf = leaf_found p v;
  not_is = λ f. refl;
  and_is = λ fs. refl;
  or_is = λ fs. refl;
  temporal_is = λ o f. refl;
  next_is = λ q f. refl;
  until_is = λ all f g. list_any-append (is_pair p v) (variables_of f) (variables_of g);
  nil_is = refl;
  cons_is = λ f fs. list_any-append (is_pair p v) (variables_of f) (all_variables fs);
}
