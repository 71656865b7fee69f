-- The watched processes that stand among the tokens of a formula.
use Rattle.std.proofs.Common.{◌≡◌, ℕ, Bool, false, List, [], ◌∷◌, refl, ap, ◌∙◌}
use Rattle.std.specs.Prelude.{◌||◌, ◌&&◌}
use Rattle.std.specs.List.{list_any}
use Rattle.std.proofs.lemmas.List.Folds.{list_any-append}
use Rattle.run_model.specs.Run.{Name}
use Rattle.run_model.specs.Formula.{Formula, Formulas}
use Rattle.kept_runs.specs.Naming.{watched_of, all_watched}
use Rattle.rctl_grammar.specs.declared.token.Kind.{Kind}
use Rattle.rctl_grammar.specs.declared.token.Kind.TheVariants as kind
use Rattle.rctl_grammar.specs.declared.token.Word.TheVariants as word
use Rattle.rctl_grammar.specs.declared.token.Token.{Token}
use Rattle.rctl_grammar.specs.Grammar.{Leaf, constant, comparison, watch, transit, emptiness, difference, tok, spelled, named, truth_word, atom_of, text_variable, text_channel, text_leaf, text_unary, text_side}
use Rattle.rctl_grammar.specs.Shape.{plain_atom, model_atom}
use Rattle.view_parts.specs.Naming.{is_at, is_word, is_some_word, begin_with_watch, names}
use Rattle.shown_events.specs.Laws.{is_name}
use Rattle.shown_events.proofs.Patterns.{head_is, Follows, unary_goes, hit, IsPattern}
use Rattle.shown_events.proofs.Passing.{IsBehind, pass_word, pass_sign, pass_variable, pass_side, pass_channel, and_false, no_word, one_found}

abbrev pub has_watch : Name → Formula → Bool
has_watch p f = list_any (is_name p) (watched_of f)

abbrev pub have_watch : Name → Formulas → Bool
have_watch p fs = list_any (is_name p) (all_watched fs)

no_watch : (p : Name) (t : Token) (ts : List Token) → head_is is_at ts ≡ false → begin_with_watch p (t ∷ ts) ≡ false
no_watch p t [] h = refl
no_watch p t (u ∷ ts) h = ap (λ (b : Bool). b && is_word p t.kind) h

no_watch_sign : (p : Name) (k : Kind) (at : ℕ) (ts : List Token) → is_some_word k ≡ false → begin_with_watch p (tok k at ∷ ts) ≡ false
no_watch_sign p k at [] h = refl
no_watch_sign p k at (u ∷ ts) h = ap (λ (b : Bool). is_at u.kind && b) (no_word p k h) ∙ and_false (is_at u.kind)

behind_at : (p : Name) → IsBehind (begin_with_watch p) is_at
behind_at p = record { word = no_watch p; sign = no_watch_sign p }

leaf_found : (p : Name) (l : Leaf) (rest : List Token) → Follows rest
    → names (begin_with_watch p) (text_leaf l rest) ≡ (has_watch p (model_atom (plain_atom (atom_of l))) || names (begin_with_watch p) rest)
unfolding watched_of
leaf_found p (constant value name at) rest follows = pass_word (begin_with_watch p) is_at (behind_at p) (spelled (truth_word value) name at) rest follows.goes.at
leaf_found p (comparison left compare at right) rest follows =
    let begin = begin_with_watch p in
    let b = behind_at p in
    let side = text_side right rest in
    let behind = tok (kind.Compare compare) at ∷ side in
    pass_variable begin is_at b refl left behind refl
    ∙ pass_sign begin is_at b (kind.Compare compare) at side refl
    ∙ pass_side begin is_at b refl right rest follows.goes.at
leaf_found p (watch process at name) rest follows =
    let begin = begin_with_watch p in
    let b = behind_at p in
    let last = named name ∷ rest in
    let behind = tok kind.At at ∷ last in
    one_found (names begin (named process ∷ behind)) (is_name p process.name) (names begin rest)
    (hit begin (named process) behind
    ∙ ap (λ (x : Bool). is_name p process.name || x)
    (pass_sign begin is_at b kind.At at last refl ∙ pass_word begin is_at b (named name) rest follows.goes.at))
leaf_found p (transit name at channel compare compare_at value value_at) rest follows =
    let begin = begin_with_watch p in
    let b = behind_at p in
    let last = tok (kind.Number value) value_at ∷ rest in
    let behind = tok (kind.Compare compare) compare_at ∷ last in
    pass_word begin is_at b (spelled word.InTransit name at) (text_channel channel behind) refl
    ∙ pass_channel begin is_at b refl refl channel behind
    ∙ pass_sign begin is_at b (kind.Compare compare) compare_at last refl
    ∙ pass_sign begin is_at b (kind.Number value) value_at rest refl
leaf_found p (emptiness name at channel) rest follows =
    let begin = begin_with_watch p in
    let b = behind_at p in
    pass_word begin is_at b (spelled word.Empty name at) (text_channel channel rest) refl ∙ pass_channel begin is_at b refl refl channel rest
leaf_found p (difference left minus right compare compare_at value value_at) rest follows =
    let begin = begin_with_watch p in
    let b = behind_at p in
    let last = tok (kind.Number value) value_at ∷ rest in
    let behind = tok (kind.Compare compare) compare_at ∷ last in
    let second = text_variable right behind in
    let first = tok kind.Minus minus ∷ second in
    pass_variable begin is_at b refl left first refl
    ∙ pass_sign begin is_at b kind.Minus minus second refl
    ∙ pass_variable begin is_at b refl right behind refl
    ∙ pass_sign begin is_at b (kind.Compare compare) compare_at last refl
    ∙ pass_sign begin is_at b (kind.Number value) value_at rest refl

pub watches_are_pattern : (p : Name) → IsPattern (begin_with_watch p) (has_watch p) (have_watch p)
unfolding watched_of all_watched
watches_are_pattern p = record {
  other = no_watch_sign p;
  word = λ w name at ts h goes. no_watch p (spelled w name at) ts goes.at;
  step = λ s u rest. no_watch p (named s) (text_unary u rest) (unary_goes u rest).at;
  leaf = leaf_found p;
  not_is = λ f. refl;
  and_is = λ fs. refl;
  or_is = λ fs. refl;
  temporal_is = λ o f. refl;
  next_is = λ q f. refl;
  until_is = λ all f g. list_any-append (is_name p) (watched_of f) (watched_of g);
  nil_is = refl;
  cons_is = λ f fs. list_any-append (is_name p) (watched_of f) (all_watched fs);
}
