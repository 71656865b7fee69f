-- What a text names that is read as a formula.
use Rattle.std.proofs.Common.{◌≡◌, ℕ, Bool, List, [], refl, sym, ap, ◌∙◌}
use Rattle.std.specs.Prelude.{◌||◌}
use Rattle.run_model.specs.Formula.{Formula, Formulas}
use Rattle.rctl_grammar.specs.declared.tree.Tree.{Tree}
use Rattle.rctl_grammar.specs.declared.token.Token.{Token}
use Rattle.rctl_grammar.specs.Shape.{shape_disjunction, model_of, meaning}
use Rattle.rctl_grammar.proofs.Shapes.{tree-disjunction}
use Rattle.rctl_lexer.specs.Lexing.{lex}
use Rattle.rctl_parse.specs.Parsing.{IsReadAs}
use Rattle.view_parts.specs.Naming.{begin_with_variable, begin_with_channel, begin_with_watch, names}
use Rattle.shown_events.specs.Laws.{NameAsTheFormula}
use Rattle.shown_events.proofs.Patterns.{IsPattern, Follows, found_disjunction, nothing_named, or_false}
use Rattle.shown_events.proofs.Variables.{has_variable, have_variable, variables_are_pattern}
use Rattle.shown_events.proofs.Channels.{has_channel, have_channel, channels_are_pattern}
use Rattle.shown_events.proofs.Watches.{has_watch, have_watch, watches_are_pattern}

found_in_text : (begin : List Token → Bool) (has : Formula → Bool) (have : Formulas → Bool) → IsPattern begin has have → (text : List ℕ) (t : Tree) → IsReadAs text t
    → names begin (lex text).tokens ≡ has (meaning t)
found_in_text begin has have p text t read =
    let d = read.d in
    let whole = has (model_of (shape_disjunction d)) in
    let nothing : Follows [] = record { goes = record { dot = refl; at = refl; comma = refl }; opening = refl } in
    ap (names begin) (sym read.text)
    ∙ (found_disjunction begin has have p d [] nothing).whole
    ∙ ap (λ (b : Bool). whole || b) (nothing_named begin)
    ∙ or_false whole
    ∙ ap (λ s. has (model_of s)) (sym (tree-disjunction d))
    ∙ ap (λ (u : Tree). has (meaning u)) read.tree

pub text_names : (text : List ℕ) (t : Tree) → IsReadAs text t → NameAsTheFormula text t
text_names text t read = record {
  variables = λ p v. found_in_text (begin_with_variable p v) (has_variable p v) (have_variable p v) (variables_are_pattern p v) text t read;
  channels = λ s r. found_in_text (begin_with_channel s r) (has_channel s r) (have_channel s r) (channels_are_pattern s r) text t read;
  watches = λ p. found_in_text (begin_with_watch p) (has_watch p) (have_watch p) (watches_are_pattern p) text t read;
}
