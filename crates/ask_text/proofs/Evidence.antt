-- The first of some witnesses that has a path.
use Rattle.std.proofs.Common.{◌≡◌, ℕ, ◌+◌, ◌<◌, ◌≤◌, List, [], ◌∷◌, length, drop, get_or, refl, sym, ap, ◌∙◌}
use Rattle.std.specs.Prelude.{None, Some}
use Rattle.std.proofs.lemmas.List.{drop_more, drop_all}
use Rattle.question_meaning.specs.declared.form.Form.{Form}
use Rattle.event_log.specs.States.{StatesView}
use Rattle.rctl_grammar.specs.declared.token.Token.{Token}
use Rattle.witness_kinds.specs.declared.Path.{Path}
use Rattle.report_lines.specs.declared.kinds.WitnessText.{WitnessText}
use Rattle.view_parts.specs.declared.extent.Extent.{Extent}
use Rattle.ask_text.specs.Text.{path_of, block, block_or, evidence}

module _ (front otherwise : List ℕ) (s : StatesView) (tokens : List Token) (e : Extent) (form : Form) where
  abbrev of_all : List WitnessText → List ℕ
  of_all ws = evidence front otherwise s tokens e form ws

  with_first : (w : WitnessText) (ws : List WitnessText) → of_all (w ∷ ws) ≡ block_or front s tokens e form w.witness (of_all ws) (path_of w.witness)
  unfolding evidence
  with_first w ws = refl

  none : of_all [] ≡ otherwise
  unfolding evidence
  none = refl

  at_next : (ws : List WitnessText) (i : ℕ) (w : WitnessText) → i < length ws → w ≡ get_or ws i w → of_all (drop i ws) ≡ block_or front s tokens e form w.witness (of_all (drop (i + 1) ws)) (path_of w.witness)
  at_next ws i w lt is = ap of_all (drop_more ws i w lt ∙ ap (λ x. x ∷ drop (i + 1) ws) (sym is)) ∙ with_first w (drop (i + 1) ws)

  -- it is the next one
  pub shown_here : (ws : List WitnessText) (i : ℕ) (w : WitnessText) (path : Path) → i < length ws → w ≡ get_or ws i w → of_all (drop i ws) ≡ of_all ws → path_of w.witness ≡ Some path → of_all ws ≡ block front s tokens e form w.witness path
  shown_here ws i w path lt is before some = sym before ∙ at_next ws i w lt is ∙ ap (block_or front s tokens e form w.witness (of_all (drop (i + 1) ws))) some

  -- it stands behind the next one
  pub passed_over : (ws : List WitnessText) (i : ℕ) (w : WitnessText) → i < length ws → w ≡ get_or ws i w → of_all (drop i ws) ≡ of_all ws → path_of w.witness ≡ None → of_all (drop (i + 1) ws) ≡ of_all ws
  passed_over ws i w lt is before lacks = sym (at_next ws i w lt is ∙ ap (block_or front s tokens e form w.witness (of_all (drop (i + 1) ws))) lacks) ∙ before

  -- there is none
  pub no_more : (ws : List WitnessText) (i : ℕ) → length ws ≤ i → of_all (drop i ws) ≡ of_all ws → of_all ws ≡ otherwise
  no_more ws i past before = sym before ∙ ap of_all (drop_all i ws past) ∙ none
