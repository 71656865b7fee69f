-- Documents worked by hand.
use Rattle.std.proofs.Common.{◌≡◌, ℕ, pos, Bool, true, false, List, [], ◌∷◌, Some, codes, refl}
use Rattle.std.specs.Fmt.{digits}
use Rattle.question_meaning.specs.declared.form.Form.TheVariants.{Never}
use Rattle.event_log.specs.States.{StatesView}
use Rattle.rctl_grammar.specs.declared.tree.Compare.TheVariants.{Eq}
use Rattle.rctl_grammar.specs.declared.tree.Place.{Place}
use Rattle.rctl_class.specs.declared.named.NamedSide.TheVariants.{Number}
use Rattle.rctl_class.specs.NamedParts.{comparison, NamedPiece, local}
use Rattle.question_outcome.specs.declared.outcome.PartPlace.{PartPlace}
use Rattle.ask_text.specs.Indented.{indented_from}
use Rattle.ask_text.specs.Documents.{EntryView, document, one}
use Rattle.ask_text.specs.Text.{evidence}

abbrev placed : List ℕ → Place
placed name = record { name = name; at = 0 }

-- `NAME.x = k`
abbrev x_is : List ℕ → ℕ → NamedPiece
x_is process k = local (Some (placed process)) (comparison (placed (codes "x")) Eq (Number (pos k)))

-- a question of two disjuncts that nothing is shown against
abbrev bare : List ℕ → Bool → List PartPlace → EntryView
bare text holds places = one (record {
  text = text;
  formula = 6;
  form = Never;
  disjuncts = (x_is (codes "p") 1 ∷ x_is (codes "q") 7 ∷ []) ∷ (x_is (codes "q") 8 ∷ []) ∷ [];
  outcome = record { holds = holds; witnesses = []; nowhere = places };
})

abbrev second_and_third : List PartPlace
second_and_third = record { disjunct = 1; part = 2 } ∷ record { disjunct = 2; part = 1 } ∷ []

no_question : (s : StatesView) → document s 5 [] ≡ codes "TAP version 14\n1..0\n"
unfolding digits
no_question s = refl

parts_nowhere : (s : StatesView) → document s 5 (bare (codes "never p.x = 1 & q.x = 7 | q.x = 8") true second_and_third ∷ [])
    ≡ codes "TAP version 14\n1..1\nok 1 - never p.x = 1 & q.x = 7 | q.x = 8\n  # q.x = 7 holds at no state of this log\n  # q.x = 8 holds at no state of this log\n"
unfolding digits evidence indented_from
parts_nowhere s = refl

one_fails : (s : StatesView) → document s 5 (bare (codes "never p.x = 1") true [] ∷ bare (codes "lock: can p.x = 1") false [] ∷ [])
    ≡ codes "TAP version 14\n1..2\nok 1 - never p.x = 1\nnot ok 2 - lock: can p.x = 1\n"
unfolding digits evidence indented_from
one_fails s = refl
