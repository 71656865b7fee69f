-- Words to write the worked outcomes, on the five events of P and Q.
use Rattle.std.specs.Prelude.{ℕ, true, List, [], ◌∷◌, Some, pos}
use Rattle.run_model.specs.Worked.{p, q, x, y, five_events, run_with_watch}
use Rattle.question_meaning.specs.declared.form.Form.{Form}
use Rattle.rctl_grammar.specs.declared.tree.Compare.TheVariants as compare
use Rattle.rctl_parts.specs.declared.expr.LocalSide.TheVariants as side
use Rattle.rctl_parts.specs.Exprs.{comparison}
use Rattle.rctl_parts.specs.Pieces.{Piece, atom, local}
use Rattle.rctl_parts.specs.Spelled.{Names}
use Rattle.question_outcome.specs.declared.outcome.Outcome.{Outcome}
use Rattle.question_outcome.specs.declared.outcome.PartPlace.{PartPlace}
use Rattle.question_outcome.specs.Outcomes.{IsOutcome}

-- P has x and Q has y
abbrev pub two_names : Names
two_names =
    record { processes = p ∷ q ∷ []; variables = (x ∷ []) ∷ (y ∷ []) ∷ []; watches = [] }

-- the one variable of the process is k
abbrev pub variable_is : ℕ → ℕ → Piece
variable_is process k = atom (local (Some process) (comparison 0 compare.Eq (side.Number (pos k))))

-- a question that holds, with the places of the parts that hold nowhere
abbrev pub holding : List PartPlace → Outcome
holding places = record { holds = true; witnesses = []; nowhere = places }

abbrev pub place : ℕ → ℕ → PartPlace
place disjunct part = record { disjunct = disjunct; part = part }

-- the question of these parts has the outcome
abbrev pub HasOutcome : Form → List (List Piece) → Outcome → Type 0
HasOutcome form own o = IsOutcome (run_with_watch five_events) two_names form own o
