-- Where a question over processes holds: for each of the processes that it is asked for.
use Rattle.std.specs.Prelude.{ℕ, List}
use Rattle.run_model.specs.Run.{Run}
use Rattle.run_model.specs.Formula.{Formula}
use Rattle.question_meaning.specs.Question.{Question, Holds, Never, Can, Always, Surely, AtEnd}
use Rattle.question_meaning.specs.Question.{Plain}
use Rattle.rctl_grammar.specs.declared.tree.Tree.{Tree}
use Rattle.rctl_grammar.specs.Shape.{meaning}
use Rattle.question_text.specs.declared.front.Asking.{Asking}
use Rattle.question_text.specs.declared.front.Asking.TheVariants as asking
use Rattle.question_text.specs.declared.head.Head.{Head}
use Rattle.question_forms.specs.Questions.{IsAsking}
use Rattle.question_forms.specs.declared.question.Question.{Question as Read}
use Rattle.asked_instances.specs.Instances.{IsKnownAs, Source, text_for}
use Rattle.asked_instances.specs.declared.asking.Pair.{Pair}

-- what these words ask of a formula
abbrev pub question_by : Asking → Formula → Question
question_by asking.Never f = Never f
question_by asking.Can f = Can f
question_by asking.Always f = Always f
question_by asking.Surely f = Surely f
question_by asking.AtEnd f = AtEnd f
question_by asking.Plain f = Plain f

-- what the text asks holds of the run
abbrev pub HoldsAs : Run → (text : List ℕ) → Type 0
HoldsAs r text =
    (head : Head) (t : Tree) → IsAsking text head t → Holds r (question_by head.asking (meaning t))

-- if the log has each name of the question for these processes, that question holds of the run
abbrev pub HoldsWhereKnown : Run → Source → Pair → Type 0
HoldsWhereKnown r s pair =
    (q : Read) → IsKnownAs s.header s.watches (text_for s pair) q → HoldsAs r (text_for s pair)
