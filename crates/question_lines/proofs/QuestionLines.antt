-- A question that was read has no line feed.
use Rattle.std.proofs.Common.{ℕ, List, drop}
use Rattle.question_text.specs.declared.head.Head.{Head}
use Rattle.rctl_grammar.specs.declared.tree.Tree.{Tree}
use Rattle.question_forms.specs.Questions.{IsQuestion}
use Rattle.question_forms.specs.declared.question.Question.{Question}
use Rattle.question_lines.specs.Lines.{IsOneLine}
use Rattle.question_lines.proofs.Runs.{split}
use Rattle.question_lines.proofs.FormulaLines.{lexed-free}
use Rattle.question_lines.proofs.HeadLines.{head-free}

pub question-free : (text : List ℕ) (head : Head) (t : Tree) (q : Question) → IsQuestion text head t q → IsOneLine text
question-free text head t q is =
    let of = is.asking.formula.read in
    split head.formula text (head-free text head is.asking.of_text) (lexed-free 0 0 (drop head.formula text) of.len of.ends tt)
