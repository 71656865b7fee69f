-- What is told of a fault of a question besides its place: what is wrong, what was expected, and an
-- example.
use Rattle.std.specs.Prelude.{ℕ, Bool, true, false, ◌&&◌, List, codes, Result, Ok, Err}
use Rattle.std.specs.Prelude.{if◌then◌else◌}
use Rattle.fault_help.specs.OverHelp.{barred_example, barred_expected, barred_text}
use Rattle.fault_help.specs.OverHelp.{over_example, over_expected, over_text}
use Rattle.fault_help.specs.QuestionHelp.{formula_example, formula_expected}
use Rattle.fault_help.specs.QuestionHelp.{head_example, head_expected, head_text}
use Rattle.fault_line.specs.FaultText.{formula_code_text}
use Rattle.over_answers.specs.PassedOn as passed
use Rattle.over_answers.specs.PassedOn.{AskFault, OverStop}
use Rattle.over_questions.specs.declared.barred.BarredKind.{BarredKind}
use Rattle.over_questions.specs.declared.entry.EntryFault.{EntryFault}
use Rattle.over_questions.specs.declared.entry.EntryFault.TheVariants as entry
use Rattle.over_questions.specs.declared.reading.OverQuestionFault.{OverQuestionFault}
use Rattle.over_questions.specs.declared.reading.OverQuestionFault.TheVariants as over
use Rattle.question_forms.specs.declared.question.QuestionFault.{QuestionFault}
use Rattle.question_forms.specs.declared.question.QuestionFault.TheVariants as question
use Rattle.question_instances.specs.declared.over.OverCode.{OverCode}
use Rattle.question_text.specs.declared.front.Asking.{Asking}
use Rattle.question_text.specs.declared.front.Asking.TheVariants as asking
use Rattle.question_text.specs.declared.head.Head.{Head}
use Rattle.question_text.specs.declared.head.HeadCode.{HeadCode}
use Rattle.question_text.specs.declared.head.HeadFault.{HeadFault}
use Rattle.question_text.specs.Heads.{head_of}
use Rattle.rctl_grammar.specs.declared.fault.FormulaCode.{FormulaCode}
use Rattle.rctl_grammar.specs.declared.fault.FormulaCode.TheVariants as formula
use Rattle.ask_faults.specs.declared.help.Help.{Help}

pub record HelpText : Type 0 where
  pub wrong : List ℕ
  pub expected : List ℕ
  pub example : List ℕ

abbrev pub text_of : Help → HelpText
text_of h = record { wrong = h.wrong.now; expected = h.expected.now; example = h.example.now }

-- ---- by codes

abbrev pub head_help : HeadCode → HelpText
head_help c = record { wrong = head_text c; expected = head_expected c; example = head_example c }

abbrev pub over_help : OverCode → HelpText
over_help c = record { wrong = over_text c; expected = over_expected c; example = over_example c }

abbrev pub barred_help : BarredKind → HelpText
barred_help k =
    record { wrong = barred_text k; expected = barred_expected k; example = barred_example k }

-- the formula has several processes where one is wanted
abbrev pub is_wide : FormulaCode → Bool
is_wide formula.Token = false
is_wide formula.Syntax = false
is_wide formula.Number = false
is_wide formula.TooLong = false
is_wide formula.TooDeep = false
is_wide formula.TooManyNodes = false
is_wide formula.NotRegular = true
is_wide formula.DisjunctionInside = true
is_wide (formula.OutsideClass o) = false
is_wide formula.UnknownProcess = false
is_wide formula.UnknownVariable = false
is_wide formula.UnknownWatch = false
is_wide formula.WatchTwice = false

abbrev pub surely_help : FormulaCode → HelpText
surely_help c = record {
  wrong = formula_code_text c;
  expected = codes "variables of one process behind `surely`";
  example = codes "surely client.sent = 1";
}

abbrev pub plain_help : FormulaCode → HelpText
plain_help c = record {
  wrong = formula_code_text c;
  expected = formula_expected c;
  example = formula_example c;
}

-- of a formula, behind the word `surely` or not
abbrev pub formula_help : (surely : Bool) → FormulaCode → HelpText
formula_help surely c = if surely && is_wide c then surely_help c else plain_help c

-- more alternatives or parts than may be asked together
abbrev pub many_help : HelpText
many_help = record {
  wrong = codes "Q6 too many parts";
  expected = codes "at most 64 alternatives and 128 parts in all questions together";
  example = codes "some of the questions in another call";
}

-- no processes have the names that a question uses of them
abbrev pub none_help : HelpText
none_help = record {
  wrong = codes "Q12 no such processes";
  expected = codes "variables that some of the processes have";
  example = codes "for p q: never p.cs = 1 & q.cs = 1";
}

-- ---- of a question that can't be read

abbrev pub question_help : (surely : Bool) → QuestionFault → HelpText
question_help surely (question.Head f) = head_help f.code
question_help surely (question.Formula from f) = formula_help surely f.code

abbrev pub over_question_help : OverQuestionFault → HelpText
over_question_help (over.Question f) = question_help false f
over_question_help (over.Barred from b) = barred_help b.kind

-- the words of the question's form are `surely`
abbrev pub are_surely : Asking → Bool
are_surely asking.Never = false
are_surely asking.Can = false
are_surely asking.Always = false
are_surely asking.Surely = true
are_surely asking.AtEnd = false
are_surely asking.Plain = false

abbrev pub is_surely_in : Result Head HeadFault → Bool
is_surely_in (Ok head) = are_surely head.asking
is_surely_in (Err f) = false

abbrev pub is_surely : List ℕ → Bool
is_surely text = is_surely_in (head_of text)

abbrev pub entry_help : (text : List ℕ) → EntryFault → HelpText
entry_help text (entry.One f) = question_help (is_surely text) f
entry_help text (entry.For f) = over_help f.code
entry_help text (entry.Over names f) = over_question_help f

-- ---- of a question over processes that has no answer

abbrev pub ask_help : AskFault → HelpText
ask_help (passed.Barred from b) = barred_help b.kind
ask_help passed.TooMany = many_help

abbrev pub stop_help : OverStop → HelpText
stop_help (passed.Text f) = question_help false f
stop_help (passed.Instance f) = ask_help f.why
stop_help passed.NoInstance = none_help
