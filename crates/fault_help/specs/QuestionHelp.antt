-- What was expected where a question has a fault, and an example: a question that is in order
-- there, or what helps.
use Rattle.std.specs.Prelude.{ℕ, List, codes}
use Rattle.question_text.specs.declared.head.HeadCode.{HeadCode}
use Rattle.question_text.specs.declared.head.HeadCode.TheVariants as head
use Rattle.rctl_grammar.specs.declared.fault.FormulaCode.{FormulaCode}
use Rattle.rctl_grammar.specs.declared.fault.FormulaCode.TheVariants as formula

-- ---- its formula

-- what is expected
abbrev pub formula_expected : FormulaCode → List ℕ
formula_expected formula.Token = codes "a symbol, a name or a number without a leading zero"
formula_expected formula.Syntax = codes "a formula; at its end: more of it"
formula_expected formula.Number =
    codes "-9223372036854775808 to 9223372036854775807, and 0 or more messages"
formula_expected formula.TooLong = codes "at most 4,096 bytes"
formula_expected formula.TooDeep = codes "at most 16 nested parentheses, signs and operators"
formula_expected formula.TooManyNodes = codes "at most 64 comparisons, signs and operators"
formula_expected formula.NotRegular =
    codes "variables of one process compared, or a difference; `!` before no operator"
formula_expected formula.DisjunctionInside = codes "`|` between several processes at the top only"
formula_expected (formula.OutsideClass o) = codes "`EF`, `AG`, `EG` or `EX a`"
formula_expected formula.UnknownProcess = codes "a name of the `procs` line"
formula_expected formula.UnknownVariable = codes "a name of the process's `vars` line"
formula_expected formula.UnknownWatch = codes "`stable`, `calm` or `owing`"
formula_expected formula.WatchTwice = codes "each watch on one process"

-- an example
abbrev pub formula_example : FormulaCode → List ℕ
formula_example formula.Token = codes "client.sent = 1"
formula_example formula.Syntax = codes "EF (client.sent = 1 & store.kept = 1)"
formula_example formula.Number = codes "intransit(client,relay) >= 0"
formula_example formula.TooLong = codes "one question for each half of it"
formula_example formula.TooDeep = codes "a.x = 1 & b.x = 1 & c.x = 1"
formula_example formula.TooManyNodes = codes "a.x >= 1 & a.x <= 20"
formula_example formula.NotRegular = codes "never client.sent - store.kept > 0"
formula_example formula.DisjunctionInside = codes "always client.sent = 1 | store.kept = 0"
formula_example (formula.OutsideClass o) = codes "surely client.sent = 1"
formula_example formula.UnknownProcess = codes "EF client.sent = 1"
formula_example formula.UnknownVariable = codes "EF store.kept = 1"
formula_example formula.UnknownWatch = codes "client@calm"
formula_example formula.WatchTwice = codes "client@calm & store@stable"

-- ---- its name, and the words of its form

-- what is wrong
abbrev pub head_text : HeadCode → List ℕ
head_text head.TooLong = codes "Q1 question too long"
head_text head.NoName = codes "Q2 name missing"
head_text head.WordsAsName = codes "Q3 form as a name"
head_text head.NameByte = codes "Q4 bad name"
head_text head.NoEnd = codes "Q5 end missing"

-- what is expected
abbrev pub head_expected : HeadCode → List ℕ
head_expected head.TooLong = codes "at most 8,192 bytes"
head_expected head.NoName = codes "a name before the colon, or no colon"
head_expected head.WordsAsName = codes "another name, or no colon"
head_expected head.NameByte = codes "a name without control bytes, `#` and backslashes"
head_expected head.NoEnd = codes "`end` behind `at`"

-- an example
abbrev pub head_example : HeadCode → List ℕ
head_example head.TooLong = codes "never client.sent = 1"
head_example head.NoName = codes "sent: never client.sent = 1"
head_example head.WordsAsName = codes "never client.sent = 1"
head_example head.NameByte = codes "row 1: never client.sent = 1"
head_example head.NoEnd = codes "at end client.sent = 1"
