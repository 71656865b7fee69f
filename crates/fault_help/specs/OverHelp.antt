-- What is wrong with a question over processes, what was expected, and a question that is in order
-- there.
use Rattle.std.specs.Prelude.{ℕ, List, codes}
use Rattle.over_questions.specs.declared.barred.BarredKind.{BarredKind}
use Rattle.over_questions.specs.declared.barred.BarredKind.TheVariants as barred
use Rattle.question_instances.specs.declared.over.OverCode.{OverCode}
use Rattle.question_instances.specs.declared.over.OverCode.TheVariants as over

-- ---- behind the word `for`

-- what is wrong
abbrev pub over_text : OverCode → List ℕ
over_text over.NoName = codes "Q7 name for a process missing"
over_text over.SameName = codes "Q8 same name twice"
over_text over.NoColon = codes "Q9 colon missing"

-- what is expected
abbrev pub over_expected : OverCode → List ℕ
over_expected over.NoName = codes "a name that begins with a letter or `_`"
over_expected over.SameName = codes "another name for the second process"
over_expected over.NoColon = codes "a colon behind one or two names"

-- an example
abbrev pub over_example : OverCode → List ℕ
over_example over.NoName = codes "for p: never p.cs = 2"
over_example over.SameName = codes "for p q: never p.cs = 1 & q.cs = 1"
over_example over.NoColon = codes "for p q: never p.cs = 1 & q.cs = 1"

-- ---- what such a question may not have

-- what it has
abbrev pub barred_text : BarredKind → List ℕ
barred_text barred.Watch = codes "Q10 watch behind `for`"
barred_text barred.Difference = codes "Q11 difference behind `for`"

-- what is expected
abbrev pub barred_expected : BarredKind → List ℕ
barred_expected barred.Watch =
    codes "comparisons of variables, or a question of its own for each process"
barred_expected barred.Difference =
    codes "no difference of variables, or a question of its own for each pair"

-- an example
abbrev pub barred_example : BarredKind → List ℕ
barred_example barred.Watch = codes "never client@stable & client.sent = 1"
barred_example barred.Difference = codes "never client.sent - store.kept > 1"
