-- Words to write the worked questions.
use Rattle.run_model.specs.Run.{Trace}
use Rattle.run_model.specs.Worked.{run_with_watch}
use Rattle.question_meaning.specs.Question.{Question, Holds}

-- the question holds of the run of a small log
abbrev pub HoldsOf : Trace → Question → Type 0
HoldsOf trace q = Holds (run_with_watch trace) q

-- it does not
abbrev pub FailsOf : Trace → Question → Type 0
FailsOf trace q = Holds (run_with_watch trace) q → ⊥
