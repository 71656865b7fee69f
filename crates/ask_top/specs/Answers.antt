-- The exit status of an answer, and what is told of it.
use Rattle.std.specs.Prelude.{ℕ, List, []}
use Rattle.ask_faults.specs.Faults.{lines_of, status_of}
use Rattle.ask_top.specs.declared.answer.Answer.{Answer}
use Rattle.ask_top.specs.declared.answer.Answer.TheVariants as answer

-- 0 where each question holds, 1 where some doesn't
abbrev pub answer_status : Answer → ℕ
answer_status answer.Holds = 0
answer_status answer.Fails = 1
answer_status (answer.Without f) = status_of f

-- nothing is told of an answer
abbrev pub told_of : (words : List (List ℕ)) → Answer → List ℕ
told_of words answer.Holds = []
told_of words answer.Fails = []
told_of words (answer.Without f) = lines_of words f
