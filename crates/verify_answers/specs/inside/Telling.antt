-- Inside: which answers have no line.
use Rattle.verify_answers.specs.declared.answer.Answer.{Answer}
use Rattle.verify_answers.specs.declared.answer.Answer.TheVariants.{Accepted, Refused, Faulty}

-- nothing is written of the answer
abbrev pub HasNoLine : Answer → Type 0
HasNoLine (Accepted told) = ⊥
HasNoLine (Refused n) = ⊥
HasNoLine (Faulty f) = Unit {0}
