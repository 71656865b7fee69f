-- Inside: the answer to what a certificate is told to be.
use Rattle.certificate_input.specs.declared.told.Told.{Told}
use Rattle.certificate_input.specs.declared.told.Told.TheVariants as tells
use Rattle.fault_line.specs.declared.fault.Fault.TheVariants as fault
use Rattle.verify_answers.specs.declared.answer.Answer.{Answer}
use Rattle.verify_answers.specs.declared.answer.Answer.TheVariants.{Accepted, Refused, Faulty}

-- what is answered where this is told of a certificate
abbrev pub answer_of : Told → Answer
answer_of (tells.Accepted truth) = Accepted truth
answer_of (tells.Refused n) = Refused n
answer_of tells.Failed = Faulty fault.Read
