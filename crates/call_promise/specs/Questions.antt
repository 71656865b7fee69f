-- What is told of words that ask nothing.
use Rattle.call_request.specs.declared.question.QuestionFault.{QuestionFault}
use Rattle.call_request.specs.declared.question.QuestionFault.TheVariants as question
use Rattle.fault_line.specs.declared.fault.Fault.{Fault}
use Rattle.fault_line.specs.declared.fault.Fault.TheVariants as fault

-- what is wrong with the words or their formula
abbrev pub fault_of_question : QuestionFault → Fault
fault_of_question question.Usage = fault.Usage
fault_of_question (question.Formula f) = fault.Formula f
