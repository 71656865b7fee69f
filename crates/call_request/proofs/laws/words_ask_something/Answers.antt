use Rattle.call_request.proofs.SomeQuestion.{ask_or_fault}
use Rattle.call_request.proofs.laws.words_ask_something.Goals as goal

pub returns : goal.returns
returns c = ask_or_fault
