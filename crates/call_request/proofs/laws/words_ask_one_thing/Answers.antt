use Rattle.call_request.proofs.OneQuestion.{question_asks, asks_one, asks_free, faults_one}
use Rattle.call_request.proofs.laws.words_ask_one_thing.Goals as goal

pub returns-clause-question : goal.returns-clause-question
returns-clause-question c = question_asks

pub returns-clause-one : goal.returns-clause-one
returns-clause-one c = asks_one

pub returns-clause-free : goal.returns-clause-free
returns-clause-free c = asks_free

pub returns-clause-fault : goal.returns-clause-fault
returns-clause-fault c = faults_one
