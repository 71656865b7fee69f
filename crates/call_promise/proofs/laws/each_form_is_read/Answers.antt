use Rattle.call_promise.proofs.Clauses.{form_is_read}
use Rattle.call_promise.proofs.laws.each_form_is_read.Goals as goal

pub returns : goal.returns
returns c = form_is_read
