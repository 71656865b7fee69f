use Rattle.std.proofs.Common.{[]}
use Rattle.certificate_text.proofs.OneAnswer.{one_truth, one_refusal, apart}
use Rattle.certificate_text.proofs.bytes.bytes_have_one_answer.Goals as goal

pub returns-clause-truth : goal.returns-clause-truth
returns-clause-truth g c = λ one v bytes told truth h k. one_truth g.N.Said.follows one bytes v [] told truth h k

pub returns-clause-line : goal.returns-clause-line
returns-clause-line g c = λ one v bytes n m h k. one_refusal g.N.Said.follows one bytes v [] n m h k

pub returns-clause-apart : goal.returns-clause-apart
returns-clause-apart g c = λ one v bytes told n h k. apart g.N.Said.follows one bytes v [] told n h k
