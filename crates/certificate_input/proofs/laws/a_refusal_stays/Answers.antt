use Rattle.std.proofs.Common.{[]}
use Rattle.certificate_input.proofs.PieceLaws.{within_at, reach_apart}
use Rattle.certificate_input.proofs.laws.a_refusal_stays.Goals as goal

pub returns-clause-stays : goal.returns-clause-stays
returns-clause-stays g c = λ v bytes more n h. within_at g.N.Said.follows bytes more v [] n h

pub returns-clause-none : goal.returns-clause-none
returns-clause-none g c = λ one v bytes n h k. reach_apart g.N.Said.follows one bytes v [] h.0 h.1 n h.2 k
