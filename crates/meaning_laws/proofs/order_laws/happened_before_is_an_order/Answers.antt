use Rattle.run_model.proofs.Orders.{earlier_happened_before, happened_before_asymmetric, happened_before_transitive}
use Rattle.std.proofs.Common.{refl}
use Rattle.meaning_laws.proofs.order_laws.happened_before_is_an_order.Goals as goal

pub returns-clause-transitive : goal.returns-clause-transitive
returns-clause-transitive c = happened_before_transitive

pub returns-clause-irreflexive : goal.returns-clause-irreflexive
returns-clause-irreflexive c = λ o i a h. h.differs (refl, refl)

pub returns-clause-asymmetric : goal.returns-clause-asymmetric
returns-clause-asymmetric c = happened_before_asymmetric

pub returns-clause-along_a_process : goal.returns-clause-along_a_process
returns-clause-along_a_process c = earlier_happened_before
