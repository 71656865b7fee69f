use Rattle.std.proofs.Common.{subst}
use Rattle.run_model.specs.Cut.{Clocks, lengths}
use Rattle.certificate_nodes.specs.Plans.{IsPlan}
use Rattle.certificate.proofs.starting.nodes_for.Goals as goal

pub new-requires-clause-plan : goal.new-requires-clause-plan
new-requires-clause-plan c = subst (λ (o : Clocks). IsPlan (lengths o) c.in_ok-plan.plan) c.order-order.ensures.trace.clocks c.in_ok-plan.ensures.fits
