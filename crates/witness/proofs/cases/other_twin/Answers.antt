use Rattle.witness.proofs.CaseSteps.{place_event}
use Rattle.witness.proofs.cases.other_twin.Goals as goal

pub first_event-requires : goal.first_event-requires
first_event-requires c = λ e there. (c.requires.operand, place_event c.args.order.now c.args.event c.requires.there, there)

pub unreachable-requires : goal.unreachable-requires
unreachable-requires c = c.in-None.ensures c.requires.twin.0 c.requires.twin.1 c.requires.twin.2
