use Rattle.std.proofs.Common.{length, ap, ◌∙◌}
use Rattle.run_model.specs.Witness.{ForEf, ForAg, ForEg, ExistsNext}
use Rattle.slice_graph.specs.Views.{slice_of}
use Rattle.witness.proofs.CaseSteps.{initial_is, kind_of}
use Rattle.witness.proofs.cases.explain.Goals as goal

pub reach-requires-clause-start : goal.reach-requires-clause-start
reach-requires-clause-start c = initial_is c.args.order.now c.procs.result c.in_ok-start.start (c.procs.ensures.count ∙ ap length c.shape.ensures.lens) c.in_ok-start.ensures

pub against-requires-clause-start : goal.against-requires-clause-start
against-requires-clause-start c = initial_is c.args.order.now c.procs.result c.in_ok-start.start (c.procs.ensures.count ∙ ap length c.shape.ensures.lens) c.in_ok-start.ensures

pub always-requires-clause-start : goal.always-requires-clause-start
always-requires-clause-start c = initial_is c.args.order.now c.procs.result c.in_ok-start.start (c.procs.ensures.count ∙ ap length c.shape.ensures.lens) c.in_ok-start.ensures

pub next-requires-clause-start : goal.next-requires-clause-start
next-requires-clause-start c = initial_is c.args.order.now c.procs.result c.in_ok-start.start (c.procs.ensures.count ∙ ap length c.shape.ensures.lens) c.in_ok-start.ensures

pub returns-in-ForEf-clause-kind : goal.returns-in-ForEf-clause-kind
returns-in-ForEf-clause-kind c = rw c.in-ForEf.is (kind_of c.args.order.now (slice_of c.args.operand.now) ForEf c.reach.result c.shape.ensures.order c.reach.ensures)

pub returns-in-ForAg-clause-kind : goal.returns-in-ForAg-clause-kind
returns-in-ForAg-clause-kind c = rw c.in-ForAg.is (kind_of c.args.order.now (slice_of c.args.operand.now) ForAg c.against.result c.shape.ensures.order c.against.ensures)

pub returns-in-ForEg-clause-kind : goal.returns-in-ForEg-clause-kind
returns-in-ForEg-clause-kind c = rw c.in-ForEg.is (kind_of c.args.order.now (slice_of c.args.operand.now) ForEg c.always.result c.shape.ensures.order c.always.ensures)

pub returns-in-ExistsNext-clause-kind : goal.returns-in-ExistsNext-clause-kind
returns-in-ExistsNext-clause-kind c = rw c.in-ExistsNext.is (kind_of c.args.order.now (slice_of c.args.operand.now) (ExistsNext c.in-ExistsNext.process) c.next.result c.shape.ensures.order c.next.ensures)
