use Rattle.std.proofs.Common.{◌≤◌, length, arith}
use Rattle.run_model.specs.Consistent.{IsConsistent}
use Rattle.run_model.proofs.Orders.{initial_consistent}
use Rattle.run_model.proofs.Counts.{initial_within}
use Rattle.witness.proofs.Leads.{below_leads}
use Rattle.witness.proofs.CaseSteps.{initial_few, consistent_few, consistent_small}
use Rattle.witness.proofs.cases.path_to.Goals as goal

pub overflow_cast-counts : goal.overflow_cast-counts
overflow_cast-counts c = omega (arith, consistent_few c.args.order.now c.args.counts.now c.requires.run c.requires.consistent)

pub set_words-requires-clause-few : goal.set_words-requires-clause-few
set_words-requires-clause-few c = consistent_few c.args.order.now c.args.counts.now c.requires.run c.requires.consistent

pub walk-requires-clause-start : goal.walk-requires-clause-start
walk-requires-clause-start c = rw c.requires.start (initial_consistent c.args.order.now, initial_within c.args.order.now c.set_words.new.into)

pub walk-requires-clause-few : goal.walk-requires-clause-few
walk-requires-clause-few c = initial_few c.args.order.now c.args.start c.requires.run c.requires.start

pub walk-requires-clause-leads : goal.walk-requires-clause-leads
walk-requires-clause-leads c =
    let consistent : IsConsistent c.args.order.now c.set_words.new.into = rw c.set_words.ensures c.requires.consistent in
    below_leads c.args.order.now c.requires.run.order c.set_words.new.into consistent

pub walk-requires-clause-small : goal.walk-requires-clause-small
walk-requires-clause-small c = rw c.set_words.ensures (consistent_small c.args.order.now c.args.counts.now c.requires.run c.requires.consistent)

pub returns-clause-steps : goal.returns-clause-steps
returns-clause-steps c = rw c.requires.start at c.in_ok-steps.ensures
