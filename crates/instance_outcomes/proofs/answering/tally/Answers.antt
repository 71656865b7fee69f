use Rattle.std.proofs.Common.{arith}
use Rattle.instance_outcomes.proofs.Counts.{few_fail, few_nowhere}
use Rattle.instance_outcomes.proofs.Tallying.{asked_of_them, few_before, joined, next_of, stops_first, tally_more}
use Rattle.instance_outcomes.proofs.answering.tally.Goals as goal

pub with-tally-requires-clause-few : goal.with-tally-requires-clause-few
with-tally-requires-clause-few g c =
    let among = next_of c.args.instances c.instances.yielded c.instances.instance-iterator.rest.items c.in-Some.instance c.next.new.self.rest.items c.instances.invariant.all c.in-Some.ensures.steps.0 in
    let many = asked_of_them c.args.seen.now c.instances.yielded c.instances.tally c.instances.invariant.tally in
    let few = few_before c.args.instances c.instances.yielded c.in-Some.instance c.next.new.self.rest.items among c.requires.few in
    omega (arith, many, few)

pub with-tally-requires-clause-fails : goal.with-tally-requires-clause-fails
with-tally-requires-clause-fails g c = few_fail c.instances.invariant.tally.answers c.instances.tally c.instances.invariant.tally.counted

pub with-tally-requires-clause-nowhere : goal.with-tally-requires-clause-nowhere
with-tally-requires-clause-nowhere g c = few_nowhere c.instances.invariant.tally.answers c.instances.tally c.instances.invariant.tally.counted

pub instances-preserved : goal.instances-preserved
instances-preserved g c =
    let among = next_of c.args.instances c.instances.yielded c.instances.instance-iterator.rest.items c.in-Some.instance c.next.new.self.rest.items c.instances.invariant.all c.in-Some.ensures.steps.0 in
    record {
      tally = tally_more c.args.seen.now c.instances.yielded c.in-Some.instance c.in-Ok.answered c.instances.tally c.with-tally.result c.instances.invariant.tally c.in-Ok.ensures.answered c.with-tally.ensures;
      all = joined c.args.instances c.instances.yielded c.in-Some.instance c.next.new.self.rest.items among;
      system = c.in-Ok.ensures.system;
    }

pub returns-in-Err-clause-fault : goal.returns-in-Err-clause-fault
returns-in-Err-clause-fault g c =
    let among = next_of c.args.instances c.instances.yielded c.instances.instance-iterator.rest.items c.in-Some.instance c.next.new.self.rest.items c.instances.invariant.all c.in-Some.ensures.steps.0 in
    stops_first c.args.seen.now c.args.instances c.instances.yielded c.in-Some.instance c.next.new.self.rest.items c.instances.tally c.in-Err.stop among c.instances.invariant.tally c.in-Err.ensures.fault
