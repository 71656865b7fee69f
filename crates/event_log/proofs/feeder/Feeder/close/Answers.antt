use Rattle.std.proofs.Common.{refl}
use Rattle.event_log.proofs.FeedSteps.{close_faults_is, close_takes_is}
use Rattle.event_log.proofs.feeder.Feeder.close.Goals as goal

pub returns-in-Some-clause-closes : goal.returns-in-Some-clause-closes
returns-in-Some-clause-closes c = close_faults_is c.args.self.now c.args.self.now c.args.line.now c.args.items.now c.in-Some.code c.placed.result c.in-Some.ensures.known c.placed.ensures

pub returns-clause-closes : goal.returns-clause-closes
returns-clause-closes c = close_takes_is c.args.self.now _ c.args.line.now c.args.items.now c.take.new.items c.in_ok-fault.fault c.line_count-number.result c.fault_at.result c.in_default.ensures.known c.in_ok-fault.ensures.takes refl c.line_count-number.ensures c.fault_at.ensures
