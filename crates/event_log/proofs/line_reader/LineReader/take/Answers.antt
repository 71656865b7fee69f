use Rattle.event_log.proofs.LineSteps.{body_takes, ended_takes}
use Rattle.event_log.proofs.line_reader.LineReader.take.Goals as goal

pub returns-in-Body-clause-takes : goal.returns-in-Body-clause-takes
returns-in-Body-clause-takes c = body_takes c.args.self.now c.take_body.new.self c.args.line.now c.args.items.now c.take_body.new.items c.fault_of.result c.take_body.result c.in-Body.is c.fault_of.ensures c.take_body.ensures.takes

pub returns-in-Ended-clause-takes : goal.returns-in-Ended-clause-takes
returns-in-Ended-clause-takes c = ended_takes c.args.self.now c.args.line.now c.args.items.now c.in-Ended.is
