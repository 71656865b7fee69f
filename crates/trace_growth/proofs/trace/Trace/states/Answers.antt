use Rattle.trace_growth.proofs.Taken.{kept_trace}
use Rattle.trace_growth.proofs.trace.Trace.states.Goals as goal

pub returns-clause-trace : goal.returns-clause-trace
returns-clause-trace c = kept_trace c.self.inside.states c.self.inside.clocks c.self.inside.spent c.self.inside.batches c.args.self.now c.self.invariant c.self.view_is c.requires
