use Rattle.std.proofs.Common.{refl}
use Rattle.event_log.proofs.NameNumbers.{header_known}
use Rattle.log_trace.proofs.Steps.{opens}
use Rattle.log_trace.proofs.trace.LogTrace.open.Goals as goal

pub new-requires : goal.new-requires
new-requires c = header_known c.args.header c.requires.header

pub returns-in-Ok : goal.returns-in-Ok
returns-in-Ok c = opens c.args.header c.args.self.now _ c.in-Ok.trace c.requires.waiting c.requires.header c.in-Ok.ensures refl refl refl
