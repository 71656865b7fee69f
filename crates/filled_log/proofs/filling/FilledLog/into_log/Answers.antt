use Rattle.filled_log.proofs.Ends.{is_there, taken_out}
use Rattle.filled_log.proofs.filling.FilledLog.into_log.Goals as goal

pub unreachable-requires : goal.unreachable-requires
unreachable-requires c = is_there c.args.self c.requires.0 c.requires.1 c.in-None.is

pub returns : goal.returns
returns c log has = taken_out c.args.self log has c.in-Some.begun c.in-Some.is
