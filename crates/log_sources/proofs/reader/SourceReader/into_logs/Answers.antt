use Rattle.log_sources.proofs.ReadingOn.{logs_are}
use Rattle.log_sources.proofs.reader.SourceReader.into_logs.Goals as goal

pub returns-clause-logs : goal.returns-clause-logs
returns-clause-logs c = λ s has none. (logs_are c.args.self s has none).0

pub returns-clause-can_merge : goal.returns-clause-can_merge
returns-clause-can_merge c = λ s has none. (logs_are c.args.self s has none).1
