use Rattle.event_log.proofs.NotedLines as noted
use Rattle.event_log.proofs.laws.lines_are_noted.Goals as goal

pub returns : goal.returns
returns c = noted.lines_are_noted
