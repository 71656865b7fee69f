use Rattle.event_log.proofs.FeedSteps.{room_none}
use Rattle.event_log.proofs.feeder.Feeder.next_fault.Goals as goal

pub returns-clause-room : goal.returns-clause-room
returns-clause-room c = λ none. room_none c.args.self.now.total c.is_ended.result c.args.width c.args.byte c.byte_fault.result c.byte_fault.ensures none
