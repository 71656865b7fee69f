use Rattle.std.proofs.Common.{◌<◌, [], length, arith}
use Rattle.std.proofs.lemmas.List.{length-map, get_or-map}
use Rattle.event_log.specs.declared.log.Event.{Event}
use Rattle.event_log.proofs.Keeping.{is_there}
use Rattle.event_log.proofs.states.States.event.Goals as goal

pub event-requires-clause-last : goal.event-requires-clause-last
event-requires-clause-last c =
    let process : c.args.event.process < length c.args.self.now.events = omega (arith, c.requires.process, length-map c.args.self.now.events (length {A = Event})) in
    let there = is_there c.self.inside.header c.self.inside.shape c.self.inside.histories c.args.self.now c.args.event.process c.self.invariant c.self.view_is process in
    omega (arith, c.requires.last, there.events, get_or-map (length {A = Event}) c.args.self.now.events c.args.event.process [] 0 process)
