use Rattle.std.proofs.Common.{rules, sym}
use Rattle.raise_machine.proofs.Raising.{has_start-bottom, has_start-event}
use Rattle.raise_machine.proofs.machine.Machine.has_event.Goals as goal

pub returns-in-None : goal.returns-in-None
returns-in-None c = sym (has_start-bottom c.args.self.now.system.lens c.args.self.now.words c.args.row c.args.other (search rules))

pub returns-in-Some : goal.returns-in-Some
returns-in-Some c =
    let e = has_start-event _ c.args.self.now.words c.args.row c.args.other c.in-Some.event c.in-Some.ensures.there c.in-Some.ensures.row in cc e
