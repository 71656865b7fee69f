use Rattle.std.proofs.Common.{◌≡◌, ◌∙◌, arith, get_or}
use Rattle.std.specs.Prelude.{pos}
use Rattle.std.proofs.lemmas.Int.{to_z-of_z}
use Rattle.run_model.specs.Run.{state_after, process_at}
use Rattle.event_log.specs.States.{trace_of}
use Rattle.event_log.proofs.Keeping.{is_there, value_is}
use Rattle.event_log.proofs.states.States.value.Goals as goal

pub value-requires : goal.value-requires
value-requires c =
    let there = is_there c.self.inside.header c.self.inside.shape c.self.inside.histories c.args.self.now c.args.process c.self.invariant c.self.view_is c.requires.process in
    record { process = there.within; state = omega (arith, c.requires.state, there.events); variable = omega (arith, c.requires.variable, there.width) }

pub returns : goal.returns
returns c =
    let there = is_there c.self.inside.header c.self.inside.shape c.self.inside.histories c.args.self.now c.args.process c.self.invariant c.self.view_is c.requires.process in
    let read : c.value.result ≡ get_or (state_after (process_at (trace_of c.args.self.now) c.args.process) c.args.position) c.args.variable (pos 0) =
    c.value.ensures ∙ value_is c.self.inside.header c.self.inside.shape c.self.inside.histories c.args.self.now c.args.process c.args.position c.args.variable
    c.self.invariant c.self.view_is there (omega (arith, c.requires.state, there.events)) in
    grind (arith, to_z-of_z, read)
