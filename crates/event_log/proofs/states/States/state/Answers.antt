use Rattle.std.proofs.Common.{◌∙◌, ap, arith, length, get_or}
use Rattle.std.specs.Prelude.{ℤ, map}
use Rattle.std.proofs.lemmas.List.{length-map}
use Rattle.event_log.specs.States.{event_of}
use Rattle.event_log.specs.inside.States.{nothing}
use Rattle.event_log.proofs.Histories.{length-state}
use Rattle.event_log.proofs.Keeping.{is_there, state_is}
use Rattle.event_log.proofs.states.States.state.Goals as goal

pub returns-clause-state : goal.returns-clause-state
returns-clause-state c =
    let there = is_there c.self.inside.header c.self.inside.shape c.self.inside.histories c.args.self.now c.args.process c.self.invariant c.self.view_is c.requires.process in
    c.state.ensures ∙ state_is c.self.inside.header c.self.inside.shape c.self.inside.histories c.args.self.now c.args.process c.args.position c.self.invariant c.self.view_is there

pub returns-clause-width : goal.returns-clause-width
returns-clause-width c =
    let there = is_there c.self.inside.header c.self.inside.shape c.self.inside.histories c.args.self.now c.args.process c.self.invariant c.self.view_is c.requires.process in
    let history = get_or c.self.inside.histories c.args.process nothing in
    ap (length {A = ℤ}) c.state.ensures
    ∙ length-state history.opening (map event_of history.events) c.args.position (omega (arith, c.requires.state, there.events, length-map history.events event_of)) ∙ there.width
