use Rattle.std.proofs.Common.{ap, ◌∙◌}
use Rattle.event_log.specs.inside.States.{fresh}
use Rattle.event_log.proofs.Keeping.{starts_fresh, same_states}
use Rattle.event_log.proofs.states.States.new.Goals as goal

pub lens_of-requires : goal.lens_of-requires
lens_of-requires c =
    let start = starts_fresh c.args.header c.in_ok-histories.histories c.requires (c.in_ok-histories.ensures ∙ ap fresh c.as_slice.ensures) in
    start.few

pub new-requires-2 : goal.new-requires-2
new-requires-2 c =
    let start = starts_fresh c.args.header c.in_ok-histories.histories c.requires (c.in_ok-histories.ensures ∙ ap fresh c.as_slice.ensures) in
    start.shape c.deref.result.now (c.deref.ensures.value ∙ c.in_ok-lens.ensures)

pub invariant_of-result : goal.invariant_of-result
invariant_of-result c =
    let start = starts_fresh c.args.header c.in_ok-histories.histories c.requires (c.in_ok-histories.ensures ∙ ap fresh c.as_slice.ensures) in
    start.states c.in_ok-shape.shape (c.in_ok-shape.ensures ∙ c.deref.ensures.value ∙ c.in_ok-lens.ensures)

pub returns : goal.returns
returns c =
    let start = starts_fresh c.args.header c.in_ok-histories.histories c.requires (c.in_ok-histories.ensures ∙ ap fresh c.as_slice.ensures) in
    same_states _ _ _ start.events
