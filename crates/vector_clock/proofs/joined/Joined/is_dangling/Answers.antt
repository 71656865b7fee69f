use Rattle.std.proofs.Common.{◌∙◌, length, ap, arith}
use Rattle.run_model.specs.Cut.{Cut, lengths}
use Rattle.causal_order.proofs.Growing.{length-lengths}
use Rattle.vector_clock.specs.Events.{is_beyond}
use Rattle.vector_clock.proofs.joined.Joined.is_dangling.Goals as goal

pub is_beyond-requires : goal.is_beyond-requires
is_beyond-requires c = omega (arith, ap length (c.self.invariant.lens_are ∙ ap lengths c.self.view_is), length-lengths c.args.self.now, ap length c.as_slice.ensures, c.requires)

pub returns : goal.returns
returns c = c.is_beyond.ensures ∙ ap (λ (v : Cut). is_beyond v c.self.inside.lens.now) c.as_slice.ensures ∙ ap (is_beyond c.args.event.now.clock) (c.self.invariant.lens_are ∙ ap lengths c.self.view_is)
