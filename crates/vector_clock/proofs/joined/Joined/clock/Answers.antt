use Rattle.std.proofs.Common.{◌∙◌, length, get_or, arith, ap, sym}
use Rattle.std.specs.Prelude.{List, ℕ}
use Rattle.causal_order.proofs.Growing.{length-lengths, count-lengths}
use Rattle.vector_clock.proofs.Joining.{joined_count, joined_len, first_clock, later_clock}
use Rattle.vector_clock.proofs.joined.Joined.clock.Goals as goal

pub len_of-admitted-requires : goal.len_of-admitted-requires
len_of-admitted-requires c = omega (arith, c.requires.process, ap length c.shape.ensures.lens, length-lengths c.self.inside.admitted.now, joined_count _ _ _ c.self.view_is)

pub clock-requires-else-position-admitted-clause-process : goal.clock-requires-else-position-admitted-clause-process
clock-requires-else-position-admitted-clause-process c = omega (arith, c.requires.process, c.self.invariant.count, joined_count _ _ _ c.self.view_is)

pub clock-requires-else-position-admitted-clause-last : goal.clock-requires-else-position-admitted-clause-last
clock-requires-else-position-admitted-clause-last c =
    let len = c.len_of-admitted.ensures.len ∙ ap (λ (lens : List ℕ). get_or lens c.args.process 0) c.shape.ensures.lens ∙ count-lengths c.self.inside.admitted.now c.args.process in
    omega (arith, len, c.requires.last, joined_len c.self.inside.admitted.now c.self.inside.added _ c.args.process c.self.view_is c.self.invariant.count)

pub returns-then-position-admitted-clause-clock : goal.returns-then-position-admitted-clause-clock
returns-then-position-admitted-clause-clock c =
    let len = c.len_of-admitted.ensures.len ∙ ap (λ (lens : List ℕ). get_or lens c.args.process 0) c.shape.ensures.lens ∙ count-lengths c.self.inside.admitted.now c.args.process in
    c.clock.ensures.clock ∙ first_clock _ c.self.inside.added _ c.args.process c.args.position c.self.view_is c.self.invariant.count c.requires.first (omega (arith, len, c.if-position-admitted.true))

pub returns-then-position-admitted-clause-width : goal.returns-then-position-admitted-clause-width
returns-then-position-admitted-clause-width c = c.clock.ensures.width ∙ sym (joined_count _ _ _ c.self.view_is)

pub returns-else-position-admitted-clause-clock : goal.returns-else-position-admitted-clause-clock
returns-else-position-admitted-clause-clock c =
    let len = c.len_of-admitted.ensures.len ∙ ap (λ (lens : List ℕ). get_or lens c.args.process 0) c.shape.ensures.lens ∙ count-lengths c.self.inside.admitted.now c.args.process in
    c.clock-else-position-admitted.ensures.clock ∙ later_clock c.self.inside.admitted.now _ _ c.args.process c.args.position c.len_of-admitted.result c.self.view_is c.self.invariant.count len c.if-position-admitted.false

pub returns-else-position-admitted-clause-width : goal.returns-else-position-admitted-clause-width
returns-else-position-admitted-clause-width c = c.clock-else-position-admitted.ensures.width ∙ c.self.invariant.count ∙ sym (joined_count _ _ _ c.self.view_is)
