use Rattle.std.proofs.Common.{ap, sym, ◌∙◌}
use Rattle.trace_growth.specs.Growing.{TraceView}
use Rattle.std.specs.Prelude.{List}
use Rattle.event_log.specs.declared.log.Event.{Event}
use Rattle.event_log.specs.States.{StatesView, with_batch}
use Rattle.event_log.proofs.Histories.{when_ok}
use Rattle.vector_clock.proofs.Admitting.{filled_may_be_admitted}
use Rattle.trace_growth.proofs.Taken.{taken_more, fits_inside}
use Rattle.trace_growth.proofs.Batches.{may_be_filled, may_follow, with_nothing}
use Rattle.trace_growth.proofs.trace.Trace.extend.Goals as goal

pub filled-requires : goal.filled-requires
filled-requires c =
    may_be_filled c.self.inside.states c.self.inside.clocks c.args.self.now c.args.batch ((c.self.invariant c.if-self.false).admitted) (ap (λ (t : TraceView). t.states) c.self.view_is)
    (c.requires (sym (ap (λ (t : TraceView). t.spent) c.self.view_is) ∙ c.if-self.false))

pub returns-then-is_empty-clause-ok : goal.returns-then-is_empty-clause-ok
returns-then-is_empty-clause-ok c =
    with_nothing c.args.self.now c.count_batch.new.self c.args.batch (sym (ap (λ (t : TraceView). t.spent) c.self.view_is) ∙ c.if-self.false) (c.is_empty.ensures.0 c.if-is_empty.true)
    c.count_batch.ensures

pub admit-requires : goal.admit-requires
admit-requires c =
    let admitted = (c.self.invariant c.if-self.false).admitted in
    let stands = may_be_filled c.self.inside.states c.self.inside.clocks c.args.self.now c.args.batch admitted (ap (λ (t : TraceView). t.states) c.self.view_is)
    (c.requires (sym (ap (λ (t : TraceView). t.spent) c.self.view_is) ∙ c.if-self.false)) in
    filled_may_be_admitted c.self.inside.clocks c.self.inside.states.events c.args.batch c.as_slice.result.now admitted stands (c.as_slice.ensures ∙ c.in-Ok.ensures c.self.inside.states.events admitted)

pub extend-requires : goal.extend-requires
extend-requires c =
    may_follow c.self.inside.states c.args.self.now c.args.batch c.in-Ok.batch (ap (λ (t : TraceView). t.states) c.self.view_is)
    (c.requires (sym (ap (λ (t : TraceView). t.spent) c.self.view_is) ∙ c.if-self.false)) (c.in-Ok.ensures c.self.inside.states.events (c.self.invariant c.if-self.false).admitted)

pub invariant_of-self-else-is_err : goal.invariant_of-self-else-is_err
invariant_of-self-else-is_err c = λ live.
    let added = when_ok c.extend.result _ c.extend.ensures.ok (sym c.is_err.ensures.value ∙ c.if-is_err.false) in
    let taken = c.self.invariant live in
    let same = c.as_slice.ensures in
    let fits = fits_inside c.self.inside.states c.args.self.now c.args.batch c.as_slice.result.now (ap (λ (t : TraceView). t.states) c.self.view_is)
    (c.requires (sym (ap (λ (t : TraceView). t.spent) c.self.view_is) ∙ c.if-self.false)) (same ∙ c.in-Ok.ensures c.self.inside.states.events taken.admitted) in
    taken_more c.self.inside.states c.extend.new.self c.self.inside.clocks c.admit.new.self c.as_slice.result.now taken fits
    (added ∙ ap (λ (b : List Event). let s : StatesView = record { header = c.self.inside.states.header; events = with_batch c.self.inside.states.events b } in s) (sym same))
    (c.in-Ok-admit.ensures.ok c.self.inside.states.events taken.admitted)
