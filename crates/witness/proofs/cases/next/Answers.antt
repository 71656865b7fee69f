use Rattle.std.proofs.Common.{◌≡◌, ◌∙◌, ℕ, ◌<◌, List, [], ◌∷◌, sym, subst, arith, length, ap}
use Rattle.std.specs.Prelude.{IsTrue}
use Rattle.run_model.specs.Cut.{Cut, count, with_next, initial, lengths}
use Rattle.run_model.specs.Slice.{Cuts}
use Rattle.run_model.specs.Witness as model
use Rattle.run_model.specs.Witness.{HasFirst}
use Rattle.run_model.proofs.Counts.{count-initial, length-initial}
use Rattle.slice_graph.specs.Views.{slice_of, IsCut}
use Rattle.witness.proofs.CaseSteps.{has_not, first_is_event, first_fits, first_step}
use Rattle.witness.proofs.cases.next.Goals as goal

pub returns-then-not-has_event : goal.returns-then-not-has_event
returns-then-not-has_event c =
    let o = c.args.order.now in
    model.IsCanonical.never_next (λ h. has_not _ c.has_event.result c.has_event.ensures c.if-not-has_event.true (h.0, first_is_event o (slice_of c.args.operand.now) c.args.process h))

pub take-event-requires-clause-process : goal.take-event-requires-clause-process
take-event-requires-clause-process c = omega (arith, (c.has_event.ensures.0 c.if-not-has_event.false).0, ap length c.requires.start, length-initial c.args.order.now)

pub take-event-requires-clause-room : goal.take-event-requires-clause-room
take-event-requires-clause-room c = rw c.requires.start (omega (arith, count-initial c.args.order.now c.args.process))

pub has-requires : goal.has-requires
has-requires c =
    let o = c.args.order.now in
    let there = c.has_event.ensures.0 c.if-not-has_event.false in
    let goal_is : c.take-event.new.at ≡ with_next (initial o) c.args.process = c.take-event.ensures.at ∙ ap (λ (d : Cut). with_next d c.args.process) c.requires.start in
    subst (IsCut c.args.operand.now.lens) (sym goal_is) (first_fits o c.args.operand.now c.args.process c.requires.operand there.0 there.1)

pub returns-then-not-has : goal.returns-then-not-has
returns-then-not-has c =
    let o = c.args.order.now in
    let s = slice_of c.args.operand.now in
    let goal_is : c.take-event.new.at ≡ with_next (initial o) c.args.process = c.take-event.ensures.at ∙ ap (λ (d : Cut). with_next d c.args.process) c.requires.start in
    model.IsCanonical.never_next (λ h. has_not (Cuts o s c.take-event.new.at) c.has.result (c.has.ensures.cuts o c.requires.operand.fits) c.if-not-has.true (subst (Cuts o s) (sym goal_is) h.1))

pub returns : goal.returns
returns c =
    let o = c.args.order.now in
    let s = slice_of c.args.operand.now in
    let there = c.has_event.ensures.0 c.if-not-has_event.false in
    let goal_is : c.take-event.new.at ≡ with_next (initial o) c.args.process = c.take-event.ensures.at ∙ ap (λ (d : Cut). with_next d c.args.process) c.requires.start in
    let member : Cuts o s c.take-event.new.at = (c.has.ensures.cuts o c.requires.operand.fits).0 c.if-not-has.false in
    first_step o s c.args.process c.args.start c.take-event.new.at c.take-event.result c.push.new.self there.0 c.requires.start goal_is member c.take-event.ensures.event (grind arith)
