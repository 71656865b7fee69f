use Rattle.std.proofs.Common.{sym, ◌∙◌, subst}
use Rattle.run_model.specs.Witness as model
use Rattle.run_model.specs.Slice.{Cuts}
use Rattle.slice_graph.specs.Views.{slice_of}
use Rattle.witness.proofs.CaseSteps.{initial_fits, has_not, rows_are_pasts, refuted_start}
use Rattle.witness.proofs.cases.against.Goals as goal

pub has-requires : goal.has-requires
has-requires c = initial_fits c.args.order.now c.args.operand.now c.args.start c.requires.operand c.requires.start

pub returns-then-not-has : goal.returns-then-not-has
returns-then-not-has c =
    let o = c.args.order.now in
    let s = slice_of c.args.operand.now in
    refuted_start o s c.args.start c.new-steps.result c.requires.start c.new-steps.ensures (has_not (Cuts o s c.args.start) c.has.result (c.has.ensures.cuts o c.requires.operand.fits) c.if-not-has.true)

pub returns-in-None : goal.returns-in-None
returns-in-None c =
    let o = c.args.order.now in
    let s = slice_of c.args.operand.now in
    model.IsCanonical.each_time (subst (Cuts o s) c.requires.start ((c.has.ensures.cuts o c.requires.operand.fits).0 c.if-not-has.false)) (rows_are_pasts o s c.in-None.ensures)

pub returns-in_ok-path-in-Some : goal.returns-in_ok-path-in-Some
returns-in_ok-path-in-Some c =
    let o = c.args.order.now in
    let s = slice_of c.args.operand.now in
    model.IsCanonical.refuted (subst (Cuts o s) c.requires.start ((c.has.ensures.cuts o c.requires.operand.fits).0 c.if-not-has.false)) c.in-Some.ensures
    (c.in_ok-path-in-Some.ensures.goal ∙ c.clock.ensures.clock) c.in_ok-path-in-Some.ensures.steps
