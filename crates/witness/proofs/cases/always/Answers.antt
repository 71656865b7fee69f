use Rattle.std.proofs.Common.{sym, ◌∙◌, subst}
use Rattle.run_model.specs.Witness as model
use Rattle.run_model.specs.Cut.{lengths}
use Rattle.run_model.specs.Slice.{Cuts}
use Rattle.slice_graph.specs.Views.{slice_of}
use Rattle.witness.specs.Views.{place_of}
use Rattle.witness.proofs.CaseSteps.{initial_fits, has_not}
use Rattle.witness.proofs.Leads.{slice_leads}
use Rattle.witness.proofs.Twinned.{no_pairs, first_later_is_first}
use Rattle.witness.proofs.cases.always.Goals as goal

pub has-requires : goal.has-requires
has-requires c = initial_fits c.args.order.now c.args.operand.now c.args.start c.requires.operand c.requires.start

pub returns-then-not-has : goal.returns-then-not-has
returns-then-not-has c =
    let o = c.args.order.now in
    let s = slice_of c.args.operand.now in
    model.IsCanonical.false_at_start (λ h. has_not (Cuts o s c.args.start) c.has.result (c.has.ensures.cuts o c.requires.operand.fits) c.if-not-has.true (subst (Cuts o s) (sym c.requires.start) h))

pub returns-then-not-has_final : goal.returns-then-not-has_final
returns-then-not-has_final c =
    let o = c.args.order.now in
    let s = slice_of c.args.operand.now in
    model.IsCanonical.false_at_finish (subst (Cuts o s) c.requires.start ((c.has.ensures.cuts o c.requires.operand.fits).0 c.if-not-has.false))
    (has_not (Cuts o s (lengths o)) c.has_final.result (c.has_final.ensures.cuts o c.requires.operand.fits) c.if-not-has_final.true)

pub through-requires-clause-leads : goal.through-requires-clause-leads
through-requires-clause-leads c =
    let o = c.args.order.now in
    let s = slice_of c.args.operand.now in
    slice_leads o c.requires.operand.run.order s c.requires.operand.fits.stands ((c.has_final.ensures.cuts o c.requires.operand.fits).0 c.if-not-has_final.false) (no_pairs o s c.in-None.ensures)

pub other_twin-other-requires-clause-twin : goal.other_twin-other-requires-clause-twin
other_twin-other-requires-clause-twin c = (first_later_is_first c.args.order.now (slice_of c.args.operand.now) (place_of c.in-Some.event) c.in-Some.ensures).has

pub returns-in-Some : goal.returns-in-Some
returns-in-Some c =
    let o = c.args.order.now in
    let s = slice_of c.args.operand.now in
    model.IsCanonical.come_together (subst (Cuts o s) c.requires.start ((c.has.ensures.cuts o c.requires.operand.fits).0 c.if-not-has.false)) ((c.has_final.ensures.cuts o c.requires.operand.fits).0 c.if-not-has_final.false)
    (first_later_is_first o s (place_of c.in-Some.event) c.in-Some.ensures) c.other_twin-other.ensures
