use Rattle.std.proofs.Common.{List, ℕ, ◌+◌, sum, replicate, refl, ap, ◌∙◌}
use Rattle.std.proofs.lemmas.Bool.{false≢true}
use Rattle.std.proofs.lemmas.Result.{IfOk-weaker}
use Rattle.run_model.specs.Cut.{lengths}
use Rattle.run_model.specs.Slice.{Cuts}
use Rattle.run_model.specs.Operators.{EgHolds}
use Rattle.slice_graph.specs.Views.{SliceView, slice_of, no_row}
use Rattle.slice_graph.proofs.Building.{empty_agrees}
use Rattle.temporal_slice.proofs.Results.{IsMade, eg_closed, eg_from, eg_none}
use Rattle.temporal_slice.proofs.staying_in.eg.Goals as goal

pub returns-then-not-has_final : goal.returns-then-not-has_final
returns-then-not-has_final c =
    let all = IfOk-weaker c.empty.result _ (IsMade c.args.order.now (EgHolds c.args.order.now (Cuts c.args.order.now (slice_of c.args.child.now)))) (λ w is. eg_none c.args.order.now c.shape-shape.ensures.order c.args.child.now (λ cut. false≢true ((c.if-not-has_final.ensures.cuts c.args.order.now c.requires).1 cut)) w (empty_agrees c.args.order.now w (is ∙ ap (λ (lens : List ℕ). record { lens = lens; rows = replicate (sum lens + 1) no_row }) c.shape-shape.ensures.lens))) c.empty.ensures in
    record {
      stands = IfOk-weaker c.empty.result _ _ (λ w m. m.stands) all;
      fits = IfOk-weaker c.empty.result _ _ (λ w m. m.fits) all;
      closed = eg_closed c.args.order.now c.shape-shape.ensures.order c.args.child.now;
      cuts = IfOk-weaker c.empty.result _ _ (λ w m. m.cuts) all;
    }

pub returns-in_err-bottom-clause-closed : goal.returns-in_err-bottom-clause-closed
returns-in_err-bottom-clause-closed c = eg_closed c.args.order.now c.shape-shape.ensures.order c.args.child.now

pub cuts_from-requires-clause-bottom : goal.cuts_from-requires-clause-bottom
cuts_from-requires-clause-bottom c = c.in_ok-bottom.ensures.member.0

pub cuts_from-requires-clause-last : goal.cuts_from-requires-clause-last
cuts_from-requires-clause-last c = (c.if-not-has_final.ensures.cuts c.args.order.now c.requires).0 refl

pub returns : goal.returns
returns c =
    let all = IfOk-weaker c.cuts_from.result _ (IsMade c.args.order.now (EgHolds c.args.order.now (Cuts c.args.order.now (slice_of c.args.child.now)))) (λ w agrees. eg_from c.args.order.now c.shape-shape.ensures.order c.args.child.now c.requires ((c.if-not-has_final.ensures.cuts c.args.order.now c.requires).0 refl) c.in_ok-bottom.bottom c.in_ok-bottom.ensures w agrees) c.cuts_from.ensures in
    record {
      stands = IfOk-weaker c.cuts_from.result _ _ (λ w m. m.stands) all;
      fits = IfOk-weaker c.cuts_from.result _ _ (λ w m. m.fits) all;
      closed = eg_closed c.args.order.now c.shape-shape.ensures.order c.args.child.now;
      cuts = IfOk-weaker c.cuts_from.result _ _ (λ w m. m.cuts) all;
    }
