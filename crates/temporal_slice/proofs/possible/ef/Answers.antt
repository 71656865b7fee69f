use Rattle.std.proofs.Common.{List, ℕ, ◌+◌, sum, replicate, refl, ap, ◌∙◌}
use Rattle.std.proofs.lemmas.Bool.{false≢true}
use Rattle.std.proofs.lemmas.Result.{IfOk-weaker}
use Rattle.run_model.specs.Cut.{lengths}
use Rattle.run_model.specs.Slice.{Cuts}
use Rattle.run_model.specs.Operators.{EfHolds}
use Rattle.slice_graph.specs.Views.{SliceView, slice_of, no_row}
use Rattle.slice_graph.proofs.Building.{empty_agrees}
use Rattle.temporal_slice.proofs.Results.{IsMade, ef_closed, ef_within, ef_none}
use Rattle.temporal_slice.proofs.possible.ef.Goals as goal

pub cuts_within-requires : goal.cuts_within-requires
cuts_within-requires c = (c.in-Some.ensures.greatest c.args.order.now c.shape-shape.ensures.order c.requires).member.consistent

pub returns-in-Some : goal.returns-in-Some
returns-in-Some c =
    let all = IfOk-weaker c.cuts_within.result _ (IsMade c.args.order.now (EfHolds c.args.order.now (Cuts c.args.order.now (slice_of c.args.child.now)))) (λ w agrees. ef_within c.args.order.now c.shape-shape.ensures.order c.args.child.now c.in-Some.top.now (c.in-Some.ensures.greatest c.args.order.now c.shape-shape.ensures.order c.requires) w agrees) c.cuts_within.ensures in
    record {
      stands = IfOk-weaker c.cuts_within.result _ _ (λ w m. m.stands) all;
      fits = IfOk-weaker c.cuts_within.result _ _ (λ w m. m.fits) all;
      closed = ef_closed c.args.order.now c.shape-shape.ensures.order c.args.child.now;
      cuts = IfOk-weaker c.cuts_within.result _ _ (λ w m. m.cuts) all;
    }

pub returns-in-None : goal.returns-in-None
returns-in-None c =
    let all = IfOk-weaker c.empty.result _ (IsMade c.args.order.now (EfHolds c.args.order.now (Cuts c.args.order.now (slice_of c.args.child.now)))) (λ w is. ef_none c.args.order.now c.shape-shape.ensures.order c.args.child.now (c.in-None.ensures.greatest c.args.order.now c.shape-shape.ensures.order c.requires) w (empty_agrees c.args.order.now w (is ∙ ap (λ (lens : List ℕ). record { lens = lens; rows = replicate (sum lens + 1) no_row }) c.shape-shape.ensures.lens))) c.empty.ensures in
    record {
      stands = IfOk-weaker c.empty.result _ _ (λ w m. m.stands) all;
      fits = IfOk-weaker c.empty.result _ _ (λ w m. m.fits) all;
      closed = ef_closed c.args.order.now c.shape-shape.ensures.order c.args.child.now;
      cuts = IfOk-weaker c.empty.result _ _ (λ w m. m.cuts) all;
    }
