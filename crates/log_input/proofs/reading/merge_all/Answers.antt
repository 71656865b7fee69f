use Rattle.std.proofs.Common.{sym, ap, subst, length}
use Rattle.event_log.specs.FittingItems.{FitFirst}
use Rattle.event_log.specs.LogText.{log_items}
use Rattle.log_merge.specs.declared.merged.Merged.{Merged}
use Rattle.log_input.specs.declared.places.Places.TheVariants.{Origins}
use Rattle.log_input.specs.inside.Judging.{IsJudged, IsMergedOf}
use Rattle.log_input.proofs.Stands.{ok_so, merge_fits}
use Rattle.log_input.proofs.reading.merge_all.Goals as goal

pub fill-requires-clause-batch : goal.fill-requires-clause-batch
fill-requires-clause-batch c = ap (λ (m : Merged). length m.log.batches) c.in-Ok.ensures.ok

pub fill-requires-clause-fit : goal.fill-requires-clause-fit
fill-requires-clause-fit c = subst (λ (m : Merged). FitFirst (log_items m.log)) (sym c.in-Ok.ensures.ok) (merge_fits c.args.logs.now c.requires)

pub returns-in-Ok : goal.returns-in-Ok
returns-in-Ok c =
    ok_so c.fill.result (IsJudged c.in-Ok.merged.log (Origins c.in-Ok.merged.origins)) (IsMergedOf c.args.logs.now)
    (λ i j. subst (λ (m : Merged). IsJudged m.log (Origins m.origins) i) c.in-Ok.ensures.ok j) c.fill.ensures
