use Rattle.std.proofs.Common.{None, sym, ap, subst, length}
use Rattle.event_log.specs.FittingItems.{FitFirst}
use Rattle.event_log.specs.LogText.{log_items}
use Rattle.log_merge.specs.declared.merged.Merged.{Merged}
use Rattle.log_input.specs.declared.places.Places.TheVariants.{Origins}
use Rattle.one_log.specs.inside.Torn.{IsTornJudged, IsMergedTornOf}
use Rattle.log_input.proofs.Stands.{merge_fits}
use Rattle.one_log.proofs.Beginnings.{torn_so}
use Rattle.one_log.proofs.torn.merge_logs.Goals as goal

pub judge_whole-requires-clause-batch : goal.judge_whole-requires-clause-batch
judge_whole-requires-clause-batch c = ap (λ (m : Merged). length m.log.batches) c.in-Ok.ensures.ok

pub judge_whole-requires-clause-fit : goal.judge_whole-requires-clause-fit
judge_whole-requires-clause-fit c =
    subst (λ (m : Merged). FitFirst (log_items m.log)) (sym c.in-Ok.ensures.ok) (merge_fits c.args.logs.now c.requires)

pub returns-in-Ok : goal.returns-in-Ok
returns-in-Ok c =
    torn_so c.judge_whole.result (IsTornJudged (log_items c.in-Ok.merged.log) None (Origins c.in-Ok.merged.origins)) (IsMergedTornOf c.args.logs.now)
    (λ i j. subst (λ (m : Merged). IsTornJudged (log_items m.log) None (Origins m.origins) i) c.in-Ok.ensures.ok j) c.judge_whole.ensures
