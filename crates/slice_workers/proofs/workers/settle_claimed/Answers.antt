use Rattle.std.proofs.Common.{arith, ap, ◌≤◌, ◌∙◌, length}
use Rattle.pota_base.specs.Limits.{most_processes}
use Rattle.pull_system.specs.System.{SystemView}
use Rattle.slice_workers.proofs.Reached.{bottom_reaches, none_are_handed}
use Rattle.slice_workers.proofs.Passes.{passed_reaches}
use Rattle.slice_workers.proofs.workers.settle_claimed.Goals as goal

pub loop-process-init : goal.loop-process-init
loop-process-init g c =
    let system : SystemView = c.args.table.now.system in
    let bottom = c.settle_narrow.ensures in record {
      table = bottom.keeps.table;
      reached = bottom_reaches system _ _ _ _ _ bottom.follows bottom.least c.requires.finals (none_are_handed system _ _ c.requires.none);
    }

pub claim_one-requires-clause-few : goal.claim_one-requires-clause-few
claim_one-requires-clause-few g c =
    let system : SystemView = c.args.table.now.system in
    let few : length system.lens ≤ most_processes = omega (arith, c.procs-process-end.ensures.shape.few, ap length (c.shape.ensures.shape ∙ ap (λ s. s.lens) c.system.ensures)) in few

pub loop-process-preserved : goal.loop-process-preserved
loop-process-preserved g c =
    let system : SystemView = c.args.table.now.system in
    let inv = c.loop-process.invariant in
    let one = c.claim_one.ensures.settled in record {
      table = one.table ∙ inv.table;
      reached = passed_reaches system _ _ _ _ _ _ inv.reached one;
    }
