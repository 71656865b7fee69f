use Rattle.pull_system.specs.System.{SystemView}
use Rattle.slice_workers.proofs.Passes.{passed_mark}
use Rattle.slice_workers.proofs.workers.settle_marked.Goals as goal

pub returns-clause-settled : goal.returns-clause-settled
returns-clause-settled g c =
    let system : SystemView = c.args.table.now.system in
    let done = c.settle_process.ensures in
    passed_mark system _ _ c.args.handed.now c.args.process c.requires.reached.handed done.risen done.reaches
