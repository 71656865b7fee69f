use Rattle.pull_system.specs.System.{SystemView}
use Rattle.slice_workers.proofs.Reached.{handed_met, met_left}
use Rattle.slice_workers.proofs.threads.meet_one.Goals as goal

pub returns-clause-rises : goal.returns-clause-rises
returns-clause-rises c =
    met_left _ _ _ c.meet.ensures.floor

pub returns-clause-handed : goal.returns-clause-handed
returns-clause-handed c =
    let system : SystemView = c.args.table.now.system in
    handed_met system _ _ _ _ _ _ c.meet.ensures.floor c.requires.handed c.requires.done.handed c.add_handed.ensures
