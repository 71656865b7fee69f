use Rattle.pull_system.specs.System.{SystemView}
use Rattle.bound_table.proofs.Claiming.{keeps_trans}
use Rattle.bound_table.proofs.Floors.{within_trans}
use Rattle.slice_workers.proofs.Reached.{reached_more}
use Rattle.bound_table.proofs.Own.{first_more}
use Rattle.slice_workers.proofs.Appended.{kept_more}
use Rattle.slice_workers.proofs.alone.keep_firsts.Goals as goal

pub go_behind-requires-clause-able : goal.go_behind-requires-clause-able
go_behind-requires-clause-able c =
    let system : SystemView = c.args.table.now.system in
    let rises = c.push_firsts.ensures.risen.rises in record {
      bottom = reached_more system 0 _ _ _ rises c.requires.able.bottom;
      first = c.requires.able.first;
      kept = first_more system c.args.process _ _ _ rises c.requires.able.kept;
    }

pub returns-clause-risen : goal.returns-clause-risen
returns-clause-risen c =
    let first = c.push_firsts.ensures.risen in
    let behind = c.go_behind.ensures.risen in record {
      keeps = keeps_trans _ _ _ first.keeps behind.keeps;
      rises = within_trans _ _ _ first.rises behind.rises;
      bounds = behind.bounds;
    }

pub returns-clause-kept : goal.returns-clause-kept
returns-clause-kept c =
    let system : SystemView = c.args.table.now.system in
    let behind = c.go_behind.ensures in record {
      row = behind.row;
      there = behind.there;
      reached = behind.reached;
      kept = kept_more system _ _ _ _ behind.risen.rises c.in_ok-push_firsts.ensures.kept;
    }
