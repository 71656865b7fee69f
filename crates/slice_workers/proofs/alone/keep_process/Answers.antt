use Rattle.std.proofs.Common.{rules, arith, ◌-◌, get_or}
use Rattle.pull_system.specs.System.{SystemView}
use Rattle.bound_table.proofs.Allowed.{bounds_along}
use Rattle.bound_table.proofs.Claiming.{keeps_trans}
use Rattle.bound_table.proofs.Floors.{within_trans}
use Rattle.slice_workers.proofs.Reached.{bottom_sum}
use Rattle.slice_workers.proofs.Appended.{fewer_left, paid_before, paid_none}
use Rattle.slice_workers.proofs.alone.keep_process.Goals as goal

pub returns-in_err-before-clause-takes : goal.returns-in_err-before-clause-takes
returns-in_err-before-clause-takes g c =
    let system : SystemView = c.args.table.now.system in
    let old = bounds_along _ system _ c.args.seat.now.floor (search rules) (search rules) c.bounds.ensures in
    let risen = c.keep_firsts.ensures.risen in record {
      looks = omega arith;
      rises_paid = paid_none system (get_or system.lens c.args.process 0 - c.args.first) c.args.seat.now c.keep_firsts.new.seat c.args.steps.now old risen.bounds risen.rises;
    }

pub returns-clause-risen : goal.returns-clause-risen
returns-clause-risen g c =
    let first = c.keep_firsts.ensures.risen in
    let others = c.keep_others.ensures.risen in record {
      keeps = keeps_trans _ _ _ first.keeps others.keeps;
      rises = within_trans _ _ _ first.rises others.rises;
      bounds = others.bounds;
    }

pub returns-clause-takes : goal.returns-clause-takes
returns-clause-takes g c =
    let system : SystemView = c.args.table.now.system in
    let old = bounds_along _ system _ c.args.seat.now.floor (search rules) (search rules) c.bounds.ensures in
    let first = c.keep_firsts.ensures.risen in
    let up = c.in_ok-before.ensures.kept in record {
      looks = fewer_left system c.args.bottom.now c.keep_firsts.new.into _ _ (bottom_sum system _ _ _ c.requires.able.bottom.least up.reached.least) c.keep_others.ensures.looks;
      rises_paid = paid_before system (get_or system.lens c.args.process 0 - c.args.first) c.args.seat.now c.keep_firsts.new.seat c.keep_others.new.seat c.args.steps.now c.keep_others.new.steps old first.bounds first.rises c.keep_others.ensures.rises_paid;
    }
