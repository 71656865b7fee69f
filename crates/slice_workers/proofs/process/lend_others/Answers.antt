use Rattle.std.proofs.Common.{rules, arith}
use Rattle.pull_system.specs.System.{SystemView}
use Rattle.pull_system.specs.Rows.{place_of}
use Rattle.bound_table.proofs.Claiming.{keeps_trans}
use Rattle.bound_table.proofs.Floors.{within_trans}
use Rattle.slice_workers.proofs.process.lend_others.Goals as goal
use Rattle.slice_workers.proofs.process.lend_others.Goals.{then-count-gt0, else-count-gt0}

pub lend_event-requires-clause-count : goal.lend_event-requires-clause-count
lend_event-requires-clause-count c =
    omega (arith, c.count_past-count.ensures, c.loop-process.invariant.counts c.loop-process.process (search rules))

pub loop-process-preserved : goal.loop-process-preserved
loop-process-preserved c =
    let system : SystemView = c.args.table.now.system in
    let inv = c.loop-process.invariant in
    elim c.if-count-gt0.branch [
      | then-count-gt0 w ↦ let same = w.seat-is in rw same record {
        keeps = keeps_trans _ _ _ inv.keeps w.lend_event.ensures.keeps;
        rises = within_trans _ _ _ inv.rises w.lend_event.ensures.rises;
        counts = λ i there. omega (arith, inv.counts i there, w.lend_event.ensures.rises.each (place_of system.lens c.args.row i));
      }
      | else-count-gt0 w ↦ let same = w.seat-is in rw same inv
    ]
