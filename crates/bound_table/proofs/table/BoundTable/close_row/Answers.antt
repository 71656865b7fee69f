use Rattle.std.proofs.Common.{arith, ap, sum}
use Rattle.bound_table.proofs.Seeing.{asking_trans, asking_again, asking_same, asking_done, asking_room, within_sum, looks_more, pays_more, first_looks}
use Rattle.bound_table.proofs.table.BoundTable.close_row.Goals as goal

pub ask_risen-asked-requires-in-loop-asked : goal.ask_risen-asked-requires-in-loop-asked
ask_risen-asked-requires-in-loop-asked g c =
    record { asking = asking_again _ _ _ _ _ _ c.loop-asked.invariant.asking }

pub loop-asked-init : goal.loop-asked-init
loop-asked-init g c =
    let risen = c.ask_risen-asked.ensures in record {
      asking = risen.asking;
      done = risen.done;
      looks = first_looks _ _ _ _ _ risen.looks (within_sum _ _ (omega (arith, c.requires.asking.settling.follows.size, risen.asking.size)) risen.reaches);
      pays = risen.sees.pays;
    }

pub loop-asked-smaller : goal.loop-asked-smaller
loop-asked-smaller g c =
    let risen = c.ask_risen-asked-in-loop-asked.ensures in
    let asking = asking_trans _ _ _ _ _ _ _ _ _ c.loop-asked.invariant.asking risen.asking in
    omega (arith, risen.sees.rises, asking_room _ _ _ _ _ _ asking)

pub loop-asked-preserved : goal.loop-asked-preserved
loop-asked-preserved g c =
    let inv = c.loop-asked.invariant in
    let risen = c.ask_risen-asked-in-loop-asked.ensures in record {
      asking = asking_trans _ _ _ _ _ _ _ _ _ inv.asking risen.asking;
      done = risen.done;
      looks = looks_more _ _ _ _ _ _ _ risen.sees.pays inv.looks;
      pays = pays_more _ _ _ _ _ _ _ risen.sees.pays inv.pays;
    }

pub returns-clause-least : goal.returns-clause-least
returns-clause-least g c =
    asking_done _ _ _ _ _ _ c.loop-asked.invariant.asking (c.loop-asked.invariant.done (omega arith))

pub returns-clause-looks : goal.returns-clause-looks
returns-clause-looks g c =
    let same = ap sum (asking_same _ _ _ _ _ _ c.loop-asked.invariant.asking (c.loop-asked.invariant.done (omega arith))) in
    let inv = c.loop-asked.invariant.looks in rw (← same) inv

pub returns-clause-pays : goal.returns-clause-pays
returns-clause-pays g c =
    let same = ap sum (asking_same _ _ _ _ _ _ c.loop-asked.invariant.asking (c.loop-asked.invariant.done (omega arith))) in
    let inv = c.loop-asked.invariant.pays in rw (← same) inv
