use Rattle.std.proofs.Common.{◌<◌, ◌+◌, List, Bool, [], length, get_or, ◌∙◌, ap, sym, subst, arith}
use Rattle.watch_feeding.specs.Fed.{RowsHaveGrown}
use Rattle.watch_feeding.proofs.Longer.{LongBelow, one_grows, one_long, one_stays, len_is, length_is}
use Rattle.watch_feeding.proofs.rows.lengthen_rows.Goals as goal
use Rattle.watch_feeding.proofs.rows.lengthen_rows.Goals.{in-Some+in_ok-lengthen_row, in_default}

pub lengthen_row-requires-clause-len : goal.lengthen_row-requires-clause-len
lengthen_row-requires-clause-len c =
    let within = c.requires.within c.loop-w.w c.in-Some.process c.in-Some.is in
    let len = len_is c.args.states.now c.in-Some.process c.len_of.result c.shape.result.now c.shape.ensures c.len_of.ensures.len in
    let same = ap (λ (r : List Bool). length r) (c.loop-w.invariant.above c.loop-w.w (omega arith)) in
    omega (arith, within, len, same)

pub returns-in_err-lengthen_row-clause-grown : goal.returns-in_err-lengthen_row-clause-grown
returns-in_err-lengthen_row-clause-grown c =
    let so_far = c.loop-w.invariant in
    let place : c.loop-w.w < length c.loop-w.rows = omega (arith, c.loop-w-test.true, c.requires.count, so_far.grown.count) in
    subst (RowsHaveGrown c.args.watch_process.now c.args.rows.now) (sym c.lengthen_row.ensures.row)
    (one_grows c.args.watch_process.now c.args.rows.now c.loop-w.w c.in-Some.process c.loop-w.rows (get_or c.lengthen_row.new.rows c.loop-w.w []) c.in-Some.is place (so_far.above c.loop-w.w (omega arith))
    c.lengthen_row.ensures.front so_far.grown)

pub loop-w-preserved : goal.loop-w-preserved
loop-w-preserved c =
    let so_far = c.loop-w.invariant in
    let place : c.loop-w.w < length c.loop-w.rows = omega (arith, c.loop-w-test.true, c.requires.count, so_far.grown.count) in
    let size = length_is c.loop-w.rows c.loop-w.w c.len.result c.get.result.now c.get.ensures.item c.len.ensures in
    elim c.match-watch_process-w.branch [
      | in-Some+in_ok-lengthen_row w ↦
          let len = len_is c.args.states.now w.in-Some.process w.len_of.result w.shape.result.now w.shape.ensures w.len_of.ensures.len in
          subst (LongBelow c.args.states.now c.args.watch_process.now c.args.rows.now (c.loop-w.w + 1) c.push.new.self) (sym (w.rows-is ∙ w.lengthen_row.ensures.row))
          (one_long c.args.states.now c.args.watch_process.now c.args.rows.now c.loop-w.w w.in-Some.process c.len.result c.loop-w.lens c.push.new.self c.loop-w.rows _ w.in-Some.is place size
          c.in_ok-push.ensures.ok w.lengthen_row.ensures.front (w.in_ok-lengthen_row.ensures.len ∙ omega (arith, len)) so_far)
      | in_default w ↦
          subst (LongBelow c.args.states.now c.args.watch_process.now c.args.rows.now (c.loop-w.w + 1) c.push.new.self) (sym w.rows-is)
          (one_stays c.args.states.now c.args.watch_process.now c.args.rows.now c.loop-w.w c.len.result c.loop-w.lens c.push.new.self c.loop-w.rows w.in_default.is place size c.in_ok-push.ensures.ok so_far)
    ]
