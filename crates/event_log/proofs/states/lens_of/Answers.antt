use Rattle.std.proofs.Common.{arith}
use Rattle.event_log.proofs.Keeping.{lens_in, count-lens_in, item_le_sum}
use Rattle.event_log.proofs.states.lens_of.Goals as goal

pub overflow_cast-len_of : goal.overflow_cast-len_of
overflow_cast-len_of c =
    let hs = c.args.histories.now in
    let p = c.loop-process.process in
    omega (arith, c.len_of.ensures, count-lens_in hs p, item_le_sum (lens_in hs) p, c.requires)
