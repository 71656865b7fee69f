use Rattle.std.proofs.Common.{length, ap, arith}
use Rattle.run_model.proofs.Counts.{length-lengths}
use Rattle.view_picture.proofs.columns.known.Goals as goal

pub bounds-clock-process : goal.bounds-clock-process
bounds-clock-process c = omega (arith, c.if-process-procs.false, c.procs.ensures.count, ap length c.shape.ensures.lens, length-lengths c.args.order.now, c.clock.ensures.width)
