use Rattle.std.proofs.Common.{length, ap, arith}
use Rattle.run_model.proofs.Counts.{length-lengths}
use Rattle.temporal_slice.proofs.always.join_past.Goals as goal

pub join_into-requires-clause-few : goal.join_into-requires-clause-few
join_into-requires-clause-few c = omega (arith, c.clock.ensures.width, c.shape-shape.ensures.shape.few, length-lengths c.args.order.now)
