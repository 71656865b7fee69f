use Rattle.std.proofs.Common.{length, ap, arith}
use Rattle.run_model.proofs.Counts.{length-max}
use Rattle.temporal_slice.proofs.staying_in.join_shared.Goals as goal

pub join_into-requires-clause-few : goal.join_into-requires-clause-few
join_into-requires-clause-few c = omega (arith, c.words-row.ensures.width, c.shape-shape.ensures.rows.cuts.shape.few)

pub returns-then-shares_row-clause-width : goal.returns-then-shares_row-clause-width
returns-then-shares_row-clause-width c = omega (arith, ap length c.join_into.ensures, length-max c.words-row.result.now c.args.into.now, c.words-row.ensures.width, c.requires.width)
