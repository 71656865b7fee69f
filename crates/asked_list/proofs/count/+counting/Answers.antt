use Rattle.std.proofs.Common.{arith}
use Rattle.asked_list.proofs.Counts.{next_part}
use Rattle.asked_list.proofs.count.+counting.Goals as goal

pub parts_count-parts-preserved : goal.parts_count-parts-preserved
parts_count-parts-preserved t c =
    omega (arith, next_part c.args.parts.now c.parts.part-index c.part-item.result c.parts-test.true c.part-item.is, c.parts.invariant, c.part_count.ensures, (c.saturating_add-count).ensures)
