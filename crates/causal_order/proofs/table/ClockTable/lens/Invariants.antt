use Rattle.std.proofs.Common.{◌≡◌, length, map, take}
use Rattle.causal_order.specs.Blocks.{BlockView}
use Rattle.causal_order.proofs.table.ClockTable.lens.Given as goal

abbrev pub invariant-loop-block : goal.invariant-loop-block
invariant-loop-block l = l.lens.items ≡ map (λ (b : BlockView). length b.rows) (take l.block-index l.block-items)
