use Rattle.std.proofs.Common.{◌≡◌, replicate, []}
use Rattle.causal_order.proofs.table.ClockTable.new.Given as goal

abbrev pub invariant-loop-process : goal.invariant-loop-process
invariant-loop-process l = l.blocks.items ≡ replicate l._process (record { width = l.fn.procs; rows = [] })
