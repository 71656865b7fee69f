use Rattle.std.proofs.Common.{◌∙◌, ap, arith}
use Rattle.causal_order.specs.Blocks.{clocks_in}
use Rattle.causal_order.proofs.Tables.{fresh_clocks, fresh_wide}
use Rattle.causal_order.proofs.table.ClockTable.new.Goals as goal

pub invariant_of-result : goal.invariant_of-result
invariant_of-result c = fresh_wide c.args.procs c.loop-process._process _ c.loop-process.invariant (omega arith)

pub returns : goal.returns
returns c = ap clocks_in c.loop-process.invariant ∙ fresh_clocks c.args.procs c.loop-process._process (omega arith)
