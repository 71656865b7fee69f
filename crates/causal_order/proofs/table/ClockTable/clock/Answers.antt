use Rattle.std.proofs.Common.{◌∙◌}
use Rattle.causal_order.proofs.Tables.{block_rows, block_width, clock_is}
use Rattle.causal_order.proofs.table.ClockTable.clock.Goals as goal

pub returns-clause-clock : goal.returns-clause-clock
returns-clause-clock c = clock_is c.args.self.now c.args.process c.args.position _ _ c.requires.first c.row.ensures.row (block_rows c.self.inside.blocks.items _ _ _ c.self.view_is c.requires.process c.index.ensures)

pub returns-clause-width : goal.returns-clause-width
returns-clause-width c = c.row.ensures.width ∙ block_width c.self.inside.blocks.items _ _ _ c.self.view_is c.self.invariant c.requires.process c.index.ensures
