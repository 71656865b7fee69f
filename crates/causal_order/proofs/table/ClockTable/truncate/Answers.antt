use Rattle.causal_order.proofs.Tables.{rows_cut}
use Rattle.causal_order.proofs.table.ClockTable.truncate.Goals as goal

pub returns : goal.returns
returns c = rows_cut c.self.inside.blocks.items _ _ c.args.len _ c.truncate.new.self c.self.view_is c.requires.process c.index_mut.ensures.value c.truncate.ensures
