use Rattle.std.proofs.Common.{sym}
use Rattle.causal_order.proofs.Rows.{rows_are}
use Rattle.causal_order.proofs.block.Block.len.Goals as goal

pub returns : goal.returns
returns c = sym (rows_are _ _ _ _ c.self.view_is)
