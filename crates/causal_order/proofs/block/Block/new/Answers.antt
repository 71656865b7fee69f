use Rattle.causal_order.proofs.Rows.{no_rows_yet}
use Rattle.causal_order.proofs.block.Block.new.Goals as goal

pub returns : goal.returns
returns c = no_rows_yet _ _
