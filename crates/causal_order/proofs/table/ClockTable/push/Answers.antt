use Rattle.std.proofs.lemmas.Result.{on_ok_weaker}
use Rattle.causal_order.proofs.Tables.{row_pushed}
use Rattle.causal_order.proofs.table.ClockTable.push.Goals as goal

pub returns-clause-ok : goal.returns-clause-ok
returns-clause-ok c = on_ok_weaker c.push.result (λ made. row_pushed c.self.inside.blocks.items _ _ _ c.push.new.self c.args.clock.now c.self.view_is c.requires.process c.index_mut.ensures.value made) c.push.ensures.ok
