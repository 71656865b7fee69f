use Rattle.std.proofs.Common.{◌∙◌, ap, get_or, arith}
use Rattle.std.specs.Prelude.{List}
use Rattle.causal_order.specs.Blocks.{BlockView, clocks_in}
use Rattle.causal_order.proofs.Tables.{len_fits, all_lens}
use Rattle.causal_order.proofs.table.ClockTable.lens.Goals as goal

pub overflow_cast-len : goal.overflow_cast-len
overflow_cast-len c =
    let fits = len_fits c.self.inside.blocks.items c.args.self.now c.loop-block.block-index c.block-item.result c.self.view_is c.requires (grind (arith, c.deref-block-items.ensures.value))
    (c.block-item.is ∙ ap (λ (bs : List BlockView). get_or bs c.loop-block.block-index c.block-item.result) c.deref-block-items.ensures.value) in
    omega (arith, c.len.ensures)

pub returns : goal.returns
returns c =
    all_lens c.deref-block-items.result.now c.args.self.now c.loop-block.block-index _ (ap clocks_in c.deref-block-items.ensures.value ∙ c.self.view_is) c.loop-block.invariant (omega arith)
