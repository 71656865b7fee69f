use Rattle.std.proofs.Common.{◌-◌, length, arith, refl, rules}
use Rattle.causal_order.proofs.Rows.{rows_are, row_within, row_is}
use Rattle.causal_order.proofs.block.Block.row.Goals as goal

pub overflow_mul-start : goal.overflow_mul-start
overflow_mul-start c =
    let len = rows_are c.self.inside.width c.self.inside.len c.self.inside.counts.items c.args.self.now c.self.view_is in
    let within = row_within c.self.inside.width c.self.inside.len (c.args.position - 1) (length c.self.inside.counts.items) c.self.invariant.1 (omega (arith, len, c.requires.first, c.requires.last)) in
    grind (arith, within, c.self.inside.counts.small)

pub overflow_add-result : goal.overflow_add-result
overflow_add-result c =
    let len = rows_are c.self.inside.width c.self.inside.len c.self.inside.counts.items c.args.self.now c.self.view_is in
    let within = row_within c.self.inside.width c.self.inside.len (c.args.position - 1) (length c.self.inside.counts.items) c.self.invariant.1 (omega (arith, len, c.requires.first, c.requires.last)) in
    grind (arith, within, c.self.inside.counts.small)

pub offset_bounds-deref-start : goal.offset_bounds-deref-start
offset_bounds-deref-start c =
    let len = rows_are c.self.inside.width c.self.inside.len c.self.inside.counts.items c.args.self.now c.self.view_is in
    let within = row_within c.self.inside.width c.self.inside.len (c.args.position - 1) (length c.self.inside.counts.items) c.self.invariant.1 (omega (arith, len, c.requires.first, c.requires.last)) in
    grind (arith, within, c.self.inside.counts.small)

pub slice_bounds-result-end : goal.slice_bounds-result-end
slice_bounds-result-end c =
    let len = rows_are c.self.inside.width c.self.inside.len c.self.inside.counts.items c.args.self.now c.self.view_is in
    let within = row_within c.self.inside.width c.self.inside.len (c.args.position - 1) (length c.self.inside.counts.items) c.self.invariant.1 (omega (arith, len, c.requires.first, c.requires.last)) in
    search rules

pub returns-clause-row : goal.returns-clause-row
returns-clause-row c =
    let len = rows_are c.self.inside.width c.self.inside.len c.self.inside.counts.items c.args.self.now c.self.view_is in
    rw c.deref.ensures.value (row_is c.self.inside.width c.self.inside.len c.self.inside.counts.items c.args.self.now (c.args.position - 1) _ c.self.view_is (omega (arith, len, c.requires.first, c.requires.last)) refl)
