use Rattle.std.proofs.Common.{◌*◌, length, arith, ap, ◌∙◌}
use Rattle.std.proofs.lemmas.List.{length-take-le}
use Rattle.causal_order.proofs.Rows.{rows_are, rows_within, cut_to, view_of}
use Rattle.causal_order.proofs.block.Block.truncate.Goals as goal

pub overflow_mul-len : goal.overflow_mul-len
overflow_mul-len c =
    let len = rows_are c.self.inside.width c.self.inside.len c.self.inside.counts.items c.args.self.now c.self.view_is in
    let within = rows_within c.self.inside.width c.args.len c.self.inside.len (length c.self.inside.counts.items) c.self.invariant.1 (omega (arith, len, c.requires)) in
    grind (arith, within, c.self.inside.counts.small)

pub invariant_of-self : goal.invariant_of-self
invariant_of-self c =
    let len = rows_are c.self.inside.width c.self.inside.len c.self.inside.counts.items c.args.self.now c.self.view_is in
    let within = rows_within c.self.inside.width c.args.len c.self.inside.len (length c.self.inside.counts.items) c.self.invariant.1 (omega (arith, len, c.requires)) in
    (c.self.invariant.0, ap length c.truncate.ensures.items ∙ length-take-le (c.args.len * c.self.inside.width) c.self.inside.counts.items within)

pub returns : goal.returns
returns c =
    let len = rows_are c.self.inside.width c.self.inside.len c.self.inside.counts.items c.args.self.now c.self.view_is in
    ap (view_of c.self.inside.width c.args.len) c.truncate.ensures.items
    ∙ cut_to c.self.inside.width c.args.len c.self.inside.len c.self.inside.counts.items c.args.self.now c.self.view_is (omega (arith, len, c.requires))
