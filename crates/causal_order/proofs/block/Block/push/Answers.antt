use Rattle.std.proofs.Common.{◌∙◌, ap, ◌≡◌, ◌+◌, ◌++◌}
use Rattle.causal_order.proofs.Rows.{pushed, view_of}
use Rattle.causal_order.proofs.block.Block.push.Goals as goal

pub returns-clause-ok : goal.returns-clause-ok
returns-clause-ok c =
    let items : c.extend_from_slice.new.self.items ≡ c.self.inside.counts.items ++ c.args.clock.now = c.in_ok-extend_from_slice.ensures.items in
    ap (view_of c.self.inside.width (c.self.inside.len + 1)) items
    ∙ pushed c.self.inside.width c.self.inside.len c.self.inside.counts.items c.args.clock.now c.args.self.now c.self.view_is c.self.invariant.1 c.requires
