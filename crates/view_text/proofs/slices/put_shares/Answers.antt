use Rattle.std.proofs.Common.{◌≡◌, ◌++◌, ℕ, length, ap, ◌∙◌, arith}
use Rattle.event_log.specs.declared.log.Header.{Header}
use Rattle.view_parts.specs.Each.{each_below}
use Rattle.view_parts.proofs.Each.{puts_each, puts_more}
use Rattle.view_text.specs.Text.{share_row}
use Rattle.view_text.proofs.slices.put_shares.Goals as goal

pub loop-process-preserved : goal.loop-process-preserved
loop-process-preserved c = puts_each (share_row c.args.states.now c.args.low.now c.args.high.now) c.put_bounds_row.new.out c.loop-process.out c.put_share_row.new.out c.loop-process.process c.loop-process.invariant c.in_ok-put_share_row.ensures

pub returns : goal.returns
returns c =
    let shares = share_row c.args.states.now c.args.low.now c.args.high.now in
    let end : c.loop-process.process ≡ length c.args.states.now.header.procs = omega (arith, c.len-process-end.ensures, ap (λ (h : Header). length h.procs) c.header.ensures.header) in
    puts_more _ _ _ _ _ c.in_ok-put_bounds_row.ensures (c.loop-process.invariant ∙ ap (λ (n : ℕ). c.put_bounds_row.new.out ++ each_below n shares) end)
