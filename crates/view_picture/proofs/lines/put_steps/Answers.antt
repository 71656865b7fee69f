use Rattle.std.proofs.Common.{◌+◌, get_or}
use Rattle.view_parts.proofs.Each.{puts_each}
use Rattle.view_picture.specs.Drawing.{step_drawn, no_place}
use Rattle.view_picture.proofs.lines.put_steps.Goals as goal

pub loop-k-preserved : goal.loop-k-preserved
loop-k-preserved c =
    puts_each (λ k. step_drawn c.args.frame.now c.args.columns.now (get_or c.args.steps.now k no_place) (k + 1)) c.args.out.now c.loop-k.out c.put_step.new.out c.loop-k.k c.loop-k.invariant c.in_ok-put_step.ensures
