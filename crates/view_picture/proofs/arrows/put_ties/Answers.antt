use Rattle.std.proofs.Common.{◌++◌, List, ℕ, sym, ap, ◌∙◌}
use Rattle.std.specs.List.{flat_map}
use Rattle.std.proofs.lemmas.List.{append-nil}
use Rattle.event_log.proofs.Appends.{puts_next_at}
use Rattle.view_parts.proofs.Each.{flat_map-append}
use Rattle.view_picture.specs.Drawing.{tie_drawn}
use Rattle.view_picture.proofs.arrows.put_ties.Goals as goal

pub loop-tie-preserved : goal.loop-tie-preserved
loop-tie-preserved c =
    let drawn = tie_drawn c.args.frame.now c.args.columns.now in
    puts_next_at (flat_map drawn) (flat_map-append drawn) c.args.out.now c.loop-tie.out c.put_between.new.out c.args.ties.now c.loop-tie.tie-index _ c.loop-tie-test.true c.loop-tie.invariant
    (c.in_ok-put_between.ensures ∙ ap (λ (t : List ℕ). c.loop-tie.out ++ t) (sym (append-nil _)))
