use Rattle.std.proofs.Common.{◌++◌, List, ℕ, sym, ap, ◌∙◌}
use Rattle.std.specs.List.{flat_map}
use Rattle.std.specs.Option.{option_copied}
use Rattle.std.proofs.lemmas.List.{append-nil}
use Rattle.event_log.proofs.Appends.{puts_next_at}
use Rattle.view_parts.proofs.Each.{flat_map-append}
use Rattle.view_picture.specs.Drawing.{mark}
use Rattle.view_picture.proofs.marks.put_marks.Goals as goal

pub loop-k-preserved : goal.loop-k-preserved
loop-k-preserved c =
    let m = c.args.marked.now in
    let drawn = mark m.states.now m.frame.now m.columns.now (option_copied m.top) in
    puts_next_at (flat_map drawn) (flat_map-append drawn) c.args.out.now c.loop-k.out c.put_mark.new.out c.args.shown.now c.loop-k.k _ c.loop-k-test.true c.loop-k.invariant
    (c.in_ok-put_mark.ensures ∙ ap (λ (t : List ℕ). c.loop-k.out ++ t) (sym (append-nil _)))
