use Rattle.std.proofs.Common.{◌≡◌, ◌<◌, ◌++◌, List, [], ℕ, length, map, get_or, ap, subst, sym, ◌∙◌, arith}
use Rattle.view_parts.proofs.Each.{puts_each}
use Rattle.view_picture.specs.Drawing.{left_out_behind}
use Rattle.view_picture.proofs.Places.{row_end}
use Rattle.std.proofs.lemmas.List.{length-map}
use Rattle.view_picture.proofs.left_out.put_all_behind.Goals as goal

pub put_left_out_behind-requires : goal.put_left_out_behind-requires
put_left_out_behind-requires c =
    let events = c.args.states.now.events in
    let p = c.loop-process.process in
    let len : c.len_of-events.result ≡ get_or (map length events) p 0 = c.len_of-events.ensures.len ∙ ap (λ (l : List ℕ). get_or l p 0) c.shape-in-loop-process.ensures in
    let there : p < length events = omega (arith, c.loop-process-test.true, c.procs-process-end.ensures.count, ap length c.shape.ensures, length-map events length) in
    subst (λ (n : ℕ). n < length (get_or c.args.columns.now p [])) (sym len) (row_end events c.args.columns.now p c.requires there)

pub loop-process-preserved : goal.loop-process-preserved
loop-process-preserved c =
    let f = c.args.frame.now in
    let rows = c.args.columns.now in
    let events = c.args.states.now.events in
    let p = c.loop-process.process in
    let len : c.len_of-events.result ≡ get_or (map length events) p 0 = c.len_of-events.ensures.len ∙ ap (λ (l : List ℕ). get_or l p 0) c.shape-in-loop-process.ensures in
    let made : ℕ → List ℕ = λ q. left_out_behind f rows q (get_or (map length events) q 0) in
    puts_each made c.args.out.now c.loop-process.out c.put_left_out_behind.new.out p c.loop-process.invariant (c.in_ok-put_left_out_behind.ensures ∙ ap (λ (n : ℕ). c.loop-process.out ++ left_out_behind f rows p n) len)
