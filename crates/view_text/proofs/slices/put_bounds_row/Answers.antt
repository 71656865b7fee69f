use Rattle.std.proofs.Common.{◌++◌, ◌∷◌, [], List, ℕ, ap, ◌∙◌}
use Rattle.std.specs.Prelude.{codes}
use Rattle.log_lines.specs.Spelling.{clock_text}
use Rattle.view_parts.proofs.Each.{puts_more, puts_last}
use Rattle.view_text.proofs.slices.put_bounds_row.Goals as goal

pub returns : goal.returns
returns c =
    let out = c.args.out.now in
    let a = codes "slice: from " in
    let b = clock_text c.args.low.now in
    let d = codes " to " in
    let e = clock_text c.args.high.now in
    let low = c.in_ok-put_clock.ensures ∙ ap (λ (x : List ℕ). c.extend_from_slice.new.self ++ clock_text x) c.as_slice.ensures in
    let high = c.in_ok-put_clock-2.ensures ∙ ap (λ (x : List ℕ). c.extend_from_slice-2.new.self ++ clock_text x) c.as_slice-2.ensures in
    let two = puts_more out a b c.extend_from_slice.new.self c.put_clock.new.out c.in_ok-extend_from_slice.ensures.ok low in
    let three = puts_more out (a ++ b) d c.put_clock.new.out c.extend_from_slice-2.new.self two c.in_ok-extend_from_slice-2.ensures.ok in
    let four = puts_more out (a ++ b ++ d) e c.extend_from_slice-2.new.self c.put_clock-2.new.out three high in
    puts_last c.push.result out (a ++ b ++ d ++ e) (10 ∷ []) c.put_clock-2.new.out c.push.new.self four c.push.ensures.ok
