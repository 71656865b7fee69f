use Rattle.std.proofs.Common.{◌≡◌, ◌++◌, ◌∷◌, []}
use Rattle.std.specs.Prelude.{codes}
use Rattle.view_parts.proofs.Each.{puts_more, puts_last}
use Rattle.view_picture.proofs.heading.put_lost_head.Goals as goal

pub returns : goal.returns
returns c =
    let out = c.args.out.now in
    let a0 = codes "<marker id='lost' viewBox='0 0 18 10' refX='13' refY='5' markerWidth='18'" in
    let a1 = codes " markerHeight='10' markerUnits='userSpaceOnUse' orient='auto'>" in
    let a2 = codes "<path d='M0 1 L6 5 L0 9 M9 1 L17 9 M9 9 L17 1' fill='none' stroke='#555555'" in
    let a3 = codes " stroke-width='1.5'/></marker>" ++ 10 ∷ [] in
    let f0 : c.extend_from_slice.new.self ≡ out ++ a0 = c.in_ok-extend_from_slice.ensures.ok in
    let f1 : c.extend_from_slice-2.new.self ≡ out ++ (a0 ++ a1) = puts_more out (a0) a1 c.extend_from_slice.new.self c.extend_from_slice-2.new.self f0 c.in_ok-extend_from_slice-2.ensures.ok in
    let f2 : c.extend_from_slice-3.new.self ≡ out ++ (a0 ++ a1 ++ a2) = puts_more out (a0 ++ a1) a2 c.extend_from_slice-2.new.self c.extend_from_slice-3.new.self f1 c.in_ok-extend_from_slice-3.ensures.ok in
    puts_last c.extend_from_slice-4.result out (a0 ++ a1 ++ a2) a3 c.extend_from_slice-3.new.self c.extend_from_slice-4.new.self f2 c.extend_from_slice-4.ensures.ok
