use Rattle.std.proofs.Common.{◌≡◌, ◌++◌, ◌∷◌, []}
use Rattle.std.specs.Prelude.{codes}
use Rattle.view_parts.proofs.Each.{puts_more, puts_last}
use Rattle.view_picture.proofs.heading.put_arrow_head.Goals as goal

pub returns : goal.returns
returns c =
    let out = c.args.out.now in
    let a0 = codes "<marker id='" in
    let a1 = c.args.name.now in
    let a2 = codes "' viewBox='0 0 20 8' refX='23' refY='4' markerWidth='20' markerHeight='8'" in
    let a3 = codes " markerUnits='userSpaceOnUse' orient='auto'><path d='M0 0 L8 4 L0 8 z' fill='" in
    let a4 = c.args.color.now in
    let a5 = codes "'/></marker>" ++ 10 ∷ [] in
    let f0 : c.extend_from_slice.new.self ≡ out ++ a0 = c.in_ok-extend_from_slice.ensures.ok in
    let f1 : c.extend_from_slice-2.new.self ≡ out ++ (a0 ++ a1) = puts_more out (a0) a1 c.extend_from_slice.new.self c.extend_from_slice-2.new.self f0 c.in_ok-extend_from_slice-2.ensures.ok in
    let f2 : c.extend_from_slice-3.new.self ≡ out ++ (a0 ++ a1 ++ a2) = puts_more out (a0 ++ a1) a2 c.extend_from_slice-2.new.self c.extend_from_slice-3.new.self f1 c.in_ok-extend_from_slice-3.ensures.ok in
    let f3 : c.extend_from_slice-4.new.self ≡ out ++ (a0 ++ a1 ++ a2 ++ a3) = puts_more out (a0 ++ a1 ++ a2) a3 c.extend_from_slice-3.new.self c.extend_from_slice-4.new.self f2 c.in_ok-extend_from_slice-4.ensures.ok in
    let f4 : c.extend_from_slice-5.new.self ≡ out ++ (a0 ++ a1 ++ a2 ++ a3 ++ a4) = puts_more out (a0 ++ a1 ++ a2 ++ a3) a4 c.extend_from_slice-4.new.self c.extend_from_slice-5.new.self f3 c.in_ok-extend_from_slice-5.ensures.ok in
    puts_last c.extend_from_slice-6.result out (a0 ++ a1 ++ a2 ++ a3 ++ a4) a5 c.extend_from_slice-5.new.self c.extend_from_slice-6.new.self f4 c.extend_from_slice-6.ensures.ok
