use Rattle.std.proofs.Common.{◌≡◌, ◌++◌, ◌∷◌, []}
use Rattle.std.specs.Prelude.{codes}
use Rattle.view_parts.proofs.Each.{puts_more, puts_last}
use Rattle.view_picture.specs.Svg.{attribute}
use Rattle.view_picture.proofs.svg.put_circle.Goals as goal

pub returns : goal.returns
returns c =
    let out = c.args.out.now in
    let a0 = codes "<circle" in
    let a1 = attribute (codes "cx") c.args.at.x in
    let a2 = attribute (codes "cy") c.args.at.y in
    let a3 = attribute (codes "r") c.args.radius in
    let a4 = c.args.look.now in
    let a5 = codes "/>" ++ 10 ∷ [] in
    let f0 : c.extend_from_slice.new.self ≡ out ++ a0 = c.in_ok-extend_from_slice.ensures.ok in
    let f1 : c.put_attribute.new.out ≡ out ++ (a0 ++ a1) = puts_more out (a0) a1 c.extend_from_slice.new.self c.put_attribute.new.out f0 c.in_ok-put_attribute.ensures in
    let f2 : c.put_attribute-2.new.out ≡ out ++ (a0 ++ a1 ++ a2) = puts_more out (a0 ++ a1) a2 c.put_attribute.new.out c.put_attribute-2.new.out f1 c.in_ok-put_attribute-2.ensures in
    let f3 : c.put_attribute-3.new.out ≡ out ++ (a0 ++ a1 ++ a2 ++ a3) = puts_more out (a0 ++ a1 ++ a2) a3 c.put_attribute-2.new.out c.put_attribute-3.new.out f2 c.in_ok-put_attribute-3.ensures in
    let f4 : c.extend_from_slice-2.new.self ≡ out ++ (a0 ++ a1 ++ a2 ++ a3 ++ a4) = puts_more out (a0 ++ a1 ++ a2 ++ a3) a4 c.put_attribute-3.new.out c.extend_from_slice-2.new.self f3 c.in_ok-extend_from_slice-2.ensures.ok in
    puts_last c.extend_from_slice-3.result out (a0 ++ a1 ++ a2 ++ a3 ++ a4) a5 c.extend_from_slice-2.new.self c.extend_from_slice-3.new.self f4 c.extend_from_slice-3.ensures.ok
