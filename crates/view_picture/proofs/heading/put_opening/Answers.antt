use Rattle.std.proofs.Common.{◌≡◌, ◌++◌, ◌∷◌, []}
use Rattle.std.specs.Prelude.{codes}
use Rattle.view_parts.proofs.Each.{puts_more, puts_last}
use Rattle.view_picture.specs.Picture.{size, box_text, root_look}
use Rattle.view_picture.proofs.heading.put_opening.Goals as goal

pub returns : goal.returns
returns c =
    let out = c.args.out.now in
    let a0 = codes "<svg xmlns='http://www.w3.org/2000/svg' version='1.1'" in
    let a1 = size c.args.frame.now in
    let a2 = box_text c.args.frame.now in
    let a3 = root_look in
    let a4 = codes ">" ++ 10 ∷ codes "<rect" in
    let a5 = size c.args.frame.now in
    let a6 = codes " fill='#ffffff'/>" ++ 10 ∷ [] in
    let f0 : c.extend_from_slice.new.self ≡ out ++ a0 = c.in_ok-extend_from_slice.ensures.ok in
    let f1 : c.put_size.new.out ≡ out ++ (a0 ++ a1) = puts_more out (a0) a1 c.extend_from_slice.new.self c.put_size.new.out f0 c.in_ok-put_size.ensures in
    let f2 : c.put_box.new.out ≡ out ++ (a0 ++ a1 ++ a2) = puts_more out (a0 ++ a1) a2 c.put_size.new.out c.put_box.new.out f1 c.in_ok-put_box.ensures in
    let f3 : c.extend_from_slice-2.new.self ≡ out ++ (a0 ++ a1 ++ a2 ++ a3) = puts_more out (a0 ++ a1 ++ a2) a3 c.put_box.new.out c.extend_from_slice-2.new.self f2 c.in_ok-extend_from_slice-2.ensures.ok in
    let f4 : c.extend_from_slice-3.new.self ≡ out ++ (a0 ++ a1 ++ a2 ++ a3 ++ a4) = puts_more out (a0 ++ a1 ++ a2 ++ a3) a4 c.extend_from_slice-2.new.self c.extend_from_slice-3.new.self f3 c.in_ok-extend_from_slice-3.ensures.ok in
    let f5 : c.put_size-2.new.out ≡ out ++ (a0 ++ a1 ++ a2 ++ a3 ++ a4 ++ a5) = puts_more out (a0 ++ a1 ++ a2 ++ a3 ++ a4) a5 c.extend_from_slice-3.new.self c.put_size-2.new.out f4 c.in_ok-put_size-2.ensures in
    puts_last c.extend_from_slice-4.result out (a0 ++ a1 ++ a2 ++ a3 ++ a4 ++ a5) a6 c.put_size-2.new.out c.extend_from_slice-4.new.self f5 c.extend_from_slice-4.ensures.ok
