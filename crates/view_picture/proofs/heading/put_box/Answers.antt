use Rattle.std.proofs.Common.{◌≡◌, ◌++◌, ◌∷◌, []}
use Rattle.std.specs.Prelude.{codes}
use Rattle.view_parts.proofs.Each.{puts_more, puts_last}
use Rattle.std.specs.Fmt.{decimal}
use Rattle.view_picture.proofs.heading.put_box.Goals as goal

pub returns : goal.returns
returns c =
    let out = c.args.out.now in
    let a0 = codes " viewBox='0 0 " in
    let a1 = decimal c.args.frame.now.width in
    let a2 = 32 ∷ [] in
    let a3 = decimal c.args.frame.now.height in
    let a4 = 39 ∷ [] in
    let f0 : c.extend_from_slice.new.self ≡ out ++ a0 = c.in_ok-extend_from_slice.ensures.ok in
    let f1 : c.put_u64.new.out ≡ out ++ (a0 ++ a1) = puts_more out (a0) a1 c.extend_from_slice.new.self c.put_u64.new.out f0 c.in_ok-put_u64.ensures.ok in
    let f2 : c.push.new.self ≡ out ++ (a0 ++ a1 ++ a2) = puts_more out (a0 ++ a1) a2 c.put_u64.new.out c.push.new.self f1 c.in_ok-push.ensures.ok in
    let f3 : c.put_u64-2.new.out ≡ out ++ (a0 ++ a1 ++ a2 ++ a3) = puts_more out (a0 ++ a1 ++ a2) a3 c.push.new.self c.put_u64-2.new.out f2 c.in_ok-put_u64-2.ensures.ok in
    puts_last c.push-2.result out (a0 ++ a1 ++ a2 ++ a3) a4 c.put_u64-2.new.out c.push-2.new.self f3 c.push-2.ensures.ok
