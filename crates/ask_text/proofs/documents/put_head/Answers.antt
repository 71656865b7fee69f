use Rattle.std.proofs.Common.{◌++◌, ◌∷◌, [], codes}
use Rattle.std.specs.Fmt.{decimal}
use Rattle.view_parts.proofs.Each.{puts_more, puts_last}
use Rattle.ask_text.proofs.documents.put_head.Goals as goal

pub returns : goal.returns
returns c =
    let front = codes "TAP version 14\n1.." in
    let number = decimal c.args.questions in
    puts_last c.push.result c.args.out.now (front ++ number) (10 ∷ []) c.put_u64.new.out c.push.new.self
    (puts_more c.args.out.now front number c.extend_from_slice.new.self c.put_u64.new.out c.in_ok-extend_from_slice.ensures.ok c.in_ok-put_u64.ensures.ok)
    c.push.ensures.ok
