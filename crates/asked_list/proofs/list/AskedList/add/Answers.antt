use Rattle.std.proofs.Common.{◌+◌, ◌∙◌, ap, sym, length, arith}
use Rattle.rctl_class.specs.NamedParts.{disjuncts_of}
use Rattle.asked_list.specs.Lists.{asked_count}
use Rattle.asked_list.proofs.Added.{both_few, with_one}
use Rattle.asked_list.proofs.list.AskedList.add.Goals as goal

pub returns-clause-list : goal.returns-clause-list
returns-clause-list c =
    let q = c.args.question in
    let slice = (c.as_slice-more).ensures in
    let few = both_few (c.len.result + length (c.as_slice-more).result.now) (c.args.self.parts + (c.asked_count-count).result) (sym c.are_few.ensures ∙ (c.if-not-are_few).false) in
    let counted = ap (λ ds. asked_count q.form (disjuncts_of ds)) slice in
    with_one c.args.self c.in_ok-with.field-0 q c.requires.list c.requires.question c.in_ok-with.ensures.adds
    (omega (arith, few.0, c.len.ensures, ap length slice))
    (omega (arith, c.in_ok-with.ensures.parts, (c.asked_count-count).ensures, few.1, counted))
    (omega (arith, c.in_ok-with.ensures.parts, few.1))
