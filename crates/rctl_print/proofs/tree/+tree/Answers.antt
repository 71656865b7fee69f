use Rattle.std.proofs.Common.{map, ◌++◌, sym, ap, ◌∙◌, rules}
use Rattle.std.proofs.lemmas.Result.{on_ok_weaker}
use Rattle.std.proofs.lemmas.List.{take_all}
use Rattle.std.proofs.lemmas.Bool.Decides.{nat_tests}
use Rattle.rctl_grammar.specs.Shape.{shape_of, not, under_of, stepped, until_of}
use Rattle.rctl_grammar.proofs.Shapes.{shape-Not, shape-Temporal, shape-Next, shape-Until}
use Rattle.rctl_print.specs.inside.Members.{each_behind}
use Rattle.rctl_print.proofs.Printing.{put_not, put_under, put_stepped, put_until, put_more, all_text}
use Rattle.rctl_print.proofs.tree.+tree.Goals as goal

pub put_joined-members-preserved : goal.put_joined-members-preserved
put_joined-members-preserved t c =
    put_more shape_of c.args.joint c.in-Some.rest.now c.members.member-index c.member-item.result c.put_member.new.out
    c.members.invariant c.members-test.true c.member-item.is c.in_ok-extend_from_slice.ensures.ok c.text.ensures c.in_ok-put_member-2.ensures

pub put_joined-returns : goal.put_joined-returns
put_joined-returns t c =
    all_text shape_of c.args.joint c.args.members.now c.in-Some.rest.now c.in-Some.first.now c.args.out.now
    (search rules) (search (rules, nat_tests)) c.in_ok-put_member.ensures
    (c.members.invariant ∙ ap (λ x. c.put_member.new.out ++ each_behind c.args.joint (map shape_of x)) (take_all c.members.member-index c.in-Some.rest.now c.members-test.false))

pub put_tree-returns-in_ok-extend_from_slice-in-Not :
    goal.put_tree-returns-in_ok-extend_from_slice-in-Not
put_tree-returns-in_ok-extend_from_slice-in-Not t c =
    let shape = ap shape_of c.in-Not.is ∙ shape-Not _ _ ∙ ap (λ x. not (shape_of x)) (sym c.get.ensures) in
    on_ok_weaker c.put_member.result (put_not c.args.out.now c.in_ok-extend_from_slice-in-Not.ensures.ok shape) c.put_member.ensures

pub put_tree-returns-in_ok-put_operator-in-Temporal : goal.put_tree-returns-in_ok-put_operator-in-Temporal
put_tree-returns-in_ok-put_operator-in-Temporal t c =
    let shape = ap shape_of c.in-Temporal.is ∙ shape-Temporal _ _ _ ∙ ap (λ x. under_of c.in-Temporal.operator (shape_of x)) (sym (c.get-in-Temporal).ensures) in
    on_ok_weaker c.put_member-in-Temporal.result (put_under c.in-Temporal.operator _ c.args.out.now (c.in_ok-put_operator-in-Temporal).ensures shape) c.put_member-in-Temporal.ensures

pub put_tree-returns-in_ok-put_next-in-Next : goal.put_tree-returns-in_ok-put_next-in-Next
put_tree-returns-in_ok-put_next-in-Next t c =
    let shape = ap shape_of c.in-Next.is ∙ shape-Next _ _ _ ∙ ap (λ x. stepped c.in-Next.process.name (shape_of x)) (sym (c.get-in-Next).ensures) in
    on_ok_weaker c.put_member-in-Next.result (put_stepped c.args.out.now (c.in_ok-put_next-in-Next).ensures shape) c.put_member-in-Next.ensures

pub put_tree-returns-in_ok-put_tree-in-Until-2 : goal.put_tree-returns-in_ok-put_tree-in-Until-2
put_tree-returns-in_ok-put_tree-in-Until-2 t c =
    let shape = ap shape_of c.in-Until.is ∙ shape-Until _ _ _ _ ∙ ap (λ x. until_of c.in-Until.all (shape_of x) (shape_of c.in-Until.right)) (sym (c.get-in-Until).ensures)
    ∙ ap (λ x. until_of c.in-Until.all (shape_of (c.get-in-Until).result.now) (shape_of x)) (sym (c.get-in-Until-2).ensures) in
    on_ok_weaker (c.extend_from_slice-in-Until-4).result
    (put_until c.args.out.now (c.in_ok-extend_from_slice-in-Until).ensures.ok c.until_word.ensures (c.in_ok-extend_from_slice-in-Until-2).ensures.ok
    c.in_ok-put_tree-in-Until.ensures (c.in_ok-extend_from_slice-in-Until-3).ensures.ok c.in_ok-put_tree-in-Until-2.ensures shape)
    (c.extend_from_slice-in-Until-4).ensures.ok
