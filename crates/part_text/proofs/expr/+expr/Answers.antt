use Rattle.std.proofs.Common.{map, ◌++◌, sym, ap, ◌∙◌, rules}
use Rattle.std.proofs.lemmas.Result.{on_ok_weaker}
use Rattle.std.proofs.lemmas.List.{take_all}
use Rattle.std.proofs.lemmas.Bool.Decides.{nat_tests}
use Rattle.rctl_grammar.specs.Shape.{not}
use Rattle.rctl_print.specs.inside.Members.{each_behind}
use Rattle.rctl_print.proofs.Printing.{put_not, put_more, all_text}
use Rattle.part_text.specs.inside.Members.{joint_of, shape_over}
use Rattle.part_text.proofs.Shapes.{over-Watch, over-Not, put_watch}
use Rattle.part_text.proofs.expr.+expr.Goals as goal

pub put_joined-members-preserved : goal.put_joined-members-preserved
put_joined-members-preserved t c =
    put_more (shape_over c.args.process.now) (joint_of c.args.joined) c.in-Some.rest.now c.members.member-index c.member-item.result c.put_member.new.out
    c.members.invariant c.members-test.true c.member-item.is c.in_ok-extend_from_slice.ensures.ok c.text.ensures c.in_ok-put_member-2.ensures

pub put_joined-returns : goal.put_joined-returns
put_joined-returns t c =
    all_text (shape_over c.args.process.now) (joint_of c.args.joined) c.args.members.now c.in-Some.rest.now c.in-Some.first.now c.args.out.now
    (search rules) (search (rules, nat_tests)) c.in_ok-put_member.ensures
    (c.members.invariant ∙ ap (λ x. c.put_member.new.out ++ each_behind (joint_of c.args.joined) (map (shape_over c.args.process.now) x)) (take_all c.members.member-index c.in-Some.rest.now c.members-test.false))

pub put_expr-returns-in_ok-extend_from_slice-in-Not :
    goal.put_expr-returns-in_ok-extend_from_slice-in-Not
put_expr-returns-in_ok-extend_from_slice-in-Not t c =
    let shape = ap (shape_over c.args.process.now) c.in-Not.is ∙ over-Not c.args.process.now _ ∙ ap (λ x. not (shape_over c.args.process.now x)) (sym c.get.ensures) in
    on_ok_weaker c.put_member.result (put_not c.args.out.now c.in_ok-extend_from_slice-in-Not.ensures.ok shape) c.put_member.ensures

pub put_expr-returns-in-Watch : goal.put_expr-returns-in-Watch
put_expr-returns-in-Watch t c =
    let shape = ap (shape_over c.args.process.now) c.in-Watch.is ∙ over-Watch c.args.process.now _ in
    on_ok_weaker c.put_pair.result (put_watch c.args.out.now c.args.process.now shape) c.put_pair.ensures
