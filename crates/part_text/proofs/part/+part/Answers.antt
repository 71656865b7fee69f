use Rattle.std.proofs.Common.{map, ◌++◌, refl, sym, ap, ◌∙◌, rules}
use Rattle.std.proofs.lemmas.Result.{on_ok_weaker}
use Rattle.std.proofs.lemmas.List.{take_all}
use Rattle.std.proofs.lemmas.Bool.Decides.{nat_tests}
use Rattle.rctl_grammar.specs.Shape.{conjunction_of, under_of, stepped}
use Rattle.rctl_print.specs.inside.Members.{each_behind}
use Rattle.rctl_print.specs.declared.joint.Joint.TheVariants.{Amp}
use Rattle.rctl_print.proofs.Printing.{put_under, put_stepped, put_more, all_text}
use Rattle.part_text.specs.inside.Members.{shape_of_part}
use Rattle.part_text.proofs.Shapes.{part-Temporal, part-Next}
use Rattle.part_text.proofs.part.+part.Goals as goal

pub put_parts-parts-preserved : goal.put_parts-parts-preserved
put_parts-parts-preserved t c =
    put_more shape_of_part Amp c.in-Some.rest.now c.parts.part-index c.part-item.result c.put_member.new.out
    c.parts.invariant c.parts-test.true c.part-item.is c.in_ok-extend_from_slice.ensures.ok refl c.in_ok-put_member-2.ensures

pub put_parts-returns : goal.put_parts-returns
put_parts-returns t c =
    all_text shape_of_part Amp c.args.parts.now c.in-Some.rest.now c.in-Some.first.now c.args.out.now
    (search rules) (search (rules, nat_tests)) c.in_ok-put_member.ensures
    (c.parts.invariant ∙ ap (λ x. c.put_member.new.out ++ each_behind Amp (map shape_of_part x)) (take_all c.parts.part-index c.in-Some.rest.now c.parts-test.false))

pub put_part-returns-in_ok-put_operator-in-Temporal :
    goal.put_part-returns-in_ok-put_operator-in-Temporal
put_part-returns-in_ok-put_operator-in-Temporal t c =
    let shape = ap shape_of_part c.in-Temporal.is ∙ part-Temporal _ _ ∙ ap (λ x. under_of c.in-Temporal.operator (conjunction_of (map shape_of_part x))) (sym c.as_slice.ensures) in
    on_ok_weaker c.put_operand.result (put_under c.in-Temporal.operator _ c.args.out.now (c.in_ok-put_operator-in-Temporal).ensures shape) c.put_operand.ensures

pub put_part-returns-in_ok-put_next-in-Next : goal.put_part-returns-in_ok-put_next-in-Next
put_part-returns-in_ok-put_next-in-Next t c =
    let shape = ap shape_of_part c.in-Next.is ∙ part-Next _ _ ∙ ap (λ x. stepped c.in-Next.process.name (conjunction_of (map shape_of_part x))) (sym (c.as_slice-in-Next).ensures) in
    on_ok_weaker c.put_operand-in-Next.result (put_stepped c.args.out.now (c.in_ok-put_next-in-Next).ensures shape) c.put_operand-in-Next.ensures
