use Rattle.std.proofs.Common.{◌++◌, ◌∷◌, [], true, sym, ap, ◌∙◌}
use Rattle.std.proofs.lemmas.List.{map-append}
use Rattle.rctl_round_trip.proofs.PassedOn.{passes_on}
use Rattle.run_model.specs.Class.{is_local}
use Rattle.rctl_class.specs.NamedParts.{piece_of, pieces_of}
use Rattle.rctl_class.specs.Nodes.{node_of, formula_of, under, stepping}
use Rattle.rctl_class.specs.inside.Seen.{part_seen}
use Rattle.rctl_class.specs.Walk.{local_part}
use Rattle.rctl_class.proofs.Folds.{node-Leaf, node-Temporal, node-Next}
use Rattle.rctl_class.proofs.Locals.{absent, present, local_free, local_parts, leaf_alone, under_made, next_made}
use Rattle.rctl_class.proofs.Members.{free_more, fault_found, parts_more}
use Rattle.rctl_class.proofs.walk.+inside.Goals as goal

pub conjunction-returns-in-Some : goal.conjunction-returns-in-Some
conjunction-returns-in-Some t c =
    let n = node_of c.args.tree.now in
    let here = present (is_local (formula_of n)) (local_part c.args.sign n) (piece_of c.in-Some.part) (sym (ap part_seen c.in-Some.is) ∙ c.in_ok-part.ensures) in (
      local_free true c.args.sign n here.0,
      ap pieces_of c.in_ok-push.ensures.ok ∙ map-append piece_of c.args.parts.now (c.in-Some.part ∷ [])
          ∙ ap (λ p. pieces_of c.args.parts.now ++ p ∷ []) here.1 ∙ ap (λ ps. pieces_of c.args.parts.now ++ ps) (sym (local_parts c.args.sign n here.0)),
    )

pub conjunction-returns-in-Leaf : goal.conjunction-returns-in-Leaf
conjunction-returns-in-Leaf t c =
    let n = node_of c.args.tree.now in
    let other = absent (is_local (formula_of n)) (local_part c.args.sign n) (sym (ap part_seen c.in_default.is) ∙ c.in_ok-part.ensures) in
    let alone = leaf_alone c.args.sign c.in-Leaf.atom c.in-Leaf.at n (ap node_of c.in-Leaf.is ∙ node-Leaf _ _) other in
    rw (alone.0, alone.1) c.push_leaf.ensures

pub conjunction-returns-in_ok-push-in-Temporal : goal.conjunction-returns-in_ok-push-in-Temporal
conjunction-returns-in_ok-push-in-Temporal t c =
    let is = ap node_of c.in-Temporal.is ∙ node-Temporal _ _ _ ∙ ap (λ t. under c.in-Temporal.operator (node_of t) c.in-Temporal.at) (sym (c.get-in-Temporal).ensures) in
    under_made c.args.sign c.in-Temporal.operator c.in-Temporal.at (node_of c.args.tree.now) (node_of (c.get-in-Temporal).result.now) c.args.parts.now c.new-operand.result c.conjunction-in-Temporal.new.parts is
    (c.in_ok-judge-in-Temporal).ensures (c.in_ok-conjunction-in-Temporal).ensures.0 c.new-operand.ensures (c.in_ok-conjunction-in-Temporal).ensures.1
    (c.in_ok-push-in-Temporal).ensures.ok

pub conjunction-returns-in_ok-push-in-Next : goal.conjunction-returns-in_ok-push-in-Next
conjunction-returns-in_ok-push-in-Next t c =
    let is = ap node_of c.in-Next.is ∙ node-Next _ _ _ ∙ ap (λ t. stepping c.in-Next.process (node_of t) c.in-Next.at) (sym (c.get-in-Next).ensures) in
    next_made c.args.sign c.in-Next.process c.in-Next.at (node_of c.args.tree.now) (node_of (c.get-in-Next).result.now) c.args.parts.now c.new-operand-in-Next.result c.conjunction-in-Next.new.parts is
    (c.in_ok-judge_sign-in-Next).ensures (c.in_ok-conjunction-in-Next).ensures.0 c.new-operand-in-Next.ensures (c.in_ok-conjunction-in-Next).ensures.1
    (c.in_ok-copy_place-in-Next).ensures (c.in_ok-push-in-Next).ensures.ok

pub conjunctions-returns-in_err-conjunction : goal.conjunctions-returns-in_err-conjunction
conjunctions-returns-in_err-conjunction t c = passes_on _ _ _ c.in_err-conjunction.field-0.0 _ _ c.from_residual.ensures.1 (λ y same. same) c.in_err-conjunction.ensures
    (λ f bad. fault_found true c.args.sign c.args.members.now c.members.member-index c.member-item.result f c.members-test.true c.member-item.is c.members.invariant.0 bad)

pub conjunctions-members-preserved : goal.conjunctions-members-preserved
conjunctions-members-preserved t c = (
  free_more true c.args.sign c.args.members.now c.members.member-index c.member-item.result c.members-test.true c.member-item.is c.members.invariant.0 c.in_ok-conjunction.ensures.0,
  parts_more c.args.sign c.args.members.now c.members.member-index c.member-item.result _ c.members-test.true c.member-item.is c.members.invariant.1 c.in_ok-conjunction.ensures.1,
)
