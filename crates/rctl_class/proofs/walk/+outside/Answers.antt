use Rattle.std.proofs.Common.{◌++◌, ◌∷◌, [], false, sym, ap, ◌∙◌}
use Rattle.rctl_round_trip.proofs.PassedOn.{passes_on}
use Rattle.run_model.specs.Class.{is_local}
use Rattle.rctl_class.specs.NamedParts.{piece_of, disjuncts_of}
use Rattle.rctl_class.specs.Nodes.{node_of, formula_of}
use Rattle.rctl_class.specs.inside.Seen.{part_seen}
use Rattle.rctl_class.specs.Walk.{local_part}
use Rattle.rctl_class.proofs.Locals.{present, local_free, local_disjuncts}
use Rattle.rctl_class.proofs.Members.{free_more, fault_found, disjuncts_more}
use Rattle.rctl_class.proofs.walk.+outside.Goals as goal

pub disjunction-returns-in-Some : goal.disjunction-returns-in-Some
disjunction-returns-in-Some t c =
    let n = node_of c.args.tree.now in
    let here = present (is_local (formula_of n)) (local_part c.args.sign n) (piece_of c.in-Some.part) (sym (ap part_seen c.in-Some.is) ∙ c.in_ok-part.ensures) in (
      local_free false c.args.sign n here.0,
      c.in_ok-push_part.ensures ∙ ap (λ p. disjuncts_of c.args.disjuncts.now ++ (p ∷ []) ∷ []) here.1
          ∙ ap (λ ds. disjuncts_of c.args.disjuncts.now ++ ds) (sym (local_disjuncts c.args.sign n here.0)),
    )

pub disjunctions-returns-in_err-disjunction : goal.disjunctions-returns-in_err-disjunction
disjunctions-returns-in_err-disjunction t c = passes_on _ _ _ c.in_err-disjunction.field-0.0 _ _ c.from_residual.ensures.1 (λ y same. same) c.in_err-disjunction.ensures
    (λ f bad. fault_found false c.args.sign c.args.members.now c.members.member-index c.member-item.result f c.members-test.true c.member-item.is c.members.invariant.0 bad)

pub disjunctions-members-preserved : goal.disjunctions-members-preserved
disjunctions-members-preserved t c = (
  free_more false c.args.sign c.args.members.now c.members.member-index c.member-item.result c.members-test.true c.member-item.is c.members.invariant.0 c.in_ok-disjunction.ensures.0,
  disjuncts_more c.args.sign c.args.members.now c.members.member-index c.member-item.result _ c.members-test.true c.member-item.is c.members.invariant.1 c.in_ok-disjunction.ensures.1,
)
