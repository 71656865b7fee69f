use Rattle.std.proofs.Common.{sym, ap, ◌∙◌}
use Rattle.rctl_class.specs.Nodes.{node_of}
use Rattle.rctl_class.specs.inside.Seen.{place_seen}
use Rattle.rctl_class.specs.Uses.{uses_of}
use Rattle.rctl_class.specs.Walk.{first_place}
use Rattle.rctl_class.proofs.Folds.{node-Until}
use Rattle.rctl_class.proofs.Members.{place_found, place_missed, first_found, first_later}
use Rattle.rctl_class.proofs.local.+process.Goals as goal

pub first_of_members-returns-in-Some : goal.first_of_members-returns-in-Some
first_of_members-returns-in-Some t c =
    place_found c.args.members.now c.members.member-index c.member-item.result _ c.members-test.true c.member-item.is c.members.invariant
    (sym c.first_process.ensures ∙ ap place_seen c.in-Some.is)

pub first_of_members-members-preserved : goal.first_of_members-members-preserved
first_of_members-members-preserved t c =
    place_missed c.args.members.now c.members.member-index c.member-item.result c.members-test.true c.member-item.is c.members.invariant
    (sym c.first_process.ensures ∙ ap place_seen c.in_default.is)

pub first_process-returns-in-Some : goal.first_process-returns-in-Some
first_process-returns-in-Some t c = sym (
    ap (λ t. first_place (uses_of (node_of t))) c.in-Until.is ∙ ap (λ n. first_place (uses_of n)) (node-Until _ _ _ _)
    ∙ first_found (uses_of (node_of c.in-Until.left)) (uses_of (node_of c.in-Until.right))
    (ap (λ t. first_place (uses_of (node_of t))) (sym (c.get-in-Until).ensures) ∙ sym (c.first_process-in-Until).ensures ∙ ap place_seen c.in-Some.is))

pub first_process-returns-in-None : goal.first_process-returns-in-None
first_process-returns-in-None t c =
    (c.first_process-in-None).ensures ∙ ap (λ t. first_place (uses_of (node_of t))) (c.get-in-None).ensures ∙ sym (
    ap (λ t. first_place (uses_of (node_of t))) c.in-Until.is ∙ ap (λ n. first_place (uses_of n)) (node-Until _ _ _ _)
    ∙ first_later (uses_of (node_of c.in-Until.left)) (uses_of (node_of c.in-Until.right))
    (ap (λ t. first_place (uses_of (node_of t))) (sym (c.get-in-Until).ensures) ∙ sym (c.first_process-in-Until).ensures ∙ ap place_seen c.in-None.is))
