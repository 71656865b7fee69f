use Rattle.std.proofs.Common.{◌∷◌, [], map, sym, ap, ◌∙◌}
use Rattle.std.proofs.lemmas.List.{map-append}
use Rattle.rctl_class.specs.NamedParts.{expr_of, exprs}
use Rattle.rctl_class.specs.Nodes.{node_of, nodes_of}
use Rattle.rctl_class.specs.inside.Seen.{expr_seen, name_seen, some_if}
use Rattle.rctl_class.specs.Walk.{expr_from, exprs_from}
use Rattle.rctl_class.specs.inside.Walk.{is_over}
use Rattle.rctl_class.proofs.Locals.{absent, present}
use Rattle.rctl_class.proofs.Members.{over_more, over_fails, exprs_more}
use Rattle.rctl_class.proofs.local.+expr.Goals as goal

pub exprs_at-returns-in_default : goal.exprs_at-returns-in_default
exprs_at-returns-in_default t c =
    let fails = absent (is_over (name_seen c.args.process) (node_of c.member-item.result)) (expr_from (node_of c.member-item.result))
    (sym (ap expr_seen c.in_default.is) ∙ c.in_ok-expr.ensures) in
    sym (ap (λ test. some_if test (exprs_from (nodes_of (map node_of c.args.members.now))))
    (over_fails (name_seen c.args.process) c.args.members.now c.members.member-index c.member-item.result c.members-test.true c.member-item.is c.members.invariant.0 fails))

pub exprs_at-members-preserved : goal.exprs_at-members-preserved
exprs_at-members-preserved t c =
    let here = present (is_over (name_seen c.args.process) (node_of c.member-item.result)) (expr_from (node_of c.member-item.result)) (expr_of c.in-Some.expr)
    (sym (ap expr_seen c.in-Some.is) ∙ c.in_ok-expr.ensures) in (
      over_more (name_seen c.args.process) c.args.members.now c.members.member-index c.member-item.result c.members-test.true c.member-item.is c.members.invariant.0 here.0,
      ap (λ es. exprs (map expr_of es)) c.in_ok-push.ensures.ok ∙ ap exprs (map-append expr_of c.members.exprs (c.in-Some.expr ∷ []))
          ∙ exprs_more c.args.members.now c.members.member-index c.member-item.result (map expr_of c.members.exprs) (expr_of c.in-Some.expr) c.members-test.true c.member-item.is c.members.invariant.1 here.1,
    )
