use Rattle.std.proofs.Common.{Some, sym, ap, ◌∙◌}
use Rattle.rctl_class.specs.NamedParts.{expr_of}
use Rattle.rctl_class.specs.Nodes.{node_of}
use Rattle.rctl_class.specs.inside.Seen.{expr_seen, name_seen, some_if}
use Rattle.rctl_class.specs.Walk.{expr_from, local_part}
use Rattle.rctl_class.specs.inside.Walk.{is_over}
use Rattle.rctl_class.proofs.Folds.{piece-Local}
use Rattle.rctl_class.proofs.Locals.{local_test, made_local, absent, present}
use Rattle.rctl_class.proofs.local.local_part.Goals as goal

pub returns-in_default : goal.returns-in_default
returns-in_default c =
    let n = node_of c.args.tree.now in
    let first = c.first_process-process.result in
    let fails = absent (is_over (name_seen first) n) (expr_from n) (sym (ap expr_seen c.in_default.is) ∙ c.in_ok-expr.ensures) in
    sym (ap (λ test. some_if test (local_part c.args.sign n)) (sym (local_test first n c.first_process-process.ensures) ∙ fails))

pub returns : goal.returns
returns c =
    let n = node_of c.args.tree.now in
    let first = c.first_process-process.result in
    let here = present (is_over (name_seen first) n) (expr_from n) (expr_of c.in-Some.expr) (sym (ap expr_seen c.in-Some.is) ∙ c.in_ok-expr.ensures) in
    ap Some (made_local c.args.sign n (piece-Local _ _) (c.in_ok-copy_some.ensures ∙ c.first_process-process.ensures) c.in_ok-signed.ensures here.1)
    ∙ sym (ap (λ test. some_if test (local_part c.args.sign n)) (sym (local_test first n c.first_process-process.ensures) ∙ here.0))
