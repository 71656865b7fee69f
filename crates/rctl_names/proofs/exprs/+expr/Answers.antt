use Rattle.std.proofs.Common.{◌∷◌, [], List, map, take, drop, sym, ap, ◌∙◌, subst, ◌+◌}
use Rattle.std.proofs.lemmas.List.{map-append}
use Rattle.rctl_parse.proofs.LeafSteps.{passes_on}
use Rattle.rctl_class.specs.NamedParts as named
use Rattle.rctl_class.specs.NamedParts.{expr_of as named_of, exprs as named_list}
use Rattle.rctl_parts.specs.Exprs.{expr_of, exprs}
use Rattle.rctl_names.specs.inside.Numbers.{Watched, all_local_names}
use Rattle.rctl_names.specs.inside.Resolving.{AreExprsIn, fault_on}
use Rattle.rctl_names.specs.inside.Seen.{variables_on, watched_in}
use Rattle.rctl_names.proofs.Joined.{taken_split, taken_more, after_names, expr_fails, expr_passes, expr_after, exprs_more}
use Rattle.rctl_names.proofs.exprs.+expr.Goals as goal

pub resolve_exprs-returns-in_err-resolve_expr : goal.resolve_exprs-returns-in_err-resolve_expr
resolve_exprs-returns-in_err-resolve_expr t c =
    let i = c.members.member-index in
    let all = c.args.members.now in
    passes_on _ _ _ c.in_err-resolve_expr.field-0.0 _ _ c.from_residual.ensures.1 (λ y same. same) c.in_err-resolve_expr.ensures
    (λ f bad. ap (λ es. fault_on c.args.on.now c.args.watches.now (all_local_names (named_list es))) (taken_split named_of all i c.member-item.result c.members-test.true c.member-item.is)
    ∙ expr_fails (variables_on c.args.on.now) c.args.on.now.number (watched_in c.args.watches.now) (watched_in c.members.watches) (map named_of (take i all)) (map named_of (drop (i + 1) all))
    (named_of c.member-item.result) f c.members.invariant.0.0 c.members.invariant.0.1 bad)

pub resolve_exprs-members-preserved : goal.resolve_exprs-members-preserved
resolve_exprs-members-preserved t c =
    let i = c.members.member-index in
    let all = c.args.members.now in
    let m = c.member-item.result in
    let xs = map named_of (take i all) in
    let before = c.args.watches.now in
    let now = c.members.watches in
    let on = c.args.on.now in
    let so_far = c.members.invariant in
    let here = c.in_ok-resolve_expr.ensures in
    let P : List named.Expr → Type 0 = λ es. AreExprsIn on before c.resolve_expr.new.watches (named_list es) (exprs (map expr_of c.push.new.self)) in
    subst P (sym (taken_more named_of all i m c.members-test.true c.member-item.is)) (
      (
        expr_passes (variables_on on) on.number (watched_in before) (watched_in now) xs (named_of m) so_far.0.0 so_far.0.1 here.0.0,
        expr_after on.number (watched_in before) (watched_in now) (watched_in c.resolve_expr.new.watches) xs (named_of m) so_far.0.1 here.0.1,
      ),
      ap (λ es. exprs (map expr_of es)) c.in_ok-push.ensures.ok ∙ ap exprs (map-append expr_of c.members.made (c.in_ok-resolve_expr.field-0 ∷ []))
          ∙ exprs_more (variables_on on) before.names.now now.names.now xs (named_of m) (map expr_of c.members.made) (expr_of c.in_ok-resolve_expr.field-0)
          (ap (λ (w : Watched). w.names) so_far.0.1 ∙ after_names on.number (watched_in before) (all_local_names (named_list xs))) so_far.1 here.1,
    )
