use Rattle.std.proofs.Common.{◌≡◌, List, map, ap, ◌∙◌, subst, sym}
use Rattle.event_log.specs.declared.item.Item.{Item}
use Rattle.torn_log.specs.Items.{procs_in, ItemsStand}
use Rattle.torn_log.specs.Torn.{AreUpto, IsTornOf}
use Rattle.torn_log.proofs.Keeping.{stands_by, is_torn, torn_fits}
use Rattle.torn_log.proofs.Parts.{same_items}
use Rattle.torn_log.proofs.torn.whole_beginning.Goals as goal

pub upto_greatest-requires : goal.upto_greatest-requires
upto_greatest-requires c =
    let procs = c.procs_in-procs.ensures ∙ ap procs_in c.as_slice.ensures in
    subst (ItemsStand c.procs_in-procs.result) (sym (same_items c.args.items)) (stands_by c.args.items c.procs_in-procs.result c.requires procs)

pub returns-clause-beginning : goal.returns-clause-beginning
returns-clause-beginning c =
    let procs = c.procs_in-procs.ensures ∙ ap procs_in c.as_slice.ensures in
    let kept = c.in_ok-parts.field-0.parts in
    let left = c.in_ok-parts.field-0.left_out in
    is_torn c.args.items kept left c.procs_in-procs.result procs
    (subst (λ (items : List Item). AreUpto c.procs_in-procs.result items kept left) (same_items c.args.items)
    (subst (λ (xs : List Item). AreUpto c.procs_in-procs.result (map (λ (i : Item). i) c.args.items) xs left) (same_items kept) c.in_ok-parts.ensures))

pub returns-clause-fit : goal.returns-clause-fit
returns-clause-fit c =
    let procs = c.procs_in-procs.ensures ∙ ap procs_in c.as_slice.ensures in
    let kept = c.in_ok-parts.field-0.parts in
    let left = c.in_ok-parts.field-0.left_out in
    torn_fits c.args.items (record { items = kept; left_out = left }) c.requires
    (is_torn c.args.items kept left c.procs_in-procs.result procs
    (subst (λ (items : List Item). AreUpto c.procs_in-procs.result items kept left) (same_items c.args.items)
    (subst (λ (xs : List Item). AreUpto c.procs_in-procs.result (map (λ (i : Item). i) c.args.items) xs left) (same_items kept) c.in_ok-parts.ensures)))
