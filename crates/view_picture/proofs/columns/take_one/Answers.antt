use Rattle.std.proofs.Common.{◌≡◌, ◌<◌, ◌+◌, ◌++◌, ◌∷◌, [], ℕ, List, length, get_or, sym, ap, subst, ◌∙◌, arith}
use Rattle.std.specs.Prelude.{set}
use Rattle.std.proofs.lemmas.List.{get_or_read}
use Rattle.run_model.specs.Cut.{count, lengths}
use Rattle.event_log.proofs.Keeping.{item_le_sum}
use Rattle.pota_base.specs.declared.shape.EventId.{EventId}
use Rattle.view_parts.specs.Parts.{place}
use Rattle.view_picture.specs.Choice.{wants}
use Rattle.view_picture.specs.Columns.{Rows}
use Rattle.view_picture.specs.inside.Placing.{MayTake, greatest_before, column_due}
use Rattle.view_picture.proofs.Placing.{taken, next_few, sum_within}
use Rattle.view_picture.proofs.columns.take_one.Goals as goal

pub overflow_add-position : goal.overflow_add-position
overflow_add-position c =
    let o = c.args.order.now in
    let p = c.args.process in
    let may : MayTake o c.args.cut.now p = c.can_take.ensures.0 c.if-not-can_take.false in
    omega (arith, c.get-position.ensures, may.0, item_le_sum (lengths o) p, c.requires.few)

pub column_of-column-requires-clause-few : goal.column_of-column-requires-clause-few
column_of-column-requires-clause-few c =
    let o = c.args.order.now in
    let p = c.args.process in
    let cut = c.args.cut.now in
    let shown : EventId → _ = wants c.args.chooser.now.states.now c.args.chooser.now.tokens.now c.args.chooser.now.choice.now in
    let may : MayTake o cut p = c.can_take.ensures.0 c.if-not-can_take.false in
    let le = next_few o shown cut c.args.rows.now.items p c.requires.placed c.requires.process may in
    let few : greatest_before o c.args.rows.now.items (place p (count cut p + 1)) < 4294967295 = omega (arith, le, sum_within cut (lengths o) c.requires.placed.consistent.within, c.requires.few) in
    subst (λ (r : Rows). greatest_before o r (place p (c.get-position.result + 1)) < 4294967295) (sym c.deref.ensures.value)
    (subst (λ (n : ℕ). greatest_before o c.args.rows.now.items (place p (n + 1)) < 4294967295) (sym c.get-position.ensures) few)

pub returns-clause-placed : goal.returns-clause-placed
returns-clause-placed c =
    let o = c.args.order.now in
    let p = c.args.process in
    let cut = c.args.cut.now in
    let rows = c.args.rows.now.items in
    let v = c.column_of-column.result in
    let shown : EventId → _ = wants c.args.chooser.now.states.now c.args.chooser.now.tokens.now c.args.chooser.now.choice.now in
    let may : MayTake o cut p = c.can_take.ensures.0 c.if-not-can_take.false in
    let there : p < length rows = omega (arith, c.requires.process, c.requires.placed.procs) in
    let due : v ≡ column_due o shown rows (place p (count cut p + 1)) =
    c.column_of-column.ensures ∙ ap (λ (r : Rows). column_due o shown r (place p (c.get-position.result + 1))) c.deref.ensures.value ∙ ap (λ (n : ℕ). column_due o shown rows (place p (n + 1))) c.get-position.ensures in
    let row : c.push.new.self ≡ get_or rows p [] ++ v ∷ [] = c.in_ok-push.ensures.ok ∙ ap (λ (r : List ℕ). r ++ v ∷ []) (get_or_read rows p c.index_mut.result.now there c.index_mut.ensures.value []) in
    (taken o shown cut c.set.new.self rows (set rows p c.push.new.self) p v c.requires.order c.requires.placed c.requires.process may due (c.set.ensures ∙ ap (λ (n : ℕ). set cut p (n + 1)) c.get-position.ensures) (ap (λ (r : List ℕ). set rows p r) row)).0
