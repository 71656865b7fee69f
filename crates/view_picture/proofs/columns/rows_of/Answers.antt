use Rattle.std.proofs.Common.{◌≡◌, ◌-◌, ◌<◌, ℕ, [], length, replicate, sym, ap, ◌∙◌, arith, inl, inr}
use Rattle.std.specs.Prelude.{sum}
use Rattle.std.proofs.lemmas.Bool.{cases_lt, false≢true}
use Rattle.std.proofs.lemmas.List.{get_or_past}
use Rattle.run_model.specs.Cut.{lengths}
use Rattle.run_model.proofs.Counts.{length-lengths}
use Rattle.event_log.proofs.Keeping.{item_le_sum}
use Rattle.pota_base.specs.declared.shape.EventId.{EventId}
use Rattle.view_picture.specs.Choice.{wants}
use Rattle.view_picture.proofs.Placing.{placed_first, placed_all, goes_on, sum_within}
use Rattle.view_picture.proofs.columns.rows_of.Goals as goal

pub events-init : goal.events-init
events-init c =
    let o = c.args.order.now in
    let shown : EventId → _ = wants c.args.chooser.now.states.now c.args.chooser.now.tokens.now c.args.chooser.now.choice.now in
    let n : c.procs.result ≡ length o = c.procs.ensures.count ∙ ap length c.shape-shape.ensures.lens ∙ length-lengths o in
    let m : c.procs-2.result ≡ length o = c.procs-2.ensures.count ∙ ap length c.shape-shape.ensures.lens ∙ length-lengths o in
    placed_first o shown c.in_ok-cut.cut c.in_ok-rows.rows.items c.procs.result n (c.in_ok-cut.ensures ∙ ap (λ (k : ℕ). replicate k 0) (m ∙ sym n)) c.in_ok-rows.ensures

pub is_final-requires : goal.is_final-requires
is_final-requires c = ap length c.shape-shape.ensures.lens ∙ length-lengths c.args.order.now ∙ sym c.events.invariant.consistent.shaped

pub events-smaller : goal.events-smaller
events-smaller c =
    let o = c.args.order.now in
    let not_final : c.events.cut ≡ lengths o → ⊥ = λ e. false≢true (sym c.events-test.true ∙ c.is_final.ensures.1 (e ∙ sym c.shape-shape.ensures.lens)) in
    let less : sum (lengths o) - sum c.take_each.new.cut < sum (lengths o) - sum c.events.cut = elim c.in_ok-take_each.ensures.more [
      | inl more ↦ omega (arith, more, sum_within c.take_each.new.cut (lengths o) c.in_ok-take_each.ensures.placed.consistent.within)
      | inr none ↦ let on = goes_on o c.events.cut c.shape-shape.ensures.order c.events.invariant.consistent not_final in absurd (none on.0 on.1 on.2)
    ] in
    less

pub returns-clause-columns : goal.returns-clause-columns
returns-clause-columns c =
    let shown : EventId → _ = wants c.args.chooser.now.states.now c.args.chooser.now.tokens.now c.args.chooser.now.choice.now in
    placed_all c.args.order.now shown c.events.cut c.events.rows.items c.shape-shape.ensures.order (c.is_final.ensures.0 c.events-test.false ∙ c.shape-shape.ensures.lens) c.events.invariant

pub returns-clause-few : goal.returns-clause-few
returns-clause-few c = omega (arith, c.events.invariant.procs, length-lengths c.args.order.now, c.shape-shape.ensures.shape.few)

pub returns-clause-small : goal.returns-clause-small
returns-clause-small c p =
    let o = c.args.order.now in
    elim (cases_lt p (length o)) [
      | inl lt ↦ omega (arith, c.events.invariant.widths p lt, c.events.invariant.consistent.within p, item_le_sum (lengths o) p, c.shape-shape.ensures.shape.events)
      | inr ge ↦ omega (arith, ap length (get_or_past c.events.rows.items p [] (omega (arith, c.events.invariant.procs, ge))))
    ]
