use Rattle.std.proofs.Common.{rules, ◌≡◌, ◌+◌, List, ℕ, length, sum, replicate, ap, sym, subst, ◌∙◌, arith}
use Rattle.std.proofs.lemmas.List.{length-replicate}
use Rattle.pota_base.specs.Shape.{HasEvent, row_of}
use Rattle.pota_base.specs.declared.shape.EventId.{EventId}
use Rattle.run_model.specs.Cut.{Cut, lengths, IsWithin}
use Rattle.temporal_slice.proofs.Asked.{AsksBelow, asks_first, asks_next, asks_all, asked_within}
use Rattle.temporal_slice.proofs.Rows.{first_behind}
use Rattle.temporal_slice.proofs.always.asked_of_all.Goals as goal

pub loop-row-init : goal.loop-row-init
loop-row-init c = record {
  width = ap length c.copy_from_slice.ensures.after ∙ c.words.ensures.width;
  asks = asks_first c.args.order.now c.args.child.now c.words.result.now c.copy_from_slice.new.self c.requires.fits.shape (omega (arith, c.shape.ensures.rows.cuts.shape.some))
      c.words.ensures.words c.copy_from_slice.ensures.after;
  process = omega (arith, ap (λ (e : EventId). e.process) c.before_all-before.ensures, c.shape-shape.ensures.shape.some);
  behind = first_behind (lengths c.args.order.now) c.before_all-before.result c.before_all-before.ensures;
}

pub loop-row-preserved : goal.loop-row-preserved
loop-row-preserved c =
    let there = subst (λ (lens : List ℕ). HasEvent lens c.event_behind-event.result) c.shape-shape.ensures.lens c.event_behind-event.ensures.there in
    let at : row_of (lengths c.args.order.now) c.event_behind-event.result ≡ c.loop-row.row =
    subst (λ (lens : List ℕ). row_of lens c.event_behind-event.result ≡ c.loop-row.row) c.shape-shape.ensures.lens c.event_behind-event.ensures.row in
    record {
      width = c.raise_beyond.ensures.width ∙ c.loop-row.invariant.width;
      asks = asks_next c.args.order.now c.shape-shape.ensures.order c.args.child.now c.loop-row.row c.event_behind-event.result c.words-words.result.now c.clock.result.now
          c.loop-row.room c.raise_beyond.new.into c.requires.fits.shape c.shape.ensures.rows.cuts.shape.some c.loop-row.invariant.asks there at
          c.words-words.ensures.words c.clock.ensures.clock c.raise_beyond.ensures.raised;
      process = omega (arith, there.process);
      behind = omega (arith, at);
    }

pub set_words-requires-clause-width : goal.set_words-requires-clause-width
set_words-requires-clause-width c =
    omega (arith, ap length c.in_ok-asked.ensures, length-replicate {A = ℕ} c.procs-procs.result 0, c.procs-procs.ensures.count, ap length c.shape.ensures.lens, c.loop-row.invariant.width)

pub set_words-requires-clause-few : goal.set_words-requires-clause-few
set_words-requires-clause-few c = omega (arith, c.loop-row.invariant.width, c.shape.ensures.rows.cuts.shape.few)

pub returns-clause-within : goal.returns-clause-within
returns-clause-within c =
    let asks = asks_all c.args.order.now c.args.child.now c.loop-row.row c.loop-row.room (omega (arith, c.loop-row-test.false, c.events-row-end.ensures.count, ap sum c.shape-shape.ensures.lens)) c.loop-row.invariant.asks in
    record {
      size = ap length c.set_words.ensures ∙ c.loop-row.invariant.width ∙ ap length c.requires.fits.shape;
      within = subst (λ (x : Cut). IsWithin x (lengths c.args.order.now)) (sym c.set_words.ensures) (asked_within c.args.order.now c.args.child.now c.loop-row.room c.requires.last asks);
    }

pub returns-clause-asked : goal.returns-clause-asked
returns-clause-asked c =
    let asks = asks_all c.args.order.now c.args.child.now c.loop-row.row c.loop-row.room (omega (arith, c.loop-row-test.false, c.events-row-end.ensures.count, ap sum c.shape-shape.ensures.lens)) c.loop-row.invariant.asks in
    λ k cut. (
      λ h. (asks k cut).0 (subst (λ (x : Cut). IsWithin x k) c.set_words.ensures h),
      λ h. subst (λ (x : Cut). IsWithin x k) (sym c.set_words.ensures) ((asks k cut).1 h),
    )
