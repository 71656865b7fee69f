use Rattle.std.proofs.Common.{◌≡◌, ◌+◌, List, ℕ, [], Some, length, sum, replicate, refl, sym, ap, subst, ◌∙◌, arith}
use Rattle.std.proofs.lemmas.List.{length-replicate}
use Rattle.pota_base.specs.Shape.{HasEvent, row_of}
use Rattle.pota_base.specs.declared.shape.EventId.{EventId}
use Rattle.run_model.specs.Cut.{Cut, lengths}
use Rattle.run_model.specs.Operators.{whole, lowered}
use Rattle.run_model.proofs.Counts.{length-lengths}
use Rattle.slice_graph.specs.Views.{SliceView}
use Rattle.slice_graph.specs.Fitting.{Agrees}
use Rattle.slice_graph.proofs.Building.{BuiltBy, IsRowOf, built_agrees}
use Rattle.temporal_slice.proofs.Rows.{initial_is, first_behind, bottom_pushed, event_pushed}
use Rattle.temporal_slice.proofs.Tops.{lowered_top}
use Rattle.temporal_slice.proofs.possible.cuts_within.Goals as goal

pub loop-row-init : goal.loop-row-init
loop-row-init c = record {
  built = bottom_pushed (lengths c.args.order.now) (lowered (whole c.args.order.now) c.args.top.now) c.in_ok-table.table c.push_cut.new.self (Some c.as_slice.result.now)
      (c.in_ok-table.ensures ∙ ap (λ (lens : List ℕ). record { lens = lens; rows = [] }) c.shape-shape.ensures.lens)
      (ap Some (c.as_slice.ensures ∙ c.in_ok-initial.ensures ∙ initial_is c.args.order.now c.procs-procs.result
      (omega (arith, c.procs-procs.ensures.count, ap length c.shape-shape.ensures.lens, length-lengths c.args.order.now))))
      c.in_ok-push_cut.ensures.ok;
  process = omega (arith, ap (λ (e : EventId). e.process) c.before_all-before.ensures, c.shape-shape.ensures.shape.some);
  behind = first_behind (lengths c.args.order.now) c.before_all-before.result c.before_all-before.ensures;
}

pub push_past-requires-clause-top : goal.push_past-requires-clause-top
push_past-requires-clause-top c = c.requires.shaped

pub loop-row-preserved : goal.loop-row-preserved
loop-row-preserved c =
    let there = subst (λ (lens : List ℕ). HasEvent lens c.event_behind-event.result) c.shape-shape.ensures.lens c.event_behind-event.ensures.there in
    let at : row_of (lengths c.args.order.now) c.event_behind-event.result ≡ c.loop-row.row =
    subst (λ (lens : List ℕ). row_of lens c.event_behind-event.result ≡ c.loop-row.row) c.shape-shape.ensures.lens c.event_behind-event.ensures.row in
    record {
      built = event_pushed (lengths c.args.order.now) (lowered (whole c.args.order.now) c.args.top.now) c.loop-row.row c.event_behind-event.result c.loop-row.table c.push_past.new.table _
          c.loop-row.invariant.built there at refl c.in_ok-push_past.ensures;
      process = omega (arith, there.process);
      behind = omega (arith, at);
    }

pub set_words-requires-clause-width : goal.set_words-requires-clause-width
set_words-requires-clause-width c =
    omega (arith, c.requires.shaped, ap length c.in_ok-greatest.ensures, length-replicate {A = ℕ} c.procs-procs.result 0, c.procs-procs.ensures.count, ap length c.shape-shape.ensures.lens, length-lengths c.args.order.now)

pub set_words-requires-clause-few : goal.set_words-requires-clause-few
set_words-requires-clause-few c = omega (arith, c.requires.shaped, c.shape-shape.ensures.shape.few, length-lengths c.args.order.now)

pub with_top-requires-clause-top : goal.with_top-requires-clause-top
with_top-requires-clause-top c =
    c.set_words.ensures
    ∙ lowered_top c.args.order.now c.shape-shape.ensures.order c.args.top.now c.requires c.loop-row.table
    (built_agrees c.args.order.now (lowered (whole c.args.order.now) c.args.top.now) c.loop-row.table c.loop-row.row c.loop-row.invariant.built
    (omega (arith, c.loop-row-test.false, c.events-row-end.ensures.count, ap sum c.shape-shape.ensures.lens)))

pub returns : goal.returns
returns c = subst (Agrees c.args.order.now (lowered (whole c.args.order.now) c.args.top.now)) (sym c.with_top.ensures)
    (built_agrees c.args.order.now (lowered (whole c.args.order.now) c.args.top.now) c.loop-row.table c.loop-row.row c.loop-row.invariant.built
    (omega (arith, c.loop-row-test.false, c.events-row-end.ensures.count, ap sum c.shape-shape.ensures.lens)))
