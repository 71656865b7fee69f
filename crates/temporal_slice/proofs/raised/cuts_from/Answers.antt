use Rattle.std.proofs.Common.{rules, ◌≡◌, ◌+◌, List, ℕ, [], Some, length, sum, replicate, option_map, sym, ap, subst, ◌∙◌, arith}
use Rattle.std.specs.Option.{option_copied}
use Rattle.std.proofs.lemmas.List.{length-replicate}
use Rattle.pota_base.specs.Shape.{HasEvent, row_of}
use Rattle.pota_base.specs.declared.shape.EventId.{EventId}
use Rattle.run_model.specs.Cut.{Cut, max_cut, lengths}
use Rattle.run_model.specs.Operators.{raised}
use Rattle.run_model.proofs.Counts.{length-lengths}
use Rattle.slice_graph.specs.Views.{SliceView, IsCut}
use Rattle.slice_graph.specs.Fitting.{Agrees}
use Rattle.slice_graph.proofs.Building.{BuiltBy, IsRowOf, built_agrees}
use Rattle.temporal_slice.specs.inside.Operands.{operand}
use Rattle.temporal_slice.proofs.Rows.{consistent_cut, first_behind, bottom_pushed, event_pushed}
use Rattle.temporal_slice.proofs.Tops.{raised_top}
use Rattle.temporal_slice.proofs.raised.cuts_from.Goals as goal

pub push_cut-requires : goal.push_cut-requires
push_cut-requires c = subst (λ (lens : List ℕ). IsCut lens c.as_slice-counts.result.now) (sym (ap (λ (t : SliceView). t.lens) c.in_ok-table.ensures ∙ c.shape-shape.ensures.lens))
    (subst (IsCut (lengths c.args.order.now)) (sym c.as_slice-counts.ensures) (consistent_cut c.args.order.now c.args.bottom.now c.requires.bottom.consistent))

pub loop-row-init : goal.loop-row-init
loop-row-init c = record {
  built = bottom_pushed (lengths c.args.order.now) (raised (operand c.args.order.now (option_copied c.args.child)) c.args.bottom.now) c.in_ok-table.table c.push_cut.new.self (Some c.as_slice-counts.result.now)
      (c.in_ok-table.ensures ∙ ap (λ (lens : List ℕ). record { lens = lens; rows = [] }) c.shape-shape.ensures.lens)
      (ap Some c.as_slice-counts.ensures) c.in_ok-push_cut.ensures.ok;
  width = search rules;
  process = omega (arith, ap (λ (e : EventId). e.process) c.before_all-before.ensures, c.shape-shape.ensures.shape.some);
  behind = first_behind (lengths c.args.order.now) c.before_all-before.result c.before_all-before.ensures;
}

pub push_joined-requires-clause-bottom : goal.push_joined-requires-clause-bottom
push_joined-requires-clause-bottom c =
    subst (λ (lens : List ℕ). IsCut lens c.as_slice-counts.result.now) (sym c.loop-row.invariant.built.shape)
    (subst (IsCut (lengths c.args.order.now)) (sym c.as_slice-counts.ensures) (consistent_cut c.args.order.now c.args.bottom.now c.requires.bottom.consistent))

pub loop-row-preserved : goal.loop-row-preserved
loop-row-preserved c =
    let there = subst (λ (lens : List ℕ). HasEvent lens c.event_behind-event.result) c.shape-shape.ensures.lens c.event_behind-event.ensures.there in
    let at : row_of (lengths c.args.order.now) c.event_behind-event.result ≡ c.loop-row.row =
    subst (λ (lens : List ℕ). row_of lens c.event_behind-event.result ≡ c.loop-row.row) c.shape-shape.ensures.lens c.event_behind-event.ensures.row in
    record {
      built = event_pushed (lengths c.args.order.now) (raised (operand c.args.order.now (option_copied c.args.child)) c.args.bottom.now) c.loop-row.row c.event_behind-event.result
          c.loop-row.table c.push_joined.new.table (option_map (max_cut c.as_slice-counts.result.now) (option_copied c.row_with-words.result)) c.loop-row.invariant.built there at
          (ap (λ (b : Cut). option_map (max_cut b) (option_copied c.row_with-words.result)) c.as_slice-counts.ensures ∙ ap (option_map (max_cut c.args.bottom.now)) c.row_with-words.ensures.row)
          c.in_ok-push_joined.ensures.pushed;
      width = c.push_joined.ensures.width ∙ c.loop-row.invariant.width;
      process = omega (arith, there.process);
      behind = omega (arith, at);
    }

pub set_words-requires-clause-width : goal.set_words-requires-clause-width
set_words-requires-clause-width c =
    omega (arith, ap length c.in_ok-last.ensures, length-replicate {A = ℕ} c.procs-procs.result 0, c.procs-procs.ensures.count, ap length c.lens.ensures.lens)

pub with_top-requires-clause-top : goal.with_top-requires-clause-top
with_top-requires-clause-top c =
    c.set_words.ensures ∙ c.lens.ensures.lens ∙ c.shape-shape.ensures.lens
    ∙ raised_top c.args.order.now c.shape-shape.ensures.order (option_copied c.args.child) c.requires.child c.args.bottom.now c.requires.bottom c.requires.last c.loop-row.table
    (built_agrees c.args.order.now (raised (operand c.args.order.now (option_copied c.args.child)) c.args.bottom.now) c.loop-row.table c.loop-row.row c.loop-row.invariant.built
    (omega (arith, c.loop-row-test.false, c.events-row-end.ensures.count, ap sum c.shape-shape.ensures.lens)))

pub returns : goal.returns
returns c = subst (Agrees c.args.order.now (raised (operand c.args.order.now (option_copied c.args.child)) c.args.bottom.now)) (sym c.with_top.ensures)
    (built_agrees c.args.order.now (raised (operand c.args.order.now (option_copied c.args.child)) c.args.bottom.now) c.loop-row.table c.loop-row.row c.loop-row.invariant.built
    (omega (arith, c.loop-row-test.false, c.events-row-end.ensures.count, ap sum c.shape-shape.ensures.lens)))
