use Rattle.std.specs.Prelude.{slice_index}
use Rattle.pull_system.proofs.Sums.{component_le}
use Rattle.std.proofs.Common.{rules, ◌≡◌, ◌+◌, ◌∙◌, ℕ, List, length, replicate, sum, refl, ap, sym, subst, arith}
use Rattle.std.proofs.lemmas.Result.{IfOk-weaker}
use Rattle.pota_base.specs.Shape.{row_of}
use Rattle.run_model.specs.Cut.{lengths, max_cut}
use Rattle.run_model.proofs.Counts.{length-lengths, length-max}
use Rattle.pota_base.specs.Limits.{most_processes}
use Rattle.pull_system.specs.Rows.{RowsView, row_at}
use Rattle.slice_graph.specs.Starting.{AreWithinClosed}
use Rattle.slice_graph.proofs.Events.{row_there}
use Rattle.slice_graph.proofs.RowByRow.{zeros_of, zero_counts}
use Rattle.slice_graph.proofs.StartingRows.{IsRaisedRow, words_none, words_more, words_size, words_row, raised_begins, zeros_max}
use Rattle.slice_graph.proofs.starting.order_rows_above.Goals as goal

pub loop-row-init : goal.loop-row-init
loop-row-init c = record {
  built = words_none (lengths c.args.order.now) (IsRaisedRow c.args.order.now c.args.vector.now) _ (search rules);
  width = search rules;
  wide_width = search rules;
}

pub narrow-requires-clause-width : goal.narrow-requires-clause-width
narrow-requires-clause-width c =
    let procs : c.procs-procs.result ≡ length (lengths c.args.order.now) = c.procs-procs.ensures.count ∙ ap length c.shape-shape.ensures.lens in
    c.requires.size ∙ sym (ap length (zeros_of most_processes c.procs-procs.result (omega (arith, c.procs-procs.ensures.count, c.procs-procs.ensures.shape.few))) ∙ (zero_counts c.procs-procs.result 0).0 ∙ procs)

pub narrow-requires-clause-small : goal.narrow-requires-clause-small
narrow-requires-clause-small c i =
    omega (arith, c.requires.within i, c.procs-procs.ensures.shape.events, component_le c.shape-shape.result.now i, ap (λ (l : List ℕ). slice_index l i) c.shape-shape.ensures.lens)

pub copy_from_slice-requires : goal.copy_from_slice-requires
copy_from_slice-requires c = omega (arith, c.loop-row.invariant.width, ap length c.narrow.ensures, c.requires.size)

pub clock_of-requires-clause-width : goal.clock_of-requires-clause-width
clock_of-requires-clause-width c =
    let procs : c.procs-procs.result ≡ length c.args.order.now = omega (arith, c.procs-procs.ensures.count, ap length c.shape-shape.ensures.lens, length-lengths c.args.order.now) in
    ap length (zeros_of most_processes c.procs-procs.result (omega (arith, c.procs-procs.ensures.count, c.procs-procs.ensures.shape.few))) ∙ (zero_counts c.procs-procs.result 0).0 ∙ procs

pub join_words-requires : goal.join_words-requires
join_words-requires c =
    let copied : c.copy_from_slice.new.self ≡ c.args.vector.now = search rules in
    c.clock_of.ensures.width ∙ sym (ap length copied ∙ c.requires.size ∙ length-lengths c.args.order.now)

pub widen-requires : goal.widen-requires
widen-requires c =
    let o = c.args.order.now in
    let v : List ℕ = c.args.vector.now in
    let copied : c.copy_from_slice.new.self ≡ v = search rules in
    let raised : c.join_words.new.into ≡ max_cut c.clock_of.result.now v = c.join_words.ensures ∙ ap (λ (xs : List ℕ). max_cut c.clock_of.result.now xs) copied in
    omega (arith, ap length raised, length-max c.clock_of.result.now v, c.clock_of.ensures.width, c.requires.size, length-lengths o, c.loop-row.invariant.wide_width)

pub loop-row-preserved : goal.loop-row-preserved
loop-row-preserved c =
    let o = c.args.order.now in
    let v : List ℕ = c.args.vector.now in
    let inv = c.loop-row.invariant in
    let copied : c.copy_from_slice.new.self ≡ v = search rules in
    let raised : c.join_words.new.into ≡ max_cut c.clock_of.result.now v = c.join_words.ensures ∙ ap (λ (xs : List ℕ). max_cut c.clock_of.result.now xs) copied in
    let procs : c.procs-procs.result ≡ length o = omega (arith, c.procs-procs.ensures.count, ap length c.shape-shape.ensures.lens, length-lengths o) in
    let zeros = zeros_of most_processes c.procs-procs.result (omega (arith, c.procs-procs.ensures.count, c.procs-procs.ensures.shape.few)) ∙ ap (λ (n : ℕ). replicate n 0) procs in
    let width : length c.join_words.new.into ≡ length (lengths o) = omega (arith, ap length raised, length-max c.clock_of.result.now v, c.clock_of.ensures.width, c.requires.size, length-lengths o) in
    let wide : c.widen.new.into ≡ max_cut c.clock_of.result.now v = c.widen.ensures ∙ raised in
    let wide_width : length c.widen.new.into ≡ length (lengths o) = ap length c.widen.ensures ∙ width in
    record {
      built = words_more (lengths o) (IsRaisedRow o v) c.loop-row.row _ _ _ inv.built wide_width (record {
        bottom = λ first. wide ∙ zeros_max (length o) c.clock_of.result.now v (c.clock_of.ensures.bottom first ∙ zeros) (c.requires.size ∙ length-lengths o);
        event = λ e there at. wide ∙ ap (λ (xs : List ℕ). max_cut xs v) (c.clock_of.ensures.event e there at);
      }) c.in_ok-extend_from_slice.ensures.items;
      width = width;
      wide_width = wide_width;
    }

pub returns-clause-bottom : goal.returns-clause-bottom
returns-clause-bottom c =
    let o = c.args.order.now in
    let end : c.loop-row.row ≡ sum (lengths o) + 1 = search rules in
    IfOk-weaker c.from_words.result _ _ (λ rows is.
    ap (λ (r : RowsView). row_at (lengths o) r.words 0) is
    ∙ (words_row (lengths o) (IsRaisedRow o c.args.vector.now) c.loop-row.row c.loop-row.words.items c.loop-row.invariant.built end 0 (omega arith)).bottom refl) c.from_words.ensures

pub returns-clause-events : goal.returns-clause-events
returns-clause-events c =
    let o = c.args.order.now in
    let end : c.loop-row.row ≡ sum (lengths o) + 1 = search rules in
    IfOk-weaker c.from_words.result _ _ (λ rows is. λ e there.
    ap (λ (r : RowsView). row_at (lengths o) r.words (row_of (lengths o) e)) is
    ∙ (words_row (lengths o) (IsRaisedRow o c.args.vector.now) c.loop-row.row c.loop-row.words.items c.loop-row.invariant.built end (row_of (lengths o) e) (row_there (lengths o) e there)).event e there refl) c.from_words.ensures

pub returns-clause-begins : goal.returns-clause-begins
returns-clause-begins c =
    let o = c.args.order.now in
    let v : List ℕ = c.args.vector.now in
    let end : c.loop-row.row ≡ sum (lengths o) + 1 = search rules in
    let built = c.loop-row.invariant.built in
    λ pulls more. IfOk-weaker c.from_words.result _ _ (λ rows is. subst (AreWithinClosed (lengths o) pulls) (sym (ap (λ (r : RowsView). r.words) is))
    (raised_begins o c.shape-shape.ensures.order v pulls more c.loop-row.words.items (words_size (lengths o) (IsRaisedRow o v) c.loop-row.row c.loop-row.words.items built end)
    (words_row (lengths o) (IsRaisedRow o v) c.loop-row.row c.loop-row.words.items built end))) c.from_words.ensures
