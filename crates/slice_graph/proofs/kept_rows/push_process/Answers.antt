use Rattle.std.proofs.Common.{◌≡◌, ◌+◌, ℕ, List, sum, take, get_or, ap, subst, ◌∙◌, arith}
use Rattle.std.proofs.lemmas.Result.{on_ok_weaker}
use Rattle.run_model.specs.Cut.{Cut}
use Rattle.pull_system.specs.Rows.{RowsView}
use Rattle.slice_graph.specs.Views.{SliceView}
use Rattle.slice_graph.specs.inside.Pushing.{PushesRows, so_far}
use Rattle.slice_graph.proofs.Pushing.{rows_of_process}
use Rattle.slice_graph.proofs.kept_rows.push_process.Goals as goal

-- the rows by the numbers that the shape tells
pushed_at : (v : RowsView) (first count begin len : ℕ) (old new : SliceView) (before now : Cut) → first ≡ begin → count ≡ len → PushesRows v first count (so_far old before) (so_far new now) → PushesRows v begin len (so_far old before) (so_far new now)
pushed_at v first count begin len old new before now at many p =
    subst (λ (n : ℕ). PushesRows v begin n (so_far old before) (so_far new now)) many (subst (λ (b : ℕ). PushesRows v b count (so_far old before) (so_far new now)) at p)

pub rise-requires-clause-rows : goal.rise-requires-clause-rows
rise-requires-clause-rows c =
    let lens = c.shape-shape.ensures.shape in
    let v : RowsView = c.args.rows.now in
    let first : c.row_of-first.result ≡ sum (take c.args.process v.lens) + 1 = c.row_of-first.ensures.row ∙ ap (λ (ls : List ℕ). sum (take c.args.process ls) + 1) lens in
    let count : c.len_of-count.result ≡ get_or v.lens c.args.process 0 = c.len_of-count.ensures.len ∙ ap (λ (ls : List ℕ). get_or ls c.args.process 0) lens in
    omega (arith, first, count, rows_of_process v.lens c.args.process (omega (arith, c.requires.process)))

pub push_rising-requires-clause-rows : goal.push_rising-requires-clause-rows
push_rising-requires-clause-rows c =
    let lens = c.shape-shape.ensures.shape in
    let v : RowsView = c.args.rows.now in
    let first : c.row_of-first.result ≡ sum (take c.args.process v.lens) + 1 = c.row_of-first.ensures.row ∙ ap (λ (ls : List ℕ). sum (take c.args.process ls) + 1) lens in
    let count : c.len_of-count.result ≡ get_or v.lens c.args.process 0 = c.len_of-count.ensures.len ∙ ap (λ (ls : List ℕ). get_or ls c.args.process 0) lens in
    omega (arith, first, count, rows_of_process v.lens c.args.process (omega (arith, c.requires.process)))

pub push_each-requires-clause-rows : goal.push_each-requires-clause-rows
push_each-requires-clause-rows c =
    let lens = c.shape-shape.ensures.shape in
    let v : RowsView = c.args.rows.now in
    let first : c.row_of-first.result ≡ sum (take c.args.process v.lens) + 1 = c.row_of-first.ensures.row ∙ ap (λ (ls : List ℕ). sum (take c.args.process ls) + 1) lens in
    let count : c.len_of-count.result ≡ get_or v.lens c.args.process 0 = c.len_of-count.ensures.len ∙ ap (λ (ls : List ℕ). get_or ls c.args.process 0) lens in
    omega (arith, first, count, rows_of_process v.lens c.args.process (omega (arith, c.requires.process)))

pub returns-then-rise-clause-pushed : goal.returns-then-rise-clause-pushed
returns-then-rise-clause-pushed c =
    let lens = c.shape-shape.ensures.shape in
    let v : RowsView = c.args.rows.now in
    let first : c.row_of-first.result ≡ sum (take c.args.process v.lens) + 1 = c.row_of-first.ensures.row ∙ ap (λ (ls : List ℕ). sum (take c.args.process ls) + 1) lens in
    let count : c.len_of-count.result ≡ get_or v.lens c.args.process 0 = c.len_of-count.ensures.len ∙ ap (λ (ls : List ℕ). get_or ls c.args.process 0) lens in
    on_ok_weaker c.push_rising.result (pushed_at v c.row_of-first.result c.len_of-count.result _ _ c.args.table.now c.push_rising.new.table c.args.top.now c.push_rising.new.top first count) c.push_rising.ensures.pushed

pub returns-else-rise-clause-pushed : goal.returns-else-rise-clause-pushed
returns-else-rise-clause-pushed c =
    let lens = c.shape-shape.ensures.shape in
    let v : RowsView = c.args.rows.now in
    let first : c.row_of-first.result ≡ sum (take c.args.process v.lens) + 1 = c.row_of-first.ensures.row ∙ ap (λ (ls : List ℕ). sum (take c.args.process ls) + 1) lens in
    let count : c.len_of-count.result ≡ get_or v.lens c.args.process 0 = c.len_of-count.ensures.len ∙ ap (λ (ls : List ℕ). get_or ls c.args.process 0) lens in
    on_ok_weaker c.push_each.result (pushed_at v c.row_of-first.result c.len_of-count.result _ _ c.args.table.now c.push_each.new.table c.args.top.now c.push_each.new.top first count) c.push_each.ensures.pushed
