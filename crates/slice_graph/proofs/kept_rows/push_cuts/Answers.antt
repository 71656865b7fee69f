use Rattle.std.proofs.Common.{rules, ◌≡◌, ◌+◌, ◌-◌, ◌*◌, ◌<◌, ◌≤◌, ◌++◌, ℕ, List, [], length, map, sum, slice_range, get_or, ap, sym, subst, ◌∙◌, arith}
use Rattle.run_model.specs.Cut.{max_cut}
use Rattle.causal_order.specs.Blocks.{rows_of}
use Rattle.pull_system.specs.Rows.{RowsView, row_at}
use Rattle.slice_graph.specs.Views.{SliceView, IsCut}
use Rattle.slice_graph.specs.inside.Pushing.{some_row}
use Rattle.slice_graph.proofs.Pushing.{pushes_block, block_cuts, block_size, rows_fit}
use Rattle.slice_graph.proofs.kept_rows.push_cuts.Goals as goal

-- the block by the words and the width that the rows have
block_is : (v : RowsView) (words : List ℕ) (first n width : ℕ) → words ≡ v.words → width ≡ length v.lens
    → slice_range words (first * width) ((first + n) * width) ≡ slice_range v.words (first * length v.lens) ((first + n) * length v.lens)
block_is v words first n width same wide =
    ap (λ (ws : List ℕ). slice_range ws (first * width) ((first + n) * width)) same ∙ ap (λ (k : ℕ). slice_range v.words (first * k) ((first + n) * k)) wide

pub push_cuts-requires-clause-size : goal.push_cuts-requires-clause-size
push_cuts-requires-clause-size c =
    let v : RowsView = c.args.rows.now in
    let width : c.procs-width.result ≡ length v.lens = c.procs-width.ensures.count ∙ ap length c.shape.ensures.shape in
    let there : (c.args.first + c.args.count) * length v.lens ≤ length v.words = rows_fit v.lens v.words c.args.first c.args.count (sum v.lens) c.as_words.ensures.rows.size c.requires.rows in
    ap length (block_is v c.as_words.result.now c.args.first c.args.count c.procs-width.result c.as_words.ensures.words width)
    ∙ block_size v.words c.args.first c.args.count (length v.lens) there ∙ ap (λ (lens : List ℕ). c.args.count * length lens) (sym c.requires.lens)

pub push_cuts-requires-clause-cuts : goal.push_cuts-requires-clause-cuts
push_cuts-requires-clause-cuts c = λ a lt.
    let v : RowsView = c.args.rows.now in
    let n : ℕ = c.args.count in
    let width : c.procs-width.result ≡ length v.lens = c.procs-width.ensures.count ∙ ap length c.shape.ensures.shape in
    let there : (c.args.first + n) * length v.lens ≤ length v.words = rows_fit v.lens v.words c.args.first n (sum v.lens) c.as_words.ensures.rows.size c.requires.rows in
    let is = block_is v c.as_words.result.now c.args.first n c.procs-width.result c.as_words.ensures.words width in
    let block : List ℕ = slice_range c.as_words.result.now (c.args.first * c.procs-width.result) ((c.args.first + n) * c.procs-width.result) in
    subst (λ (lens : List ℕ). IsCut lens (get_or (rows_of (length lens) n block) a [])) (sym c.requires.lens)
    (subst (λ (b : List ℕ). IsCut v.lens (get_or (rows_of (length v.lens) n b) a [])) (sym is) (block_cuts v c.args.first n there c.requires.cuts a lt))

pub returns-clause-pushed : goal.returns-clause-pushed
returns-clause-pushed c =
    let v : RowsView = c.args.rows.now in
    let n : ℕ = c.args.count in
    let table : SliceView = c.args.table.now in
    let width : c.procs-width.result ≡ length v.lens = c.procs-width.ensures.count ∙ ap length c.shape.ensures.shape in
    let there : (c.args.first + n) * length v.lens ≤ length v.words = rows_fit v.lens v.words c.args.first n (sum v.lens) c.as_words.ensures.rows.size c.requires.rows in
    let is = block_is v c.as_words.result.now c.args.first n c.procs-width.result c.as_words.ensures.words width in
    let block : List ℕ = slice_range c.as_words.result.now (c.args.first * c.procs-width.result) ((c.args.first + n) * c.procs-width.result) in
    let some : 0 < n = search rules in
    pushes_block v c.args.first n table c.push_cuts.new.self c.args.top.now c.join_narrow.new.into some there c.requires.rise c.requires.cuts
    (c.in_ok-push_cuts.ensures
    ∙ ap (λ (lens : List ℕ). record table { rows = table.rows ++ map some_row (rows_of (length lens) n block) }) c.requires.lens
    ∙ ap (λ (b : List ℕ). record table { rows = table.rows ++ map some_row (rows_of (length v.lens) n b) }) is)
    c.requires.width (λ a last.
    let at : c.args.first + n - 1 ≡ c.args.first + a = omega (arith, last) in
    c.join_narrow.ensures ∙ ap (λ (r : List ℕ). max_cut r c.args.top.now) (c.row.ensures.words ∙ ap (row_at v.lens v.words) at))
