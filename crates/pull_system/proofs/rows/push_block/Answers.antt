use Rattle.std.proofs.Common.{◌≡◌, ◌+◌, ◌*◌, ◌++◌, ◌∙◌, ℕ, List, length, slice_range, ap}
use Rattle.pull_system.specs.Rows.{RowsView}
use Rattle.pull_system.proofs.GrownBlocks.{slice_range-rows}
use Rattle.pull_system.proofs.rows.push_block.Goals as goal

pub returns : goal.returns
returns c =
    let old : RowsView = c.args.old.now in
    let first : ℕ = c.args.first in
    let end : ℕ = c.args.first + c.args.count in
    let width : c.procs-width.result ≡ length old.lens = c.procs-width.ensures.count ∙ ap length c.shape.ensures.shape in
    c.in_ok-extend_from_slice.ensures.items
    ∙ ap (λ (xs : List ℕ). c.args.words.now.items ++ slice_range xs (first * c.procs-width.result) (end * c.procs-width.result)) c.as_words.ensures.words
    ∙ ap (λ (n : ℕ). c.args.words.now.items ++ slice_range old.words (first * n) (end * n)) width
    ∙ ap (λ (xs : List ℕ). c.args.words.now.items ++ xs) (slice_range-rows old.lens old.words first c.args.count)
