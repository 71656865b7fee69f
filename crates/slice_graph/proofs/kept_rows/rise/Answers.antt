use Rattle.std.proofs.Common.{◌≡◌, ◌+◌, ◌-◌, ◌*◌, ◌<◌, ◌≤◌, ℕ, List, length, sum, slice_range, get_or, ap, subst, ◌∙◌}
use Rattle.pull_system.specs.Rows.{RowsView}
use Rattle.slice_graph.proofs.Pushing.{rising_rows, rows_fit}
use Rattle.slice_graph.proofs.kept_rows.rise.Goals as goal

pub returns : goal.returns
returns c = λ is.
    let v : RowsView = c.args.rows.now in
    let width : c.procs-width.result ≡ length v.lens = c.procs-width.ensures.count ∙ ap length c.shape.ensures.shape in
    let there : (c.args.first + c.args.count) * length v.lens ≤ length v.words = rows_fit v.lens v.words c.args.first c.args.count (sum v.lens) c.as_words-words.ensures.rows.size c.requires.rows in
    let begin : ℕ = c.args.first * c.procs-width.result in
    let last : ℕ = (c.args.first + c.args.count - 1) * c.procs-width.result in
    let P : List ℕ → ℕ → Type 0 = λ ws k. (i : ℕ) → i < length (slice_range ws begin last) → get_or (slice_range ws begin last) i 0 ≤ get_or (slice_range ws (begin + k) (last + k)) i 0 in
    rising_rows v c.args.first c.args.count begin last (ap (λ (k : ℕ). c.args.first * k) width) (ap (λ (k : ℕ). (c.args.first + c.args.count - 1) * k) width) c.requires.some there
    (subst (λ (k : ℕ). P v.words k) width (subst (λ (ws : List ℕ). P ws c.procs-width.result) c.as_words-words.ensures.words (c.are_at_most.ensures is)))
