use Rattle.std.proofs.Common.{rules, ◌≡◌, ◌≤◌, ◌+◌, ◌*◌, ℕ, List, length, take, sum, get_or, slice_range, ap, sym, subst, arith, ◌∙◌}
use Rattle.run_model.specs.Cut.{count}
use Rattle.slice_graph.specs.inside.Words.{AreEventWords}
use Rattle.slice_graph.proofs.EventWords.{block_words}
use Rattle.slice_graph.proofs.slice.Slice.words_of_events.Goals as goal

pub returns : goal.returns
returns c =
    let v = c.args.self.now in
    let i : ℕ = c.args.process in
    let words : List ℕ = c.all_words.result.now in
    let first : ℕ = c.row_of-first.result in
    let lens = c.shape-shape.ensures.lens in
    let width : c.procs-width.result ≡ length v.lens = c.procs-width.ensures.count ∙ ap length lens in
    let len : c.len_of-len.result ≡ count v.lens i = c.len_of-len.ensures.len ∙ ap (λ (l : List ℕ). get_or l i 0) lens in
    let some : 1 ≤ c.len_of-len.result = search rules in
    let begin : first ≡ sum (take i v.lens) + 1 = c.row_of-first.ensures.row ∙ ap (λ (l : List ℕ). sum (take i l) + 1) lens in
    subst (λ (w : ℕ). AreEventWords v i (slice_range words (first * w) ((first + c.len_of-len.result) * w))) (sym width)
    (subst (λ (n : ℕ). AreEventWords v i (slice_range words (first * length v.lens) ((first + n) * length v.lens))) (sym len)
    (block_words v words c.all_words.ensures c.shape-shape.ensures.rows i first c.requires (omega (arith, some, len)) begin))
