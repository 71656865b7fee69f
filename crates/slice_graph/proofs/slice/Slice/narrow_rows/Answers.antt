use Rattle.std.proofs.Common.{ℕ, ◌+◌, ◌*◌, List, ◌∙◌, length, sum, ap, sym, subst}
use Rattle.std.proofs.lemmas.Result.{IfOk-weaker}
use Rattle.pull_system.specs.Rows.{RowsView, row_at}
use Rattle.slice_graph.specs.PullLists.{pulls_of_slice}
use Rattle.slice_graph.specs.Starting.{AreWithinClosed}
use Rattle.slice_graph.proofs.StartingRows.{AreBuilt, IsSliceRow, all_built, words_size, words_row, slice_begins}
use Rattle.slice_graph.proofs.EventWords.{all_small}
use Rattle.slice_graph.proofs.slice.Slice.narrow_rows.Goals as goal

pub narrow_words-requires : goal.narrow_words-requires
narrow_words-requires c = record { small = all_small c.args.self.now c.shape-shape.ensures.rows c.all_words.result.now c.all_words.ensures }

pub from_words-requires : goal.from_words-requires
from_words-requires c =
    let v = c.args.self.now in
    ap length c.in_ok-words.ensures ∙ c.all_words.ensures.size ∙ ap (λ (k : ℕ). k * length v.lens) c.shape-shape.ensures.rows.count ∙ ap (λ (lens : List ℕ). (sum lens + 1) * length lens) (sym c.shape-shape.ensures.lens)

pub returns-clause-words : goal.returns-clause-words
returns-clause-words c =
    let v = c.args.self.now in
    let built = subst (AreBuilt v.lens (IsSliceRow v) (length v.rows)) (sym c.in_ok-words.ensures) (all_built v c.all_words.result.now c.all_words.ensures) in
    IfOk-weaker c.from_words.result _ _ (λ rows is. λ row there.
    ap (λ (r : RowsView). row_at v.lens r.words row) is ∙ words_row v.lens (IsSliceRow v) (length v.rows) c.in_ok-words.words.items built c.shape-shape.ensures.rows.count row there) c.from_words.ensures

pub returns-clause-begins : goal.returns-clause-begins
returns-clause-begins c =
    let v = c.args.self.now in
    let count = c.shape-shape.ensures.rows.count in
    let built = subst (AreBuilt v.lens (IsSliceRow v) (length v.rows)) (sym c.in_ok-words.ensures) (all_built v c.all_words.result.now c.all_words.ensures) in
    λ o fits. IfOk-weaker c.from_words.result _ _ (λ rows is. subst (AreWithinClosed v.lens (pulls_of_slice v)) (sym (ap (λ (r : RowsView). r.words) is))
    (slice_begins o v fits c.shape-shape.ensures.rows c.in_ok-words.words.items (words_size v.lens (IsSliceRow v) (length v.rows) c.in_ok-words.words.items built count)
    (words_row v.lens (IsSliceRow v) (length v.rows) c.in_ok-words.words.items built count))) c.from_words.ensures
