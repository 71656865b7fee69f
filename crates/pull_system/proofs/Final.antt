-- A least closed vector within the lengths of before is least in each later system.
use Rattle.std.proofs.Common.{◌≡◌, ℕ, ◌<◌, ◌≤◌, List, Some, length, sum, get_or, arith, sym, ap, ◌∙◌, subst}
use Rattle.pull_system.specs.Vector.{IsAtMost}
use Rattle.pull_system.specs.System.{SystemView, IsSystem, IsClosedFrom, IsLeastFrom, pull_at, source_of, target_of, ask}
use Rattle.pull_system.specs.Rows.{RowsView, AreLeastRows, start_of, row_at, IsLeast}
use Rattle.pull_system.specs.Growth.{PullGrows, PullStays, Grows, Stays, old_row, kept_or_start, grown_row, grown_words}
use Rattle.pull_system.proofs.Starts.{row_at-first_rows}
use Rattle.pull_system.proofs.Growing.{least_below, stood, length-grown_row}

pub still_closed : (before after : SystemView) → IsSystem before → Grows before after → Stays before after → (start v : List ℕ) → IsClosedFrom before start v → IsAtMost v before.lens
    → IsClosedFrom after start v
still_closed before after is grows stays start v closed within = record {
  vector = record { size = closed.vector.size ∙ grows.fell.count; within = λ i. omega (arith, within.each i, grows.fell.each i) };
  above = closed.above;
  closed = record { each = λ k there. holds k there };
}
  where
    holds : (k : ℕ) → k < length after.pulls → ask after k (get_or v (source_of after k) 0) ≤ get_or v (target_of after k) 0
    holds k there =
        let g : PullGrows before.lens after.lens (pull_at before k) (pull_at after k) = grows.each k there in
        let s : PullStays before.lens (pull_at before k) (pull_at after k) = stays.each k there in
        let old = closed.closed.each k (omega (arith, grows.count, there)) in
        omega (
          arith,
          old,
          s.asks (get_or v (source_of before k) 0) (within.each (source_of before k)) (omega (arith, old, within.each (target_of before k))),
          ap (λ i. ask after k (get_or v i 0)) g.source,
          ap (λ i. get_or v i 0) g.target,
        )

pub still_least : (before after : SystemView) → IsSystem before → Grows before after → Stays before after → (start v : List ℕ) → IsLeastFrom before start v → IsAtMost v before.lens
    → IsLeastFrom after start v
still_least before after is grows stays start v least within = record {
  closed = still_closed before after is grows stays start v least.closed within;
  least = λ c closed. least_below before after is grows start v c least closed;
}

pub final_vector : (before after : SystemView) → IsSystem before → Grows before after → Stays before after → (old : RowsView) → old.lens ≡ before.lens → AreLeastRows before old.words
    → (row kept : ℕ) → old_row old.lens after.lens row ≡ Some kept → IsAtMost (row_at old.lens old.words kept) old.lens
    → IsLeast after row (row_at old.lens old.words kept)
final_vector before after is grows stays old same least row kept found within =
    let h = stood 0 old.lens after.lens row kept (ap length same ∙ grows.fell.count) found in
    let k_there : kept ≤ sum before.lens = omega (arith, h.is, h.there, ap sum same) in
    let v : List ℕ = row_at old.lens old.words kept in
    let lens_same : row_at before.lens old.words kept ≡ v = ap (λ (l : List ℕ). row_at l old.words kept) (sym same) in
    let start_same : start_of before.lens kept ≡ start_of after.lens row =
    ap (λ (l : List ℕ). start_of l kept) (sym same) ∙ ap (λ r. start_of old.lens r) (omega (arith, h.is)) ∙ h.start in
    let At : List ℕ → Type 0 = λ s. IsLeastFrom before s (row_at before.lens old.words kept) in
    let Of : List ℕ → Type 0 = λ w. IsLeastFrom before (start_of after.lens row) w in
    let here : IsLeastFrom before (start_of after.lens row) v = subst Of lens_same (subst At start_same (least.each kept k_there)) in
    let In : List ℕ → Type 0 = λ l. IsAtMost v l in
    still_least before after is grows stays (start_of after.lens row) v here (subst In same within)

pub final_row : (before after : SystemView) → IsSystem before → Grows before after → Stays before after → (old : RowsView) → old.lens ≡ before.lens → AreLeastRows before old.words
    → (row kept : ℕ) → row ≤ sum after.lens → old_row old.lens after.lens row ≡ Some kept → IsAtMost (row_at old.lens old.words kept) old.lens
    → IsLeast after row (row_at after.lens (grown_words after.lens old) row)
final_row before after is grows stays old same least row kept there found within =
    let h = stood 0 old.lens after.lens row kept (ap length same ∙ grows.fell.count) found in
    let k_there : kept ≤ sum before.lens = omega (arith, h.is, h.there, ap sum same) in
    let v : List ℕ = row_at old.lens old.words kept in
    let lens_same : row_at before.lens old.words kept ≡ v = ap (λ (l : List ℕ). row_at l old.words kept) (sym same) in
    let start_same : start_of before.lens kept ≡ start_of after.lens row =
    ap (λ (l : List ℕ). start_of l kept) (sym same) ∙ ap (λ r. start_of old.lens r) (omega (arith, h.is)) ∙ h.start in
    let At : List ℕ → Type 0 = λ s. IsLeastFrom before s (row_at before.lens old.words kept) in
    let Of : List ℕ → Type 0 = λ w. IsLeastFrom before (start_of after.lens row) w in
    let here : IsLeastFrom before (start_of after.lens row) v = subst Of lens_same (subst At start_same (least.each kept k_there)) in
    let In : List ℕ → Type 0 = λ l. IsAtMost v l in
    let now = still_least before after is grows stays (start_of after.lens row) v here (subst In same within) in
    let row_is : row_at after.lens (grown_words after.lens old) row ≡ v =
    row_at-first_rows after.lens (grown_row after.lens old) (length-grown_row before after is grows old same least) row there ∙ ap (λ o. kept_or_start after.lens old row o) found in
    let To : List ℕ → Type 0 = λ w. IsLeastFrom after (start_of after.lens row) w in
    subst To (sym row_is) now
