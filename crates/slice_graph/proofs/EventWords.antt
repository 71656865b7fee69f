-- The words of the rows of a process's events.
use Rattle.std.proofs.Common.{◌≡◌, ℕ, suc, ◌+◌, ◌-◌, ◌*◌, ◌/◌, ◌%◌, ◌^◌, ◌<◌, ◌≤◌, List, length, get_or, take, drop, sum, slice_range, refl, sym, ap, ◌∙◌, arith, inl, inr}
use Rattle.std.proofs.lemmas.Bool.{cases_lt}
use Rattle.std.proofs.lemmas.List.{get_or-take, get_or-drop, get_or_past}
use Rattle.std.proofs.lemmas.Nat.{div-add-mod'}
use Rattle.std.proofs.Math.Nat.{mod-lt, mul-le-mul_right, div-lt_iff_lt-mul}
use Rattle.pota_base.specs.declared.shape.EventId.{EventId}
use Rattle.run_model.specs.Cut.{count}
use Rattle.causal_order.proofs.Rows.{row_at}
use Rattle.slice_graph.specs.Views.{SliceView, HasAllRows, no_row}
use Rattle.slice_graph.specs.Words.{filled, row_words}
use Rattle.slice_graph.specs.inside.Words.{AreAllWords, AreEventWords}
use Rattle.pull_system.proofs.Sums.{component_le}
use Rattle.slice_graph.proofs.Words.{filled_most}
use Rattle.slice_graph.proofs.Events.{row_there}
use Rattle.slice_graph.proofs.Pieces.{length-slice_range, get_or-slice_range}
use Rattle.slice_graph.proofs.Fans.{slice_row_small}

-- a word of a row
word_at : (v : SliceView) (words : List ℕ) → AreAllWords v words → (row j : ℕ) → row < length v.rows → j < length v.lens → get_or words (row * length v.lens + j) 0 ≡ get_or (filled v.lens (get_or v.rows row no_row)) j 0
word_at v words all row j there less =
    let w : ℕ = length v.lens in
    sym (get_or-take w (drop (row * w) words) j 0 less ∙ get_or-drop (row * w) words j 0)
    ∙ sym (ap (λ (xs : List ℕ). get_or xs j 0) (row_at w (length v.rows) row words there))
    ∙ ap (λ (xs : List ℕ). get_or xs j 0) (all.each row there)

event_row : (v : SliceView) (i a : ℕ) → i < length v.lens → a < count v.lens i → sum (take i v.lens) + (a + 1) ≤ sum v.lens
event_row v i a process there =
    let e : EventId = record { process = i; position = a + 1 } in
    row_there v.lens e (record { process = omega (arith, process); first = omega arith; last = omega (arith, there) })

words_at : (v : SliceView) (i a : ℕ) → row_words v i (a + 1) ≡ filled v.lens (get_or v.rows (sum (take i v.lens) + (a + 1)) no_row)
words_at v i a =
    let next : suc a ≡ a + 1 = omega arith in
    ap (λ (n : ℕ). row_words v i n) (sym next) ∙ ap (λ (n : ℕ). filled v.lens (get_or v.rows (sum (take i v.lens) + n) no_row)) next

-- the block of the events' rows stands within the words
pub block_within : (v : SliceView) (words : List ℕ) → AreAllWords v words → HasAllRows v → (i first : ℕ) → i < length v.lens → 1 ≤ count v.lens i → first ≡ sum (take i v.lens) + 1
    → (first + count v.lens i) * length v.lens ≤ length words
block_within v words all rows i first process some is =
    let last : sum (take i v.lens) + (count v.lens i - 1 + 1) ≤ sum v.lens = event_row v i (count v.lens i - 1) process (omega (arith, some)) in
    let within : first + count v.lens i ≤ length v.rows = omega (arith, is, last, some, rows.count) in
    omega (arith, all.size, mul-le-mul_right (length v.lens) within)

pub block_words : (v : SliceView) (words : List ℕ) → AreAllWords v words → HasAllRows v → (i first : ℕ) → i < length v.lens → 1 ≤ count v.lens i → first ≡ sum (take i v.lens) + 1
    → AreEventWords v i (slice_range words (first * length v.lens) ((first + count v.lens i) * length v.lens))
block_words v words all rows i first process some is =
    let w : ℕ = length v.lens in
    let len : ℕ = count v.lens i in
    let end : ℕ = (first + len) * w in
    let width : end - first * w ≡ len * w = omega arith in
    record {
      size = length-slice_range words (first * w) end (block_within v words all rows i first process some is) ∙ width;
      each = λ a j there less.
          let inside : a * w + j < len * w = within_block a j len w there less in
          let row : first + a ≡ sum (take i v.lens) + (a + 1) = omega (arith, is) in
          let place : first * w + (a * w + j) ≡ (first + a) * w + j = omega arith in
          get_or-slice_range words (first * w) end (a * w + j) (omega (arith, inside, width))
          ∙ ap (λ (n : ℕ). get_or words n 0) place
          ∙ word_at v words all (first + a) j (omega (arith, row, event_row v i a process there, rows.count)) less
          ∙ ap (λ (n : ℕ). get_or (filled v.lens (get_or v.rows n no_row)) j 0) row
          ∙ sym (ap (λ (xs : List ℕ). get_or xs j 0) (words_at v i a));
    }
  where
    within_block : (a j len w : ℕ) → a < len → j < w → a * w + j < len * w
    within_block a j len w there less = omega (arith, less, mul-le-mul_right w (let next : a + 1 ≤ len = omega (arith, there) in next))

-- each of them fits 16 bits
pub block_small : (v : SliceView) → HasAllRows v → (i : ℕ) (words : List ℕ) → 1 ≤ length v.lens → AreEventWords v i words → (k : ℕ) → get_or words k 0 < 2 ^ 16
block_small v rows i words some are k = elim (cases_lt k (length words)) [
  | inr past ↦ omega (arith, get_or_past words k 0 (omega (arith, past)))
  | inl inside ↦
      let w : ℕ = length v.lens in
      let less : k % w < w = mod-lt k (omega (arith, some)) in
      let there : k / w < count v.lens i = (div-lt_iff_lt-mul {k = w} {x = k} {y = count v.lens i} (omega (arith, some))).1 (omega (arith, inside, are.size)) in
      omega (
        arith,
        ap (λ (n : ℕ). get_or words n 0) (sym (div-add-mod' k w)),
        are.each (k / w) (k % w) there less,
        slice_row_small v rows i (k / w + 1) (row_words v i (k / w + 1)) refl (k % w),
      )
]

-- so does each word of all rows
pub all_small : (v : SliceView) → HasAllRows v → (words : List ℕ) → AreAllWords v words → (k : ℕ) → get_or words k 0 < 2 ^ 16
all_small v rows words all k = elim (cases_lt k (length words)) [
  | inr past ↦ omega (arith, get_or_past words k 0 (omega (arith, past)))
  | inl inside ↦
      let w : ℕ = length v.lens in
      let some : 1 ≤ w = omega (arith, rows.cuts.shape.some) in
      let less : k % w < w = mod-lt k (omega (arith, some)) in
      let there : k / w < length v.rows = (div-lt_iff_lt-mul {k = w} {x = k} {y = length v.rows} (omega (arith, some))).1 (omega (arith, inside, all.size)) in
      omega (
        arith,
        ap (λ (n : ℕ). get_or words n 0) (sym (div-add-mod' k w)),
        word_at v words all (k / w) (k % w) there less,
        filled_most v.lens (get_or v.rows (k / w) no_row) (rows.cuts.each (k / w)) (k % w),
        component_le v.lens (k % w),
        rows.cuts.shape.events,
      )
]
