-- Inside: how a slice's rows stand in words.
use Rattle.std.specs.Prelude.{◌≡◌, ℕ, zero, suc, ◌+◌, ◌*◌, ◌<◌, List, [], ◌++◌, length, get_or}
use Rattle.run_model.specs.Cut.{count}
use Rattle.pota_base.specs.Shape.{IsShape}
use Rattle.causal_order.specs.Blocks.{rows_of}
use Rattle.slice_graph.specs.Views.{SliceView, IsRow, no_row}
use Rattle.slice_graph.specs.Words.{cut_in, filled, past_ends, row_words}

-- the words so many times, one behind the other
abbrev pub times : ℕ → List ℕ → List ℕ
times zero words = []
times (suc n) words = times n words ++ words

-- so many rows without a cut are put at once
abbrev pub block_rows : ℕ
block_rows = 16

-- the words are those of a row that has no cut or one within the lengths
pub record IsFilled (lens words : List ℕ) : Type 0 where
  pub same : words ≡ filled lens (cut_in lens words)
  pub row : IsRow lens (cut_in lens words)

-- the fields of a table of n rows fit each other
pub record AreFilled (lens absent : List ℕ) (n : ℕ) (words : List ℕ) : Type 0 where
  pub shape : IsShape lens
  pub past : absent ≡ past_ends lens
  pub size : length words ≡ n * length lens
  pub each : (row : ℕ) → row < n → IsFilled lens (get_or (rows_of (length lens) n words) row [])

-- the words of all rows of a slice, one row behind the other
pub record AreAllWords (v : SliceView) (words : List ℕ) : Type 0 where
  pub size : length words ≡ length v.rows * length v.lens
  pub each : (row : ℕ) → row < length v.rows
      → get_or (rows_of (length v.lens) (length v.rows) words) row []
      ≡ filled v.lens (get_or v.rows row no_row)

-- the words of the rows of all events of process i, one row behind the other
pub record AreEventWords (v : SliceView) (i : ℕ) (words : List ℕ) : Type 0 where
  pub size : length words ≡ count v.lens i * length v.lens
  pub each : (a j : ℕ) → a < count v.lens i → j < length v.lens
      → get_or words (a * length v.lens + j) 0 ≡ count (row_words v i (a + 1)) j
