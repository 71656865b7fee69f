-- How rows stand in one block of words: each word of a row without a cut is one more than the
-- length.
use Rattle.std.specs.Prelude.{ℕ, ◌+◌, List, length, get_or, map, Option, Some}
use Rattle.std.specs.Prelude.{None, nat_le, if◌then◌else◌}
use Rattle.run_model.specs.Cut.{Cut}
use Rattle.causal_order.specs.Blocks.{rows_of}
use Rattle.slice_graph.specs.Views.{SliceView, last_row, slice_of}

-- one more than each length
abbrev pub past_ends : List ℕ → List ℕ
past_ends lens = map (λ (len : ℕ). len + 1) lens

-- the words of a row
abbrev pub filled : List ℕ → Option Cut → List ℕ
filled lens None = past_ends lens
filled lens (Some c) = c

-- the row that has these words
abbrev pub cut_in : List ℕ → List ℕ → Option Cut
cut_in lens words = if nat_le (get_or words 0 0) (get_or lens 0 0) then Some words else None

-- the first n rows of a block of words
abbrev pub cuts_in : List ℕ → ℕ → List ℕ → List (Option Cut)
cuts_in lens n words = map (cut_in lens) (rows_of (length lens) n words)

-- the words of the row of the last of the first a events of process i
abbrev pub row_words : SliceView → ℕ → ℕ → List ℕ
row_words v i a = filled v.lens (last_row (slice_of v) i a)
