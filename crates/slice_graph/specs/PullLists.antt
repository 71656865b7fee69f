-- The pulls of an order and those of a slice, by source and then by target.
use Rattle.std.specs.Prelude.{ℕ, zero, suc, ◌+◌, ◌==◌, min, nat_le, List, [], ◌∷◌}
use Rattle.std.specs.Prelude.{length, map, flat_map, if◌then◌else◌}
use Rattle.std.specs.List.{range_with_len}
use Rattle.run_model.specs.Cut.{Clocks, count, lengths}
use Rattle.run_model.specs.Consistent.{clock}
use Rattle.pull_system.specs.declared.pull.Pull.{Pull}
use Rattle.slice_graph.specs.Views.{SliceView}
use Rattle.slice_graph.specs.Words.{row_words}

-- what each pair of numbers below n gives, by the first number and then by the second
abbrev pub by_pairs : (ℕ → ℕ → List Pull) → ℕ → List Pull
by_pairs f n = flat_map (λ i. flat_map (f i) (range_with_len 0 n)) (range_with_len 0 n)

-- how many events of process j the pasts of the first x events of process i have
abbrev pub past_count : Clocks → ℕ → ℕ → ℕ → ℕ
past_count o i j zero = 0
past_count o i j (suc x) = count (clock o i (suc x)) j

-- what the order asks of process j where process i has x events, and past the last one the same
abbrev pub order_entry : Clocks → ℕ → ℕ → ℕ → ℕ
order_entry o i j x = past_count o i j (min x (count (lengths o) i))

abbrev pub order_table : Clocks → ℕ → ℕ → List ℕ
order_table o i j = map (order_entry o i j) (range_with_len 0 (count (lengths o) i + 2))

-- the pull between two processes that are not the same
abbrev pub order_pull : Clocks → ℕ → ℕ → List Pull
order_pull o i j =
    if i == j then [] else record { src = i; dst = j; table = order_table o i j } ∷ []

-- the pulls of the order: a cut is closed under them exactly where it is consistent
abbrev pub pulls_of_order : Clocks → List Pull
pulls_of_order o = by_pairs (order_pull o) (length o)

-- what the slice asks of process j where process i has x events: the row's count, and past the last
-- event what no cut has
abbrev pub slice_entry : SliceView → ℕ → ℕ → ℕ → ℕ
slice_entry v i j x =
    if nat_le x (count v.lens i) then count (row_words v i x) j else count v.lens j + 1

abbrev pub slice_table : SliceView → ℕ → ℕ → List ℕ
slice_table v i j = map (slice_entry v i j) (range_with_len 0 (count v.lens i + 2))

abbrev pub slice_pull : SliceView → ℕ → ℕ → List Pull
slice_pull v i j = record { src = i; dst = j; table = slice_table v i j } ∷ []

-- the pulls of the slice: a cut is closed under them exactly where the slice has it
abbrev pub pulls_of_slice : SliceView → List Pull
pulls_of_slice v = by_pairs (slice_pull v) (length v.lens)
