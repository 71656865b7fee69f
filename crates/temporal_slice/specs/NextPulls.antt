-- The pulls of EX of a process: what the child asks of the cut with the process's next event, asked
-- of the cut itself.
use Rattle.std.specs.Prelude.{ℕ, ◌+◌, ◌-◌, ◌==◌, nat_le, List, [], ◌∷◌, length, map}
use Rattle.std.specs.Prelude.{if◌then◌else◌}
use Rattle.std.specs.List.{range_with_len}
use Rattle.run_model.specs.Cut.{count}
use Rattle.pull_system.specs.declared.pull.Pull.{Pull}
use Rattle.slice_graph.specs.Views.{SliceView}
use Rattle.slice_graph.specs.Words.{row_words}
use Rattle.slice_graph.specs.PullLists.{by_pairs}

-- how many events of process i the cut with the next one of process p has, where the cut has x
abbrev pub with_one : ℕ → ℕ → ℕ → ℕ
with_one p i x = if i == p then x + 1 else x

-- how many events of process j the cut must have, for w of them with the next one of process p
abbrev pub one_less : ℕ → ℕ → ℕ → ℕ
one_less p j w = if j == p then w - 1 else w

-- what is asked of process j where process i has x events: what the row of the last of them asks,
-- and past the last event what no cut has
abbrev pub next_entry : SliceView → ℕ → ℕ → ℕ → ℕ → ℕ
next_entry v p i j x =
    if nat_le (with_one p i x) (count v.lens i)
    then one_less p j (count (row_words v i (with_one p i x)) j) else count v.lens j + 1

abbrev pub next_table : SliceView → ℕ → ℕ → ℕ → List ℕ
next_table v p i j = map (next_entry v p i j) (range_with_len 0 (count v.lens i + 2))

abbrev pub next_pull : SliceView → ℕ → ℕ → ℕ → List Pull
next_pull v p i j = record { src = i; dst = j; table = next_table v p i j } ∷ []

-- the pulls of EX of process p: a consistent cut is closed under them exactly where the slice has
-- the cut with the next event of the process
abbrev pub pulls_of_next : SliceView → ℕ → List Pull
pulls_of_next v p = by_pairs (next_pull v p) (length v.lens)
