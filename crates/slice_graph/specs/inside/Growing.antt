-- Inside: the rows that the order asks for behind those that are there.
use Rattle.std.specs.Prelude.{◌≡◌, ℕ, ◌+◌, ◌-◌, ◌*◌, ◌<◌, List, [], length, get_or}
use Rattle.run_model.specs.Cut.{Clocks, count, lengths}
use Rattle.slice_graph.specs.PullLists.{order_entry}

-- what the order asks where process i has more events than the first so many: one row of one entry
-- per process for each number of events, up to one more than the process has
pub record AreRowsBehind (o : Clocks) (i first : ℕ) (rows : List ℕ) : Type 0 where
  pub size : length rows ≡ (count (lengths o) i - first + 1) * length o
  pub each : (y j : ℕ) → y < count (lengths o) i - first + 1 → j < length o
      → get_or rows (y * length o + j) 0 ≡ order_entry o i j (first + 1 + y)

-- such rows of each process, behind the first events of which there are so many
pub record AreAllBehind (o : Clocks) (firsts : List ℕ) (more : List (List ℕ)) : Type 0 where
  pub size : length more ≡ length o
  pub each : (i : ℕ) → i < length o → AreRowsBehind o i (count firsts i) (get_or more i [])
