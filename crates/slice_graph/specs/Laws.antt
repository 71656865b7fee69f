-- What the laws of this crate say.
use Rattle.std.specs.Prelude.{◌≡◌, ℕ, ◌≤◌, List, sum, get_or}
use Rattle.run_model.specs.Cut.{Clocks}
use Rattle.pull_system.specs.System.{IsSystem}
use Rattle.pull_system.specs.Rows.{AreLeastRows, row_at}
use Rattle.slice_graph.specs.Views.{SliceView, HasAllRows, no_row}
use Rattle.slice_graph.specs.Words.{filled}
use Rattle.slice_graph.specs.Starting.{AreWithinClosed}
use Rattle.slice_graph.specs.Fitting.{FitsOrder}
use Rattle.slice_graph.specs.PullLists.{pulls_of_slice}

-- a slice's own rows are the least rows of its pulls
abbrev pub RowsOfOneSlice : Type 0
RowsOfOneSlice = (o : Clocks) (v : SliceView) → FitsOrder o v → HasAllRows v
    → IsSystem (record { lens = v.lens; pulls = pulls_of_slice v }) → (words : List ℕ)
    → ((row : ℕ) → row ≤ sum v.lens
    → row_at v.lens words row ≡ filled v.lens (get_or v.rows row no_row))
    → AreWithinClosed v.lens (pulls_of_slice v) words
    → AreLeastRows (record { lens = v.lens; pulls = pulls_of_slice v }) words
