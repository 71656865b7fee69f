-- What settling more rows does to a seat, and to the marks of what is done.
use Rattle.std.specs.Prelude.{◌≡◌, ℕ, List, Bool, true, false, slice_index_or}
use Rattle.pull_system.specs.Vector.{IsAtMost}
use Rattle.pull_system.specs.System.{SystemView}
use Rattle.raise_machine.specs.Bounds.{AreBounds}
use Rattle.bound_table.specs.Views.{SeatView, KeepsClaims}
use Rattle.slice_workers.specs.inside.Reaching.{AreHanded}

-- the seat claims what it claimed, no number of its floor fell, and the floor is within the bounds
pub record HasOnlyRisen (system : SystemView) (old new : SeatView) : Type 0 where
  pub keeps : KeepsClaims old new
  pub rises : IsAtMost old.floor new.floor
  pub bounds : AreBounds system new.floor

-- more processes are marked: the floor rose and reached their rows, and the marks of before stay
pub record HasSettled (system : SystemView) (old new : SeatView) (before after : List Bool)
    : Type 0 where
  pub table : new.table ≡ old.table
  pub rises : IsAtMost old.floor new.floor
  pub handed : AreHanded system new.floor after
  pub stays : (process : ℕ) → slice_index_or before process false ≡ true
      → slice_index_or after process false ≡ true
