-- Where the pulls stand that fans hold.
use Rattle.std.specs.Prelude.{◌≡◌, ℕ, ◌<◌, List, [], length, slice_index_or}
use Rattle.pull_system.specs.declared.pull.Pull.{Pull}
use Rattle.pull_fans.specs.declared.places.Place.{Place}
use Rattle.pull_system.specs.System.{no_pull}
use Rattle.pull_fans.specs.Fans.{FanView, pull_of_fan}

-- what is read where there is no fan, and where there is no place
abbrev pub no_fan : FanView
no_fan = record { src = 0; targets = []; tables = [] }

abbrev pub no_place : Place
no_place = record { fan = 0; index = 0 }

abbrev pub fan_at : List FanView → ℕ → FanView
fan_at fans number = slice_index_or fans number no_fan

-- the pull is the one to this target of this fan
pub record IsPlaceOf (fans : List FanView) (place : Place) (pull : Pull) : Type 0 where
  pub fan : place.fan < length fans
  pub index : place.index < length (fan_at fans place.fan).targets
  pub is : pull_of_fan (fan_at fans place.fan) place.index ≡ pull

-- one place for each pull, in their order
pub record ArePlaces (fans : List FanView) (places : List Place) (pulls : List Pull) : Type 0 where
  pub count : length places ≡ length pulls
  pub each : (k : ℕ) → k < length pulls
      → IsPlaceOf fans (slice_index_or places k no_place) (slice_index_or pulls k no_pull)
