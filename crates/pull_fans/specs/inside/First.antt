-- The system of the first fans.
use Rattle.std.specs.Prelude.{◌≡◌, ◌<◌, ◌≤◌, ℕ, List, All, length, take}
use Rattle.pull_system.specs.declared.pull.Pull.{Pull}
use Rattle.pull_system.specs.System.{SystemView}
use Rattle.pull_fans.specs.Fans.{FanView, pulls_of_fans}
use Rattle.pull_fans.specs.declared.asks.AskRows.{AskRows}
use Rattle.pull_fans.specs.declared.places.Place.{Place}
use Rattle.pull_fans.specs.inside.Asks.{AreAllAsks}
use Rattle.pull_fans.specs.inside.Places.{ArePlaces, fan_at}
use Rattle.pull_fans.specs.inside.Sources.{AreBySource}

-- the system of the pulls of so many first fans
abbrev pub first_system : List ℕ → List FanView → ℕ → SystemView
first_system lens fans count = record { lens = lens; pulls = pulls_of_fans (take count fans) }

-- so many first fans have so many pulls
pub record HavePulls (fans : List FanView) (count pulls : ℕ) : Type 0 where
  pub there : count ≤ length fans
  pub are : length (pulls_of_fans (take count fans)) ≡ pulls

-- the pull does not come from the process
abbrev pub IsFromOther : ℕ → Pull → Type 0
IsFromOther process pull = pull.src ≡ process → ⊥

-- the fan of this number is the first with pulls from the process
pub record IsFirstFrom (fans : List FanView) (process number : ℕ) : Type 0 where
  pub there : number < length fans
  pub from : (fan_at fans number).src ≡ process
  pub before : All (IsFromOther process) (pulls_of_fans (take number fans))

-- the places, the numbers and the rows of asks are those of so many first fans
pub record IsKnown (lens : List ℕ) (fans : List FanView) (count : ℕ) (places : List Place)
    (by_source : List (List ℕ)) (asks : List AskRows) : Type 0 where
  pub there : count ≤ length fans
  pub places_are : ArePlaces fans places (pulls_of_fans (take count fans))
  pub numbers : AreBySource (first_system lens fans count) by_source
  pub rows : AreAllAsks (first_system lens fans count) fans asks
