-- Inside: which source has the lines of which process, and the events gathered so far.
use Rattle.std.specs.Prelude.{◌≡◌, ℕ, ◌+◌, ◌<◌, List, ◌++◌, length, Option}
use Rattle.std.specs.Prelude.{Some, set}
use Rattle.pota_base.specs.Limits.{most_processes}
use Rattle.log_merge.specs.declared.gathering.Gathered.{Gathered}
use Rattle.log_merge.specs.declared.seen.Seen.{Seen}
use Rattle.log_merge.specs.declared.seen.Seen.TheVariants.{Nothing, One, Two}
use Rattle.log_merge.specs.Merging.{Placed, numbered, origins}

-- the process of the lines is one of 32
abbrev pub IsOfAProcess : Seen → Type 0
IsOfAProcess Nothing = Unit {0}
IsOfAProcess (One process line) = process < most_processes
IsOfAProcess (Two line) = Unit {0}

-- the owners with the source of this number, which has these lines
abbrev pub with_owner : List (Option ℕ) → Seen → ℕ → List (Option ℕ)
with_owner owners Nothing number = owners
with_owner owners (One process line) number = set owners process (Some number)
with_owner owners (Two line) number = owners

-- these events more, with their numbers and origins
pub record Gathers (old new : Gathered) (more : List Placed) : Type 0 where
  pub events : new.events ≡ old.events ++ numbered (length old.events + 1) more
  pub origins_are : new.origins ≡ old.origins ++ origins more
