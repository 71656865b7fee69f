-- Which source has lines of which process, by its number.
use Rattle.std.specs.Prelude.{◌≡◌, ℕ, zero, suc, ◌<◌, ◌≤◌, List, [], length, Option}
use Rattle.std.specs.Prelude.{None, IfSome, slice_get, get_or}
use Rattle.std.specs.List.{list_any}
use Rattle.std.specs.Option.{is_some}
use Rattle.pota_base.specs.Limits.{most_events, most_processes, most_sources}
use Rattle.log_lines.specs.Reading.{choose}
use Rattle.event_log.specs.declared.log.Binding.{Binding}
use Rattle.event_log.specs.declared.log.Log.{Log}
use Rattle.event_log.specs.Numbers.{variables_at}
use Rattle.log_merge.specs.declared.judging.Joined.{Joined}
use Rattle.log_merge.specs.Sources.{has_lines_of, events_in}
use Rattle.log_merge.specs.Faults.{merge_fault}
use Rattle.log_merge.specs.Merging.{Placed, placed_in, placed_from, of_process}
use Rattle.log_merge.specs.Merging.{variables_in}

-- the source of this number
abbrev pub numbered_source : ℕ → List Log → Option Log
numbered_source zero sources = None
numbered_source (suc n) sources = slice_get sources n

-- the events of the source of this number
abbrev pub events_there : ℕ → List Log → List Placed
events_there number sources = choose (numbered_source number sources) (placed_in number) []

-- its variables of the process
abbrev pub variables_there : ℕ → List Log → ℕ → List Binding
variables_there number sources process =
    choose (numbered_source number sources) (λ (s : Log). variables_at s.header.vars process) []

-- the source of this number has all lines of the process, or no source has any
pub record IsOwner (sources : List Log) (process : ℕ) (owner : Option ℕ) : Type 0 where
  pub there : IfSome owner (λ n. (0 < n) × (n ≤ length sources))
  pub told : list_any (has_lines_of process) sources ≡ is_some owner
  pub events : of_process process (placed_from 1 sources)
      ≡ choose owner (λ n. events_there n sources) []
  pub variables : variables_in process sources
      ≡ choose owner (λ n. variables_there n sources process) []

-- each process has its owner in the list
abbrev pub AreOwners : List Log → List (Option ℕ) → Type 0
AreOwners sources owners =
    (process : ℕ) → process < most_processes → IsOwner sources process (get_or owners process None)

-- what is known of sources that have no fault
pub record IsJudged (sources : List Log) (owners : List (Option ℕ)) : Type 0 where
  pub none : merge_fault sources ≡ None
  pub owners_are : AreOwners sources owners
  pub few : events_in sources ≤ most_events

-- what is known of sources that are joined: they have no fault
pub record HasJoined (joined : Joined) (sources : List Log) : Type 0 where
  pub judged : IsJudged sources joined.owners
  pub count_is : joined.count ≡ events_in sources
  pub few : length sources ≤ most_sources
  pub long : length joined.owners ≡ most_processes
