-- The merged log, and where its events come from.
use Rattle.std.specs.Prelude.{ℕ, zero, suc, ◌+◌, ◌==◌, List, [], ◌∷◌, ◌++◌, length, map, replicate}
use Rattle.std.specs.Prelude.{filter, flat_map}
use Rattle.event_log.specs.declared.log.Binding.{Binding}
use Rattle.event_log.specs.declared.log.Event.{Event}
use Rattle.event_log.specs.declared.log.Header.{Header}
use Rattle.event_log.specs.declared.log.Log.{Log}
use Rattle.event_log.specs.Numbers.{variables_at}
use Rattle.log_merge.specs.declared.merged.Merged.{Merged}
use Rattle.log_merge.specs.declared.merged.Origin.{Origin}
use Rattle.log_merge.specs.Sources.{events_of}

-- an event of a source, by the number of the source
pub record Placed : Type 0 where
  pub source : ℕ
  pub event : Event

abbrev pub placed_events : ℕ → List Event → List Placed
placed_events source events = map (λ (e : Event). record { source = source; event = e }) events

abbrev pub placed_in : ℕ → Log → List Placed
placed_in source log = placed_events source (events_of log)

-- the events of all sources, those numbered from this number on
abbrev pub placed_from : ℕ → List Log → List Placed
placed_from number [] = []
placed_from number (source ∷ rest) = placed_in number source ++ placed_from (number + 1) rest

-- of these the events of one process
abbrev pub of_process : ℕ → List Placed → List Placed
of_process process events = filter (λ (x : Placed). x.event.process == process) events

-- and those of so many processes, from this one on, in the order of the processes
abbrev pub by_process : ℕ → ℕ → List Placed → List Placed
by_process process zero events = []
by_process process (suc n) events =
    of_process process events ++ by_process (process + 1) n events

-- the events, each with its number as its line, from this number on
abbrev pub numbered : ℕ → List Placed → List Event
numbered number [] = []
numbered number (x ∷ rest) = record x.event { line = number } ∷ numbered (number + 1) rest

-- where they come from
abbrev pub origins : List Placed → List Origin
origins events = map (λ (x : Placed). record { source = x.source; line = x.event.line }) events

-- the variables of a process in all sources
abbrev pub variables_in : ℕ → List Log → List Binding
variables_in process sources =
    flat_map (λ (s : Log). variables_at s.header.vars process) sources

-- of so many processes, from this one on
abbrev pub all_variables : ℕ → ℕ → List Log → List (List Binding)
all_variables process zero sources = []
all_variables process (suc n) sources =
    variables_in process sources ∷ all_variables (process + 1) n sources

-- the header of the first source with the variables of all
abbrev pub merged_header : List Log → Header
merged_header [] = record { version = 1; procs = []; vars = []; var_lines = [] }
merged_header (first ∷ rest) = record first.header {
  vars = all_variables 0 (length first.header.procs) (first ∷ rest);
  var_lines = replicate (length first.header.procs) 0;
}

-- the events of all sources in the order of the processes
abbrev pub merged_events : List Log → List Placed
merged_events sources =
    by_process 0 (length (merged_header sources).procs) (placed_from 1 sources)

-- the one batch has all events
abbrev pub merged_log : List Log → Log
merged_log sources = record {
  header = merged_header sources;
  batches = numbered 1 (merged_events sources) ∷ [];
}

abbrev pub merged : List Log → Merged
merged sources =
    record { log = merged_log sources; origins = origins (merged_events sources) }
