-- The log that a seed gives.
use Rattle.std.specs.Prelude.{ℕ, zero, suc, pos, ◌+◌, List, [], ◌∷◌, replicate, codes}
use Rattle.std.specs.Fmt.{decimal}
use Rattle.event_log.specs.declared.log.Binding.{Binding}
use Rattle.event_log.specs.declared.log.Event.{Event}
use Rattle.event_log.specs.declared.log.Header.{Header}
use Rattle.event_log.specs.declared.log.Log.{Log}
use Rattle.event_log.specs.Before.{headed}
use Rattle.trace_gen.specs.Words.{word, first_state, next_state}
use Rattle.trace_gen.specs.Making.{Processes, made}

-- the events from number k on, so many, with the words from this state on
unfoldable pub events_from : ℕ → ℕ → ℕ → ℕ → Processes → List Event
events_from procs k zero s ps = []
events_from procs k (suc n) s ps =
    (made procs k (word s) ps).event
    ∷ events_from procs (k + 1) n (next_state s) (made procs k (word s) ps).processes

-- no events, receipts and messages yet
abbrev pub at_rest : ℕ → Processes
at_rest procs = replicate procs (record { clock = replicate procs 0; seen = 0; waiting = [] })

abbrev pub generated_events : ℕ → ℕ → ℕ → List Event
generated_events seed procs events = events_from procs 0 events (first_state seed) (at_rest procs)

-- `P1`, `P2` and so on, by the index from 0
abbrev pub name_of : ℕ → List ℕ
name_of i = 80 ∷ decimal (i + 1)

abbrev pub names_from : ℕ → ℕ → List (List ℕ)
names_from i zero = []
names_from i (suc n) = name_of i ∷ names_from (i + 1) n

-- `n=0 seen=0`
abbrev pub opening : List Binding
opening = record { name = codes "n"; value = pos 0 }
    ∷ record { name = codes "seen"; value = pos 0 } ∷ []

-- of version 1
abbrev pub header_of : ℕ → Header
header_of procs = headed 1 (names_from 0 procs) (replicate procs opening)

-- one batch
abbrev pub generated : ℕ → ℕ → ℕ → Log
generated seed procs events =
    record { header = header_of procs; batches = generated_events seed procs events ∷ [] }
