-- Channels in a run that was logged, and in one that has grown.
use Rattle.std.specs.Prelude.{◌≡◌, ℕ, List, [], ◌∷◌, ◌++◌, length, map}
use Rattle.run_model.specs.Run.{Name, Run, Watches, run_of}
use Rattle.event_log.specs.declared.log.Event.{Event}
use Rattle.event_log.specs.LogText.{name_at}
use Rattle.event_log.specs.States.{StatesView, trace_of}
use Rattle.pull_system.specs.declared.pull.Pull.{Pull}
use Rattle.channel_preds.specs.Channels.{channel_of, at_most_pull, at_least_pull, events_at}

-- what formulas see of the states, under these watches
abbrev pub run_in : StatesView → Watches → Run
run_in states watches = run_of (trace_of states) watches

-- the name of a process by its number
abbrev pub name_of : StatesView → ℕ → Name
name_of states p = name_at states.header.procs p

-- the pulls that say of a run that at most k messages are under way from p to q
abbrev pub at_most_pulls : StatesView → ℕ → ℕ → ℕ → List Pull
at_most_pulls states p q k = at_most_pull (channel_of states p q) k ∷ []

-- the pulls that say that at least k are
abbrev pub at_least_pulls : StatesView → ℕ → ℕ → ℕ → List Pull
at_least_pulls states p q k = at_least_pull (channel_of states p q) k ∷ []

-- each process has its old events, with more behind them
pub record HasMoreEvents (before after : StatesView) : Type 0 where
  pub each : (p : ℕ) → (more : List Event) × (events_at after p ≡ events_at before p ++ more)

-- how many events each process has
abbrev pub lens_of : StatesView → List ℕ
lens_of states = map length states.events
