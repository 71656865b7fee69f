-- Counters in a run that was logged, and in one that has grown.
use Rattle.std.specs.Prelude.{◌≡◌, ℕ, ℤ, List, [], ◌∷◌, ◌++◌, get_or}
use Rattle.run_model.specs.Run.{Name}
use Rattle.event_log.specs.declared.log.Event.{Event}
use Rattle.event_log.specs.LogText.{name_at}
use Rattle.event_log.specs.Numbers.{binding_names}
use Rattle.event_log.specs.States.{StatesView}
use Rattle.pull_system.specs.declared.pull.Pull.{Pull}
use Rattle.channel_preds.specs.Channels.{events_at}
use Rattle.counter_preds.specs.declared.values.Variable.{Variable}
use Rattle.counter_preds.specs.Counters.{at_most_pull, at_least_pull}

-- the name of the process of a variable, and its own
abbrev pub process_of : StatesView → Variable → Name
process_of states v = name_at states.header.procs v.process

abbrev pub variable_of : StatesView → Variable → Name
variable_of states v = name_at (binding_names (get_or states.header.vars v.process [])) v.number

-- the pulls that say of a run that the difference is at most k
abbrev pub at_most_pulls : StatesView → Variable → Variable → ℤ → List Pull
at_most_pulls states left right k = at_most_pull states left right k ∷ []

-- the pulls that say that it is at least k
abbrev pub at_least_pulls : StatesView → Variable → Variable → ℤ → List Pull
at_least_pulls states left right k = at_least_pull states left right k ∷ []

-- the header is the same, and each process has its old events, with more behind them
pub record HasMoreEvents (before after : StatesView) : Type 0 where
  pub header : after.header ≡ before.header
  pub each : (p : ℕ) → (more : List Event) × (events_at after p ≡ events_at before p ++ more)
