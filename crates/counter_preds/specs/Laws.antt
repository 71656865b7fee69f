-- What the laws of this crate say.
use Rattle.std.specs.Prelude.{◌↔◌, ℤ}
use Rattle.run_model.specs.Cut.{Cut}
use Rattle.run_model.specs.Run.{Watches, clocks_of}
use Rattle.run_model.specs.Consistent.{IsConsistent}
use Rattle.run_model.specs.Formula.{LessOrEqual, Difference, GreaterOrEqual}
use Rattle.run_model.specs.Meaning.{Sat}
use Rattle.event_log.specs.States.{StatesView, AreWhole, trace_of}
use Rattle.pull_system.specs.Pulls.{ClosedUnder}
use Rattle.channel_preds.specs.Truth.{run_in, lens_of}
use Rattle.counter_preds.specs.declared.values.Variable.{Variable}
use Rattle.counter_preds.specs.Counters.{IsVariable, IsCounter, at_most_pull, at_least_pull}
use Rattle.counter_preds.specs.Truth.{process_of, variable_of, at_most_pulls, at_least_pulls}
use Rattle.counter_preds.specs.Truth.{HasMoreEvents}
use Rattle.pull_system.specs.Growth.{PullGrows}

-- the pulls of an upper bound hold exactly where it is true
abbrev pub AtMostHoldsWhereTrue : Type 0
AtMostHoldsWhereTrue = (states : StatesView) (watches : Watches) (left right : Variable) (k : ℤ)
    → AreWhole states → IsVariable states left → IsVariable states right
    → IsCounter states left → IsCounter states right
    → (c : Cut) → IsConsistent (clocks_of (trace_of states)) c
    → ClosedUnder (at_most_pulls states left right k) c
    ↔ Sat (run_in states watches) (Difference (process_of states left)
    (variable_of states left) (process_of states right) (variable_of states right)
    LessOrEqual k) c

-- the pulls of a lower bound hold exactly where it is true
abbrev pub AtLeastHoldsWhereTrue : Type 0
AtLeastHoldsWhereTrue = (states : StatesView) (watches : Watches) (left right : Variable) (k : ℤ)
    → AreWhole states → IsVariable states left → IsVariable states right
    → IsCounter states left → IsCounter states right
    → (c : Cut) → IsConsistent (clocks_of (trace_of states)) c
    → ClosedUnder (at_least_pulls states left right k) c
    ↔ Sat (run_in states watches) (Difference (process_of states left)
    (variable_of states left) (process_of states right) (variable_of states right)
    GreaterOrEqual k) c

-- the pull of an upper bound asks for no less when more events come
abbrev pub AtMostPullsGrow : Type 0
AtMostPullsGrow = (before after : StatesView) (left right : Variable) (k : ℤ)
    → HasMoreEvents before after → AreWhole before → AreWhole after
    → IsVariable before left → IsVariable before right
    → IsCounter after left → IsCounter after right
    → PullGrows (lens_of before) (lens_of after) (at_most_pull before left right k)
    (at_most_pull after left right k)

-- the pull of a lower bound asks for no less when more events come
abbrev pub AtLeastPullsGrow : Type 0
AtLeastPullsGrow = (before after : StatesView) (left right : Variable) (k : ℤ)
    → HasMoreEvents before after → AreWhole before → AreWhole after
    → IsVariable before left → IsVariable before right
    → IsCounter after left → IsCounter after right
    → PullGrows (lens_of before) (lens_of after) (at_least_pull before left right k)
    (at_least_pull after left right k)
