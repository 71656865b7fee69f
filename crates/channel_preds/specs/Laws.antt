-- What the laws of this crate say.
use Rattle.std.specs.Prelude.{◌↔◌, ℕ, ◌<◌, length}
use Rattle.run_model.specs.Cut.{Cut}
use Rattle.run_model.specs.Run.{Watches, clocks_of}
use Rattle.run_model.specs.Formula.{LessOrEqual, InTransit, GreaterOrEqual}
use Rattle.run_model.specs.Consistent.{IsConsistent}
use Rattle.run_model.specs.Meaning.{Sat, ReceiptsHaveSends}
use Rattle.event_log.specs.States.{StatesView, AreWhole, trace_of}
use Rattle.pull_system.specs.Pulls.{ClosedUnder}
use Rattle.channel_preds.specs.Truth.{run_in, name_of, at_most_pulls, at_least_pulls}

-- the pulls of an upper bound hold exactly where it is true
abbrev pub AtMostHoldsWhereTrue : Type 0
AtMostHoldsWhereTrue = (states : StatesView) (watches : Watches) (p q k : ℕ) → AreWhole states
    → p < length states.events → q < length states.events
    → (c : Cut) → IsConsistent (clocks_of (trace_of states)) c
    → ClosedUnder (at_most_pulls states p q k) c
    ↔ Sat (run_in states watches)
    (InTransit (name_of states p) (name_of states q) LessOrEqual k) c

-- the pulls of a lower bound hold exactly where it is true
abbrev pub AtLeastHoldsWhereTrue : Type 0
AtLeastHoldsWhereTrue = (states : StatesView) (watches : Watches) (p q k : ℕ) → AreWhole states
    → p < length states.events → q < length states.events
    → ReceiptsHaveSends (run_in states watches)
    → (c : Cut) → IsConsistent (clocks_of (trace_of states)) c
    → ClosedUnder (at_least_pulls states p q k) c
    ↔ Sat (run_in states watches)
    (InTransit (name_of states p) (name_of states q) GreaterOrEqual k) c
