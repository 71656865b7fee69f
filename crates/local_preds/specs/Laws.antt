-- What the laws of this crate say.
use Rattle.std.specs.Prelude.{◌↔◌, ℕ, ◌<◌, Bool, List, length, Option, Some, map}
use Rattle.run_model.specs.Cut.{Cut}
use Rattle.run_model.specs.Run.{Name, Watches, clocks_of, run_of}
use Rattle.run_model.specs.Consistent.{IsConsistent}
use Rattle.run_model.specs.Meaning.{Sat}
use Rattle.event_log.specs.States.{StatesView, AreWhole, trace_of}
use Rattle.pull_system.specs.Pulls.{ClosedUnder}
use Rattle.rctl_parts.specs.Exprs.{Expr}
use Rattle.rctl_parts.specs.Spelled.{local_formula}
use Rattle.local_preds.specs.LocalRuns.{names_of, AreAnswers, FitsProcess, local_pulls, HasGrownAt}
use Rattle.pull_system.specs.Growth.{PullGrows}
use Rattle.local_preds.specs.Rows.{truths_of}
use Rattle.local_preds.specs.LocalPulls.{local_pull}

-- the pulls of a local part hold exactly where it is true
abbrev pub LocalPartsHoldWhereTrue : Type 0
LocalPartsHoldWhereTrue = (states : StatesView) (watches : Watches) (watch_names : List Name)
    (watch_process : List (Option ℕ)) (watch_rows : List (List Bool)) (p : ℕ) (e : Expr)
    → AreWhole states → p < length states.events → FitsProcess states watch_process p e
    → AreAnswers states watches watch_names watch_process watch_rows p
    → (c : Cut) → IsConsistent (clocks_of (trace_of states)) c
    → ClosedUnder (local_pulls states p watch_rows e) c
    ↔ Sat (run_of (trace_of states) watches)
    (local_formula (names_of states watch_names) (Some p) e) c

-- the pull of a local part asks for no less when more events come
abbrev pub LocalPullsGrow : Type 0
LocalPullsGrow = (before after : StatesView) (watch_process : List (Option ℕ))
    (old_rows new_rows : List (List Bool)) (p : ℕ) (e : Expr)
    → HasGrownAt before after watch_process old_rows new_rows p
    → FitsProcess before watch_process p e
    → PullGrows (map length before.events) (map length after.events)
    (local_pull p (truths_of before p old_rows e))
    (local_pull p (truths_of after p new_rows e))
