-- Local expressions in a run that was logged, and in one that has grown.
use Rattle.std.specs.Prelude.{◌≡◌, ℕ, ◌+◌, ◌<◌, pos, Bool, false, List, [], ◌∷◌, ◌++◌, length, map}
use Rattle.std.specs.Prelude.{get_or, Option, Some, None}
use Rattle.run_model.specs.Run.{Name, Watches, process_at, states_of}
use Rattle.event_log.specs.declared.log.Event.{Event}
use Rattle.event_log.specs.Numbers.{binding_names}
use Rattle.event_log.specs.States.{StatesView, AreWhole, trace_of}
use Rattle.pull_system.specs.declared.pull.Pull.{Pull}
use Rattle.rctl_parts.specs.Exprs.{Expr}
use Rattle.rctl_parts.specs.MadeFor.{ExprFits}
use Rattle.rctl_parts.specs.Spelled.{Names, numbered_name}
use Rattle.local_preds.specs.Rows.{is_true, truths_of, len_at}
use Rattle.local_preds.specs.LocalPulls.{local_pull}

-- the names of the header, and these for the watches
abbrev pub names_of : StatesView → List Name → Names
names_of states watch_names = record {
  processes = states.header.procs;
  variables = map binding_names states.header.vars;
  watches = watch_names;
}

-- the rows of the watches on process p are what the watches of these names answer to its states
abbrev pub AreAnswers : StatesView → Watches → List Name → List (Option ℕ) → List (List Bool) → ℕ
    → Type 0
AreAnswers states watches watch_names watch_process watch_rows p =
    (w : ℕ) → get_or watch_process w None ≡ Some p
    → get_or watch_rows w []
    ≡ watches (numbered_name watch_names w) (states_of (process_at (trace_of states) p))

-- each watch on process p has a row, of one truth per state
abbrev pub AreFull : StatesView → List (Option ℕ) → List (List Bool) → ℕ → Type 0
AreFull states watch_process watch_rows p =
    (w : ℕ) → get_or watch_process w None ≡ Some p
    → (w < length watch_rows) × (length (get_or watch_rows w []) ≡ len_at states p + 1)

-- the expression is made for process p and the watches on it
abbrev pub FitsProcess : StatesView → List (Option ℕ) → ℕ → Expr → Type 0
FitsProcess states watch_process p e =
    ExprFits (length (get_or states.header.vars p [])) watch_process p e

-- the pulls of an expression over process p
abbrev pub local_pulls : StatesView → ℕ → List (List Bool) → Expr → List Pull
local_pulls states p watch_rows e = local_pull p (truths_of states p watch_rows e) ∷ []

-- the truth of an expression that names no variable and no watch
abbrev pub constant_truth : Expr → Bool
constant_truth e = is_true (λ v. pos 0) (λ w. false) e

-- The header is as before, process p has its old events with more behind them, and so has each row
-- of a watch on it, which had a truth for each old state.
pub record HasGrownAt (before after : StatesView) (watch_process : List (Option ℕ))
    (old_rows new_rows : List (List Bool)) (p : ℕ) : Type 0 where
  pub old : AreWhole before
  pub new : AreWhole after
  pub there : p < length before.events
  pub header : after.header ≡ before.header
  pub events : (more : List Event) × (get_or after.events p [] ≡ get_or before.events p [] ++ more)
  pub full : AreFull before watch_process old_rows p
  pub rows : (w : ℕ) → get_or watch_process w None ≡ Some p
      → (more : List Bool) × (get_or new_rows w [] ≡ get_or old_rows w [] ++ more)
