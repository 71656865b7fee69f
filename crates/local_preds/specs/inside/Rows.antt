-- Inside: values, sides and truths at one state of a process.
use Rattle.std.specs.Prelude.{◌≡◌, ℕ, ◌+◌, ◌<◌, ◌≤◌, ℤ, Bool, true}
use Rattle.std.specs.Prelude.{[], length, get_or}
use Rattle.rctl_parts.specs.declared.expr.LocalSide.{LocalSide}
use Rattle.rctl_parts.specs.declared.expr.LocalSide.TheVariants as side
use Rattle.rctl_parts.specs.Exprs.{Expr, truth, comparison, watch}
use Rattle.rctl_parts.specs.Exprs.{Exprs}
use Rattle.local_preds.specs.declared.holding.StateAt.{StateAt}
use Rattle.local_preds.specs.Rows.{AreReadable, IsReadableAt, all_true, is_true, len_at, side_value}
use Rattle.local_preds.specs.Rows.{some_true, value_at, watched_at}

-- its process and its position are there
pub record IsState (at : StateAt) : Type 0 where
  pub process : at.process < length at.states.now.events
  pub position : at.position ≤ len_at at.states.now at.process

-- how many variables its process has
abbrev pub variables_in : StateAt → ℕ
variables_in at = length (get_or at.states.now.header.vars at.process [])

-- the value of a variable there
abbrev pub value_in : StateAt → ℕ → ℤ
value_in at = value_at at.states.now at.process at.position

-- the value of the right side of a comparison there
abbrev pub side_in : StateAt → LocalSide → ℤ
side_in at side = side_value (value_in at) side

-- the watch has a truth for each state of the process
abbrev pub HasWatch : StateAt → ℕ → Type 0
HasWatch at w =
    (w < length at.watch_rows.now)
    × (length (get_or at.watch_rows.now w []) ≡ len_at at.states.now at.process + 1)

-- the truth of a watch there
abbrev pub watch_in : StateAt → ℕ → Bool
watch_in at = watched_at at.watch_rows.now at.position

-- the expression can be read there
abbrev pub IsReadableIn : StateAt → Expr → Type 0
IsReadableIn at e = IsReadableAt at.states.now at.process at.watch_rows.now e

-- the same of several
abbrev pub AreReadableIn : StateAt → Exprs → Type 0
AreReadableIn at es =
    AreReadable (variables_in at) (len_at at.states.now at.process + 1) at.watch_rows.now es

-- the truth of an expression there
abbrev pub truth_in : StateAt → Expr → Bool
truth_in at e = is_true (value_in at) (watch_in at) e

-- each of them is true there
abbrev pub all_true_in : StateAt → Exprs → Bool
all_true_in at es = all_true (value_in at) (watch_in at) es

-- one of them is true there
abbrev pub some_true_in : StateAt → Exprs → Bool
some_true_in at es = some_true (value_in at) (watch_in at) es
