-- The truth of a local expression in each state of its process.
use Rattle.std.specs.Prelude.{◌≡◌, ℕ, ◌+◌, ◌<◌, ℤ, pos, Bool, true, false, not, ◌&&◌, ◌||◌}
use Rattle.std.specs.Prelude.{List, [], length, map, get_or, ⊤}
use Rattle.std.specs.List.{range_with_len}
use Rattle.run_model.specs.Run.{process_at, state_after}
use Rattle.run_model.specs.Meaning.{compares}
use Rattle.rctl_grammar.specs.Shape.{relation_of}
use Rattle.event_log.specs.States.{StatesView, trace_of}
use Rattle.rctl_parts.specs.declared.expr.LocalSide.{LocalSide}
use Rattle.rctl_parts.specs.declared.expr.LocalSide.TheVariants as side
use Rattle.rctl_parts.specs.Exprs.{Expr, truth, comparison, watch, negation, conjunction}
use Rattle.rctl_parts.specs.Exprs.{disjunction, Exprs, none, more}
use Rattle.rctl_parts.specs.MadeFor.{SideFits}

-- the right side of a comparison, where the variables have these values
abbrev pub side_value : (ℕ → ℤ) → LocalSide → ℤ
side_value value (side.Number k) = k
side_value value (side.Variable v) = value v

abbrev mutual
  -- the truth of an expression, where the variables have these values and the watches these truths
  pub is_true : (ℕ → ℤ) → (ℕ → Bool) → Expr → Bool
  is_true value watched (truth b) = b
  is_true value watched (comparison left compare right) =
      compares (relation_of compare) (value left) (side_value value right)
  is_true value watched (watch number) = watched number
  is_true value watched (negation e) = not (is_true value watched e)
  is_true value watched (conjunction es) = all_true value watched es
  is_true value watched (disjunction es) = some_true value watched es

  -- each of them is true
  pub all_true : (ℕ → ℤ) → (ℕ → Bool) → Exprs → Bool
  all_true value watched none = true
  all_true value watched (more e es) = is_true value watched e && all_true value watched es

  -- one of them is
  pub some_true : (ℕ → ℤ) → (ℕ → Bool) → Exprs → Bool
  some_true value watched none = false
  some_true value watched (more e es) = is_true value watched e || some_true value watched es

-- the value of a variable of a process after so many of its events
abbrev pub value_at : StatesView → ℕ → ℕ → ℕ → ℤ
value_at states process position v =
    get_or (state_after (process_at (trace_of states) process) position) v (pos 0)

-- the truth of a watch after so many events, by the rows of the watches
abbrev pub watched_at : List (List Bool) → ℕ → ℕ → Bool
watched_at watch_rows position w = get_or (get_or watch_rows w []) position false

-- the truth of an expression in one state of a process
abbrev pub truth_at : StatesView → ℕ → List (List Bool) → Expr → ℕ → Bool
truth_at states process watch_rows e position =
    is_true (value_at states process position) (watched_at watch_rows position) e

-- how many events a process has
abbrev pub len_at : StatesView → ℕ → ℕ
len_at states process = length (get_or states.events process [])

-- the truth of an expression in each state of a process, the opening state first
abbrev pub truths_of : StatesView → ℕ → List (List Bool) → Expr → List Bool
truths_of states process watch_rows e =
    map (truth_at states process watch_rows e) (range_with_len 0 (len_at states process + 1))

abbrev mutual
  -- each variable is one of so many, and each watch has a row of so many truths
  pub IsReadable : ℕ → ℕ → List (List Bool) → Expr → Type 0
  IsReadable variables states watch_rows (truth b) = ⊤
  IsReadable variables states watch_rows (comparison left compare right) =
      (left < variables) × SideFits variables right
  IsReadable variables states watch_rows (watch number) =
      (number < length watch_rows) × (length (get_or watch_rows number []) ≡ states)
  IsReadable variables states watch_rows (negation e) = IsReadable variables states watch_rows e
  IsReadable variables states watch_rows (conjunction es) =
      AreReadable variables states watch_rows es
  IsReadable variables states watch_rows (disjunction es) =
      AreReadable variables states watch_rows es

  -- the same of several
  pub AreReadable : ℕ → ℕ → List (List Bool) → Exprs → Type 0
  AreReadable variables states watch_rows none = ⊤
  AreReadable variables states watch_rows (more e es) =
      IsReadable variables states watch_rows e × AreReadable variables states watch_rows es

-- the variables of the process and the rows of the watches are there for the expression
abbrev pub IsReadableAt : StatesView → ℕ → List (List Bool) → Expr → Type 0
IsReadableAt states process watch_rows e =
    IsReadable (length (get_or states.header.vars process [])) (len_at states process + 1)
    watch_rows e

-- ---- one state, as the code has it
