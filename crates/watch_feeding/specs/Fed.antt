-- Watches that are fed the states of the processes that they are on.
use Rattle.std.specs.Prelude.{◌≡◌, ℕ, ℤ, ◌+◌, ◌<◌, ◌≤◌, Bool, List, [], ◌++◌, Option, Some, None}
use Rattle.std.specs.Prelude.{length, take, get_or, slice_get}
use Rattle.run_model.specs.Run.{process_at, states_of}
use Rattle.event_log.specs.States.{StatesView, AreWhole, trace_of}
use Rattle.local_preds.specs.Rows.{len_at}
use Rattle.watch.specs.declared.predicate.Handed.{Handed}

-- all states of a process, the opening state first
abbrev pub states_at : StatesView → ℕ → List (List ℤ)
states_at states p = states_of (process_at (trace_of states) p)

-- A watch was fed these states, one after the other, each once: what it would have answered to them
-- and to any states behind them is what it answered, which now stands in its row behind the truths
-- that were there, and what it answers to those behind them from now on.
abbrev pub IsFed : List Bool → List (List ℤ) → (List (List ℤ) → List Bool) → List Bool
    → (List (List ℤ) → List Bool) → Type 0
IsFed old_row states before new_row after =
    (rest : List (List ℤ)) → old_row ++ before (states ++ rest) ≡ new_row ++ after rest

-- a watch may be fed the states of process `p` from this number on: the row of its answers has one
-- truth for each state
pub record MayBeFed (states : StatesView) (p from : ℕ) (row : List Bool) : Type 0 where
  pub whole : AreWhole states
  pub process : p < length states.events
  pub within : from ≤ length row
  pub full : length row ≡ len_at states p + 1

-- from where on each watch is fed: no number is above the length of its row
pub record AreWithin (watch_process : List (Option ℕ)) (from : List ℕ) (rows : List (List Bool))
    : Type 0 where
  pub count : length from ≡ length watch_process
  pub each : (w : ℕ) → get_or from w 0 ≤ length (get_or rows w [])

-- as many watches as before, in the same places under the same names; those on no process are as
-- before
pub record KeepPlaces {X : Type 0} {P : X → Type 0} (watch_process : List (Option ℕ))
    (old new : List (Handed X P)) : Type 0 where
  pub count : length new ≡ length old
  pub names : (w : ℕ) (before after : Handed X P) → slice_get old w ≡ Some before
      → slice_get new w ≡ Some after → after.name ≡ before.name
  pub others : (w : ℕ) → get_or watch_process w None ≡ None → slice_get new w ≡ slice_get old w

-- the processes have their states, and each watch has a row and is on one of them or on none; the
-- row of a watch on a process has no more truths than the process has states
pub record HaveRows (states : StatesView) (watch_process : List (Option ℕ))
    (rows : List (List Bool)) : Type 0 where
  pub whole : AreWhole states
  pub count : length rows ≡ length watch_process
  pub process : (w p : ℕ) → get_or watch_process w None ≡ Some p → p < length states.events
  pub within : (w p : ℕ) → get_or watch_process w None ≡ Some p
      → length (get_or rows w []) ≤ len_at states p + 1

-- as many rows as before: the row of a watch on a process has its old truths in front, that of
-- another watch is as before
pub record RowsHaveGrown (watch_process : List (Option ℕ)) (old new : List (List Bool)) : Type 0
  where
    pub count : length new ≡ length old
    pub longer : (w p : ℕ) → get_or watch_process w None ≡ Some p
        → (more : List Bool) × (get_or new w [] ≡ get_or old w [] ++ more)
    pub others : (w : ℕ) → get_or watch_process w None ≡ None
        → get_or new w [] ≡ get_or old w []

-- as many rows as before, each as long as before and with the same truths in front, so many as
-- `from` says; the row of a watch on no process is as before
pub record RowsAreFed (watch_process : List (Option ℕ)) (from : List ℕ)
    (old new : List (List Bool)) : Type 0 where
  pub count : length new ≡ length old
  pub size : (w : ℕ) → length (get_or new w []) ≡ length (get_or old w [])
  pub kept : (w : ℕ) → take (get_or from w 0) (get_or new w [])
      ≡ take (get_or from w 0) (get_or old w [])
  pub others : (w : ℕ) → get_or watch_process w None ≡ None
      → get_or new w [] ≡ get_or old w []
