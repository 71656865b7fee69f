-- What formulas by numbers are judged on: a trace, and what the watches answered to its states.
use Rattle.std.specs.Prelude.{◌≡◌, ℕ, ℤ, false, List, length, map}
use Rattle.run_model.specs.Cut.{Cut, Clocks, lengths}
use Rattle.run_model.specs.Run as run
use Rattle.run_model.specs.Run.{Name, Watches, Run}
use Rattle.run_model.specs.Meaning.{Family}
use Rattle.event_log.specs.States.{trace_of}
use Rattle.rctl_parts.specs.Pieces.{Piece}
use Rattle.rctl_parts.specs.Spelled.{Names, conjunction_of}
use Rattle.rctl_parts.specs.MadeFor.{Scope}
use Rattle.local_preds.specs.LocalRuns.{names_of}
use Rattle.local_preds.specs.LocalRuns as local
use Rattle.part_pulls.specs.declared.observed.Observed.{Observed}

-- the run that was observed
abbrev pub trace_seen : Observed → run.Trace
trace_seen seen = trace_of seen.trace.states

-- its vector clocks
abbrev pub clocks_seen : Observed → Clocks
clocks_seen seen = run.clocks_of (trace_seen seen)

-- how many events each process has
abbrev pub lens_seen : Observed → List ℕ
lens_seen seen = lengths (clocks_seen seen)

-- all states of a process, the opening state first
abbrev pub states_seen : Observed → ℕ → List (List ℤ)
states_seen seen p = run.states_of (run.process_at (trace_seen seen) p)

-- names for the numbers of watches, and what the watches of these names answer
pub record Reading : Type 0 where
  pub watch_names : List Name
  pub watches : Watches

-- the rows are what the watches answer to all states of their processes
pub record AreAnswers (seen : Observed) (reading : Reading) : Type 0 where
  pub each : (p : ℕ) → local.AreAnswers seen.trace.states reading.watches reading.watch_names
      seen.watch_process seen.watch_rows p

abbrev pub run_seen : Observed → Reading → Run
run_seen seen reading = run.run_of (trace_seen seen) reading.watches

-- the names of the header, and those that the reading has for watches
abbrev pub names_seen : Observed → Reading → Names
names_seen seen reading = names_of seen.trace.states reading.watch_names

-- the consistent cuts at which all of the parts are true
abbrev pub Satisfying : Observed → Reading → List Piece → Cut → Type 0
Satisfying seen reading ps =
    Family (run_seen seen reading) (conjunction_of (names_seen seen reading) ps)

-- what the parts have to be made for
abbrev pub scope_seen : Observed → Scope
scope_seen seen = record {
  variables = map length seen.trace.states.header.vars;
  watch_process = seen.watch_process;
}

-- each watch that is on a process has one truth for each of its states
pub record AreFull (seen : Observed) : Type 0 where
  pub each : (p : ℕ) → local.AreFull seen.trace.states seen.watch_process seen.watch_rows p

-- formulas may be judged: the trace isn't spent, and the rows of the watches are there
pub record IsReady (seen : Observed) : Type 0 where
  pub unspent : seen.trace.spent ≡ false
  pub full : AreFull seen
