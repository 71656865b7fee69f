-- Laws of kept logs, as statements.
use Rattle.std.specs.Prelude.{◌≡◌, ◌↔◌, None, length}
use Rattle.std.specs.List.{AllByRecursion}
use Rattle.run_model.specs.Cut.{Cut}
use Rattle.run_model.specs.Consistent.{IsConsistent}
use Rattle.run_model.specs.Formula.{Formula}
use Rattle.run_model.specs.Meaning.{Sat, Family}
use Rattle.run_model.specs.Run.{Watches, clocks_of, run_of}
use Rattle.run_model.specs.Sublattice.{IsLeast, IsGreatest}
use Rattle.event_log.specs.declared.log.Event.{Event}
use Rattle.event_log.specs.declared.log.Log.{Log}
use Rattle.event_log.specs.LogText.{AssignFits}
use Rattle.event_log.specs.Numbers.{variables_at}
use Rattle.event_log.specs.States.{trace_of_log}
use Rattle.vector_clock.specs.Events.{AllFit}
use Rattle.vector_clock.specs.Faults.{log_fault}
use Rattle.kept_runs.specs.Kept.{Names, kept_cut, kept_trace}
use Rattle.kept_runs.specs.Naming.{AreNamed}
use Rattle.kept_log.specs.Kept.{kept_here, kept_log}
use Rattle.kept_log.specs.Keeping.{CanBeKept}

-- the run of a kept log is the kept run of the log
abbrev pub RunIsKept : Type 0
RunIsKept =
    (log : Log) (names : Names)
    → trace_of_log (kept_log log names) ≡ kept_trace (trace_of_log log) names

-- the events of a kept log have their places, each with its clock written
abbrev pub EventsKeepTheirPlaces : Type 0
EventsKeepTheirPlaces =
    (log : Log) (names : Names) → AllFit (length log.header.procs) log.batches
    → AllFit (length log.header.procs) (kept_log log names).batches

-- a kept log has no fault of clocks and messages where the log, in however many batches, has none
abbrev pub NoFaultArises : Type 0
NoFaultArises =
    (log : Log) (names : Names) → length log.header.vars ≡ length log.header.procs
    → AllFit (length log.header.procs) log.batches → log_fault log ≡ None
    → log_fault (kept_log log names) ≡ None

-- an event assigns variables that the kept log has, where it assigns variables that the log has
abbrev pub AssignmentsFindTheirVariables : Type 0
AssignmentsFindTheirVariables =
    (log : Log) (names : Names) (e : Event)
    → AllByRecursion (AssignFits (variables_at log.header.vars e.process)) e.assigns
    → AllByRecursion (AssignFits (variables_at (kept_log log names).header.vars e.process))
    (kept_here (trace_of_log log) names e).assigns

-- a formula whose names are kept is as true at a consistent cut of the log as at the kept events of
-- that cut in the kept log, under any watches
abbrev pub FormulasStayAsTrue : Type 0
FormulasStayAsTrue =
    (log : Log) (names : Names) (watches : Watches) → CanBeKept log
    → (f : Formula) → AreNamed names f
    → (c : Cut) → IsConsistent (clocks_of (trace_of_log log)) c
    → Sat (run_of (trace_of_log log) watches) f c
    ↔ Sat (run_of (trace_of_log (kept_log log names)) watches) f
    (kept_cut (trace_of_log log) names c)

-- and the least consistent cut where it is true has the kept events of the least one of the log
abbrev pub LeastCutsStay : Type 0
LeastCutsStay =
    (log : Log) (names : Names) (watches : Watches) → CanBeKept log
    → (f : Formula) → AreNamed names f
    → (c : Cut) → IsLeast (Family (run_of (trace_of_log log) watches) f) c
    → IsLeast (Family (run_of (trace_of_log (kept_log log names)) watches) f)
    (kept_cut (trace_of_log log) names c)

-- and so with the greatest
abbrev pub GreatestCutsStay : Type 0
GreatestCutsStay =
    (log : Log) (names : Names) (watches : Watches) → CanBeKept log
    → (f : Formula) → AreNamed names f
    → (c : Cut) → IsGreatest (Family (run_of (trace_of_log log) watches) f) c
    → IsGreatest (Family (run_of (trace_of_log (kept_log log names)) watches) f)
    (kept_cut (trace_of_log log) names c)
