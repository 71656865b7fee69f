-- What a log must be so that each of its lines can be spelled.
use Rattle.std.specs.Prelude.{◌≡◌, ◌<◌, List, length}
use Rattle.std.specs.List.{AllByRecursion}
use Rattle.event_log.specs.Before.{IsVersion}
use Rattle.event_log.specs.LogText.{KindWithin, AssignFits}
use Rattle.event_log.specs.Numbers.{variables_at}
use Rattle.event_log.specs.declared.log.Event.{Event}
use Rattle.event_log.specs.declared.log.Header.{Header}
use Rattle.event_log.specs.declared.log.Log.{Log}

-- its process, its peer and the variables that it assigns are there
pub record CanBeSpelled (h : Header) (e : Event) : Type 0 where
  pub process : e.process < length h.procs
  pub peer : KindWithin (length h.procs) e.kind
  pub assigns : AllByRecursion (AssignFits (variables_at h.vars e.process)) e.assigns

abbrev pub BatchesCanBeSpelled : Header → List (List Event) → Type 0
BatchesCanBeSpelled h batches = AllByRecursion (AllByRecursion (CanBeSpelled h)) batches

-- a version, a list of variables for each process, and events that can be spelled
pub record HasText (log : Log) : Type 0 where
  pub version : IsVersion log.header.version
  pub vars : length log.header.vars ≡ length log.header.procs
  pub events : BatchesCanBeSpelled log.header log.batches
