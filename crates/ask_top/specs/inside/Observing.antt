-- Questions that were observed on a log, or why there is no answer on it.
use Rattle.std.specs.Prelude.{◌≡◌, ◌⊎◌, ℕ, List, [], Option}
use Rattle.run_model.specs.Run.{Name}
use Rattle.event_log.specs.LogText.{HeaderFits}
use Rattle.event_log.specs.declared.log.Log.{Log}
use Rattle.question_instances.specs.declared.over.Over.{Over}
use Rattle.asked_observation.specs.declared.observing.ObservedList.{ObservedList}
use Rattle.ask_questions.specs.Entries.{CanBeObserved}
use Rattle.ask_questions.specs.declared.reading.AskedQuestions.{AskedQuestions}
use Rattle.asked_log.specs.Logs.{IsObservedOn, Stops}
use Rattle.asked_log.specs.Watches.{AreWatches, Says}
use Rattle.asked_log.specs.declared.log.Stop.{Stop}
use Rattle.asked_log.specs.declared.log.Stop.TheVariants as stop
use Rattle.ask_faults.specs.declared.fault.Fault.{Fault}
use Rattle.ask_faults.specs.declared.fault.Fault.TheVariants as fault
use Rattle.log_input.specs.declared.places.Places.{Places}
use Rattle.log_rules.specs.WholeLogs.{all_of}
use Rattle.over_answers.specs.Tallies.{IsFirstStop}
use Rattle.over_answers.specs.declared.answering.NumberedStop.{NumberedStop}
use Rattle.watch.specs.declared.predicate.Handed.{Handed}
use Rattle.ask_top.specs.Asking.{AreKnownIn, among}
use Rattle.ask_top.specs.Documents.{bare_on}

-- the questions of these texts were observed on the log, with these watches
pub record IsObservedFor {X : Type 0} {P : X → Type 0} (says : Says X P)
    (handed : List (Handed X P)) (texts : List (List ℕ)) (overs : List (Option Over)) (log : Log)
    (made : ObservedList X P) : Type 0 where
  pub asked : CanBeObserved texts (record { list = made.list; overs = overs })
  pub watches : AreWatches handed
  pub header : HeaderFits log.header
  pub on : IsObservedOn says handed made.list log made

-- why there is no answer where the questions are not observed
abbrev pub fault_of : List (Option Over) → Stop → Fault
fault_of overs (stop.Unknown u) = fault.Unknown (among overs u)
fault_of overs (stop.Fall r) = fault.Refused r []
fault_of overs stop.Memory = fault.Memory

pub record IsUnobserved (watches : List Name) (asked : AskedQuestions) (log : Log) (places : Places)
    (f : Fault) : Type 0 where
  pub stop : Stop
  pub is : f ≡ fault_of asked.overs stop
  pub stops : Stops watches asked.list log places stop

-- why there is none where they are: the first question over processes that has no answer
pub record IsUntallied (watches : List Name) (texts : List (List ℕ)) (asked : AskedQuestions)
    (log : Log) (f : Fault) : Type 0 where
  pub stop : NumberedStop
  pub is : f ≡ fault.Over stop
  pub known : AreKnownIn watches asked.list log.header
  pub first : IsFirstStop (bare_on (all_of log)) texts stop

abbrev pub StopsAs : (watches : List Name) → (texts : List (List ℕ)) → AskedQuestions → Log → Places
    → Fault → Type 0
StopsAs watches texts asked log places f =
    IsUnobserved watches asked log places f ⊎ IsUntallied watches texts asked log f
