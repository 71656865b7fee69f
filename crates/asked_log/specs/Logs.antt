-- A whole log that is observed for a list of questions, or why it is not.
use Rattle.std.specs.Prelude.{◌≡◌, ◌<◌, List, [], length, None, Some}
use Rattle.run_model.specs.Run.{Name}
use Rattle.event_log.specs.LogText.{HeaderFits}
use Rattle.event_log.specs.States.{opened}
use Rattle.event_log.specs.declared.item.LogFault.{LogFault}
use Rattle.event_log.specs.declared.log.Log.{Log}
use Rattle.asked_list.specs.Lists.{asked_each, disjuncts_in}
use Rattle.asked_list.specs.declared.list.AskedList.{AskedList}
use Rattle.asked_observation.specs.Observed.{IsObservedList, IsUnknownIn}
use Rattle.asked_observation.specs.declared.observing.ObservedList.{ObservedList}
use Rattle.log_input.specs.Inputs.{IsFaultless}
use Rattle.log_input.specs.Places.{place_by}
use Rattle.log_input.specs.declared.places.Places.{Places}
use Rattle.log_intake.specs.Taking.{trace_after}
use Rattle.log_rules.specs.WholeLogs.{all_of, first_fall}
use Rattle.observation.specs.Fed.{AreFedFrom}
use Rattle.observation.specs.Growing.{HasTaken}
use Rattle.part_pulls.specs.Counters.{counters_of}
use Rattle.rctl_class.specs.NamedParts.{disjuncts_uses}
use Rattle.rctl_class.specs.Uses.{first_unknown}
use Rattle.rctl_names.specs.Numbers.{known_in}
use Rattle.rctl_names.specs.Resolving.{numbered_in}
use Rattle.rctl_names.specs.Seen as names
use Rattle.watch.specs.declared.predicate.Handed.{Handed}
use Rattle.asked_log.specs.Watches.{Says, names_of}
use Rattle.asked_log.specs.declared.log.Stop.{Stop}
use Rattle.asked_log.specs.declared.log.Stop.TheVariants as stop

-- a log with a header that fits and a batch, with each clock written and no fault of its clocks and
-- messages
pub record CanObserve (log : Log) : Type 0 where
  pub header : HeaderFits log.header
  pub some : 0 < length log.batches
  pub log_is : IsFaultless log

-- all batches of the log were observed for the list, and the watches that were handed in were fed
-- their states
pub record IsObservedOn {X : Type 0} {P : X → Type 0} (says : Says X P) (handed : List (Handed X P))
    (list : AskedList) (log : Log) (made : ObservedList X P) : Type 0 where
  pub list_is : made.list ≡ list
  pub observed : IsObservedList list (names_of handed) made.observation.growing
  pub taken : HasTaken made.observation.growing
  pub trace : made.observation.growing.seen.trace ≡ trace_after (all_of log)
  pub fed : AreFedFrom says handed made.observation.watches.items made.observation.growing.seen

-- the log has the names of the list, and its first event that leaves a counter of what is asked
-- lower than it was has this fault
pub record HasFall (watches : List Name) (list : AskedList) (log : Log) (fall : LogFault)
    : Type 0 where
  pub known : first_unknown (known_in (names.names_of log.header watches)) []
      (disjuncts_uses (disjuncts_in list)) ≡ None
  pub falls : first_fall (opened log.header)
      (counters_of (asked_each list.forms
      (numbered_in log.header watches (disjuncts_in list)))) log.batches ≡ Some fall

-- why it is not observed; nothing is said where memory runs out
abbrev pub Stops : (watches : List Name) → AskedList → Log → Places → Stop → Type 0
Stops watches list log places (stop.Unknown u) =
    IsUnknownIn (known_in (names.names_of log.header watches)) list u
Stops watches list log places (stop.Fall r) =
    (fall : LogFault) × HasFall watches list log fall × (r ≡ place_by places fall)
Stops watches list log places stop.Memory = Unit {0}
