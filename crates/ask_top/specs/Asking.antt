-- What a call says: which document of which log and questions was written, or why there is none.
use Rattle.std.specs.Prelude.{◌≡◌, ◌⊎◌, ℕ, ◌+◌, ◌-◌, nat_le, Bool, true, false, List, [], ◌∷◌, drop}
use Rattle.std.specs.Prelude.{Option, None, Some, if◌then◌else◌}
use Rattle.std.specs.Io.KnownBytes.{Appends, Consumes, IsAtEnd}
use Rattle.pota_base.specs.Outside.{Rose, IsPrefix}
use Rattle.run_model.specs.Run.{Name}
use Rattle.pota_base.specs.Changes.{Behind, Change, behind_both}
use Rattle.event_log.specs.declared.item.LogFault.{LogFault}
use Rattle.event_log.specs.declared.log.Header.{Header}
use Rattle.event_log.specs.declared.log.Log.{Log}
use Rattle.fault_kinds.specs.declared.refusal.Refusal.{Refusal}
use Rattle.rctl_class.specs.NamedParts.{disjuncts_uses}
use Rattle.rctl_class.specs.Uses.{first_unknown}
use Rattle.rctl_names.specs.Numbers.{known_in}
use Rattle.rctl_names.specs.Seen.{names_of}
use Rattle.part_pulls.specs.Observing.{Reading}
use Rattle.log_rules.specs.Judgement.{Prefix}
use Rattle.log_rules.specs.WholeLogs.{all_of}
use Rattle.log_input.specs.FaultyLine.{faulty_line}
use Rattle.log_input.specs.declared.form.Form.{Form}
use Rattle.log_input.specs.Readings.{HasLog, log_due, reading_of}
use Rattle.asked_list.specs.Lists.{disjuncts_in}
use Rattle.asked_list.specs.declared.list.AskedList.{AskedList}
use Rattle.asked_log.specs.Logs.{HasFall}
use Rattle.asked_observation.specs.Observed.{IsUnknownIn}
use Rattle.asked_observation.specs.declared.unknown.UnknownName.{UnknownName}
use Rattle.ask_questions.specs.Entries.{CanBeObserved, IsFirstFault}
use Rattle.ask_questions.specs.declared.reading.AskedQuestions.{AskedQuestions}
use Rattle.ask_words.specs.Asking.{asked_by}
use Rattle.ask_words.specs.declared.asking.Asked.{Asked}
use Rattle.question_instances.specs.declared.over.Over.{Over}
use Rattle.over_answers.specs.Tallies.{IsFirstStop}
use Rattle.over_answers.specs.declared.answering.NumberedStop.{NumberedStop}
use Rattle.ask_top.specs.declared.answer.Answer.{Answer}
use Rattle.ask_top.specs.declared.answer.Answer.TheVariants as answer
use Rattle.ask_faults.specs.declared.fault.Fault.TheVariants as fault
use Rattle.ask_top.specs.Documents.{IsDocument, bare_on, names_on}

-- ---- an answer

-- the words ask these questions, the input was read to its end and is a log of which no fault is
-- due, and the text is the document of these
pub record IsAnswer (watches : Reading) (left : Option (List ℕ)) (words : List (List ℕ))
    (holds : Bool) (read text : List ℕ) : Type 0 where
  pub asked : Asked
  pub asks : asked_by words ≡ Some asked
  pub ended : IsAtEnd left
  pub log : Prefix
  pub has : HasLog asked.form read log
  pub document : IsDocument watches asked.steps (drop asked.questions_from words) log holds text

-- ---- why there is none

-- the words ask these questions, and this is so
pub record HasAsked (words : List (List ℕ)) (P : Asked → AskedQuestions → Type 0) : Type 0 where
  pub asked : Asked
  pub asks : asked_by words ≡ Some asked
  pub questions : AskedQuestions
  pub read : CanBeObserved (drop asked.questions_from words) questions
  pub holds : P asked questions

-- this fault is due of what was read, by itself, and this is the text of its line
pub record IsRefusedBy (form : Form) (left : Option (List ℕ)) (read : List ℕ) (why : Refusal)
    (line : List ℕ) : Type 0 where
  pub ended : Bool
  pub at_end : ended ≡ true → IsAtEnd left
  pub due : (log_due form ended read).fault ≡ Some why
  pub line_is : line ≡ faulty_line form why read

-- the log of the input has the names of the questions, and this is the fault of its first event
-- that leaves a counter of theirs lower than it was
pub record FallsIn (watches : Reading) (form : Form) (list : AskedList) (read : List ℕ)
    (why : Refusal) : Type 0 where
  pub log : Log
  pub has : HasLog form read (all_of log)
  pub fall : LogFault
  pub falls : HasFall watches.watch_names list log fall
  pub placed : why ≡ (reading_of form).place true read fall

-- The number of a question among all, by its number among those that are asked of the log, both
-- from 1. For each of all these are the names that stand for processes, if it has any.
abbrev pub number_among : List (Option Over) → ℕ → ℕ
number_among [] number = 1
number_among (None ∷ overs) number =
    if nat_le number 1 then 1 else number_among overs (number - 1) + 1
number_among (Some over ∷ overs) number = number_among overs number + 1

abbrev pub among : List (Option Over) → UnknownName → UnknownName
among overs u =
    record { question = number_among overs u.question; formula = u.formula; fault = u.fault }

-- the log of the input does not have this name, the first such of the questions in the list
pub record LacksName (watches : Reading) (form : Form) (questions : AskedQuestions) (read : List ℕ)
    (unknown : UnknownName) : Type 0 where
  pub log : Prefix
  pub has : HasLog form read log
  pub listed : UnknownName
  pub first : IsUnknownIn (known_in (names_on watches log)) questions.list listed
  pub named : unknown ≡ among questions.overs listed

-- the header has each name of the list
abbrev pub AreKnownIn : (watches : List Name) → AskedList → Header → Type 0
AreKnownIn watches list h =
    first_unknown (known_in (names_of h watches)) [] (disjuncts_uses (disjuncts_in list)) ≡ None

-- the log of the input has the names of the questions in the list, and of the questions over
-- processes this is the first that has no answer on it
pub record LacksAnswer (watches : Reading) (form : Form) (questions : List (List ℕ))
    (list : AskedList) (read : List ℕ) (f : NumberedStop) : Type 0 where
  pub log : Prefix
  pub has : HasLog form read log
  pub known : AreKnownIn watches.watch_names list log.header
  pub first : IsFirstStop (bare_on log) questions f

-- ---- what is said of a call

-- What an answer says of the bytes that were read and written, by what the source has left, the
-- counts of faults before and after, and the words. Only a document is written, or where that
-- failed its front. A read fault comes behind the faults of the bytes before it.
abbrev pub Says : Answer → Reading → (behind : Behind) → List (List ℕ) → (read written : List ℕ)
    → Type 0
Says answer.Holds watches behind words read written =
    IsAnswer watches behind.rest words true read written
Says answer.Fails watches behind words read written =
    IsAnswer watches behind.rest words false read written
Says (answer.Without fault.Usage) watches behind words read written =
    (written ≡ []) × (read ≡ []) × (asked_by words ≡ None)
Says (answer.Without (fault.Question f)) watches behind words read written =
    (written ≡ []) × (read ≡ []) × (asked : Asked) × (asked_by words ≡ Some asked) × IsFirstFault
    (drop asked.questions_from words) f
Says (answer.Without (fault.Unknown u)) watches behind words read written =
    (written ≡ []) × IsAtEnd behind.rest × HasAsked words
    (λ asked questions. LacksName watches asked.form questions read u)
Says (answer.Without (fault.Over f)) watches behind words read written =
    (written ≡ []) × IsAtEnd behind.rest × HasAsked words (λ asked questions. LacksAnswer watches
    asked.form (drop asked.questions_from words) questions.list read f)
Says (answer.Without (fault.Refused r line)) watches behind words read written =
    (written ≡ []) × HasAsked words (λ asked questions. IsRefusedBy asked.form behind.rest read r
    line ⊎ (IsAtEnd behind.rest × (line ≡ []) × FallsIn watches asked.form questions.list read r))
Says (answer.Without fault.Read) watches behind words read written =
    (written ≡ []) × Rose behind.source.before behind.source.after × HasAsked words
    (λ asked questions. (log_due asked.form false read).fault ≡ None)
Says (answer.Without fault.Write) watches behind words read written =
    (holds : Bool) × (text : List ℕ) × IsAnswer watches behind.rest words holds read text × IsPrefix
    written text × Rose behind.sink.before behind.sink.after
Says (answer.Without fault.Memory) watches behind words read written = written ≡ []

-- By the watches that were handed in, the words, what the source has left, what the sink holds and
-- their counts of faults, before and after: these bytes were read and written, and the answer says
-- this of them.
pub record HasAnswered (watches : Reading) (source sink : Change) (words : List (List ℕ))
    (a : Answer) : Type 0 where
  pub read : List ℕ
  pub written : List ℕ
  pub consumed : Consumes source.before source.after read
  pub wrote : Appends sink.before sink.after written
  pub says : Says a watches (behind_both source sink) words read written
