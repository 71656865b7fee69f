-- What a call reads and writes: logs in one form, and the one log that they are.
use Rattle.std.specs.Prelude.{◌≡◌, ◌⊎◌, ℕ, ◌<◌, ◌≤◌, Bool, true, false, List, [], ◌∷◌, length}
use Rattle.std.specs.Prelude.{Option, None, Some, if◌then◌else◌}
use Rattle.std.specs.Io.KnownBytes.{Appends, Consumes, IsAtEnd}
use Rattle.pota_base.specs.Limits.{longest_log}
use Rattle.pota_base.specs.Outside.{Rose, IsPrefix}
use Rattle.fault_kinds.specs.declared.refusal.Refusal.{Refusal}
use Rattle.run_model.specs.Cut.{Cut}
use Rattle.pota_base.specs.Changes.{Behind, Change, behind_both}
use Rattle.event_log.specs.declared.item.Item.{Item}
use Rattle.event_log.specs.declared.log.Event.{Event}
use Rattle.event_log.specs.declared.log.Log.{Log}
use Rattle.event_log.specs.LogText.{log_text}
use Rattle.log_merge.specs.Sources.{all_events}
use Rattle.log_rules.specs.Due.{Due, due}
use Rattle.log_rules.specs.Judgement.{Prefix}
use Rattle.log_rules.specs.WholeLogs.{all_of}
use Rattle.log_rules.specs.Readings.{Reading, log_reading}
use Rattle.log_trace.specs.Judging.{without_formula}
use Rattle.vector_clock.specs.Events.{Events}
use Rattle.torn_log.specs.Items.{events_in, items_upto, left_out}
use Rattle.torn_log.specs.Torn.{IsKept}
use Rattle.torn_text.specs.Mending.{mended}
use Rattle.kept_names.specs.declared.names.Names.{Names}
use Rattle.kept_names.specs.Words.{are_none}
use Rattle.kept_log.specs.Kept.{kept_log}
use Rattle.kept_log.specs.Named.{names_of}
use Rattle.kept_log.specs.Unknown.{unknown_word}
use Rattle.form_readings.specs.Clocks.{clocks_reading}
use Rattle.form_readings.specs.Sources.{merged_reading}
use Rattle.log_input.specs.declared.form.Form.{Form}
use Rattle.log_input.specs.declared.form.Form.TheVariants as form
use Rattle.log_input.specs.Readings.{reading_of, log_due, HasLog}
use Rattle.one_log.specs.declared.asking.Asked.{Asked}
use Rattle.one_log.specs.declared.fault.Fault.{Fault}
use Rattle.one_log.specs.declared.fault.Fault.TheVariants as fault
use Rattle.one_log.specs.Asking.{asked_by}
use Rattle.one_log.specs.LeftOut.{left_out_lines}

-- ---- the log of torn logs, whose texts were mended

-- the items of the texts, and the events that they give, in the order of each process
abbrev pub items_of : Form → (text : List ℕ) → List Item
items_of form text = (reading_of form).items true text

abbrev pub events_of : Form → (text : List ℕ) → Events
events_of form text = events_in (items_of form text)

-- the same reading of the events of a cut alone
abbrev pub upto : Cut → Reading → Reading
upto cut reading =
    record reading { items = λ ended bytes. items_upto cut (reading.items ended bytes) }

-- what is due of the texts up to this cut
abbrev pub torn_due : Form → Cut → (text : List ℕ) → Due
torn_due form cut text = due (upto cut (reading_of form)) without_formula true text

-- no fault is due of the texts up to the greatest cut that is logged whole, and this is its log
pub record HasTornLog (form : Form) (text : List ℕ) (log : Prefix) : Type 0 where
  pub cut : Cut
  pub greatest : IsKept (events_of form text) cut
  pub free : (torn_due form cut text).fault ≡ None
  pub whole : (torn_due form cut text).whole ≡ Some log

-- up to the greatest cut that is logged whole this fault is due of them
pub record HasTornFault (form : Form) (text : List ℕ) (why : Refusal) : Type 0 where
  pub cut : Cut
  pub greatest : IsKept (events_of form text) cut
  pub is : (torn_due form cut text).fault ≡ Some why

-- these lines tell how many events of each process the log leaves out
pub record AreLeftOut (form : Form) (text lines : List ℕ) : Type 0 where
  pub log : Prefix
  pub has : HasTornLog form text log
  pub are : lines ≡ left_out_lines log.header.procs (left_out (events_of form text) has.cut)

-- ---- the log that is asked for

-- the log of the input as it is, or mended
abbrev pub HasLogBy : (torn : Bool) → Form → (input : List ℕ) → Prefix → Type 0
HasLogBy false form input log = HasLog form input log
HasLogBy true form input log = HasTornLog form (mended input) log

-- the batches as they are, or all events in one
abbrev pub batches_by : (one_batch : Bool) → List (List Event) → List (List Event)
batches_by false batches = batches
batches_by true batches = all_events batches ∷ []

-- all of the log, or where names are given what is named of it, in one batch
abbrev pub kept_of : Names → Prefix → Prefix
kept_of names log = if are_none names then log
    else all_of (kept_log (record { header = log.header; batches = log.batches }) (names_of names))

-- the log in version 1, where each clock is written
abbrev pub one_log : (one_batch : Bool) → Prefix → Log
one_log one_batch log = record {
  header = record log.header { version = 1 };
  batches = batches_by one_batch log.batches;
}

-- the text of what is asked for of a log
abbrev pub asked_text : Asked → Prefix → List ℕ
asked_text asked log = log_text (one_log asked.flags.one_batch (kept_of asked.names log))

-- this is the text of the log that was asked for of the input, and it can be read
pub record IsLogOf (asked : Asked) (input text : List ℕ) : Type 0 where
  pub log : Prefix
  pub has : HasLogBy asked.flags.torn asked.flags.form input log
  pub text_is : text ≡ asked_text asked log
  pub short : length text ≤ longest_log

-- the text would be too long to be read
pub record HasLongLog (asked : Asked) (input : List ℕ) : Type 0 where
  pub log : Prefix
  pub has : HasLogBy asked.flags.torn asked.flags.form input log
  pub long : longest_log < length (asked_text asked log)

-- the word at this place is the first one behind a `--keep` that names what the log of the input
-- does not have
pub record IsFirstUnknown (words : List (List ℕ)) (asked : Asked) (input : List ℕ) (place : ℕ)
    : Type 0 where
  pub log : Prefix
  pub has : HasLogBy asked.flags.torn asked.flags.form input log
  pub first : unknown_word log.header words ≡ Some place

-- ---- what is said of a call

-- the words ask for a log, the input was read to its end and has what they name, and this is the
-- log's text
pub record IsAnswer (left : Option (List ℕ)) (words : List (List ℕ)) (read text : List ℕ)
    : Type 0 where
  pub asked : Asked
  pub asks : asked_by words ≡ Some asked
  pub ended : IsAtEnd left
  pub is : IsLogOf asked read text
  pub known : unknown_word is.log.header words ≡ None

-- of torn logs it is told what is left out
abbrev pub IsToldOf : (torn : Bool) → Form → (read lines : List ℕ) → Type 0
IsToldOf false form read lines = lines ≡ []
IsToldOf true form read lines = AreLeftOut form (mended read) lines

-- the words ask for a log, and of what was read this holds
pub record HasAsked (words : List (List ℕ)) (P : Asked → Type 0) : Type 0 where
  pub asked : Asked
  pub asks : asked_by words ≡ Some asked
  pub holds : P asked

-- this fault is due of what was read; of torn logs once all is there
abbrev pub IsRefusedBy : (torn : Bool) → Form → Option (List ℕ) → List ℕ → Refusal → Type 0
IsRefusedBy false form left read why =
    (ended : Bool) × (ended ≡ true → IsAtEnd left) × ((log_due form ended read).fault ≡ Some why)
IsRefusedBy true form left read why = IsAtEnd left × HasTornFault form (mended read) why

-- the log would be too long to be read, though it has all that is named
pub record IsLongBy (words : List (List ℕ)) (left : Option (List ℕ)) (asked : Asked)
    (read : List ℕ) : Type 0 where
  pub ended : IsAtEnd left
  pub is : HasLongLog asked read
  pub known : unknown_word is.log.header words ≡ None

-- so it is, or what was read of torn logs is too long
abbrev pub IsTooLong : List (List ℕ) → Option (List ℕ) → List ℕ → Asked → Type 0
IsTooLong words left read asked =
    IsLongBy words left asked read ⊎ ((asked.flags.torn ≡ true) × (longest_log < length read))

-- no fault is due of what was read; torn logs are judged once all is there
abbrev pub IsFreeBy : (torn : Bool) → Form → List ℕ → Type 0
IsFreeBy false form read = (log_due form false read).fault ≡ None
IsFreeBy true form read = Unit {0}

-- What an outcome says of the bytes that were read and written, and of the lines that tell of
-- events left out, by what the source has left, the counts of faults before and after, and the
-- words. Only a log is written, or where that failed its front. A read fault comes behind the
-- faults of the bytes before it.
abbrev pub Says : Option Fault → (behind : Behind) → List (List ℕ) → List ℕ → List ℕ
    → (lines : List ℕ) → Type 0
Says None behind words read written lines =
    (answer : IsAnswer behind.rest words read written) × IsToldOf answer.asked.flags.torn
    answer.asked.flags.form read lines
Says (Some fault.Usage) behind words read written lines =
    (written ≡ []) × (read ≡ []) × (asked_by words ≡ None)
Says (Some (fault.Refused r)) behind words read written lines =
    (written ≡ []) × HasAsked words (λ asked. IsRefusedBy asked.flags.torn asked.flags.form
    behind.rest read r)
Says (Some (fault.Unknown place)) behind words read written lines =
    (written ≡ []) × IsAtEnd behind.rest × HasAsked words
    (λ asked. IsFirstUnknown words asked read place)
Says (Some fault.TooLong) behind words read written lines =
    (written ≡ []) × HasAsked words (IsTooLong words behind.rest read)
Says (Some fault.Read) behind words read written lines =
    (written ≡ []) × Rose behind.source.before behind.source.after × HasAsked words
    (λ asked. IsFreeBy asked.flags.torn asked.flags.form read)
Says (Some fault.Write) behind words read written lines =
    (text : List ℕ) × IsAnswer behind.rest words read text × IsPrefix written text × Rose
    behind.sink.before behind.sink.after
Says (Some fault.Memory) behind words read written lines = written ≡ []

-- By the words, what the source has left, what the sink holds and their counts of faults, before
-- and after: these bytes were read and written, and the outcome says this of them.
pub record HasLogged (source sink : Change) (words : List (List ℕ)) (fault : Option Fault)
    (lines : List ℕ) : Type 0 where
  pub read : List ℕ
  pub written : List ℕ
  pub consumed : Consumes source.before source.after read
  pub wrote : Appends sink.before sink.after written
  pub says : Says fault (behind_both source sink) words read written lines
