-- What is written of a log.
use Rattle.std.specs.Prelude.{◌≡◌, ℕ, ◌<◌, ◌≤◌, List, [], length, Option, None, Some}
use Rattle.std.specs.Io.KnownBytes.{Appends}
use Rattle.pota_base.specs.Limits.{longest_log}
use Rattle.pota_base.specs.Outside.{Rose, IsPrefix}
use Rattle.pota_base.specs.Changes.{Change, Counts, faults_of}
use Rattle.log_rules.specs.Judgement.{Prefix}
use Rattle.kept_log.specs.Unknown.{unknown_word}
use Rattle.one_log.specs.declared.asking.Asked.{Asked}
use Rattle.one_log.specs.declared.fault.Fault.{Fault}
use Rattle.one_log.specs.declared.fault.Fault.TheVariants as fault
use Rattle.one_log.specs.Logging.{asked_text}

-- the text of the log that is asked for, which can be read and has all that is named
pub record IsTextFor (words : List (List ℕ)) (asked : Asked) (log : Prefix) (text : List ℕ)
    : Type 0 where
  pub text_is : text ≡ asked_text asked log
  pub short : length text ≤ longest_log
  pub known : unknown_word log.header words ≡ None

-- the text of the log that is asked for was written, or a front of it, or nothing
abbrev pub PutsTo : List (List ℕ) → Asked → Prefix → (faults : Counts) → List ℕ → Option Fault
    → Type 0
PutsTo words asked log faults written None = IsTextFor words asked log written
PutsTo words asked log faults written (Some fault.Usage) = ⊥
PutsTo words asked log faults written (Some (fault.Unknown place)) =
    (written ≡ []) × (unknown_word log.header words ≡ Some place)
PutsTo words asked log faults written (Some (fault.Refused r)) = ⊥
PutsTo words asked log faults written (Some fault.TooLong) =
    (written ≡ []) × (longest_log < length (asked_text asked log))
    × (unknown_word log.header words ≡ None)
PutsTo words asked log faults written (Some fault.Read) = ⊥
PutsTo words asked log faults written (Some fault.Write) =
    (text : List ℕ) × IsTextFor words asked log text × IsPrefix written text × Rose faults.before
    faults.after
PutsTo words asked log faults written (Some fault.Memory) = written ≡ []

pub record PutsLog (words : List (List ℕ)) (asked : Asked) (log : Prefix) (sink : Change)
    (fault : Option Fault) : Type 0 where
  pub written : List ℕ
  pub wrote : Appends sink.before sink.after written
  pub to : PutsTo words asked log (faults_of sink) written fault
