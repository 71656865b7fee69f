-- Why no log is written: the status of each fault, and the line that tells of it.
use Rattle.std.specs.Prelude.{ℕ, List, [], ◌∷◌, ◌++◌, codes, Option, None, Some}
use Rattle.std.specs.Prelude.{slice_get, unwrap_or}
use Rattle.fault_line.specs.Faults.{fault_of_refusal}
use Rattle.fault_line.specs.Lines as pota
use Rattle.fault_line.specs.declared.fault.Fault.TheVariants as shared
use Rattle.one_log.specs.declared.fault.Fault.{Fault}
use Rattle.one_log.specs.declared.fault.Fault.TheVariants as fault

-- the exit status of a fault
abbrev pub status_of : Fault → ℕ
status_of fault.Usage = 2
status_of (fault.Unknown place) = 2
status_of (fault.Refused r) = 4
status_of fault.Read = 5
status_of fault.Write = 6
status_of fault.Memory = 7
status_of fault.TooLong = 8

abbrev pub exit_status : Option Fault → ℕ
exit_status None = 0
exit_status (Some f) = status_of f

-- the word at this place; it is empty where there is none
abbrev pub word_at : (words : List (List ℕ)) → (place : ℕ) → List ℕ
word_at words place = unwrap_or (slice_get words place) []

-- which words are taken
abbrev pub usage_text : List ℕ
usage_text = codes "usage: pota_log [--merged] [--vclog] [--torn] [--one-batch]"
    ++ codes " [--keep NAME.VARIABLE] [--keep NAME>NAME] [--keep NAME]"

-- the word that names what the log does not have
abbrev pub unknown_text : (word : List ℕ) → List ℕ
unknown_text word = codes "--keep " ++ (word ++ codes ": not in the log")

-- what is wrong with these words or the input; what may be wrong with `pota` too is said as there
abbrev pub cause_of : (words : List (List ℕ)) → Fault → List ℕ
cause_of words fault.Usage = usage_text
cause_of words (fault.Unknown place) = unknown_text (word_at words place)
cause_of words (fault.Refused r) = pota.cause_of (fault_of_refusal r)
cause_of words fault.Read = pota.cause_of shared.Read
cause_of words fault.Write = pota.cause_of shared.Write
cause_of words fault.Memory = pota.cause_of shared.Memory
cause_of words fault.TooLong = codes "log too long"

abbrev pub program : List ℕ
program = codes "pota_log"

-- one line of the program, and none where the log is written
abbrev pub line_of : (words : List (List ℕ)) → Option Fault → List ℕ
line_of words None = []
line_of words (Some f) = program ++ (codes ": " ++ (cause_of words f ++ 10 ∷ []))
