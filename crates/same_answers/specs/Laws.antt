-- What is due where a formula is asked of the log that was read and of the log that was written of
-- it, as a statement.
use Rattle.std.specs.Prelude.{◌≡◌, ◌↔◌, ℕ, Bool, true, false, List, Option, None}
use Rattle.run_model.specs.Class.{IsOfClass}
use Rattle.run_model.specs.Formula.{Formula}
use Rattle.run_model.specs.Run.{Name, Watches}
use Rattle.rctl_grammar.specs.declared.fault.FormulaFault.{FormulaFault}
use Rattle.event_log.specs.declared.log.Binding.{Binding}
use Rattle.log_rules.specs.Counters.{counters_in}
use Rattle.log_rules.specs.Due.{Due, due}
use Rattle.log_rules.specs.Judgement.{with_rules}
use Rattle.log_judgement.specs.Texts.{IsDueText}
use Rattle.run_report.specs.Reports as report
use Rattle.equal_runs.specs.Laws.{DifferInTheBatchAlone}
use Rattle.one_log.specs.declared.asking.Asked.{Asked}
use Rattle.log_input.specs.declared.form.Form.{Form}
use Rattle.log_input.specs.declared.form.Form.TheVariants as form
use Rattle.log_input.specs.Readings.{reading_of}
use Rattle.one_log.specs.Logging.{IsLogOf}
use Rattle.one_log_laws.specs.Laws.{IsAll}

-- the first name of a formula that these processes, with these variables, lack
abbrev pub Lookup : Type 0
Lookup = (procs : List Name) → (vars : List (List Binding)) → Option FormulaFault

-- what is due of an input of this form where the formula is asked
abbrev pub due_of : Lookup → Formula → Form → (input : List ℕ) → Due
due_of names f form input =
    due (reading_of form) (with_rules (λ h. names h.procs h.vars) (counters_in f)) true input

-- what is due of the input that was read, and of the text that was written
pub record AreAnsweredAlike (one_batch : Bool) (q : report.Asked) (watches : Watches)
    (read written : Due) : Type 0 where
  -- of both a fault, or of neither
  pub faults : (read.fault ≡ None) ↔ (written.fault ≡ None)
  -- without a fault the texts of the whole are the same but for the line of the batch
  pub last : read.fault ≡ None → (t u : List ℕ) → IsDueText q watches false read t
      → IsDueText q watches false written u → DifferInTheBatchAlone t u
  -- where the batches stay, all texts are the same, also those after each batch
  pub outright : one_batch ≡ false → (each : Bool) (t u : List ℕ)
      → IsDueText q watches each read t → IsDueText q watches each written u → t ≡ u

-- the words have neither `--torn` nor `--keep`
pub record IsPlain (asked : Asked) : Type 0 where
  pub all : IsAll asked
  pub whole : asked.flags.torn ≡ false

-- so each formula is answered of what was written as of what was read
abbrev pub TheSameIsAnswered : Type 0
TheSameIsAnswered = (asked : Asked) (input text : List ℕ) → IsPlain asked
    → IsLogOf asked input text → (names : Lookup) (q : report.Asked) (watches : Watches)
    → IsOfClass q.formula → AreAnsweredAlike asked.flags.one_batch q watches
    (due_of names q.formula asked.flags.form input) (due_of names q.formula form.OneLog text)
