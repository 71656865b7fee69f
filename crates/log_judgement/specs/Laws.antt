-- What the laws of this crate say.
use Rattle.std.specs.Prelude.{ℕ, ◌++◌, List, Bool, false, Option, ◌≡◌}
use Rattle.run_model.specs.Run.{Watches}
use Rattle.run_model.specs.Class.{IsOfClass}
use Rattle.pota_base.specs.Outside.{IsPrefix}
use Rattle.rctl_grammar.specs.declared.fault.FormulaFault.{FormulaFault}
use Rattle.event_log.specs.declared.log.Header.{Header}
use Rattle.run_report.specs.Reports.{Asked}
use Rattle.log_rules.specs.Judgement.{with_rules}
use Rattle.log_rules.specs.Counters.{counters_in}
use Rattle.log_rules.specs.Readings.{Reading, IsReading}
use Rattle.log_rules.specs.Due.{due}
use Rattle.log_judgement.specs.Texts.{IsDueText}

-- the text that is due of bytes is a prefix of that of more bytes
abbrev pub MoreBytesGiveMoreText : Type 0
MoreBytesGiveMoreText = (q : Asked) (watches : Watches) → IsOfClass q.formula
    → (most : ℕ) (reading : Reading) → IsReading most reading
    → (names : Header → Option FormulaFault) (each ended : Bool) (bytes more t u : List ℕ)
    → IsDueText q watches each
    (due reading (with_rules names (counters_in q.formula)) false bytes) t
    → IsDueText q watches each
    (due reading (with_rules names (counters_in q.formula)) ended (bytes ++ more)) u
    → IsPrefix t u

-- of the same bytes one text is due
abbrev pub OneTextIsDue : Type 0
OneTextIsDue = (q : Asked) (watches : Watches) → IsOfClass q.formula
    → (most : ℕ) (reading : Reading) → IsReading most reading
    → (names : Header → Option FormulaFault) (each ended : Bool) (bytes t u : List ℕ)
    → IsDueText q watches each
    (due reading (with_rules names (counters_in q.formula)) ended bytes) t
    → IsDueText q watches each
    (due reading (with_rules names (counters_in q.formula)) ended bytes) u → t ≡ u
