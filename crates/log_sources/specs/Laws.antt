-- What follows from reading the sources byte by byte.
use Rattle.std.specs.Prelude.{◌≡◌, ℕ, ◌≤◌, List, [], ◌∷◌, ◌++◌, length, map, flat_map, None, Some}
use Rattle.pota_base.specs.Limits.{longest_log}
use Rattle.event_log.specs.declared.log.Log.{Log}
use Rattle.event_log.specs.Laws.{IsTextOf}
use Rattle.fault_kinds.specs.declared.merge.MergeFault.{MergeFault}
use Rattle.log_merge.specs.Sources.{in_one_batch}
use Rattle.log_sources.specs.Sources.{Sources, no_sources, after, last_fault, logs_of}
use Rattle.log_sources.specs.Reading.{CanMerge}

-- it doesn't matter how the bytes are cut into pieces
abbrev pub PiecesDoNotMatter : Type 0
PiecesDoNotMatter = (s : Sources) (piece more : List ℕ)
    → after s (piece ++ more) ≡ after (after s piece) more

-- a fault stays
abbrev pub FaultStays : Type 0
FaultStays = (s : Sources) (f : MergeFault) (bytes : List ℕ) → s.fault ≡ Some f
    → after s bytes ≡ s

-- bytes without a fault are few
abbrev pub FaultlessAreFew : Type 0
FaultlessAreFew = (bytes : List ℕ) → (after no_sources bytes).fault ≡ None
    → length bytes ≤ longest_log

-- each text is that of the log at its place
abbrev pub AreTextsOf : List (List ℕ) → List Log → Type 0
AreTextsOf [] [] = Unit {0}
AreTextsOf [] (log ∷ logs) = ⊥
AreTextsOf (text ∷ texts) [] = ⊥
AreTextsOf (text ∷ texts) (log ∷ logs) = IsTextOf text log × AreTextsOf texts logs

-- The bytes are these texts of these logs one behind another. The logs can be merged, and the
-- reader gives them, each with its events in one batch.
pub record AreLogs (bytes : List ℕ) (texts : List (List ℕ)) (logs : List Log) : Type 0 where
  pub text_is : bytes ≡ flat_map (λ (text : List ℕ). text) texts
  pub texts_are : AreTextsOf texts logs
  pub can_merge : CanMerge logs
  pub given : logs_of (after no_sources bytes) ≡ map in_one_batch logs

abbrev pub FaultlessAreTexts : Type 0
FaultlessAreTexts = (bytes : List ℕ) → last_fault (after no_sources bytes) ≡ None
    → (texts : List (List ℕ)) × (logs : List Log) × AreLogs bytes texts logs
