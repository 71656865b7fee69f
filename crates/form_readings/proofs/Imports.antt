-- Records of two lines are read as a log.
use Rattle.std.proofs.Common.{◌≡◌, ℕ, ◌<◌, ◌≤◌, Bool, true, false, Option, Some, None, List, ◌++◌, length, refl, ap, ◌∙◌, arith, length-append}
use Rattle.std.specs.Prelude.{is_some, if◌then◌else◌}
use Rattle.std.specs.Option.{option_map}
use Rattle.std.proofs.lemmas.Bool.{ltb-true, ltb-false, lt-ltb}
use Rattle.pota_base.specs.Limits.{longest_log}
use Rattle.fault_kinds.specs.declared.import.ImportFault.{ImportFault}
use Rattle.vclog_import.specs.Faults.{fault_of, is_too_long}
use Rattle.vclog_import.specs.Imported.{imported}
use Rattle.vclog_import.proofs.Fits.{imported_logs_fit}
use Rattle.vclog_import.proofs.LongTexts.{long_texts_are_faulty}
use Rattle.fault_kinds.specs.declared.refusal.Refusal.{Refusal}
use Rattle.fault_kinds.specs.declared.refusal.Refusal.TheVariants as refusal
use Rattle.log_rules.specs.Readings.{IsReading, IsWhole}
use Rattle.log_rules.proofs.Readings.{whole_is_read}
use Rattle.form_readings.specs.Clocks.{import_refusal, clocks_fault, clocks_place, clocks_reading}

abbrev as_refusal : Option ImportFault → Option Refusal
as_refusal fault = option_map (λ f. refusal.Import f) fault

none_there : (fault : Option ImportFault) → as_refusal fault ≡ None → fault ≡ None
none_there None h = refl
none_there (Some f) h = absurd cc

none_of_some : (fault : Option ImportFault) → is_some fault ≡ true → as_refusal fault ≡ None → ⊥
none_of_some None some h = absurd cc
none_of_some (Some f) some h = absurd cc

-- the fault, where there is one in a text that is too long
abbrev if_long : Bool → List ℕ → Option Refusal
if_long long bytes = if long then import_refusal bytes else None

abbrev IsLong : List ℕ → Refusal → Type 0
IsLong bytes f = (longest_log < length bytes) × (import_refusal bytes ≡ Some f)

is_long : (bytes : List ℕ) (f : Refusal) → clocks_fault false bytes ≡ Some f → IsLong bytes f
is_long bytes f h = go (is_too_long bytes) refl h
  where
    go : (long : Bool) → is_too_long bytes ≡ long → if_long long bytes ≡ Some f → IsLong bytes f
    go true is some = (ltb-true longest_log (length bytes) is, some)
    go false is some = absurd cc

module _ (bytes more : List ℕ) (f : Refusal) (at : IsLong bytes f) where
  still_long : is_too_long (bytes ++ more) ≡ true
  still_long = lt-ltb longest_log (length (bytes ++ more)) (omega (arith, at.0, length-append bytes more))

  still_faulty : import_refusal (bytes ++ more) ≡ Some f
  still_faulty = ap as_refusal (long_texts_are_faulty bytes more (omega (arith, at.0))).1 ∙ at.1

  stays : (ended : Bool) → clocks_fault ended (bytes ++ more) ≡ Some f
  stays false = ap (λ (long : Bool). if_long long (bytes ++ more)) still_long ∙ still_faulty
  stays true = still_faulty

bounded : (bytes : List ℕ) → clocks_fault false bytes ≡ None → length bytes ≤ longest_log
bounded bytes h = go (is_too_long bytes) refl h
  where
    go : (long : Bool) → is_too_long bytes ≡ long → if_long long bytes ≡ None → length bytes ≤ longest_log
    go false is none = ltb-false longest_log (length bytes) is
    go true is none =
        let long : longest_log < length bytes = ltb-true longest_log (length bytes) is in
        absurd (none_of_some (fault_of bytes) (long_texts_are_faulty bytes bytes (omega (arith, long))).0 none)

is_whole : IsWhole longest_log clocks_fault imported
is_whole = record {
  no_fault = refl;
  fault_stays = λ ended bytes more f h. stays bytes more f (is_long bytes f h) ended;
  bounded = bounded;
  fit = λ bytes none. (imported_logs_fit bytes (none_there (fault_of bytes) none)).items;
}

pub clocks_are_read : IsReading longest_log clocks_reading
clocks_are_read = whole_is_read longest_log clocks_fault imported is_whole clocks_place
