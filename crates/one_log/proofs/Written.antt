-- What was written of an input, and why nothing was.
use Rattle.std.proofs.Common.{◌≡◌, ℕ, ◌<◌, ◌≤◌, Bool, true, false, inl, inr, Option, Some, None, List, [], length, refl, sym, ap, subst, ◌∙◌, append-nil}
use Rattle.std.specs.Prelude.{Result, Ok, Err, OnOk, OnErr}
use Rattle.std.specs.Io.KnownBytes.{Appends, Consumes, IsAtEnd}
use Rattle.std.proofs.KnownBytes.{Appends-nil}
use Rattle.pota_base.specs.Limits.{longest_log}
use Rattle.pota_base.specs.Outside.{HasCause, Rose, AppendsPrefix}
use Rattle.event_log.specs.declared.log.Log.{Log}
use Rattle.kept_log.specs.Unknown.{unknown_word}
use Rattle.fault_kinds.specs.declared.refusal.Refusal.{Refusal}
use Rattle.fault_line.specs.Lines.{Told}
use Rattle.pota_base.specs.Changes.{Change, behind_of, change_of, counts_of}
use Rattle.input_reading.specs.Intakes.{ReadsShort}
use Rattle.log_rules.specs.Judgement.{Prefix}
use Rattle.log_rules.specs.WholeLogs.{all_of}
use Rattle.one_log.specs.declared.asking.Asked.{Asked}
use Rattle.one_log.specs.declared.fault.Fault.{Fault}
use Rattle.one_log.specs.declared.fault.Fault.TheVariants as fault
use Rattle.log_input.specs.declared.places.Places.{Places}
use Rattle.log_input.specs.declared.reading.Input.TheVariants.{Whole, Faulty, Failed}
use Rattle.one_log.specs.Asking.{asked_by}
use Rattle.one_log.specs.Calm.{IsCalm}
use Rattle.one_log.specs.declared.torn.Beginning.{Beginning}
use Rattle.one_log.specs.declared.torn.TornInput.TheVariants as torn
use Rattle.one_log.specs.LeftOut.{left_out_lines}
use Rattle.one_log.specs.Logging.{asked_text, HasLogBy, HasAsked, HasLogged, IsAnswer, IsToldOf, IsRefusedBy, IsFreeBy, IsTooLong, Says}
use Rattle.log_input.specs.Inputs.{HasStood}
use Rattle.one_log.specs.inside.Inputs.{IsTextFor, PutsTo, PutsLog}
use Rattle.one_log.specs.inside.Torn.{HasStoodTorn}

-- ---- a line

-- a whole text, or a front of it where a write failed
pub told_text : {T E : Type 0} (r : Result T E) (old new : Option (List ℕ)) (before now : ℕ) (text : List ℕ)
    → OnOk r (Appends old new text) → OnErr r (AppendsPrefix old new text) → HasCause before now r → Told (change_of old new before now) text
told_text (Ok x) old new before now text ok err cause = record { whole = λ calm. ok; part = (text, ([], sym (append-nil text)), ok) }
told_text (Err e) old new before now text ok err cause = record { whole = λ calm. absurd (calm cause.failed); part = err }

-- ---- the log

module _ (words : List (List ℕ)) (asked : Asked) (log : Prefix) (held : Option (List ℕ)) (of : ℕ) where
  pub no_text : PutsLog words asked log (change_of held held of of) (Some fault.Memory)
  no_text = record { written = []; wrote = Appends-nil held; to = refl }

  pub unknown : (place : ℕ) → Some place ≡ unknown_word log.header words → PutsLog words asked log (change_of held held of of) (Some (fault.Unknown place))
  unknown place is = record { written = []; wrote = Appends-nil held; to = (refl, sym is) }

  module _ (known : None ≡ unknown_word log.header words) (text : List ℕ) (text_is : text ≡ asked_text asked log) where
    pub too_long : longest_log < length text → PutsLog words asked log (change_of held held of of) (Some fault.TooLong)
    too_long long = record {
      written = [];
      wrote = Appends-nil held;
      to = (refl, subst (λ (t : List ℕ). longest_log < length t) text_is long, sym known);
    }

    pub was_put : (held' : Option (List ℕ)) (of' : ℕ) (slice : List ℕ) → slice ≡ text → length text ≤ longest_log → Appends held held' slice → PutsLog words asked log (change_of held held' of of') None
    was_put held' of' slice is short wrote = record {
      written = text;
      wrote = subst (Appends held held') is wrote;
      to = record { text_is = text_is; short = short; known = sym known };
    }

    pub not_put : (held' : Option (List ℕ)) (of' : ℕ) (slice : List ℕ) → slice ≡ text → length text ≤ longest_log → AppendsPrefix held held' slice → Rose of of' → PutsLog words asked log (change_of held held' of of') (Some fault.Write)
    not_put held' of' slice is short wrote rose =
        let part = subst (AppendsPrefix held held') is wrote in
        record { written = part.0; wrote = part.2; to = (text, record { text_is = text_is; short = short; known = sym known }, part.1, rose) }

-- ---- the answer

module _ (words : List (List ℕ)) (asked : Asked) (asks : asked_by words ≡ Some asked) (s : Change) (held : Option (List ℕ)) (of : ℕ) where
  -- by the log of what was read
  module _ (read : List ℕ) (consumed : Consumes s.before s.after read) (ended : IsAtEnd s.after) (log : Prefix) (has : HasLogBy asked.flags.torn asked.flags.form read log) (held' : Option (List ℕ)) (of' : ℕ) (lines : List ℕ) where
    answered : (text : List ℕ) → IsTextFor words asked log text → IsAnswer s.after words read text
    answered text is = record {
      asked = asked;
      asks = asks;
      ended = ended;
      is = record { log = log; has = has; text_is = is.text_is; short = is.short };
      known = is.known;
    }

    says_so : (f : Option Fault) → (written : List ℕ) → PutsTo words asked log (counts_of of of') written f → (f ≡ None → IsToldOf asked.flags.torn asked.flags.form read lines)
        → Says f (behind_of s.after s.faults_before s.faults_after of of') words read written lines
    unfolding answered
    says_so None written puts told = (answered written puts, told refl)
    says_so (Some fault.Usage) written puts told = absurd puts
    says_so (Some (fault.Unknown place)) written puts told =
        (puts.0, ended, record { asked = asked; asks = asks; holds = record { log = log; has = has; first = puts.1 } })
    says_so (Some (fault.Refused r)) written puts told = absurd puts
    says_so (Some fault.TooLong) written puts told = (
      puts.0,
      record { asked = asked; asks = asks; holds = inl (record { ended = ended; is = record { log = log; has = has; long = puts.1 }; known = puts.2 }) },
    )
    says_so (Some fault.Read) written puts told = absurd puts
    says_so (Some fault.Write) written puts told = (puts.0, answered puts.0 puts.1, puts.2, puts.3)
    says_so (Some fault.Memory) written puts told = puts

    logged : (f : Option Fault) → PutsLog words asked log (change_of held held' of of') f → (f ≡ None → IsToldOf asked.flags.torn asked.flags.form read lines)
        → HasLogged s (change_of held held' of of') words f lines
    logged f puts told =
        record { read = read; written = puts.written; consumed = consumed; wrote = puts.wrote; says = says_so f puts.written puts.to told }

  -- nothing was written
  unwritten : (read : List ℕ) → Consumes s.before s.after read → (f : Option Fault) (lines : List ℕ) → Says f (behind_of s.after s.faults_before s.faults_after of of) words read [] lines
      → HasLogged s (change_of held held of of) words f lines
  unwritten read consumed f lines says = record { read = read; written = []; consumed = consumed; wrote = Appends-nil held; says = says }

  asking : (P : Asked → Type 0) → P asked → HasAsked words P
  asking P holds = record { asked = asked; asks = asks; holds = holds }

  -- of an input that isn't torn
  module _ (plain : asked.flags.torn ≡ false) where
    as_plain : (P : Bool → Type 0) → P false → P asked.flags.torn
    as_plain P p = subst P (sym plain) p

    pub whole : (log : Log) (places : Places) (stood : HasStood asked.flags.form s (Whole log places)) (held' : Option (List ℕ)) (of' : ℕ) (f : Option Fault) → PutsLog words asked (all_of log) (change_of held held' of of') f
        → HasLogged s (change_of held held' of of') words f []
    whole log places stood held' of' f puts =
        logged stood.read stood.consumed stood.to.0 (all_of log) (as_plain (λ t. HasLogBy t asked.flags.form stood.read (all_of log)) stood.to.2.has) held' of' [] f puts
        (λ none. as_plain (λ t. IsToldOf t asked.flags.form stood.read []) refl)

    pub refused : (r : Refusal) (line : List ℕ) → HasStood asked.flags.form s (Faulty r line) → HasLogged s (change_of held held of of) words (Some (fault.Refused r)) []
    refused r line stood =
        unwritten stood.read stood.consumed (Some (fault.Refused r)) []
        (refl, asking (λ a. IsRefusedBy a.flags.torn a.flags.form s.after stood.read r) (as_plain (λ t. IsRefusedBy t asked.flags.form s.after stood.read r) stood.to.0))

    pub failed : HasStood asked.flags.form s Failed → HasLogged s (change_of held held of of) words (Some fault.Read) []
    failed stood =
        unwritten stood.read stood.consumed (Some fault.Read) []
        (refl, stood.to.1, asking (λ a. IsFreeBy a.flags.torn a.flags.form stood.read) (as_plain (λ t. IsFreeBy t asked.flags.form stood.read) stood.to.0))

  -- of torn logs
  module _ (is_torn : asked.flags.torn ≡ true) where
    as_torn : (P : Bool → Type 0) → P true → P asked.flags.torn
    as_torn P p = subst P (sym is_torn) p

    pub torn_whole : (b : Beginning) (stood : HasStoodTorn asked.flags.form s (torn.Whole b)) (held' : Option (List ℕ)) (of' : ℕ) (f : Option Fault) (lines : List ℕ) → PutsLog words asked (all_of b.log) (change_of held held' of of') f
        → (f ≡ None → lines ≡ left_out_lines b.log.header.procs b.left_out) → HasLogged s (change_of held held' of of') words f lines
    torn_whole b stood held' of' f lines puts told =
        logged stood.read stood.consumed stood.to.0 (all_of b.log) (as_torn (λ t. HasLogBy t asked.flags.form stood.read (all_of b.log)) stood.to.2.has) held' of' lines f puts
        (λ none. as_torn (λ t. IsToldOf t asked.flags.form stood.read lines) (record {
          log = all_of b.log;
          has = stood.to.2.has;
          are = told none ∙ ap (left_out_lines b.log.header.procs) stood.to.2.left_out_are;
        }))

    pub torn_refused : (r : Refusal) (lines : List ℕ) → HasStoodTorn asked.flags.form s (torn.Faulty r) → HasLogged s (change_of held held of of) words (Some (fault.Refused r)) lines
    torn_refused r lines stood =
        unwritten stood.read stood.consumed (Some (fault.Refused r)) lines
        (refl, asking (λ a. IsRefusedBy a.flags.torn a.flags.form s.after stood.read r) (as_torn (λ t. IsRefusedBy t asked.flags.form s.after stood.read r) stood.to))

    pub torn_failed : (lines : List ℕ) → HasStoodTorn asked.flags.form s torn.Failed → HasLogged s (change_of held held of of) words (Some fault.Read) lines
    torn_failed lines stood =
        unwritten stood.read stood.consumed (Some fault.Read) lines
        (refl, stood.to, asking (λ a. IsFreeBy a.flags.torn a.flags.form stood.read) (as_torn (λ t. IsFreeBy t asked.flags.form stood.read) tt))

    pub torn_long : (lines : List ℕ) → HasStoodTorn asked.flags.form s torn.TooLong → HasLogged s (change_of held held of of) words (Some fault.TooLong) lines
    torn_long lines stood =
        unwritten stood.read stood.consumed (Some fault.TooLong) lines (refl, asking (IsTooLong words s.after stood.read) (inr (is_torn, stood.to.1)))

-- no read failed
pub calm_so : (words : List (List ℕ)) (asked : Asked) (log : Prefix) (held held' : Option (List ℕ)) (of of' lf lf' : ℕ) → lf' ≡ lf → (f : Option Fault) → PutsLog words asked log (change_of held held' of of') f → IsCalm lf lf' f
calm_so words asked log held held' of of' lf lf' calm None puts = calm
calm_so words asked log held held' of of' lf lf' calm (Some fault.Usage) puts = absurd puts.to
calm_so words asked log held held' of of' lf lf' calm (Some (fault.Refused r)) puts = tt
calm_so words asked log held held' of of' lf lf' calm (Some (fault.Unknown place)) puts = calm
calm_so words asked log held held' of of' lf lf' calm (Some fault.TooLong) puts = calm
calm_so words asked log held held' of of' lf lf' calm (Some fault.Read) puts = tt
calm_so words asked log held held' of of' lf lf' calm (Some fault.Write) puts = calm
calm_so words asked log held held' of of' lf lf' calm (Some fault.Memory) puts = tt

pub short : (words : List (List ℕ)) (s : Change) (held : Option (List ℕ)) (of : ℕ) (lines : List ℕ) → ReadsShort s
    → HasLogged s (change_of held held of of) words (Some fault.Memory) lines
short words s held of lines some = record { read = some.read; written = []; consumed = some.consumed; wrote = Appends-nil held; says = refl }
