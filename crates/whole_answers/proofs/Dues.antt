-- What is due of an input whose log stands only once all bytes are there.
use Rattle.std.proofs.Common.{◌≡◌, ℕ, ◌≤◌, Bool, true, false, Option, Some, None, Result, Ok, Err, List, [], ◌∷◌, length, refl, sym, ap, subst, ◌∙◌}
use Rattle.std.specs.Prelude.{IfOk, OnErr}
use Rattle.std.specs.Io.KnownBytes.{Consumes, IsAtEnd}
use Rattle.std.proofs.lemmas.Option.{none-some}
use Rattle.pota_base.specs.declared.fault.NoMemory.{NoMemory}
use Rattle.pota_base.specs.Changes.{behind_of, change_of, counts_of}
use Rattle.input_reading.specs.Intakes.{ReadsShort}
use Rattle.event_log.specs.declared.item.LogFault.{LogFault}
use Rattle.event_log.specs.declared.log.Log.{Log}
use Rattle.fault_kinds.specs.declared.refusal.Refusal.{Refusal}
use Rattle.fault_kinds.specs.declared.refusal.Refusal.TheVariants as refusal
use Rattle.log_rules.specs.Passage.{passage_of}
use Rattle.log_rules.specs.Judgement.{Prefix, Judgement, waiting, growing, finished, refused, judged}
use Rattle.log_rules.specs.Readings.{items_at_end}
use Rattle.log_rules.specs.Due.{Due, whole_of, placed, fault_in, fault_alone, told}
use Rattle.log_rules.proofs.WholeReadings.{before_the_end, with_a_fault, one_report}
use Rattle.log_rules.specs.Reported.{listed, reported}
use Rattle.log_answers.specs.Asking.{asking_of}
use Rattle.log_answers.specs.PassedOn.{Aim, rules_of}
use Rattle.log_answers.specs.declared.stop.StopCause.{StopCause}
use Rattle.log_answers.specs.declared.stop.StopCause.TheVariants as causes
use Rattle.log_answers.specs.declared.stop.Stop.{Stop}
use Rattle.log_answers.specs.declared.stop.Verdict.{Verdict}
use Rattle.log_answers.specs.Checking.{AreReportsFor, HasPartOf, HasFrontOf}
use Rattle.log_answers.specs.Whole.{judgement_on, IsWholeVerdict, IsWholeRefused, WholeStops, WholeTo}
use Rattle.log_answers.specs.Calm.{IsCalmUnlessRead}
use Rattle.log_answers.proofs.Calm.{calm_so}
use Rattle.log_answers.specs.Inputs.{due_by, TellsDueBy, StopsBy, IsVerdictBy, ChecksBy, HasCheckedBy}
use Rattle.whole_answers.specs.declared.places.Places.{Places}
use Rattle.whole_answers.specs.declared.standing.Standing.{Standing}
use Rattle.whole_answers.specs.declared.standing.Standing.TheVariants.{Whole, Faulty, Failed}
use Rattle.whole_answers.specs.inside.Places.{place_by, placed_cause, placed_result}
use Rattle.whole_answers.specs.inside.Standing.{Input, reading_by, IsWhole, HasStood}
use Rattle.whole_answers.specs.inside.Checking.{CanBeChecked, HasStopped, ChecksStanding}

-- ---- no log stands

none_reported : (each : Bool) (o : Option Refusal) → reported each (fault_alone o) ≡ []
none_reported false o = refl
none_reported true o = refl

module _ (form : Input) (aim : Aim) where
  -- while more may follow nothing is due but a fault of the bytes
  open_due : (bytes : List ℕ) → due_by (reading_by form) aim false bytes ≡ fault_alone (form.fault false bytes)
  open_due bytes = before_the_end form.fault form.log form.place (rules_of aim) bytes

  faulty_due : (ended : Bool) (bytes : List ℕ) (r : Refusal) → form.fault ended bytes ≡ Some r → due_by (reading_by form) aim ended bytes ≡ fault_alone (Some r)
  faulty_due false bytes r some = open_due bytes ∙ ap fault_alone some
  faulty_due true bytes r some = with_a_fault form.fault form.log form.place (rules_of aim) bytes r some

  module _ (each : Bool) where
    -- such a due, and no text
    quiet : (ended : Bool) (bytes text : List ℕ) (o : Option Refusal) → due_by (reading_by form) aim ended bytes ≡ fault_alone o → text ≡ []
        → TellsDueBy (reading_by form) (asking_of aim each) ended (passage_of bytes text) o 0
    quiet ended bytes text o is none = record {
      fault = ap (λ (d : Due). d.fault) is;
      count = sym (ap (λ (d : Due). d.batches) is);
      texts = subst (λ (logs : List Prefix). AreReportsFor aim logs text) (sym (ap (reported each) is ∙ none_reported each o)) none;
    }

    front : (bytes text : List ℕ) (n : ℕ) → text ≡ [] → n ≡ 0 → HasFrontOf aim (reported each (due_by (reading_by form) aim false bytes)) text n
    front bytes text n none count = record {
      front = [];
      rest = [];
      are = ap (reported each) (open_due bytes) ∙ none_reported each (form.fault false bytes);
      texts = none;
      count = count;
    }

-- ---- the log stands

free_told : (place : LogFault → Refusal) (j : Judgement) (log : Prefix) → whole_of j ≡ Some log → fault_in place j None ≡ None
free_told place waiting log is = refl
free_told place (growing so_far since) log is = refl
free_told place (finished so_far last) log is = refl
free_told place (refused at why) log is = absurd (none-some log is)

one_reported : (each : Bool) (d : Due) (log : Prefix) → d.closed ≡ [] → d.whole ≡ Some log → reported each d ≡ log ∷ []
one_reported false d log none is = ap listed is
one_reported true d log none is = rw (none, is) refl

no_report : (each : Bool) (d : Due) → d.closed ≡ [] → d.whole ≡ None → reported each d ≡ []
no_report false d none is = ap listed is
no_report true d none is = rw (none, is) refl

placed_so : (places : Places) (place : LogFault → Refusal) → ((f : LogFault) → place_by places f ≡ place f) → (why : Refusal) → placed (place_by places) why ≡ placed place why
placed_so places place same (refusal.Formula f) = refl
placed_so places place same (refusal.Log f) = same f
placed_so places place same (refusal.Import f) = refl
placed_so places place same (refusal.Merge f) = refl

module _ (form : Input) (aim : Aim) (each : Bool) (bytes : List ℕ) (log : Log) (places : Places) (is : IsWhole form bytes log places) (one : length log.batches ≡ 1) where
  whole_due : due_by (reading_by form) aim true bytes ≡ told true (form.place bytes) (judgement_on aim log) None
  whole_due =
      ap (λ (o : Option Refusal). told true (form.place bytes) (judged (rules_of aim) waiting (items_at_end true o (form.log bytes))) o) is.faultless
      ∙ ap (λ (l : Log). told true (form.place bytes) (judgement_on aim l) None) (sym is.log_is)

  none : (due_by (reading_by form) aim true bytes).closed ≡ []
  none = (one_report form.fault form.log form.place (rules_of aim) true bytes (ap (λ (l : Log). length l.batches) (sym is.log_is) ∙ one)).closed

  whole_log : (p : Prefix) → whole_of (judgement_on aim log) ≡ Some p → (due_by (reading_by form) aim true bytes).whole ≡ Some p
  whole_log p whole = ap (λ (d : Due). d.whole) whole_due ∙ whole

  all_reported : (p : Prefix) → whole_of (judgement_on aim log) ≡ Some p → reported each (due_by (reading_by form) aim true bytes) ≡ p ∷ []
  all_reported p whole = one_reported each (due_by (reading_by form) aim true bytes) p none (whole_log p whole)

  verdict : (text : List ℕ) (v : Verdict) → IsWholeVerdict aim log text v → IsVerdictBy (reading_by form) aim each bytes text v
  verdict text v w = record {
    told = record {
      fault = ap (λ (d : Due). d.fault) whole_due ∙ free_told (form.place bytes) (judgement_on aim log) w.whole w.is;
      count = w.count ∙ sym (ap (λ (d : Due). d.batches) whole_due);
      texts = subst (λ (logs : List Prefix). AreReportsFor aim logs text) (sym (all_reported w.whole w.is)) w.texts;
    };
    log = w.whole;
    whole = whole_log w.whole w.is;
    truth = w.truth;
  }

  refused_so : (text : List ℕ) (why : Refusal) (n : ℕ) → IsWholeRefused aim log text why n → TellsDueBy (reading_by form) (asking_of aim each) true (passage_of bytes text) (Some (placed (place_by places) why)) n
  refused_so text why n w = record {
    fault = ap (λ (d : Due). d.fault) whole_due ∙ ap (λ (k : Judgement). fault_in (form.place bytes) k None) w.is
        ∙ ap (λ (r : Refusal). Some r) (sym (placed_so places (form.place bytes) is.placed_so why));
    count = w.count ∙ sym (ap (λ (d : Due). d.batches) whole_due);
    texts = subst (λ (logs : List Prefix). AreReportsFor aim logs text)
        (sym (no_report each (due_by (reading_by form) aim true bytes) none (ap (λ (d : Due). d.whole) whole_due ∙ ap whole_of w.is))) w.nothing;
  }

  module _ (left : Option (List ℕ)) (lf lf' of of' : ℕ) (at : IsAtEnd left) where
    stops : (f : StopCause) (n : ℕ) (text : List ℕ) → WholeStops f n (counts_of of of') aim log text
        → StopsBy (reading_by form) (placed_cause (place_by places) f) n (behind_of left lf lf' of of') (asking_of aim each) (passage_of bytes text)
    stops (causes.Refused why) n text w = (true, λ _. at, refused_so text why n w)
    stops causes.Write n text w =
        (true, λ _. at, subst (λ (logs : List Prefix). HasPartOf aim logs text n) (sym (all_reported w.0.whole w.0.is)) w.0.part, w.1)
    stops causes.Memory n text w = front form aim each bytes text n w.0 w.1
    stops causes.Read n text w = absurd w

    pub whole_checks : (ended : Result Verdict Stop) (text : List ℕ) → WholeTo (counts_of of of') aim log text ended
        → ChecksBy (reading_by form) (behind_of left lf lf' of of') (asking_of aim each) (passage_of bytes text) (placed_result (place_by places) ended)
    whole_checks (Ok v) text w = (at, verdict text v w)
    whole_checks (Err stop) text w = stops stop.cause stop.batches text w

-- ---- the answer

module _ (form : Input) (aim : Aim) (each : Bool) (left left' held held' : Option (List ℕ)) (lf lf' of of' : ℕ) where
  abbrev Checked : Result Verdict Stop → Type 0
  Checked result = HasCheckedBy (reading_by form) (change_of left left' lf lf') (change_of held held' of of') aim each result

  stopped : (cause : StopCause) (result : Result Verdict Stop) (read : List ℕ) → Consumes left left' read → lf ≤ lf' → HasStopped (change_of held held' of of') cause result
      → StopsBy (reading_by form) cause 0 (behind_of left' lf lf' of of') (asking_of aim each) (passage_of read []) → Checked result
  stopped cause result read consumed later s stops = subst Checked (sym s.told) (record {
    read = read;
    written = [];
    consumed = consumed;
    wrote = s.nothing;
    log_later = later;
    out_later = s.later;
    to = stops;
  })

  -- what was read is checked as its form has it
  pub checked : (standing : Result Standing NoMemory) (result : Result Verdict Stop) → IfOk standing (HasStood form left left' lf lf') → OnErr standing (ReadsShort (change_of left left' lf lf'))
      → CanBeChecked standing → ChecksStanding (change_of held held' of of') aim standing result → Checked result
  checked (Ok (Whole log places)) result stood short can c = subst Checked (sym c.told) (record {
    read = stood.read;
    written = c.checked.written;
    consumed = stood.consumed;
    wrote = c.checked.wrote;
    log_later = stood.later;
    out_later = c.checked.later;
    to = whole_checks form aim each stood.read log places stood.to.1 can.batch left' lf lf' of of' stood.to.0 c.ended c.checked.written c.checked.to;
  })
  checked (Ok (Faulty r)) result stood short can c =
      stopped (causes.Refused r) result stood.read stood.consumed stood.later c
      (stood.to.0, stood.to.1, quiet form aim each stood.to.0 stood.read [] (Some r) (faulty_due form aim stood.to.0 stood.read r stood.to.2) refl)
  checked (Ok Failed) result stood short can c =
      stopped causes.Read result stood.read stood.consumed stood.later c
      (quiet form aim each false stood.read [] None (open_due form aim stood.read ∙ ap fault_alone stood.to.0) refl, stood.to.1)
  checked (Err x) result stood short can c =
      stopped causes.Memory result short.read short.consumed short.later c (front form aim each short.read [] 0 refl refl)

-- unless a read failed, the count of faults of the source is as it was
pub calm_so_far : (aim : Aim) (held held' : Option (List ℕ)) (lf lf' of of' : ℕ) (standing : Result Standing NoMemory) (result : Result Verdict Stop) → ((standing ≡ Ok Failed → ⊥) → lf' ≡ lf)
    → ChecksStanding (change_of held held' of of') aim standing result → IsCalmUnlessRead lf lf' result
calm_so_far aim held held' lf lf' of of' (Ok (Whole log places)) result calm c = calm_so lf lf' result (calm (λ e. cc))
calm_so_far aim held held' lf lf' of of' (Ok (Faulty r)) result calm c = calm_so lf lf' result (calm (λ e. cc))
calm_so_far aim held held' lf lf' of of' (Ok Failed) result calm c = subst (IsCalmUnlessRead lf lf') (sym c.told) (λ other. absurd (other refl))
calm_so_far aim held held' lf lf' of of' (Err x) result calm c = calm_so lf lf' result (calm (λ e. cc))
