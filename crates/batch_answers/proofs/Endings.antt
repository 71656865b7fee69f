-- The whole log: its report and its verdict.
use Rattle.std.proofs.Common.{◌≡◌, ℕ, Bool, true, false, Option, Some, None, Result, Ok, Err, List, [], ◌∷◌, ◌++◌, sym, ap, ◌∙◌, arith, append-nil}
use Rattle.std.specs.Io.KnownBytes.{IsAtEnd}
use Rattle.std.proofs.KnownBytes.{Appends-trans}
use Rattle.pota_base.specs.Changes.{behind_of, change_of, counts_of}
use Rattle.event_log.specs.declared.item.LogFault.{LogFault}
use Rattle.log_rules.specs.Passage.{passage_of}
use Rattle.log_rules.specs.Judgement.{Prefix, Judgement}
use Rattle.log_rules.specs.Due.{closed_of, whole_of, fault_in, at_end, told}
use Rattle.log_rules.specs.Reported.{listed, reported}
use Rattle.log_rules.specs.Counters.{counters_in}
use Rattle.log_rules.specs.Readings.{log_reading}
use Rattle.log_rules.specs.WholeLogs.{all_of}
use Rattle.rctl_class.specs.Nodes.{formula_of}
use Rattle.vector_clock.specs.Filled.{filled_log}
use Rattle.log_rules.proofs.Logs.{log_due, due_log}
use Rattle.log_answers.specs.Asking.{asking_of, reached_of}
use Rattle.log_answers.specs.PassedOn.{Says, Aim, unknown_name}
use Rattle.log_answers.specs.PassedOn.{IsCheckOf, HasClosed}
use Rattle.log_answers.specs.PassedOn.{ReportedLog}
use Rattle.log_answers.specs.declared.stop.StopCause.{StopCause}
use Rattle.log_answers.specs.declared.stop.StopCause.TheVariants as causes
use Rattle.log_answers.specs.declared.stop.Stop.{Stop}
use Rattle.log_answers.specs.declared.stop.Verdict.{Verdict}
use Rattle.log_answers.specs.Checking.{closed_in, AreReportsFor, ReportStops, Reports}
use Rattle.log_answers.specs.Inputs.{IsVerdictBy, StopsBy, ChecksBy}
use Rattle.batch_answers.specs.Reading.{due_in, judgement_in, IsWhole, StopsAt, HasReadLog}
use Rattle.batch_answers.specs.Reading.{HasChecked}
use Rattle.log_answers.proofs.Items.{texts_as, part_of_more, front_of_more}
use Rattle.log_answers.proofs.OneBatch.{whole_closed}
use Rattle.batch_answers.proofs.ReadingSteps.{as_is, of_text, reported_open, free_told}

-- ---- the reports on the whole log

reported_whole : (each : Bool) (j : Judgement) (log : Prefix) → whole_of j ≡ Some log
    → reported each (told true as_is j None) ≡ closed_in each j ++ log ∷ []
reported_whole false j log h = ap listed h
reported_whole true j log h = ap (λ (o : Option Prefix). closed_of j ++ listed o) h

module _ {X : Type 0} {P : X → Type 0} (says : Says X P) (aim : Aim) (each : Bool) (check : ReportedLog X P) (bytes text : List ℕ) (w : IsWhole says aim each check bytes text) where
  abbrev j : Judgement
  j = judgement_in aim bytes

  pub none_due : (due_in aim true bytes).fault ≡ None
  none_due = ap (λ (o : Option LogFault). fault_in as_is j (of_text o)) w.free ∙ free_told as_is j None w.stands.check_is.log.free

  pub whole_log : (log : Prefix) × (whole_of j ≡ Some log)
  whole_log =
      let names = unknown_name aim.node aim.names in
      let counters = counters_in (formula_of aim.node) in
      let found = due_log names counters bytes none_due in
      let due_is = log_due names counters bytes found.0 found.1 in
      (all_of (filled_log found.0), sym (ap (λ (o : Option LogFault). at_end true (of_text o) (whole_of j)) w.free) ∙ due_is.whole)

  pub closed_log : HasClosed j whole_log.0
  closed_log = whole_closed j whole_log.0 whole_log.1

  pub whole_due : (due_in aim true bytes).whole ≡ Some whole_log.0
  whole_due = ap (λ (o : Option LogFault). at_end true (of_text o) (whole_of j)) w.free ∙ whole_log.1

  all_reported : reported each (due_in aim true bytes) ≡ closed_in each j ++ whole_log.0 ∷ []
  all_reported = ap (λ (o : Option LogFault). reported each (told true as_is j (of_text o))) w.free ∙ reported_whole each j whole_log.0 whole_log.1

  module _ (held held' : Option (List ℕ)) (of of' : ℕ) where
    abbrev Reported : Result Verdict Stop → Type 0
    Reported result = Reports (change_of held held' of of') aim check.log.intake.batches (reached_of (closed_in each j) whole_log.0) text result

    verdict_on : (v : Verdict) → (r : Reported (Ok v)) → IsVerdictBy log_reading aim each bytes (text ++ r.written) v
    verdict_on v r = record {
      told = record {
        fault = none_due;
        count = r.to.2 ∙ w.stands.check_is.log.intake.batches;
        texts = texts_as aim _ _ (text ++ r.written) all_reported r.to.0;
      };
      log = whole_log.0;
      whole = whole_due;
      truth = r.to.1;
    }

    report_stops : (left : Option (List ℕ)) (lf lf' : ℕ) → IsAtEnd left → (f : StopCause) (n : ℕ) (t : List ℕ) → ReportStops f n (counts_of of of') aim (reached_of (closed_in each j) whole_log.0) t
        → StopsBy log_reading f n (behind_of left lf lf' of of') (asking_of aim each) (passage_of bytes t)
    report_stops left lf lf' ended causes.Write n t h =
        (true, λ e. ended, part_of_more aim (closed_in each j ++ whole_log.0 ∷ []) [] _ t n (all_reported ∙ sym (append-nil (closed_in each j ++ whole_log.0 ∷ []))) h.0, h.1)
    report_stops left lf lf' ended causes.Memory n t h =
        front_of_more aim (closed_in each j) [] _ t n (reported_open as_is each j _ ∙ sym (append-nil (closed_in each j))) h
    report_stops left lf lf' ended (causes.Refused r) n t h = absurd h
    report_stops left lf lf' ended causes.Read n t h = absurd h

    pub reported_to : (left : Option (List ℕ)) (lf lf' : ℕ) → IsAtEnd left → (result : Result Verdict Stop) → (r : Reported result)
        → ChecksBy log_reading (behind_of left lf lf' of of') (asking_of aim each) (passage_of bytes (text ++ r.written)) result
    reported_to left lf lf' ended (Ok v) r = (ended, verdict_on v r)
    reported_to left lf lf' ended (Err stop) r = report_stops left lf lf' ended stop.cause stop.batches (text ++ r.written) r.to

-- ---- the log was read, and its last report was to be written

module _ {X : Type 0} {P : X → Type 0} (says : Says X P) (aim : Aim) (each : Bool) (check : ReportedLog X P) (left left' held now held' : Option (List ℕ)) (lf lf' of of_now of' : ℕ) where
  pub checks : {T : Type 0} (x : T) (result : Result Verdict Stop) → (h : HasReadLog (change_of left left' lf lf') (change_of held now of of_now) says (asking_of aim each) check (Ok x))
      → ((j : Judgement) (log : Prefix) → IsCheckOf says aim check j → HasClosed j log → (before : List Prefix) (text : List ℕ) → AreReportsFor aim before text
      → Reports (change_of now held' of_now of') aim check.log.intake.batches (reached_of before log) text result)
      → HasChecked (change_of left left' lf lf') (change_of held held' of of') aim each result
  checks x result h reports =
      let w = h.to.1 in
      let log = whole_log says aim each check h.read h.written w in
      let r = reports (judgement_in aim h.read) log.0 w.stands.check_is (closed_log says aim each check h.read h.written w) (closed_in each (judgement_in aim h.read)) h.written w.stands.texts in
      record {
        read = h.read;
        written = h.written ++ r.written;
        consumed = h.consumed;
        wrote = Appends-trans held now held' h.written r.written h.wrote r.wrote;
        log_later = h.log_later;
        out_later = omega (arith, h.out_later, r.later);
        to = earlier result h.read (h.written ++ r.written) (reported_to says aim each check h.read h.written w now held' of_now of' left' lf lf' h.to.0 result r);
      }
    where
      stops : (f : StopCause) (n : ℕ) (bytes text : List ℕ) → StopsBy log_reading f n (behind_of left' lf lf' of_now of') (asking_of aim each) (passage_of bytes text)
          → StopsBy log_reading f n (behind_of left' lf lf' of of') (asking_of aim each) (passage_of bytes text)
      stops (causes.Refused r) n bytes text k = k
      stops causes.Read n bytes text k = k
      stops causes.Write n bytes text k = (k.0, k.1, k.2, let e = k.3 in omega (arith, e, h.out_later))
      stops causes.Memory n bytes text k = k

      earlier : (y : Result Verdict Stop) (bytes text : List ℕ) → ChecksBy log_reading (behind_of left' lf lf' of_now of') (asking_of aim each) (passage_of bytes text) y → ChecksBy log_reading (behind_of left' lf lf' of of') (asking_of aim each) (passage_of bytes text) y
      earlier (Ok v) bytes text k = k
      earlier (Err stop) bytes text k = stops stop.cause stop.batches bytes text k

  stops_by : (f : StopCause) (n : ℕ) (bytes text : List ℕ) → StopsAt f n (behind_of left' lf lf' of of_now) (asking_of aim each) (passage_of bytes text)
      → StopsBy log_reading f n (behind_of left' lf lf' of of_now) (asking_of aim each) (passage_of bytes text)
  stops_by (causes.Refused r) n bytes text k = k
  stops_by causes.Read n bytes text k = k
  stops_by causes.Write n bytes text k = (false, λ e. absurd (cc), k.0, k.1)
  stops_by causes.Memory n bytes text k = k

  pub checks_stop : {T : Type 0} (stop : Stop) → HasReadLog {T = T} (change_of left left' lf lf') (change_of held now of of_now) says (asking_of aim each) check (Err stop)
      → HasChecked (change_of left left' lf lf') (change_of held now of of_now) aim each (Err stop)
  checks_stop stop h = record {
    read = h.read;
    written = h.written;
    consumed = h.consumed;
    wrote = h.wrote;
    log_later = h.log_later;
    out_later = h.out_later;
    to = stops_by stop.cause stop.batches h.read h.written h.to;
  }

-- some log is whole, which the report asks for
pub some_closed : {X : Type 0} {P : X → Type 0} (says : Says X P) (aim : Aim) (each : Bool) (check : ReportedLog X P) {T : Type 0} (x : T) (left left' held now : Option (List ℕ)) (lf lf' of of_now : ℕ)
    → HasReadLog (change_of left left' lf lf') (change_of held now of of_now) says (asking_of aim each) check (Ok x) → (j : Judgement) × (log : Prefix) × IsCheckOf says aim check j × HasClosed j log
some_closed says aim each check x left left' held now lf lf' of of_now h =
    let w = h.to.1 in
    (judgement_in aim h.read, (whole_log says aim each check h.read h.written w).0, w.stands.check_is, closed_log says aim each check h.read h.written w)
