-- How the answer to a question for a certificate is that to the words.
use Rattle.std.proofs.Common.{◌≡◌, ℕ, List, [], ◌∷◌, ◌++◌, Option, Some, None, Result, Ok, Err, refl, sym, ap, ◌∙◌, subst, arith, inl, inr, append-nil}
use Rattle.std.specs.Prelude.{Bool, true, false, if◌then◌else◌, ◌↔◌, ◌⊎◌}
use Rattle.std.specs.Io.KnownBytes.{IsAtEnd}
use Rattle.std.proofs.KnownBytes.{Appends-nil, Appends-trans}
use Rattle.std.proofs.lemmas.Option.{none-some}
use Rattle.pota_base.specs.declared.fault.Failed.{Failed}
use Rattle.pota_base.specs.declared.status.Status.TheVariants as status
use Rattle.pota_base.specs.Limits.{longest_log}
use Rattle.pota_base.specs.Changes.{behind_of, change_of, counts_of}
use Rattle.event_log.specs.declared.item.LogFault.{LogFault}
use Rattle.rctl_grammar.specs.declared.tree.Tree.{Tree}
use Rattle.rctl_parts.specs.Pieces.{Piece, disjuncts_of}
use Rattle.rctl_class.specs.Nodes.{formula_of}
use Rattle.command_words.specs.declared.request.Product.TheVariants as product
use Rattle.command_words.specs.declared.request.Task.TheVariants as task
use Rattle.stated_formula.specs.declared.formula.Stated.{Stated}
use Rattle.call_request.specs.Questions.{AsksFor}
use Rattle.stated_formula.specs.Stating.{IsStated}
use Rattle.call_request.proofs.OneQuestion.{asks_one}
use Rattle.log_rules.specs.Passage.{passage_of}
use Rattle.log_rules.specs.SoFar.{counted}
use Rattle.fault_kinds.specs.declared.refusal.Refusal.{Refusal}
use Rattle.fault_kinds.specs.declared.refusal.Refusal.TheVariants as refusal
use Rattle.log_rules.specs.Judgement.{Prefix, Judgement, waiting, growing, finished, refused}
use Rattle.log_rules.specs.Readings.{log_reading}
use Rattle.log_rules.specs.Due.{whole_of, batches_of, fault_in, at_end}
use Rattle.log_judgement.specs.Texts.{AreTexts}
use Rattle.log_rules.specs.Reported.{listed, reported}
use Rattle.log_rules.specs.Counters.{counters_in}
use Rattle.log_rules.proofs.Orders.{all_ordered}
use Rattle.log_rules.proofs.Readings.{log_is_read}
use Rattle.batch_answers.specs.PassedOn.{Says, Aim, unknown_name, taken_for}
use Rattle.batch_answers.specs.PassedOn.{IsCheckOf, HasClosed}
use Rattle.batch_answers.specs.PassedOn.{IsCheckedLog, observed_alone}
use Rattle.batch_answers.specs.PassedOn.{ReportedLog}
use Rattle.batch_answers.specs.PassedOn.{CheckedLog}
use Rattle.log_answers.specs.Asking.{asking_of}
use Rattle.log_answers.specs.declared.stop.StopCause.{StopCause}
use Rattle.log_answers.specs.declared.stop.StopCause.TheVariants as causes
use Rattle.log_answers.specs.declared.stop.Stop.{Stop}
use Rattle.log_answers.specs.declared.stop.Verdict.{Verdict}
use Rattle.log_answers.specs.Checking.{AreReportsFor}
use Rattle.log_answers.specs.Inputs.{due_by, TellsDueBy}
use Rattle.fault_line.specs.Faults.{status_of, fault_of_refusal}
use Rattle.call_promise.specs.Asking.{Handing, Writes, certifying, reading_of, due_of}
use Rattle.certificate_lines.specs.Spelling.{formula_line}
use Rattle.certify.specs.Certifying.{IsCertificateOf, IsFrontOfCertificate, HasFront, IsCertifying}
use Rattle.rctl_parts.specs.declared.part.Part.{Part}
use Rattle.part_pulls.specs.declared.observed.Observed.{Observed}
use Rattle.call_promise.specs.Certificates.{IsTrueAtStart, no_watches, disjuncts_on, line_of, IsCertificateFront}
use Rattle.call_promise.specs.Run.{AllTell, IsTold, HasVerdict, IsRefused, HasPart, HasCertificateFront, AsksCertificate, Answer, Ran}
use Rattle.call_promise.proofs.Clauses.{not_both}
use Rattle.batch_answers.specs.Outcome.{fault_of, faulty_outcome, outcome_of}
use Rattle.batch_answers.specs.Reading.{judgement_in, StopsAt, HasReadLog}
use Rattle.certificate_answers.specs.inside.Certifying.{aim_for, HoldsOn, IsLogSeen, verdict_of, certified_of}
use Rattle.certificate_answers.specs.inside.Certifying.{PutsCertificate, CertifyStops, CertifiesTo}
use Rattle.certificate_answers.specs.inside.Certifying.{Certifies, HasFrontBy, CertifyStopsBy}
use Rattle.certificate_answers.specs.inside.Certifying.{IsCertifiedBy, CertifiesBy, HasCertified}
use Rattle.batch_answers.proofs.Endings.{whole_log, closed_log, whole_due, none_due}

-- ---- the log as it was observed

pub seen_log : (s : Stated) (formula : List ℕ) (log : Prefix) (checked : CheckedLog) → IsStated formula s → IsCheckedLog (taken_for (aim_for s)) log checked
    → IsLogSeen s.formula.tree log checked
seen_log s formula log checked is h = record {
  text = h.text ∙ is.printed;
  seen = h.alone refl;
  split = h.split;
  answers = h.watches;
  truth = h.truth;
}

-- the same stop, as what a call led to
abbrev erring : Stop → Result Verdict Stop
erring stop = Err stop

pub stopped : (a b : Stop) → a ≡ b → erring a ≡ erring b
stopped a b same = ap erring same

module _ (t : Tree) (log : Prefix) (checked : CheckedLog) (sees : IsLogSeen t log checked) where
  module _ (parts : List (List Part)) (parts_are : parts ≡ checked.disjuncts) where
    -- what is said of what was observed is said of the log
    of_log : (Is : Observed → List (List Piece) → List ℕ → Type 0) (line : List ℕ) → line ≡ formula_line checked.stated.text → Is checked.seen (disjuncts_of parts) line
        → Is (observed_alone log) (disjuncts_on log t) (line_of t)
    of_log Is line line_is h =
        subst (λ (l : List ℕ). Is (observed_alone log) (disjuncts_on log t) l) (line_is ∙ ap formula_line sees.text)
        (subst (λ (d : List (List Piece)). Is (observed_alone log) d line) (ap disjuncts_of parts_are ∙ sees.split) (subst (λ (o : Observed). Is o (disjuncts_of parts) line) sees.seen h))

  -- nothing was written yet
  pub unwritten : (held : Option (List ℕ)) (of batches : ℕ) (stop : Stop) → stop ≡ record { batches = 0; cause = causes.Memory } → Certifies (change_of held held of of) t batches log (Err stop)
  unwritten held of batches stop is = subst (λ (x : Stop). Certifies (change_of held held of of) t batches log (Err x)) (sym is) (record {
    written = [];
    wrote = Appends-nil held;
    later = omega arith;
    to = (record { front = λ text told h. (text, refl) }, refl);
  })

  module _ (parts : List (List Part)) (parts_are : parts ≡ checked.disjuncts) (line : List ℕ) (line_is : line ≡ formula_line checked.stated.text) (held held' : Option (List ℕ)) (of of' batches : ℕ) where
    front_of : (h : HasFront held held' checked.seen (disjuncts_of parts) line) → IsCertificateFront t log h.part
    front_of h = record { front = of_log parts parts_are (λ o d l. IsFrontOfCertificate o d l h.part) line line_is h.front }

    short : of' ≡ of → HasFront held held' checked.seen (disjuncts_of parts) line → Certifies (change_of held held' of of') t batches log (Err (record { batches = 0; cause = causes.Memory }))
    short calm h = record {
      written = h.part;
      wrote = h.written;
      later = omega (arith, calm);
      to = (front_of h, refl);
    }

    abbrev Means : Type 0
    Means = (text : List ℕ) (told : Bool) → IsCertificateOf checked.seen (disjuncts_of parts) line text told → (told ≡ true) ↔ HoldsOn checked.seen (disjuncts_of checked.disjuncts)

    ended_so : Means → (ended : Result Bool Failed) → IsCertifying ended (change_of held held' of of') checked.seen (disjuncts_of parts) line → Certifies (change_of held held' of of') t batches log (verdict_of ended batches)
    ended_so means (Ok told) h =
        let holds = means h.text told h.certificate in
        let truth : (told ≡ true) ↔ IsTrueAtStart no_watches t log = (λ e. sees.truth.0 (holds.0 e), λ x. holds.1 (sees.truth.1 x)) in
        let calm = h.calm in
        record {
          written = h.text;
          wrote = h.written;
          later = omega (arith, calm);
          to = (record { told = told; is = of_log parts parts_are (λ o d l. IsCertificateOf o d l h.text told) line line_is h.certificate; truth = truth }, truth, refl);
        }
    ended_so means (Err failed) h = record { written = h.part.part; wrote = h.part.written; later = h.later; to = (front_of h.part, refl, h.rose) }

    pub written_so : Means → (result : Result Verdict Stop) → PutsCertificate (change_of held held' of of') checked.seen (disjuncts_of parts) line batches result → Certifies (change_of held held' of of') t batches log result
    written_so means result (inl h) = subst (λ (x : Result Verdict Stop). Certifies (change_of held held' of of') t batches log x) (sym h.0) (short h.1 h.2)
    written_so means result (inr h) = subst (λ (x : Result Verdict Stop). Certifies (change_of held held' of of') t batches log x) (sym h.1) (ended_so means h.0 h.2)

-- ---- no text is due where a fault is

none_whole : (ended : Bool) (place : LogFault → Refusal) (j : Judgement) (fault : Option Refusal) (r : Refusal) → fault_in place j fault ≡ Some r
    → at_end ended fault (whole_of j) ≡ None
none_whole false place j fault r is = refl
none_whole true place waiting None r is = refl
none_whole true place waiting (Some f) r is = refl
none_whole true place (growing log since) None r is = refl
none_whole true place (growing log since) (Some f) r is = refl
none_whole true place (finished log last) None r is = absurd (none-some r is)
none_whole true place (finished log last) (Some f) r is = refl
none_whole true place (refused log why) None r is = refl
none_whole true place (refused log why) (Some f) r is = refl

-- a text of no logs is empty, whatever each would have
of_none : (A B : Prefix → List ℕ → Type 0) (logs : List Prefix) (text : List ℕ) → logs ≡ [] → AreTexts A logs text → AreTexts B logs text
of_none A B logs text none h =
    subst (λ (ps : List Prefix). AreTexts B ps text) (sym none) (subst (λ (ps : List Prefix). AreTexts A ps text) none h)

no_part : {A : Type 0} (before behind : List A) (x : A) → [] ≡ before ++ x ∷ behind → ⊥
no_part [] behind x is = cc
no_part (y ∷ before) behind x is = cc

no_front : {A : Type 0} (front rest : List A) → [] ≡ front ++ rest → front ≡ []
no_front [] rest is = refl
no_front (x ∷ front) rest is = absurd (cc)

-- how many batches a whole log has
whole_count : (j : Judgement) (log : Prefix) → whole_of j ≡ Some log → batches_of j ≡ counted log.batches
whole_count waiting log is = absurd (none-some log is)
whole_count (growing so since) log is = absurd (none-some log is)
whole_count (finished so last) log is = cc
whole_count (refused so why) log is = absurd (none-some log is)

-- ---- the log was read, and its certificate was to be written

module _ {X : Type 0} {P : X → Type 0} (says : Says X P) (s : Stated) (check : ReportedLog X P) (left left' held now held' : Option (List ℕ)) (lf lf' of of_now of' : ℕ) where
  abbrev aim : Aim
  aim = aim_for s

  abbrev t : Tree
  t = s.formula.tree

  module _ {T : Type 0} (x : T) (h : HasReadLog (change_of left left' lf lf') (change_of held now of of_now) says (asking_of aim false) check (Ok x)) where
    abbrev log_there : Prefix
    log_there = (whole_log says aim false check h.read h.written h.to.1).0

    has_front : (text : List ℕ) → IsCertificateFront t log_there text → HasFrontBy left' aim t h.read text
    has_front text front = record {
      ended = h.to.0;
      log = log_there;
      whole = whole_due says aim false check h.read h.written h.to.1;
      front = front;
    }

    stops : (f : StopCause) (n : ℕ) (text : List ℕ) → CertifyStops f n (counts_of of_now of') (certified_of t log_there) check.log.intake.batches text → CertifyStopsBy f n (behind_of left' lf lf' of of') aim t (passage_of h.read text)
    unfolding has_front
    stops (causes.Refused r) n text k = absurd k
    stops causes.Read n text k = absurd k
    stops causes.Write n text k = (
      has_front text k.0,
      k.1 ∙ h.to.1.stands.check_is.log.intake.batches ∙ whole_count (judgement_in aim h.read) log_there (whole_log says aim false check h.read h.written h.to.1).1,
      let e = k.2 in omega (arith, e, h.out_later),
    )
    stops causes.Memory n text k = (inr (has_front text k.0), k.1)

    made : (result : Result Verdict Stop) (text : List ℕ) → CertifiesTo (counts_of of_now of') t check.log.intake.batches log_there text result → CertifiesBy (behind_of left' lf lf' of of') aim t h.read text result
    made (Ok v) text k = (
      h.to.0,
      record {
        free = none_due says aim false check h.read h.written h.to.1;
        log = log_there;
        whole = whole_due says aim false check h.read h.written h.to.1;
        certificate = k.0;
        truth = k.1;
        count = k.2 ∙ h.to.1.stands.check_is.log.intake.batches;
      },
    )
    made (Err stop) text k = stops stop.cause stop.batches text k

    certified : (result : Result Verdict Stop) → Certifies (change_of now held' of_now of') t check.log.intake.batches log_there result → HasCertified (change_of left left' lf lf') (change_of held held' of of') aim t result
    certified result r = record {
      read = h.read;
      written = h.written ++ r.written;
      consumed = h.consumed;
      wrote = Appends-trans held now held' h.written r.written h.wrote r.wrote;
      log_later = h.log_later;
      out_later = omega (arith, h.out_later, r.later);
      to = subst (λ (text : List ℕ). CertifiesBy (behind_of left' lf lf' of of') aim t h.read text result)
          (sym (ap (λ (front : List ℕ). front ++ r.written) h.to.1.stands.texts)) (made result r.written r.to);
    }

    there : (j : Judgement) × (log : Prefix) × IsCheckOf says aim check j × HasClosed j log
    there = (judgement_in aim h.read, log_there, h.to.1.stands.check_is, closed_log says aim false check h.read h.written h.to.1)

  pub whole_there : {T : Type 0} (x : T) (each : Bool) → each ≡ false → HasReadLog {T = T} (change_of left left' lf lf') (change_of held now of of_now) says (asking_of aim each) check (Ok x) → (j : Judgement) × (log : Prefix) × IsCheckOf says aim check j × HasClosed j log
  whole_there {T} x each none h = there x (subst (λ (e : Bool). HasReadLog {T = T} (change_of left left' lf lf') (change_of held now of of_now) says (asking_of aim e) check (Ok x)) none h)

  pub certified_log : {T : Type 0} (x : T) (each : Bool) → each ≡ false → HasReadLog {T = T} (change_of left left' lf lf') (change_of held now of of_now) says (asking_of aim each) check (Ok x) → (result : Result Verdict Stop)
      → ((j : Judgement) (log : Prefix) → IsCheckOf says aim check j → HasClosed j log → Certifies (change_of now held' of_now of') t check.log.intake.batches log result)
      → HasCertified (change_of left left' lf lf') (change_of held held' of of') aim t result
  unfolding there
  certified_log {T} x each none h result makes =
      let k = subst (λ (e : Bool). HasReadLog {T = T} (change_of left left' lf lf') (change_of held now of of_now) says (asking_of aim e) check (Ok x)) none h in
      let w = there x k in
      certified x k result (makes w.0 w.1 w.2 w.3)

  -- nothing is written while the log is read
  read_stops : (f : StopCause) (n : ℕ) (bytes text : List ℕ) → StopsAt f n (behind_of left' lf lf' of of_now) (asking_of aim false) (passage_of bytes text)
      → CertifyStopsBy f n (behind_of left' lf lf' of of_now) aim t (passage_of bytes text)
  read_stops (causes.Refused r) n bytes text k = k
  read_stops causes.Read n bytes text k = k
  read_stops causes.Write n bytes text k = absurd (no_part k.0.before k.0.behind k.0.log k.0.are)
  read_stops causes.Memory n bytes text k =
      (inl (subst (λ (ps : List Prefix). AreReportsFor aim ps text) (no_front k.front k.rest k.are) k.texts), k.count)

  not_read_so : {T : Type 0} (stop : Stop) → HasReadLog {T = T} (change_of left left' lf lf') (change_of held now of of_now) says (asking_of aim false) check (Err stop)
      → HasCertified (change_of left left' lf lf') (change_of held now of of_now) aim t (Err stop)
  not_read_so stop h = record {
    read = h.read;
    written = h.written;
    consumed = h.consumed;
    wrote = h.wrote;
    log_later = h.log_later;
    out_later = h.out_later;
    to = read_stops stop.cause stop.batches h.read h.written h.to;
  }

  pub not_read : {T : Type 0} (stop : Stop) (each : Bool) → each ≡ false → HasReadLog {T = T} (change_of left left' lf lf') (change_of held now of of_now) says (asking_of aim each) check (Err stop)
      → HasCertified (change_of left left' lf lf') (change_of held now of of_now) aim t (Err stop)
  not_read {T} stop each none h =
      not_read_so {T = T} stop (subst (λ (e : Bool). HasReadLog {T = T} (change_of left left' lf lf') (change_of held now of of_now) says (asking_of aim e) check (Err stop)) none h)

-- ---- the answer to the words

module _ (s : Stated) (words : List (List ℕ)) (asks : AsksFor words (task.Read certifying) s.formula.tree) (on : Handing) where
  abbrev asked_aim : Aim
  asked_aim = aim_for s

  abbrev tree : Tree
  tree = s.formula.tree

  abbrev due_texts : (ended : Bool) (bytes text : List ℕ) → Type 0
  due_texts ended bytes text = AreTexts (Writes on.watches tree product.Certificate) (reported false (due_by log_reading asked_aim ended bytes)) text

  due_tell : (ended : Bool) (bytes : List ℕ) → AllTell on.watches tree product.Certificate (reported false (due_by log_reading asked_aim ended bytes))
  due_tell ended bytes = all_ordered (unknown_name asked_aim.node []) (counters_in (formula_of asked_aim.node)) longest_log log_reading log_is_read false ended bytes

  abbrev told_of : (ended : Bool) (bytes text : List ℕ) (n : ℕ) → n ≡ (due_by log_reading asked_aim ended bytes).batches → due_texts ended bytes text → IsTold on words ended bytes text n
  unfolding due_of reading_of
  told_of ended bytes text n count texts = record {
    tree = tree;
    inquiry = certifying;
    asks = asks;
    text = texts;
    telling = due_tell ended bytes;
    count = count;
  }

  module _ (left : Option (List ℕ)) (lf lf' of of' : ℕ) (read written : List ℕ) where
    refused_by : (r : Refusal) (n : ℕ) (ended : Bool) → (ended ≡ true → IsAtEnd left) → TellsDueBy log_reading (asking_of asked_aim false) ended (passage_of read written) (Some r) n
        → IsRefused left on words (passage_of read written) (faulty_outcome n (fault_of_refusal r)) r
    unfolding due_of reading_of told_of
    refused_by r n ended at told =
        let none = ap listed (none_whole ended (log_reading.place ended read) (judgement_in asked_aim read) (log_reading.fault ended read) r told.fault) in
        record {
          ended = ended;
          at_end = at;
          told = told_of ended read written n told.count (of_none _ (Writes on.watches tree product.Certificate) (reported false (due_by log_reading asked_aim ended read)) written none told.texts);
          due_is = told.fault;
          fault = refl;
        }

    has_part : (n : ℕ) → (h : HasFrontBy left asked_aim tree read written) → n ≡ counted h.log.batches → HasPart left on words read written n
    unfolding due_of reading_of
    has_part n h count = record {
      tree = tree;
      inquiry = certifying;
      asks = asks;
      ended = true;
      at_end = λ e. h.ended;
      before = [];
      log = h.log;
      behind = [];
      due_are = ap listed h.whole;
      telling = subst (AllTell on.watches tree product.Certificate) (ap listed h.whole) (due_tell true read);
      text = [];
      texts = refl;
      part = written;
      is_front = h.front;
      wrote = refl;
      count = count;
    }

    -- words ask for one certificate
    front_asked : (u : Tree) → AsksCertificate words u → HasCertificateFront left on tree read written → HasCertificateFront left on u read written
    front_asked u k h = subst (λ (v : Tree). HasCertificateFront left on v read written) (asks_one words (task.Read certifying) (task.Read certifying) tree u asks k).1 h

    front_there : (written ≡ []) ⊎ HasFrontBy left asked_aim tree read written → HasCertificateFront left on tree read written
    unfolding due_of reading_of
    front_there (inl none) = inl none
    front_there (inr h) = inr (h.ended, h.log, h.whole, h.front)

    stop_answer : (why : StopCause) (n : ℕ) → CertifyStopsBy why n (behind_of left lf lf' of of') asked_aim tree (passage_of read written)
        → Answer (status_of (fault_of why)) (behind_of left lf lf' of of') on words (passage_of read written) (faulty_outcome n (fault_of why))
    unfolding due_of reading_of told_of
    stop_answer (causes.Refused (refusal.Formula x)) n h = (x, inr (inl (refused_by (refusal.Formula x) n h.0 h.1 h.2)))
    stop_answer (causes.Refused (refusal.Log x)) n h = (refusal.Log x, refl, refused_by (refusal.Log x) n h.0 h.1 h.2)
    stop_answer (causes.Refused (refusal.Import x)) n h = (refusal.Import x, refl, refused_by (refusal.Import x) n h.0 h.1 h.2)
    stop_answer (causes.Refused (refusal.Merge x)) n h = (refusal.Merge x, refl, refused_by (refusal.Merge x) n h.0 h.1 h.2)
    stop_answer causes.Read n h = (record { told = told_of false read written n h.0.count h.0.texts; free = h.0.fault; fault = refl }, h.1)
    stop_answer causes.Write n h = (inl (has_part n h.0 h.1), refl, h.2)
    stop_answer causes.Memory n h = record {
      front = λ none text batches w. absurd (none tree asks);
      certified = λ u k. (front_asked u k (front_there h.0), h.1);
      unread = λ u sizes k. absurd (not_both words certifying sizes tree u asks k);
      unnamed = λ u sizes f k. absurd (not_both words certifying sizes tree u asks k);
      fault = refl;
    }

    verdict_so : (b : Bool) (v : Verdict) → v.truth ≡ b → IsAtEnd left → IsCertifiedBy asked_aim tree read written v
        → HasVerdict left on words (passage_of read written) (record { status = if b then status.True else status.False; batches = v.batches; fault = None }) b
    unfolding due_of reading_of told_of
    verdict_so b v same ended h = record {
      ended = ended;
      told = told_of true read written v.batches h.count
          (subst (λ (ps : List Prefix). AreTexts (Writes on.watches tree product.Certificate) ps written) (sym (ap listed h.whole)) (written, h.certificate, [], refl, sym (append-nil written)));
      free = h.free;
      log = h.log;
      whole = h.whole;
      truth = subst (λ (x : Bool). (x ≡ true) ↔ IsTrueAtStart no_watches tree h.log) same h.truth;
      fault = refl;
    }

    verdict_answer : (b : Bool) (v : Verdict) → v.truth ≡ b → IsAtEnd left → IsCertifiedBy asked_aim tree read written v
        → Answer (if b then status.True else status.False) (behind_of left lf lf' of of') on words (passage_of read written) (record { status = if b then status.True else status.False; batches = v.batches; fault = None })
    verdict_answer true v e ended h = inl (verdict_so true v e ended h)
    verdict_answer false v e ended h = inl (verdict_so false v e ended h)

    answer_of : (result : Result Verdict Stop) → CertifiesBy (behind_of left lf lf' of of') asked_aim tree read written result
        → Answer (outcome_of result).status (behind_of left lf lf' of of') on words (passage_of read written) (outcome_of result)
    answer_of (Ok v) h = verdict_answer v.truth v refl h.0 h.1
    answer_of (Err stop) h = stop_answer stop.cause stop.batches h

  pub ran_certified : (left left' held held' : Option (List ℕ)) (lf lf' of of' : ℕ) (result : Result Verdict Stop) → HasCertified (change_of left left' lf lf') (change_of held held' of of') asked_aim tree result
      → Ran (change_of left left' lf lf') (change_of held held' of of') on words (outcome_of result)
  ran_certified left left' held held' lf lf' of of' result h = record {
    read = h.read;
    written = h.written;
    consumed = h.consumed;
    wrote = h.wrote;
    log_later = h.log_later;
    out_later = h.out_later;
    answer = answer_of left' lf lf' of of' h.read h.written result h.to;
  }
