-- How the answers to a check, and to words at fault, are those to the words.
use Rattle.std.proofs.Common.{◌≡◌, ℕ, ◌≤◌, List, [], ◌∷◌, ◌++◌, Option, Some, None, Result, Ok, Err, refl, sym, ap, ◌∙◌, subst, arith, inl, inr, append_assoc}
use Rattle.std.specs.Prelude.{Bool, true, false, if◌then◌else◌, ◌↔◌}
use Rattle.std.specs.List.{AllByRecursion}
use Rattle.std.specs.Io.KnownBytes.{IsAtEnd}
use Rattle.pota_base.specs.Outside.{IsPrefix}
use Rattle.pota_base.specs.declared.status.Status.TheVariants as status
use Rattle.run_model.specs.Class.{IsOfClass}
use Rattle.run_model.specs.Run.{Watches}
use Rattle.pota_base.specs.Limits.{longest_log}
use Rattle.pota_base.specs.Changes.{behind_of, change_of}
use Rattle.rctl_grammar.specs.declared.tree.Tree.{Tree}
use Rattle.rctl_class.specs.Nodes.{node_of, formula_of}
use Rattle.rctl_class.proofs.Class.{of_the_class}
use Rattle.command_words.specs.declared.request.Task.TheVariants as task
use Rattle.command_words.specs.declared.request.Form.{Form}
use Rattle.command_words.specs.declared.request.Product.{Product}
use Rattle.command_words.specs.declared.request.Inquiry.{Inquiry}
use Rattle.command_words.specs.declared.request.Product.TheVariants as product
use Rattle.command_words.specs.declared.request.Reporting.{Reporting}
use Rattle.stated_formula.specs.declared.formula.Stated.{Stated}
use Rattle.call_request.specs.declared.question.QuestionFault.{QuestionFault}
use Rattle.call_request.specs.declared.question.QuestionFault.TheVariants as question
use Rattle.call_request.specs.Questions.{IsQuestionFault, AsksFor}
use Rattle.stated_formula.specs.Stating.{IsStated}
use Rattle.run_report.specs.Reports.{Asked, IsReportOf}
use Rattle.report.specs.Spelling.{report_text}
use Rattle.fault_kinds.specs.declared.refusal.Refusal.{Refusal}
use Rattle.fault_kinds.specs.declared.refusal.Refusal.TheVariants as refusal
use Rattle.log_rules.specs.Passage.{passage_of}
use Rattle.log_rules.specs.Judgement.{Prefix}
use Rattle.log_rules.specs.Readings.{Reading}
use Rattle.log_rules.specs.Counters.{counters_in}
use Rattle.log_judgement.specs.Texts.{IsReportText, AreReports}
use Rattle.log_rules.specs.Reported.{reported}
use Rattle.log_rules.proofs.Dues.{due_grows}
use Rattle.log_rules.proofs.Orders.{IsOrdered, all_ordered}
use Rattle.log_rules.proofs.Rising.{IsKept, all_kept}
use Rattle.log_judgement.proofs.Texts.{texts_split, one_text}
use Rattle.certificate_answers.specs.PassedOn.{Says, Aim, asked_of, aim_of, names_of, watches_of, rules_of, unknown_name}
use Rattle.watch.specs.declared.predicate.Handed.{Handed}
use Rattle.fault_line.specs.Faults.{status_of, fault_of_refusal}
use Rattle.call_promise.specs.Questions.{fault_of_question}
use Rattle.log_answers.specs.Asking.{asking_of}
use Rattle.log_answers.specs.declared.stop.StopCause.{StopCause}
use Rattle.log_answers.specs.declared.stop.StopCause.TheVariants as causes
use Rattle.log_answers.specs.declared.stop.Stop.{Stop}
use Rattle.log_answers.specs.declared.stop.Verdict.{Verdict}
use Rattle.call_promise.specs.declared.outcome.Outcome.{Outcome}
use Rattle.certificate_answers.specs.PassedOn.{fault_of, faulty_outcome, outcome_of}
use Rattle.call_promise.specs.Asking.{Handing, handing_of, asked_by, reading_of, due_of}
use Rattle.log_answers.specs.Calm.{IsCalmUnlessRead}
use Rattle.log_answers.specs.Checking.{AreReportsFor, HasPartOf, HasFrontOf}
use Rattle.log_answers.specs.Inputs.{due_by, TellsDueBy, StopsBy, IsVerdictBy, ChecksBy, HasCheckedBy}
use Rattle.run_report.proofs.Telling.{told_denotes, told_kinds}
use Rattle.call_promise.proofs.Clauses.{not_both, not_certified, form_is_read}
use Rattle.call_promise.specs.Certificates.{IsTrueAtStart}
use Rattle.call_promise.specs.Run.{Tells, AllTell, IsTold, HasVerdict, IsRefused, HasPart, IsWholeDue, Answer, Ran}
use Rattle.certificate_answers.proofs.PassedOn.{stated_asked, ran_nothing}

front_half : (Good : Prefix → Type 0) (xs ys : List Prefix) → AllByRecursion Good (xs ++ ys) → AllByRecursion Good xs
front_half Good [] ys h = tt
front_half Good (x ∷ xs) ys h = (h.0, front_half Good xs ys h.1)

-- each report on logs whose clocks are an order, and in which no counter falls, tells of the run
all_tell : (t : Tree) (reporting : Reporting) (watches : Watches) → IsOfClass (asked_by t reporting).formula → (logs : List Prefix) → AllByRecursion IsOrdered logs
    → AllByRecursion (IsKept (asked_by t reporting).formula watches) logs → AllTell watches t (product.Reports reporting) logs
all_tell t reporting watches class [] ordered kept = tt
all_tell t reporting watches class (log ∷ logs) ordered kept =
    let q = asked_by t reporting in
    let here : Tells watches t (product.Reports reporting) log = λ report is. record {
      ordered = ordered.0;
      denotes = told_denotes q log.header log.batches watches ordered.0 kept.0 report is;
      kinds = told_kinds q log.header log.batches watches class ordered.0 kept.0 report is;
    } in
    (here, all_tell t reporting watches class logs ordered.1 kept.1)

-- what is asked of an input, by its form and its product
pub asked_so : (words : List (List ℕ)) (t : Tree) (i : Inquiry) (read_as : Form) (written : Product) → i.form ≡ read_as → i.product ≡ written → AsksFor words (task.Read i) t
    → AsksFor words (task.Read (record { form = read_as; product = written })) t
asked_so words t i read_as written form_is is asks =
    subst (λ (p : Product). AsksFor words (task.Read (record { form = read_as; product = p })) t) is
    (subst (λ (f : Form). AsksFor words (task.Read (record { form = f; product = i.product })) t) form_is asks)

-- ---- reports on an input that is read

module _ {X : Type 0} {P : X → Type 0} (says : Says X P) (s : Stated) (read_as : Form) (reporting : Reporting) (handed : List (Handed X P)) (words : List (List ℕ)) (formula : List ℕ) (is : IsStated formula s)
    (asks : AsksFor words (task.Read (record { form = read_as; product = product.Reports reporting })) s.formula.tree) where
  abbrev aim : Aim
  aim = aim_of s reporting.shown (names_of handed) (watches_of says handed)

  abbrev on : Handing
  on = handing_of says handed

  abbrev inquiry : Inquiry
  inquiry = record { form = read_as; product = product.Reports reporting }

  abbrev reading : Reading
  reading = reading_of read_as

  abbrev each : Bool
  each = reporting.each_batch

  abbrev q : Asked
  q = asked_by s.formula.tree reporting

  same : asked_of (aim_of s reporting.shown (names_of handed) (watches_of says handed)) ≡ asked_by s.formula.tree reporting
  same = stated_asked s reporting.shown (names_of handed) (watches_of says handed) formula is

  texts_asked : (logs : List Prefix) (text : List ℕ) → AreReportsFor aim logs text → AreReports q (watches_of says handed) logs text
  texts_asked logs text h = subst (λ (a : Asked). AreReports a (watches_of says handed) logs text) same h

  class_asked : IsOfClass (asked_by s.formula.tree reporting).formula
  class_asked = (of_the_class (node_of s.formula.tree)).0 is.classed.free

  due_ordered : (ended : Bool) (bytes : List ℕ) → AllByRecursion IsOrdered (reported each (due_by reading aim ended bytes))
  due_ordered ended bytes = all_ordered (unknown_name aim.node (names_of handed)) (counters_in (formula_of aim.node)) longest_log reading (form_is_read read_as) each ended bytes

  due_kept : (ended : Bool) (bytes : List ℕ) → AllByRecursion (IsKept q.formula (watches_of says handed)) (reported each (due_by reading aim ended bytes))
  due_kept ended bytes = all_kept q.formula (watches_of says handed) longest_log reading (form_is_read read_as) (unknown_name aim.node (names_of handed)) each ended bytes

  due_tell : (ended : Bool) (bytes : List ℕ) → AllTell (watches_of says handed) s.formula.tree (product.Reports reporting) (reported each (due_by reading aim ended bytes))
  due_tell ended bytes =
      all_tell s.formula.tree reporting (watches_of says handed) class_asked (reported each (due_by reading aim ended bytes)) (due_ordered ended bytes) (due_kept ended bytes)

  abbrev told_of : (ended : Bool) (bytes text : List ℕ) (n : ℕ) → n ≡ (due_by reading aim ended bytes).batches
      → AreReportsFor aim (reported each (due_by reading aim ended bytes)) text → IsTold on words ended bytes text n
  unfolding due_of
  told_of ended bytes text n count texts = record {
    tree = s.formula.tree;
    inquiry = inquiry;
    asks = asks;
    text = texts_asked (reported each (due_by reading aim ended bytes)) text texts;
    telling = due_tell ended bytes;
    count = count;
  }

  has_part : (left : Option (List ℕ)) (ended : Bool) (bytes text : List ℕ) (n : ℕ) → (ended ≡ true → IsAtEnd left)
      → HasPartOf aim (reported each (due_by reading aim ended bytes)) text n → HasPart left on words bytes text n
  unfolding due_of
  has_part left ended bytes text n at h = record {
    tree = s.formula.tree;
    inquiry = inquiry;
    asks = asks;
    ended = ended;
    at_end = at;
    before = h.before;
    log = h.log;
    behind = h.behind;
    due_are = h.are;
    telling = subst (AllTell (watches_of says handed) s.formula.tree (product.Reports reporting)) h.are (due_tell ended bytes);
    text = h.whole;
    texts = texts_asked h.before h.whole h.texts;
    part = h.part;
    is_front = (
      report_text h.report,
      (h.report, subst (λ (a : Asked). IsReportOf a h.log.header h.log.batches (watches_of says handed) h.report) same h.report_is, refl),
      h.part_of,
    );
    wrote = h.wrote;
    count = h.count;
  }

  -- what was written is the front of each text that may be due
  front_of : (bytes text : List ℕ) (n : ℕ) → HasFrontOf aim (reported each (due_by reading aim false bytes)) text n
      → (whole : List ℕ) (batches : ℕ) → IsWholeDue on words bytes whole batches → IsPrefix text whole × (n ≤ batches)
  unfolding due_of
  front_of bytes text n h whole batches w =
      let due_is = w.inquired s.formula.tree inquiry asks in
      let ended = due_is.0 in
      let all = bytes ++ due_is.1 in
      let watches = watches_of says handed in
      let grown = due_grows longest_log reading (form_is_read read_as) (rules_of aim) each ended bytes due_is.1 in
      let logs : reported each (due_by reading aim ended all) ≡ h.front ++ (h.rest ++ grown.0) =
      grown.1 ∙ ap (λ (ps : List Prefix). ps ++ grown.0) h.are ∙ append_assoc h.front h.rest grown.0 in
      let parts = texts_split (IsReportText q watches) h.front (h.rest ++ grown.0) whole (subst (λ (ps : List Prefix). AreReports q watches ps whole) logs due_is.2) in
      let ordered = front_half IsOrdered h.front (h.rest ++ grown.0) (subst (AllByRecursion IsOrdered) logs (due_ordered ended all)) in
      let kept = front_half (IsKept q.formula watches) h.front (h.rest ++ grown.0) (subst (AllByRecursion (IsKept q.formula watches)) logs (due_kept ended all)) in
      let one = one_text q watches class_asked h.front ordered kept parts.0 text parts.2 (texts_asked h.front text h.texts) in
      ((parts.1, parts.4 ∙ ap (λ (t : List ℕ). t ++ parts.1) one), omega (arith, h.count))

  module _ (left : Option (List ℕ)) (lf lf' of of' : ℕ) (read written : List ℕ) where
    refused_by : (r : Refusal) (n : ℕ) (ended : Bool) → (ended ≡ true → IsAtEnd left) → TellsDueBy reading (asking_of aim each) ended (passage_of read written) (Some r) n
        → IsRefused left on words (passage_of read written) (faulty_outcome n (fault_of_refusal r)) r
    unfolding due_of told_of
    refused_by r n ended at told = record {
      ended = ended;
      at_end = at;
      told = told_of ended read written n told.count told.texts;
      due_is = told.fault;
      fault = refl;
    }

    stop_answer : (why : StopCause) (n : ℕ) → StopsBy reading why n (behind_of left lf lf' of of') (asking_of aim each) (passage_of read written)
        → Answer (status_of (fault_of why)) (behind_of left lf lf' of of') on words (passage_of read written) (faulty_outcome n (fault_of why))
    unfolding due_of told_of
    stop_answer (causes.Refused (refusal.Formula x)) n h = (x, inr (inl (refused_by (refusal.Formula x) n h.0 h.1 h.2)))
    stop_answer (causes.Refused (refusal.Log x)) n h = (refusal.Log x, refl, refused_by (refusal.Log x) n h.0 h.1 h.2)
    stop_answer (causes.Refused (refusal.Import x)) n h = (refusal.Import x, refl, refused_by (refusal.Import x) n h.0 h.1 h.2)
    stop_answer (causes.Refused (refusal.Merge x)) n h = (refusal.Merge x, refl, refused_by (refusal.Merge x) n h.0 h.1 h.2)
    stop_answer causes.Read n h = (record { told = told_of false read written n h.0.count h.0.texts; free = h.0.fault; fault = refl }, h.1)
    stop_answer causes.Write n h = (inl (has_part left h.0 read written n h.1 h.2), refl, h.3)
    stop_answer causes.Memory n h = record {
      front = λ none. front_of read written n h;
      certified = λ u k. absurd (not_certified words read_as reporting s.formula.tree u asks k);
      unread = λ t sizes k. absurd (not_both words inquiry sizes s.formula.tree t asks k);
      unnamed = λ t sizes f k. absurd (not_both words inquiry sizes s.formula.tree t asks k);
      fault = refl;
    }

    verdict_of : (b : Bool) (v : Verdict) → v.truth ≡ b → IsAtEnd left → IsVerdictBy reading aim each read written v
        → HasVerdict left on words (passage_of read written) (record { status = if b then status.True else status.False; batches = v.batches; fault = None }) b
    unfolding due_of told_of
    verdict_of b v same_truth ended h = record {
      ended = ended;
      told = told_of true read written v.batches h.told.count h.told.texts;
      free = h.told.fault;
      log = h.log;
      whole = h.whole;
      truth = subst (λ (x : Bool). (x ≡ true) ↔ IsTrueAtStart on.watches s.formula.tree h.log) same_truth h.truth;
      fault = refl;
    }

    verdict_answer : (b : Bool) (v : Verdict) → v.truth ≡ b → IsAtEnd left → IsVerdictBy reading aim each read written v
        → Answer (if b then status.True else status.False) (behind_of left lf lf' of of') on words (passage_of read written) (record { status = if b then status.True else status.False; batches = v.batches; fault = None })
    verdict_answer true v e ended h = inl (verdict_of true v e ended h)
    verdict_answer false v e ended h = inl (verdict_of false v e ended h)

    answer_of : (result : Result Verdict Stop) → ChecksBy reading (behind_of left lf lf' of of') (asking_of aim each) (passage_of read written) result
        → Answer (outcome_of result).status (behind_of left lf lf' of of') on words (passage_of read written) (outcome_of result)
    answer_of (Ok v) h = verdict_answer v.truth v refl h.0 h.1
    answer_of (Err stop) h = stop_answer stop.cause stop.batches h

  pub ran_checked : (left left' held held' : Option (List ℕ)) (lf lf' of of' : ℕ) (result : Result Verdict Stop) → HasCheckedBy reading (change_of left left' lf lf') (change_of held held' of of') aim each result
      → Ran (change_of left left' lf lf') (change_of held held' of of') on words (outcome_of result)
  ran_checked left left' held held' lf lf' of of' result h = record {
    read = h.read;
    written = h.written;
    consumed = h.consumed;
    wrote = h.wrote;
    log_later = h.log_later;
    out_later = h.out_later;
    answer = answer_of left' lf lf' of of' h.read h.written result h.to;
  }

-- ---- words at fault

misasked_answer : (words : List (List ℕ)) (left : Option (List ℕ)) (lf of : ℕ) (on : Handing) (f : QuestionFault) → IsQuestionFault words f
    → Answer (status_of (fault_of_question f)) (behind_of left lf lf of of) on words (passage_of [] []) (faulty_outcome 0 (fault_of_question f))
misasked_answer words left lf of on question.Usage is = record { fault_is = is; nothing = (refl, refl); batches = refl; fault = refl }
misasked_answer words left lf of on (question.Formula f) is = (f, inl (record { fault_is = is; nothing = (refl, refl); batches = refl; fault = refl }))

pub ran_misasked : (left held : Option (List ℕ)) (lf of : ℕ) (on : Handing) (words : List (List ℕ)) (f : QuestionFault) (o : Outcome) → IsQuestionFault words f
    → o ≡ faulty_outcome 0 (fault_of_question f) → Ran (change_of left left lf lf) (change_of held held of of) on words o
ran_misasked left held lf of on words f o is ended =
    subst (Ran (change_of left left lf lf) (change_of held held of of) on words) (sym ended)
    (ran_nothing left held lf of on words (faulty_outcome 0 (fault_of_question f)) (misasked_answer words left lf of on f is))

-- ---- the count of faults of the source

calm_cause : (C : Type 0) (cause : StopCause) → ((cause ≡ causes.Read → ⊥) → C) → (status_of (fault_of cause) ≡ status.ReadFault → ⊥) → C
calm_cause C (causes.Refused r) calm other = calm (λ e. cc)
calm_cause C causes.Read calm other = absurd (other refl)
calm_cause C causes.Write calm other = calm (λ e. cc)
calm_cause C causes.Memory calm other = calm (λ e. cc)

-- unless the status is that of a read fault, the count is as it was
pub calm_outcome : (lf lf' : ℕ) (result : Result Verdict Stop) → IsCalmUnlessRead lf lf' result → ((outcome_of result).status ≡ status.ReadFault → ⊥) → lf' ≡ lf
calm_outcome lf lf' (Ok v) calm other = calm
calm_outcome lf lf' (Err stop) calm other = calm_cause (lf' ≡ lf) stop.cause calm other
