-- A formula is answered of what was written as of what was read.
use Rattle.std.proofs.Common.{◌≡◌, ◌↔◌, ◌<◌, ℕ, Bool, true, false, Option, Some, None, List, [], ◌∷◌, ◌++◌, length, map, drop, refl, sym, ap, subst, ◌∙◌, arith, append-nil, true≢false}
use Rattle.std.specs.List.{AllByRecursion}
use Rattle.std.proofs.lemmas.Option.{none-some}
use Rattle.pota_base.specs.Limits.{longest_log}
use Rattle.run_model.specs.Class.{IsOfClass}
use Rattle.run_model.specs.Run.{Watches}
use Rattle.event_log.specs.declared.item.LogFault.{LogFault}
use Rattle.event_log.specs.declared.log.Event.{Event}
use Rattle.fault_kinds.specs.declared.refusal.Refusal.{Refusal}
use Rattle.form_readings.proofs.Imports.{clocks_are_read}
use Rattle.form_readings.proofs.Merging.{sources_are_read}
use Rattle.report.specs.declared.report.Report.{Report}
use Rattle.report.specs.Spelling.{report_lines, report_text}
use Rattle.run_report.specs.Reports as report
use Rattle.run_report.specs.Reports.{IsReportOf}
use Rattle.run_report.proofs.Numbers.{same_but_for_number}
use Rattle.equal_runs.specs.Laws.{DifferInTheBatchAlone}
use Rattle.log_rules.specs.Counters.{counters_in}
use Rattle.log_rules.specs.Due.{Due, whole_of, fault_in, at_end, told}
use Rattle.log_rules.specs.Judgement.{Prefix, Rules, with_rules, Judgement, waiting, growing, finished, refused, judged}
use Rattle.log_rules.specs.Readings.{IsReading}
use Rattle.log_rules.specs.Reported.{listed, reported}
use Rattle.log_rules.specs.SoFar.{trace_so_far}
use Rattle.log_rules.specs.WholeLogs.{all_of}
use Rattle.log_rules.proofs.Dues.{text_free}
use Rattle.log_rules.proofs.Orders.{IsOrdered, all_ordered}
use Rattle.log_rules.proofs.Readings.{log_is_read}
use Rattle.log_rules.proofs.Rising.{IsKept, all_kept}
use Rattle.log_judgement.specs.Texts.{AreReports, IsDueText}
use Rattle.log_judgement.proofs.Texts.{one_due}
use Rattle.log_trace.specs.Judging.{without_formula}
use Rattle.one_log.specs.declared.asking.Asked.{Asked}
use Rattle.log_input.specs.declared.form.Form.{Form}
use Rattle.log_input.specs.declared.form.Form.TheVariants as form
use Rattle.log_input.specs.Readings.{reading_of, HasLog}
use Rattle.one_log.specs.Logging.{HasLogBy, IsLogOf}
use Rattle.one_log_laws.specs.inside.Lines.{as_read, first_header}
use Rattle.one_log_laws.proofs.Back.{in_batches, has_given, it_tells_of_the_same_run}
use Rattle.one_log_laws.proofs.Items.{of_items, small_so}
use Rattle.one_log_laws.proofs.Numbered.{bare as same_lines}
use Rattle.same_answers.specs.Laws.{Lookup, due_of, IsPlain, TheSameIsAnswered}
use Rattle.same_answers.proofs.Judged.{judged_log, is_refused, is_whole, refused_alike, rejudged, same_falls}
use Rattle.same_answers.proofs.Bare.{bare, bare_of, refused_bare, judged_bare, reports_of, reports_bare, texts_bare, texts_back}

-- ---- what is due of an input

reading_is : (f : Form) → IsReading longest_log (reading_of f)
reading_is form.OneLog = log_is_read
reading_is form.Merged = sources_are_read
reading_is form.Clocks = clocks_are_read

-- how a fault of a batch is told
abbrev Place : Type 0
Place = LogFault → Refusal

module _ (names : Lookup) (q : report.Asked) (watches : Watches) where
  abbrev rules : Rules
  rules = with_rules (λ h. names h.procs h.vars) (counters_in q.formula)

  abbrev answer : Prefix → Judgement
  answer log = judged_log names q.formula log

  -- of an input without a fault that is this log
  due_is : (f : Form) (input : List ℕ) (log : Prefix) → HasLog f input log
      → due_of names q.formula f input ≡ told true ((reading_of f).place true input) (answer log) None
  due_is f input log has =
      let place = (reading_of f).place true input in
      let items = (reading_of f).items true input in
      let plain : Judgement = judged without_formula waiting items in
      let free : (reading_of f).fault true input ≡ None = text_free place plain ((reading_of f).fault true input) has.free in
      let whole : whole_of plain ≡ Some log = subst (λ (o : Option Refusal). at_end true o (whole_of plain) ≡ Some log) free has.whole in
      ap (told true place (judged rules waiting items)) free
      ∙ ap (λ (j : Judgement). told true place j None) (rejudged names q.formula items log whole)

  reported_is : (each : Bool) (place : Place) (j : Judgement) → reported each (told true place j None) ≡ reports_of each j
  reported_is false place j = refl
  reported_is true place j = refl

  -- a text is due of the input where it is that of these reports
  abbrev HasTexts : Bool → Judgement → List ℕ → Type 0
  HasTexts each j t = AreReports q watches (reports_of each j) t

  has_texts : (f : Form) (input : List ℕ) (log : Prefix) (has : HasLog f input log) (each : Bool) (t : List ℕ)
      → IsDueText q watches each (due_of names q.formula f input) t → HasTexts each (answer log) t
  has_texts f input log has each t is =
      subst (λ (logs : List Prefix). AreReports q watches logs t)
      (ap (reported each) (due_is f input log has) ∙ reported_is each ((reading_of f).place true input) (answer log)) is

  due_texts : (f : Form) (input : List ℕ) (log : Prefix) (has : HasLog f input log) (each : Bool) (t : List ℕ)
      → HasTexts each (answer log) t → IsDueText q watches each (due_of names q.formula f input) t
  due_texts f input log has each t is =
      subst (λ (logs : List Prefix). AreReports q watches logs t)
      (sym (ap (reported each) (due_is f input log has) ∙ reported_is each ((reading_of f).place true input) (answer log))) is

  -- ---- faults

  free_is : (place : Place) (j : Judgement) → (fault_in place j None ≡ None) ↔ (is_refused j ≡ false)
  free_is place waiting = (λ none. refl, λ free. refl)
  free_is place (growing log since) = (λ none. refl, λ free. refl)
  free_is place (finished log last) = (λ none. refl, λ free. refl)
  free_is place (refused log why) = (λ none. absurd (none-some _ (sym none)), λ free. absurd (true≢false free))

  fault_is : (f : Form) (input : List ℕ) (log : Prefix) → HasLog f input log
      → ((due_of names q.formula f input).fault ≡ None) ↔ (is_refused (answer log) ≡ false)
  fault_is f input log has =
      let place = (reading_of f).place true input in
      let same : (due_of names q.formula f input).fault ≡ fault_in place (answer log) None = ap (λ (d : Due). d.fault) (due_is f input log has) in (
        λ none. (free_is place (answer log)).0 (sym same ∙ none),
        λ free. same ∙ (free_is place (answer log)).1 free,
      )

  -- ---- the last text

  -- it is that of the report on the whole
  record IsLastText (log : Prefix) (text : List ℕ) : Type 0 where
    report : Report
    says : IsReportOf q log.header log.batches watches report
    text_is : text ≡ report_text report

  last_text : (log : Prefix) (text : List ℕ) → 0 < length log.batches → is_refused (answer log) ≡ false → HasTexts false (answer log) text → IsLastText log text
  last_text log text some free is =
      let one : AreReports q watches (log ∷ []) text = subst (λ (o : Option Prefix). AreReports q watches (listed o) text) (is_whole names q.formula log some free) is in
      record {
        report = one.1.0;
        says = one.1.1;
        text_is = one.4 ∙ ap (λ (rest : List ℕ). one.0 ++ rest) one.3 ∙ append-nil one.0 ∙ one.1.2;
      }

differ : (a b : Report) → a ≡ record b { batch = a.batch } → DifferInTheBatchAlone (report_text a) (report_text b)
differ a b same = record { one = a.batch; other = b.batch; rest = drop 2 (report_lines b); t_is = ap report_text same; u_is = refl }

-- ---- both

module _ (asked : Asked) (input text : List ℕ) (plain : IsPlain asked) (w : IsLogOf asked input text) (names : Lookup) (q : report.Asked) (watches : Watches) (class : IsOfClass q.formula) where
  abbrev answer_of : Prefix → Judgement
  answer_of log = judged_log names q.formula log

  -- the log that was read, the one that was written, and this as it is read again
  abbrev given : Prefix
  given = in_batches asked.flags.one_batch w.log

  abbrev back : Prefix
  back = all_of (as_read given)

  has : HasLog asked.flags.form input w.log
  has = subst (λ (torn : Bool). HasLogBy torn asked.flags.form input w.log) plain.whole w.has

  has_back : HasLog form.OneLog text back
  has_back = has_given asked input text w plain.all

  some : (one : Bool) (log : Prefix) → 0 < length log.batches → 0 < length (in_batches one log).batches
  some false log is = is
  some true log is = omega arith

  some_log : 0 < length w.log.batches
  some_log = (small_so w.log (of_items asked.flags.torn asked.flags.form input w.log w.has)).some

  -- but for version and lines, what was read again is what was written
  back_bare : bare back ≡ bare given
  back_bare = ap (λ (bs : List (List Event)). record { header = first_header w.log.header; batches = bs }) (sym (same_lines _ given.batches))

  judged_back : bare_of (answer_of back) ≡ bare_of (answer_of given)
  judged_back = sym (judged_bare names q.formula back) ∙ ap answer_of back_bare ∙ judged_bare names q.formula given

  refused_back : is_refused (answer_of back) ≡ is_refused (answer_of w.log)
  refused_back =
      sym (refused_bare (answer_of back)) ∙ ap is_refused judged_back ∙ refused_bare (answer_of given)
      ∙ refused_alike names q.formula given w.log (some asked.flags.one_batch w.log some_log) some_log refl
      (same_falls _ (counters_in q.formula w.log.header) asked.flags.one_batch w.log.batches)

  abbrev read_due : Due
  read_due = due_of names q.formula asked.flags.form input

  abbrev written_due : Due
  written_due = due_of names q.formula form.OneLog text

  faults : (read_due.fault ≡ None) ↔ (written_due.fault ≡ None)
  faults =
      let here = fault_is names q watches asked.flags.form input w.log has in
      let there = fault_is names q watches form.OneLog text back has_back in (
        λ none. there.1 (refused_back ∙ here.0 none),
        λ none. here.1 (sym refused_back ∙ there.0 none),
      )

  -- ---- without a fault

  good : (P : Prefix → Type 0) → read_due.fault ≡ None → AllByRecursion P (reported false read_due) → P w.log
  good P none each =
      let free = (fault_is names q watches asked.flags.form input w.log has).0 none in
      (subst (λ (o : Option Prefix). AllByRecursion P (listed o)) (ap (λ (d : Due). d.whole) (due_is names q watches asked.flags.form input w.log has) ∙ is_whole names q.formula w.log some_log free) each).0

  same_run : trace_so_far w.log.header w.log.batches ≡ trace_so_far w.log.header back.batches
  same_run = sym (it_tells_of_the_same_run asked input text plain.all w w.log back w.has has_back)

  last : read_due.fault ≡ None → (t u : List ℕ) → IsDueText q watches false read_due t → IsDueText q watches false written_due u → DifferInTheBatchAlone t u
  last none t u is other =
      let free = (fault_is names q watches asked.flags.form input w.log has).0 none in
      let left = last_text names q watches w.log t some_log free (has_texts names q watches asked.flags.form input w.log has false t is) in
      let right = last_text names q watches back u some_back (refused_back ∙ free) (has_texts names q watches form.OneLog text back has_back false u other) in
      let moved : IsReportOf q w.log.header back.batches watches right.report = record { names = right.says.names; says = right.says.says } in
      let ordered = good IsOrdered none (all_ordered (λ h. names h.procs h.vars) (counters_in q.formula) longest_log (reading_of asked.flags.form) (reading_is asked.flags.form) false true input) in
      let kept = good (IsKept q.formula watches) none (all_kept q.formula watches longest_log (reading_of asked.flags.form) (reading_is asked.flags.form) (λ h. names h.procs h.vars) false true input) in
      subst (λ (x : List ℕ). DifferInTheBatchAlone x u) (sym left.text_is)
      (subst (λ (x : List ℕ). DifferInTheBatchAlone (report_text left.report) x) (sym right.text_is)
      (differ left.report right.report
      (same_but_for_number q w.log.header w.log.batches back.batches watches class ordered kept same_run left.report right.report left.says moved)))
    where
      some_back : 0 < length back.batches
      some_back = (small_so back (of_items false form.OneLog text back has_back)).some

  -- ---- where the batches stay

  judged_same : asked.flags.one_batch ≡ false → bare_of (answer_of back) ≡ bare_of (answer_of w.log)
  judged_same stays = judged_back ∙ ap (λ (one : Bool). bare_of (answer_of (in_batches one w.log))) stays

  same_reports : asked.flags.one_batch ≡ false → (each : Bool) → map bare (reports_of each (answer_of back)) ≡ map bare (reports_of each (answer_of w.log))
  same_reports stays each =
      sym (reports_bare each (answer_of back)) ∙ ap (reports_of each) (judged_same stays) ∙ reports_bare each (answer_of w.log)

  outright : asked.flags.one_batch ≡ false → (each : Bool) (t u : List ℕ) → IsDueText q watches each read_due t → IsDueText q watches each written_due u → t ≡ u
  outright stays each t u is other =
      let theirs = has_texts names q watches form.OneLog text back has_back each u other in
      let mine : AreReports q watches (reports_of each (answer_of w.log)) u = texts_back q watches (reports_of each (answer_of w.log)) u
      (subst (λ (logs : List Prefix). AreReports q watches logs u) (same_reports stays each) (texts_bare q watches (reports_of each (answer_of back)) u theirs)) in
      one_due q watches class longest_log (reading_of asked.flags.form) (reading_is asked.flags.form) (λ h. names h.procs h.vars) each true input t u is
      (due_texts names q watches asked.flags.form input w.log has each u mine)

pub the_same_is_answered : TheSameIsAnswered
the_same_is_answered asked input text plain w names q watches class = record {
  faults = faults asked input text plain w names q watches class;
  last = last asked input text plain w names q watches class;
  outright = outright asked input text plain w names q watches class;
}
