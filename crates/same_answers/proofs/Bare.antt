-- What is judged and reported of a log doesn't go by its version and its lines.
use Rattle.std.proofs.Common.{◌≡◌, ℕ, Bool, true, false, int_lt, Option, Some, None, List, [], ◌∷◌, ◌++◌, length, map, min, refl, sym, ap, ap₂, subst, ◌∙◌, option_map}
use Rattle.std.specs.Prelude.{if◌then◌else◌}
use Rattle.std.specs.List.{list_any}
use Rattle.std.proofs.lemmas.List.{length-map, map-append}
use Rattle.log_lines.specs.Reading.{choose}
use Rattle.rctl_grammar.specs.declared.fault.FormulaFault.{FormulaFault}
use Rattle.run_model.specs.Formula.{Formula}
use Rattle.run_model.specs.Run.{Trace, Watches, process_at, value_of}
use Rattle.event_log.specs.declared.item.LogFault.{LogFault}
use Rattle.event_log.specs.declared.log.Event.{Event}
use Rattle.event_log.specs.declared.log.Header.{Header}
use Rattle.event_log.specs.States.{StatesView, processes_of, with_batches}
use Rattle.vector_clock.specs.Events.{Events, own_events, no_events}
use Rattle.clock_laws.proofs.Same.{own_mapped}
use Rattle.channel_preds.specs.Channels.{events_at}
use Rattle.counter_preds.specs.declared.values.Variable.{Variable}
use Rattle.counter_preds.specs.Counters.{value_in}
use Rattle.counter_preds.specs.Falls.{value_now, behind_event, is_lowered, fall_of, fall_fault}
use Rattle.fault_kinds.specs.declared.refusal.Refusal.{Refusal}
use Rattle.fault_kinds.specs.declared.refusal.Refusal.TheVariants as refusal
use Rattle.report.specs.declared.report.Report.{Report}
use Rattle.run_report.specs.Reports.{Asked, IsReportOn, IsReportOf}
use Rattle.log_rules.specs.Counters.{counters_in}
use Rattle.log_rules.specs.Due.{after_each, closed_of, whole_of}
use Rattle.log_rules.specs.Judgement.{Prefix, followed_by, events_of, states_of, Judgement, waiting, growing, finished, refused}
use Rattle.log_rules.specs.Reported.{listed}
use Rattle.log_rules.specs.SoFar.{trace_so_far, counted}
use Rattle.log_rules.proofs.Items.{prefix_at}
use Rattle.log_judgement.specs.Texts.{AreReports}
use Rattle.one_log_laws.specs.inside.Lines.{without_line, without_lines, first_header}
use Rattle.one_log_laws.proofs.Lines.{event_on, batches_on}
use Rattle.one_log_laws.proofs.Back.{no_lines, none_bare}
use Rattle.same_answers.specs.Laws.{Lookup}
use Rattle.same_answers.proofs.Judged.{falls, unless, closed_by, closed_all, judged_log, is_refused}

-- in version 1, and as if no event stood on a line
abbrev pub bare : Prefix → Prefix
bare log = record { header = first_header log.header; batches = without_lines log.batches }

abbrev bare_states : StatesView → StatesView
bare_states s = record { header = first_header s.header; events = without_lines s.events }

abbrev on_no_line : LogFault → LogFault
on_no_line f = record f { line = 0 }

-- ---- falls

value_on : (s : StatesView) (x : Variable) (a : ℕ) → value_in (bare_states s) x a ≡ value_in s x a
value_on s x a = ap (λ (t : Trace). value_of (process_at t x.process) a x.number) (no_lines s.header.procs s.header.vars s.events)

now_on : (s : StatesView) (x : Variable) → value_now (bare_states s) x ≡ value_now s x
now_on s x =
    value_on s x (length (events_at (bare_states s) x.process))
    ∙ ap (value_in s x) (ap length (own_mapped without_line s.events x.process) ∙ length-map (own_events s.events x.process) without_line)

behind_on : (s : StatesView) (e : Event) → behind_event (bare_states s) (without_line e) ≡ bare_states (behind_event s e)
behind_on s e = ap (λ (ess : Events). record { header = first_header s.header; events = ess }) (event_on s.events e)

lowered_on : (s : StatesView) (e : Event) (x : Variable) → is_lowered (bare_states s) (without_line e) x ≡ is_lowered s e x
lowered_on s e x = ap₂ int_lt (ap (λ (t : StatesView). value_now t x) (behind_on s e) ∙ now_on (behind_event s e) x) (now_on s x)

mapped : (here : Bool) (x : LogFault) (o : Option LogFault) → (if here then Some (on_no_line x) else option_map on_no_line o) ≡ option_map on_no_line (if here then Some x else o)
mapped true x o = refl
mapped false x o = refl

fall_on : (s : StatesView) (counters : List Variable) (b : List Event) → fall_fault (bare_states s) counters (map without_line b) ≡ option_map on_no_line (fall_fault s counters b)
unfolding fall_fault
fall_on s counters [] = refl
fall_on s counters (e ∷ rest) =
    let later = ap (λ (t : StatesView). fall_fault t counters (map without_line rest)) (behind_on s e) ∙ fall_on (behind_event s e) counters rest in
    (λ i. if list_any (λ (x : Variable). lowered_on s e x i) counters then Some (fall_of (without_line e)) else later i)
    ∙ mapped (list_any (is_lowered s e) counters) (fall_of e) (fall_fault (behind_event s e) counters rest)

-- ---- batches

events_bare : (log : Prefix) → events_of (bare log) ≡ without_lines (events_of log)
events_bare log =
    let n = length log.header.procs in
    ap (λ (ess : Events). with_batches ess (without_lines log.batches)) (sym (none_bare n)) ∙ batches_on (no_events n) log.batches

pub bare_run : (log : Prefix) → trace_so_far (bare log).header (bare log).batches ≡ trace_so_far log.header log.batches
bare_run log =
    ap (processes_of log.header.procs log.header.vars) (events_bare log) ∙ no_lines log.header.procs log.header.vars (events_of log)

batch_more : (bs : List (List Event)) (b : List Event) → without_lines bs ++ map without_line b ∷ [] ≡ without_lines (bs ++ b ∷ [])
batch_more bs b = sym (map-append (map without_line) bs (b ∷ []))

followed_bare : (log : Prefix) (b : List Event) → followed_by (bare log) (map without_line b) ≡ bare (followed_by log b)
followed_bare log b = ap (prefix_at (first_header log.header)) (batch_more log.batches b)

-- ---- a judgement

abbrev bare_why : Refusal → Refusal
bare_why (refusal.Formula f) = refusal.Formula f
bare_why (refusal.Log f) = refusal.Log (on_no_line f)
bare_why (refusal.Import f) = refusal.Import f
bare_why (refusal.Merge f) = refusal.Merge f

abbrev pub bare_of : Judgement → Judgement
bare_of waiting = waiting
bare_of (growing log since) = growing (bare log) (map without_line since)
bare_of (finished log last) = finished (bare log) (map without_line last)
bare_of (refused None why) = refused None (bare_why why)
bare_of (refused (Some log) why) = refused (Some (bare log)) (bare_why why)

pub refused_bare : (j : Judgement) → is_refused (bare_of j) ≡ is_refused j
refused_bare waiting = refl
refused_bare (growing log since) = refl
refused_bare (finished log last) = refl
refused_bare (refused None why) = refl
refused_bare (refused (Some log) why) = refl

module _ (names : Lookup) (f : Formula) where
  falls_bare : (log : Prefix) (b : List Event) → falls names f (bare log) (map without_line b) ≡ option_map on_no_line (falls names f log b)
  falls_bare log b =
      ap (λ (ess : Events). fall_fault (record { header = first_header log.header; events = ess }) (counters_in f log.header) (map without_line b)) (events_bare log)
      ∙ fall_on (states_of log) (counters_in f log.header) b

  unless_bare : (o : Option LogFault) (log : Prefix) (j : Judgement) → unless (option_map on_no_line o) (bare log) (bare_of j) ≡ bare_of (unless o log j)
  unless_bare None log j = refl
  unless_bare (Some x) log j = refl

  closed_bare : (log : Prefix) (b : List Event) (bs : List (List Event)) → closed_by names f (bare log) (map without_line b) (without_lines bs) ≡ bare_of (closed_by names f log b bs)
  closed_bare log b [] =
      ap (λ (o : Option LogFault). unless o (bare log) (finished (bare log) (map without_line b))) (falls_bare log b)
      ∙ unless_bare (falls names f log b) log (finished log b)
  closed_bare log b (c ∷ bs) =
      ap (λ (o : Option LogFault). unless o (bare log) (closed_by names f (followed_by (bare log) (map without_line b)) (map without_line c) (without_lines bs))) (falls_bare log b)
      ∙ ap (λ (p : Prefix). unless (option_map on_no_line (falls names f log b)) (bare log) (closed_by names f p (map without_line c) (without_lines bs))) (followed_bare log b)
      ∙ ap (unless (option_map on_no_line (falls names f log b)) (bare log)) (closed_bare (followed_by log b) c bs)
      ∙ unless_bare (falls names f log b) log (closed_by names f (followed_by log b) c bs)

  all_bare : (h : Header) (bs : List (List Event)) → closed_all names f (prefix_at (first_header h) []) (without_lines bs) ≡ bare_of (closed_all names f (prefix_at h []) bs)
  all_bare h [] = refl
  all_bare h (b ∷ bs) = closed_bare (prefix_at h []) b bs

  named_bare : (o : Option FormulaFault) (j : Judgement) → choose o (λ x. refused None (refusal.Formula x)) (bare_of j) ≡ bare_of (choose o (λ x. refused None (refusal.Formula x)) j)
  named_bare None j = refl
  named_bare (Some x) j = refl

  pub judged_bare : (log : Prefix) → judged_log names f (bare log) ≡ bare_of (judged_log names f log)
  judged_bare log =
      ap (choose (names log.header.procs log.header.vars) (λ x. refused None (refusal.Formula x))) (all_bare log.header log.batches)
      ∙ named_bare (names log.header.procs log.header.vars) (closed_all names f (prefix_at log.header []) log.batches)

-- ---- what gets a report

abbrev pub reports_of : (each : Bool) → Judgement → List Prefix
reports_of false j = listed (whole_of j)
reports_of true j = closed_of j ++ listed (whole_of j)

each_bare : (h : Header) (before bs : List (List Event)) → after_each (first_header h) (without_lines before) (without_lines bs) ≡ map bare (after_each h before bs)
unfolding after_each
each_bare h before [] = refl
each_bare h before (b ∷ bs) =
    ap (λ (xs : List (List Event)). prefix_at (first_header h) xs ∷ after_each (first_header h) xs (without_lines bs)) (batch_more before b)
    ∙ ap (λ (ps : List Prefix). bare (prefix_at h (before ++ b ∷ [])) ∷ ps) (each_bare h (before ++ b ∷ []) bs)

closed_seen : (j : Judgement) → closed_of (bare_of j) ≡ map bare (closed_of j)
closed_seen waiting = refl
closed_seen (growing log since) = each_bare log.header [] log.batches
closed_seen (finished log last) = each_bare log.header [] log.batches
closed_seen (refused None why) = refl
closed_seen (refused (Some log) why) = each_bare log.header [] log.batches

whole_seen : (j : Judgement) → listed (whole_of (bare_of j)) ≡ map bare (listed (whole_of j))
whole_seen waiting = refl
whole_seen (growing log since) = refl
whole_seen (finished log last) = ap (λ (p : Prefix). p ∷ []) (followed_bare log last)
whole_seen (refused None why) = refl
whole_seen (refused (Some log) why) = refl

pub reports_bare : (each : Bool) (j : Judgement) → reports_of each (bare_of j) ≡ map bare (reports_of each j)
reports_bare false j = whole_seen j
reports_bare true j = ap₂ (λ (xs ys : List Prefix). xs ++ ys) (closed_seen j) (whole_seen j) ∙ sym (map-append bare (closed_of j) (listed (whole_of j)))

-- ---- reports

module _ (q : Asked) (watches : Watches) where
  abbrev Says : ℕ → Trace → Report → Type 0
  Says n t report = IsReportOn q n t watches report

  same_count : (log : Prefix) → counted (bare log).batches ≡ counted log.batches
  same_count log = ap (λ (n : ℕ). min n 4294967295) (length-map log.batches (map without_line))

  report_bare : (log : Prefix) (report : Report) → IsReportOf q log.header log.batches watches report → IsReportOf q (bare log).header (bare log).batches watches report
  report_bare log report is = record {
    names = is.names;
    says = subst (λ (t : Trace). Says (counted (bare log).batches) t report) (sym (bare_run log))
        (subst (λ (n : ℕ). Says n (trace_so_far log.header log.batches) report) (sym (same_count log)) is.says);
  }

  report_back : (log : Prefix) (report : Report) → IsReportOf q (bare log).header (bare log).batches watches report → IsReportOf q log.header log.batches watches report
  report_back log report is = record {
    names = is.names;
    says = subst (λ (t : Trace). Says (counted log.batches) t report) (bare_run log)
        (subst (λ (n : ℕ). Says n (trace_so_far (bare log).header (bare log).batches) report) (same_count log) is.says);
  }

  pub texts_bare : (logs : List Prefix) (t : List ℕ) → AreReports q watches logs t → AreReports q watches (map bare logs) t
  texts_bare [] t is = is
  texts_bare (log ∷ logs) t is = (is.0, (is.1.0, report_bare log is.1.0 is.1.1, is.1.2), is.2, texts_bare logs is.2 is.3, is.4)

  pub texts_back : (logs : List Prefix) (t : List ℕ) → AreReports q watches (map bare logs) t → AreReports q watches logs t
  texts_back [] t is = is
  texts_back (log ∷ logs) t is = (is.0, (is.1.0, report_back log is.1.0 is.1.1, is.1.2), is.2, texts_back logs is.2 is.3, is.4)
