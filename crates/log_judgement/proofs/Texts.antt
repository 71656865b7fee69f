-- There is one due text, and it grows with the bytes.
use Rattle.std.proofs.Common.{◌≡◌, ℕ, Bool, false, Option, List, [], ◌∷◌, ◌++◌, refl, sym, ap, subst, ◌∙◌, append_assoc}
use Rattle.std.specs.List.{AllByRecursion}
use Rattle.run_model.specs.Run.{Watches}
use Rattle.run_model.specs.Class.{IsOfClass}
use Rattle.pota_base.specs.Outside.{IsPrefix}
use Rattle.rctl_grammar.specs.declared.fault.FormulaFault.{FormulaFault}
use Rattle.event_log.specs.declared.log.Header.{Header}
use Rattle.run_report.specs.PassedOn.{report_text}
use Rattle.run_report.specs.Reports.{Asked}
use Rattle.run_report.proofs.OneReport.{one_report}
use Rattle.run_report.proofs.ReportThere.{report_there}
use Rattle.log_rules.specs.Judgement.{Prefix, Rules, with_rules}
use Rattle.log_rules.specs.Counters.{counters_in}
use Rattle.log_rules.specs.Readings.{Reading, IsReading}
use Rattle.log_rules.specs.Due.{due}
use Rattle.log_judgement.specs.Texts.{AreTexts, IsReportText, AreReports, IsDueText}
use Rattle.log_rules.specs.Reported.{reported}
use Rattle.log_rules.proofs.Dues.{due_grows}
use Rattle.log_rules.proofs.Orders.{IsOrdered, all_ordered}
use Rattle.log_rules.proofs.Rising.{IsKept, all_kept}

module _ (Is : Prefix → List ℕ → Type 0) where
  -- the text of logs in front, and that of the others behind it
  pub texts_join : (front rest : List Prefix) (t u : List ℕ) → AreTexts Is front t → AreTexts Is rest u → AreTexts Is (front ++ rest) (t ++ u)
  texts_join [] rest t u h k = subst (λ (x : List ℕ). AreTexts Is rest (x ++ u)) (sym h) k
  texts_join (log ∷ front) rest t u h k =
      (h.0, h.1, h.2 ++ u, texts_join front rest h.2 u h.3 k, ap (λ (x : List ℕ). x ++ u) h.4 ∙ append_assoc h.0 h.2 u)

  abbrev pub Split : List Prefix → List Prefix → List ℕ → Type 0
  Split front rest text = (t : List ℕ) × (u : List ℕ) × AreTexts Is front t × AreTexts Is rest u × (text ≡ t ++ u)

  pub texts_split : (front rest : List Prefix) (text : List ℕ) → AreTexts Is (front ++ rest) text → Split front rest text
  texts_split [] rest text h = ([], text, refl, h, refl)
  texts_split (log ∷ front) rest text h =
      let others = texts_split front rest h.2 h.3 in (
        h.0 ++ others.0,
        others.1,
        (h.0, h.1, others.0, others.2, refl),
        others.3,
        h.4 ∙ ap (λ (x : List ℕ). h.0 ++ x) others.4 ∙ sym (append_assoc h.0 others.0 others.1),
      )

  -- where each of the logs has one text at most, so have they all
  pub one_of_each : (Good : Prefix → Type 0) → ((log : Prefix) → Good log → (t u : List ℕ) → Is log t → Is log u → t ≡ u)
      → (logs : List Prefix) → AllByRecursion Good logs → (t u : List ℕ) → AreTexts Is logs t → AreTexts Is logs u → t ≡ u
  one_of_each Good one [] good t u h k = h ∙ sym k
  one_of_each Good one (log ∷ logs) good t u h k =
      let here = one log good.0 h.0 k.0 h.1 k.1 in
      let rest = one_of_each Good one logs good.1 h.2 k.2 h.3 k.3 in
      h.4 ∙ ap (λ (x : List ℕ). x ++ h.2) here ∙ ap (λ (x : List ℕ). k.0 ++ x) rest ∙ sym k.4

-- there is a text of each log, and so of them all
pub some_of_each : (Is : Prefix → List ℕ → Type 0) (Good : Prefix → Type 0) → ((log : Prefix) → Good log → (t : List ℕ) × Is log t)
    → (logs : List Prefix) → AllByRecursion Good logs → (t : List ℕ) × AreTexts Is logs t
some_of_each Is Good some [] good = ([], refl)
some_of_each Is Good some (log ∷ logs) good =
    let here = some log good.0 in
    let rest = some_of_each Is Good some logs good.1 in
    (here.0 ++ rest.0, (here.0, here.1, rest.0, rest.1, refl))

-- ---- reports

-- there is one report on such a log, and one at most
abbrev pub IsDecided : Asked → Watches → Prefix → Type 0
IsDecided q watches log = IsOrdered log × IsKept q.formula watches log

pub all_decided : (q : Asked) (watches : Watches) (logs : List Prefix) → AllByRecursion IsOrdered logs → AllByRecursion (IsKept q.formula watches) logs → AllByRecursion (IsDecided q watches) logs
all_decided q watches [] ordered kept = tt
all_decided q watches (log ∷ logs) ordered kept = ((ordered.0, kept.0), all_decided q watches logs ordered.1 kept.1)

pub one_text : (q : Asked) (watches : Watches) → IsOfClass q.formula → (logs : List Prefix) → AllByRecursion IsOrdered logs → AllByRecursion (IsKept q.formula watches) logs
    → (t u : List ℕ) → AreReports q watches logs t → AreReports q watches logs u → t ≡ u
one_text q watches class logs ordered kept t u h k =
    one_of_each (IsReportText q watches) (IsDecided q watches) one logs (all_decided q watches logs ordered kept) t u h k
  where
    one : (log : Prefix) → IsDecided q watches log → (x y : List ℕ) → IsReportText q watches log x → IsReportText q watches log y → x ≡ y
    one log good x y a b = a.2 ∙ ap report_text (one_report q log.header log.batches watches class good.0 good.1 a.0 b.0 a.1 b.1) ∙ sym b.2

pub some_text : (q : Asked) (watches : Watches) → IsOfClass q.formula → (logs : List Prefix) → AllByRecursion IsOrdered logs → AllByRecursion (IsKept q.formula watches) logs
    → (t : List ℕ) × AreReports q watches logs t
some_text q watches class logs ordered kept =
    some_of_each (IsReportText q watches) (IsDecided q watches) some logs (all_decided q watches logs ordered kept)
  where
    some : (log : Prefix) → IsDecided q watches log → (t : List ℕ) × IsReportText q watches log t
    some log good =
        let report = report_there q log.header log.batches watches class good.0 good.1 in
        (report_text report.0, (report.0, report.1, refl))

module _ (q : Asked) (watches : Watches) (class : IsOfClass q.formula) (most : ℕ) (reading : Reading) (is : IsReading most reading) (names : Header → Option FormulaFault) (each ended : Bool) where
  abbrev rules : Rules
  rules = with_rules names (counters_in q.formula)

  pub one_due : (bytes t u : List ℕ) → IsDueText q watches each (due reading rules ended bytes) t → IsDueText q watches each (due reading rules ended bytes) u → t ≡ u
  one_due bytes t u h k =
      one_text q watches class (reported each (due reading rules ended bytes)) (all_ordered names (counters_in q.formula) most reading is each ended bytes) (all_kept q.formula watches most reading is names each ended bytes) t u h k

  pub due_in_front : (bytes more t u : List ℕ) → IsDueText q watches each (due reading rules false bytes) t → IsDueText q watches each (due reading rules ended (bytes ++ more)) u → IsPrefix t u
  due_in_front bytes more t u h k =
      let before = reported each (due reading rules false bytes) in
      let grown = due_grows most reading is rules each ended bytes more in
      let parts = texts_split (IsReportText q watches) before grown.0 u (subst (λ (logs : List Prefix). AreReports q watches logs u) grown.1 k) in
      let same = one_text q watches class before (all_ordered names (counters_in q.formula) most reading is each false bytes) (all_kept q.formula watches most reading is names each false bytes) t parts.0 h parts.2 in
      (parts.1, parts.4 ∙ ap (λ (x : List ℕ). x ++ parts.1) (sym same))

  pub due_there : (bytes : List ℕ) → (t : List ℕ) × IsDueText q watches each (due reading rules ended bytes) t
  due_there bytes =
      some_text q watches class (reported each (due reading rules ended bytes)) (all_ordered names (counters_in q.formula) most reading is each ended bytes) (all_kept q.formula watches most reading is names each ended bytes)
