-- The report of an answer is that of the log.
use Rattle.std.proofs.Common.{◌≡◌, ℕ, ◌≤◌, true, List, sym, ap, subst, ◌∙◌}
use Rattle.run_model.specs.Class.{disjuncts, IsKeptFor}
use Rattle.event_log.specs.States.{AreWhole, trace_of}
use Rattle.trace_growth.specs.Growing.{TraceView}
use Rattle.rctl_parts.specs.Pieces as piece
use Rattle.rctl_parts.specs.Spelled.{part_formulas}
use Rattle.rctl_class.specs.Classed.{EachAlike}
use Rattle.rctl_class.specs.Nodes.{formula_of}
use Rattle.rctl_names.specs.Seen as names
use Rattle.rctl_parse.specs.Parsing.{IsReadAs}
use Rattle.rctl_print.specs.Canonical.{canonical}
use Rattle.rctl_round_trip.proofs.RoundTrips.{printed_again}
use Rattle.report_lines.specs.Formula.{IsCanonical}
use Rattle.stated_formula.specs.declared.formula.Stated.{Stated}
use Rattle.stated_formula.specs.Stating.{IsStated}
use Rattle.report.specs.declared.report.Report.{Report}
use Rattle.answering.specs.PassedOn.{Answer}
use Rattle.part_pulls.specs.declared.observed.Observed.{Observed}
use Rattle.part_pulls.specs.Counters.{CountersRise}
use Rattle.part_pulls.specs.Observing.{Reading, AreAnswers, trace_seen, run_seen}
use Rattle.answering.specs.PassedOn.{IsAnswer}
use Rattle.answer_report.specs.PassedOn.{Asked, IsReportOn}
use Rattle.call_options.specs.declared.shown.Shown.{Shown}
use Rattle.answer_report.specs.Asking.{IsAskedOf}
use Rattle.log_rules.specs.Judgement.{Prefix}
use Rattle.log_rules.proofs.Rising.{whole_log}
use Rattle.log_check.specs.PassedOn.{Observation}
use Rattle.log_check.specs.PassedOn.{GrowingView, HasTaken}
use Rattle.log_check.specs.PassedOn.{trace_after}
use Rattle.log_check.specs.Aims.{reading_of}
use Rattle.log_check.specs.Checking.{IsObservedFor}
use Rattle.reported_log.specs.Aims.{Says, Aim, asked_of, taken_for, IsReportFor}
use Rattle.reported_log.proofs.Kept.{rising_kept}

-- ---- the report may be written

-- the text of a formula that was read is the canonical one
pub text_canonical : (s : Stated) (text : List ℕ) → IsStated text s → IsCanonical s.text
text_canonical s text is =
    let again = printed_again text s.formula.tree is.is_read.read in
    record {
      tree = again.0;
      read = subst (λ (t : List ℕ). IsReadAs t again.0) (sym is.printed) again.1;
      printed = ap canonical again.2 ∙ sym is.printed;
    }

pub batches_there : (growing : GrowingView) (seen : Observed) → HasTaken growing → seen ≡ growing.seen → 1 ≤ seen.trace.batches
batches_there growing seen has same = subst (λ (s : Observed). 1 ≤ s.trace.batches) (sym same) has.taken

-- ---- it is that of the log

module _ {X : Type 0} {P : X → Type 0} (says : Says X P) (aim : Aim) (text : List ℕ) (log : Prefix) (o : Observation X P) (seen : Observed) (answer : Answer) (report : Report) (shown : Shown)
    (h : IsObservedFor says (taken_for aim) log o) (same : seen ≡ o.growing.seen) (aimed : aim.text ≡ text) (showing : shown ≡ aim.shown)
    (rise : CountersRise o.growing.seen (piece.disjuncts_of o.growing.disjuncts)) (watched : AreAnswers o.growing.seen (reading_of (taken_for aim))) where
  now_seen : (Q : Observed → Type 0) → Q o.growing.seen → Q seen
  now_seen Q q = subst Q (sym same) q

  trace_is : seen.trace ≡ trace_after log
  trace_is = ap (λ (s : Observed). s.trace) same ∙ h.is.trace

  -- no counter of the formula falls
  kept : IsKeptFor (run_seen o.growing.seen (reading_of (taken_for aim))) (formula_of aim.node)
  kept =
      let whole = subst (λ (t : TraceView). AreWhole t.states) (sym h.is.trace) (whole_log log h.is.fits) in
      rising_kept log.header (formula_of aim.node) (piece.disjuncts_of o.growing.disjuncts) h.means.counters o.growing.seen.trace.states aim.watches whole
      (ap (λ (t : TraceView). t.states.header) h.is.trace) rise

  asked : IsAnswer o.growing.seen (piece.disjuncts_of o.growing.disjuncts) answer → IsAskedOf seen answer shown text (reading_of (taken_for aim)) (asked_of aim)
  asked is = record {
    text_is = aimed;
    slice = ap (λ (s : Shown). s.slice) (sym showing);
    witness = ap (λ (s : Shown). s.witness) (sym showing);
    watches = now_seen (λ s. AreAnswers s (reading_of (taken_for aim))) watched;
    pieces = piece.disjuncts_of o.growing.disjuncts;
    answered = now_seen (λ s. IsAnswer s (piece.disjuncts_of o.growing.disjuncts) answer) is;
    meaning = subst (λ (t : TraceView). EachAlike (part_formulas (names.names_of t.states.header aim.names) (piece.disjuncts_of o.growing.disjuncts)) (disjuncts true (formula_of aim.node))) (sym trace_is) h.means.meaning;
    kept = now_seen (λ s. IsKeptFor (run_seen s (reading_of (taken_for aim))) (formula_of aim.node)) kept;
  }

  pub reported : IsAnswer o.growing.seen (piece.disjuncts_of o.growing.disjuncts) answer → report.procs ≡ seen.trace.states.header.procs
      → ((reading : Reading) (q : Asked) → IsAskedOf seen answer shown text reading q → IsReportOn q seen.trace.batches (trace_seen seen) reading.watches report)
      → IsReportFor aim log report
  reported is named says_so =
      let on = says_so (reading_of (taken_for aim)) (asked_of aim) (asked is) in
      record {
        names = named ∙ ap (λ (t : TraceView). t.states.header.procs) trace_is;
        says = subst (λ (t : TraceView). IsReportOn (asked_of aim) t.batches (trace_of t.states) aim.watches report) trace_is on;
      }
