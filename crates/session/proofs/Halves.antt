-- A session and its halves go the same way.
use Rattle.std.proofs.Common.{◌≡◌, ℕ, ℤ, Bool, List, length, Option, Result, Ok, Err, sym, ap, subst, ◌∙◌}
use Rattle.std.proofs.lemmas.Option.{none-some, same_Some}
use Rattle.event_log.specs.declared.item.LogFault.{LogFault}
use Rattle.event_log.specs.declared.log.Event.{Event}
use Rattle.trace_growth.specs.Growing.{TraceView, IsTrace, with_trace_batch}
use Rattle.rctl_parts.specs.declared.part.Part.{Part}
use Rattle.rctl_parts.specs.Pieces.{Piece, disjuncts_of}
use Rattle.part_pulls.specs.declared.observed.Observed.{Observed}
use Rattle.conjunctions.specs.declared.answer.Answer.{Answer}
use Rattle.conjunctions.specs.Answering.{IsAnswer}
use Rattle.observation.specs.Growing.{GrowingView, first_fault}
use Rattle.observation.specs.Fed.{AreFedFrom}
use Rattle.observation.specs.Taken.{TakesWhole}
use Rattle.answering.specs.OneTrace.{IsOneTrace}
use Rattle.answering.proofs.OneTrace.{same_rows}
use Rattle.session.specs.Halves.{AreAlike, Goes, grown_of}

abbrev growing_of : TraceView → List (Option ℕ) → List (List Bool) → List (List Part) → Bool → GrowingView
growing_of trace on rows disjuncts spent = record { seen = record { trace = trace; watch_process = on; watch_rows = rows }; disjuncts = disjuncts; spent = spent }

-- part by part the same
same_growing : (a b : GrowingView) → a.seen.trace ≡ b.seen.trace → a.seen.watch_process ≡ b.seen.watch_process → a.seen.watch_rows ≡ b.seen.watch_rows → a.disjuncts ≡ b.disjuncts → a.spent ≡ b.spent → a ≡ b
same_growing a b trace on rows disjuncts spent =
    ap (λ (x : TraceView). growing_of x a.seen.watch_process a.seen.watch_rows a.disjuncts a.spent) trace
    ∙ ap (λ (x : List (Option ℕ)). growing_of b.seen.trace x a.seen.watch_rows a.disjuncts a.spent) on
    ∙ ap (λ (x : List (List Bool)). growing_of b.seen.trace b.seen.watch_process x a.disjuncts a.spent) rows
    ∙ ap (λ (x : List (List Part)). growing_of b.seen.trace b.seen.watch_process b.seen.watch_rows x a.spent) disjuncts
    ∙ ap (λ (x : Bool). growing_of b.seen.trace b.seen.watch_process b.seen.watch_rows b.disjuncts x) spent

-- the law that one trace has one answer, but for the number of its batches
abbrev pub AnswersTheSame : {B : Type 0} → (B → List (List ℤ) → List Bool) → List B → Type 0
AnswersTheSame {B} says handed =
    (here there : List B) (one other : Observed) → IsOneTrace says handed here there one other → length handed ≡ length one.watch_process → IsTrace one.trace.states
    → (ds : List (List Piece)) (a b : Answer) → IsAnswer one ds a → IsAnswer other ds b → record a { batch = b.batch } ≡ b

module _ {B : Type 0} (says : B → List (List ℤ) → List Bool) (handed here there here_after there_after : List B) (before after start end : GrowingView) (batch : List Event) (alike : AreAlike says handed here there before start) where
  -- both take it
  module _ (one : TakesWhole says before after here here_after batch) (other : TakesWhole says start end there there_after batch) where
    trace_same : end.seen.trace ≡ after.seen.trace
    trace_same = other.takes.trace ∙ ap (λ (g : GrowingView). with_trace_batch g.seen.trace batch) alike.same ∙ sym one.takes.trace

    on_same : end.seen.watch_process ≡ after.seen.watch_process
    on_same = other.takes.watches ∙ ap (λ (g : GrowingView). g.seen.watch_process) alike.same ∙ sym one.takes.watches

    formula_same : end.disjuncts ≡ after.disjuncts
    formula_same = other.takes.disjuncts ∙ ap (λ (g : GrowingView). g.disjuncts) alike.same ∙ sym one.takes.disjuncts

    paired : length handed ≡ length after.seen.watch_process
    paired = alike.paired ∙ ap length (sym one.takes.watches)

    one_trace : IsOneTrace says handed here_after there_after after.seen end.seen
    one_trace = record {
      states = ap (λ (t : TraceView). t.states) trace_same;
      watches = on_same;
      full = one.takes.full;
      full_other = other.takes.full;
      fed = one.since_start handed alike.fed;
      fed_other = other.since_start handed alike.fed_other;
    }

    same : end ≡ after
    same = same_growing end after trace_same on_same (same_rows says handed here_after there_after after.seen end.seen one_trace paired) formula_same (other.unspent ∙ sym one.unspent)

    alike_then : AreAlike says handed here_after there_after after end
    alike_then = record { same = same; paired = paired; fed = one_trace.fed; fed_other = one_trace.fed_other }

    answers_same : AnswersTheSame says handed → IsTrace after.seen.trace.states → (a b : Answer) → IsAnswer after.seen (disjuncts_of after.disjuncts) a → IsAnswer end.seen (disjuncts_of end.disjuncts) b → a ≡ b
    answers_same law trace a b left right =
        let right_so = subst (λ (ps : List (List Part)). IsAnswer end.seen (disjuncts_of ps) b) formula_same right in
        let number : a.batch ≡ b.batch = left.of_batch ∙ ap (λ (t : TraceView). t.batches) (sym trace_same) ∙ sym right.of_batch in
        ap (λ (n : ℕ). record a { batch = n }) number
        ∙ law here_after there_after after.seen end.seen one_trace paired trace (disjuncts_of after.disjuncts) a b left right_so

  fault_same : first_fault start batch ≡ first_fault before batch
  fault_same = ap (λ (g : GrowingView). first_fault g batch) alike.same

  pub goes_alike : AnswersTheSame says handed → IsTrace after.seen.trace.states → (session halves : Result Answer LogFault) → Goes says (grown_of before after) here here_after batch session → Goes says (grown_of start end) there there_after batch halves
      → (session ≡ halves) × AreAlike says handed here_after there_after after end
  goes_alike law trace (Ok a) (Ok b) one other =
      (ap (λ (x : Answer). Ok x) (answers_same one.0 other.0 law trace a b one.1 other.1), alike_then one.0 other.0)
  goes_alike law trace (Ok a) (Err g) one other = absurd (none-some g (sym one.0.free ∙ sym fault_same ∙ other.found))
  goes_alike law trace (Err f) (Ok b) one other = absurd (none-some f (sym other.0.free ∙ fault_same ∙ one.found))
  goes_alike law trace (Err f) (Err g) one other = (
    ap (λ (x : LogFault). Err x) (same_Some f g (sym one.found ∙ sym fault_same ∙ other.found)),
    record {
      same = other.untouched.growing ∙ alike.same ∙ sym one.untouched.growing;
      paired = subst (λ (g : GrowingView). length handed ≡ length g.seen.watch_process) (sym one.untouched.growing) alike.paired;
      fed = subst (λ (g : GrowingView). AreFedFrom says handed here_after g.seen) (sym one.untouched.growing) (subst (λ (bs : List B). AreFedFrom says handed bs before.seen) (sym one.untouched.boxes) alike.fed);
      fed_other = subst (λ (g : GrowingView). AreFedFrom says handed there_after g.seen) (sym other.untouched.growing) (subst (λ (bs : List B). AreFedFrom says handed bs start.seen) (sym other.untouched.boxes) alike.fed_other);
    },
  )
