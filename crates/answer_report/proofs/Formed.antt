-- A report has a spelling.
use Rattle.std.proofs.Common.{◌≡◌, ℕ, ◌+◌, ◌^◌, ◌<◌, ◌≤◌, Bool, true, false, List, [], ◌∷◌, ◌++◌, length, sum, sym, ◌∙◌, ap, subst, arith, inl, inr}
use Rattle.std.specs.Prelude.{not, ◌&&◌, ◌==◌, if◌then◌else◌, IfSome}
use Rattle.std.specs.List.{AllByRecursion}
use Rattle.std.proofs.lemmas.Bool.{cases_Bool}
use Rattle.run_model.specs.Cut.{Clocks, lengths}
use Rattle.run_model.proofs.Counts.{length-lengths}
use Rattle.pota_base.specs.Shape.{IsShape}
use Rattle.pota_base.specs.Limits.{most_events, most_processes}
use Rattle.pota_names.specs.Names.{is_name}
use Rattle.log_lines.specs.Names.{are_distinct}
use Rattle.trace_growth.specs.Growing.{IsTrace}
use Rattle.vector_clock.proofs.Growth.{length-clocks_of}
use Rattle.rctl_parts.specs.Pieces.{Piece}
use Rattle.report_lines.specs.declared.kinds.WitnessText.{WitnessText}
use Rattle.report_lines.specs.Formula.{IsCanonical}
use Rattle.report_lines.specs.Spelling.{WitnessTextFits}
use Rattle.report.specs.declared.report.Report.{Report}
use Rattle.report.specs.Spelling.{SliceFits, IsWellFormed}
use Rattle.part_pulls.specs.declared.observed.Observed.{Observed}
use Rattle.conjunctions.specs.declared.answer.PartAnswer.{PartAnswer}
use Rattle.conjunctions.specs.declared.answer.Answer.{Answer}
use Rattle.part_pulls.specs.Observing.{clocks_seen}
use Rattle.conjunctions.specs.Answering.{IsAnswer, places_from, all_places, ArePartAnswers}
use Rattle.call_options.specs.declared.shown.Shown.{Shown}
use Rattle.answer_report.specs.inside.Choosing.{of_disjunct, first_true, first_false, chosen}
use Rattle.answer_report.specs.inside.Showing.{IsNumbered, TellAll}
use Rattle.answer_report.proofs.Parts.{part_answers}
use Rattle.answer_report.proofs.Said.{IsMadeOf}

-- ---- the parts are numbered from 1

all_joined : (P : PartAnswer → Type 0) (xs ys : List PartAnswer) → AllByRecursion P xs → AllByRecursion P ys → AllByRecursion P (xs ++ ys)
all_joined P [] ys h k = k
all_joined P (x ∷ xs) ys h k = (h.0, all_joined P xs ys h.1 k)

numbered_from : (seen : Observed) (n k : ℕ) → 1 ≤ n → 1 ≤ k → (ps : List Piece) (parts : List PartAnswer) → ArePartAnswers seen (places_from n k ps) parts → AllByRecursion IsNumbered parts
numbered_from seen n k h i [] [] is = tt
numbered_from seen n k h i [] (a ∷ parts) is = absurd is
numbered_from seen n k h i (p ∷ ps) [] is = absurd is
numbered_from seen n k h i (p ∷ ps) (a ∷ parts) is =
    (record { disjunct = omega (arith, is.0.of_disjunct, h); number = omega (arith, is.0.of_part, i) }, numbered_from seen n (k + 1) h (omega (arith, i)) ps parts is.1)

numbered : (seen : Observed) (n : ℕ) → 1 ≤ n → (ds : List (List Piece)) (parts : List PartAnswer) → ArePartAnswers seen (all_places n ds) parts → AllByRecursion IsNumbered parts
numbered seen n h [] [] is = tt
numbered seen n h [] (a ∷ parts) is = absurd is
numbered seen n h (d ∷ ds) parts is =
    let split = part_answers seen (places_from n 1 d) (all_places (n + 1) ds) parts is in
    subst (AllByRecursion IsNumbered) (sym split.is) (
    all_joined IsNumbered split.mine split.later (numbered_from seen n 1 h (omega arith) d split.mine split.of_first) (numbered seen (n + 1) (omega (arith, h)) ds split.later split.of_rest)
    )

-- ---- so are those that are chosen

in_disjunct : (P : PartAnswer → Type 0) (n : ℕ) (parts : List PartAnswer) → AllByRecursion P parts → AllByRecursion P (of_disjunct n parts)
in_disjunct P n [] h = tt
in_disjunct P n (p ∷ parts) h = elim (cases_Bool (p.disjunct == n)) [
  | inl here ↦ rw here (h.0, in_disjunct P n parts h.1)
  | inr there ↦ rw there (in_disjunct P n parts h.1)
]

in_false : (P : PartAnswer → Type 0) (n : ℕ) (parts : List PartAnswer) → AllByRecursion P parts → AllByRecursion P (first_false n parts)
in_false P n [] h = tt
in_false P n (p ∷ parts) h = by (not p.truth && not (p.disjunct == n)) (in_false P p.disjunct parts h.1) (in_false P n parts h.1)
  where
    by : (b : Bool) → AllByRecursion P (first_false p.disjunct parts) → AllByRecursion P (first_false n parts)
        → AllByRecursion P (if b then p ∷ first_false p.disjunct parts else first_false n parts)
    by true taken left = (h.0, taken)
    by false taken left = left

all_chosen : (P : PartAnswer → Type 0) (verdict : Bool) (parts : List PartAnswer) → AllByRecursion P parts → AllByRecursion P (chosen verdict parts)
all_chosen P true parts h = in_disjunct P (first_true 1 parts) parts h
all_chosen P false parts h = in_false P 0 parts h

told_fit : (o : Clocks) (parts : List PartAnswer) (ws : List WitnessText) → AllByRecursion IsNumbered parts → TellAll o parts ws → AllByRecursion (WitnessTextFits (lengths o)) ws
told_fit o [] [] h told = tt
told_fit o [] (w ∷ ws) h told = absurd told
told_fit o (p ∷ parts) [] h told = absurd told
told_fit o (p ∷ parts) (w ∷ ws) h told = (told.0.fits h.0, told_fit o parts ws h.1 told.1)

-- ---- the report

pub formed : (seen : Observed) → IsTrace seen.trace.states → IsShape (lengths (clocks_seen seen)) → (ds : List (List Piece)) (answer : Answer) → IsAnswer seen ds answer
    → seen.trace.batches < 2 ^ 32 → 1 ≤ seen.trace.batches → (shown : Shown) (text : List ℕ) (report : Report) → IsMadeOf seen answer shown text report
    → report.procs ≡ seen.trace.states.header.procs → AllByRecursion (λ n. is_name n ≡ true) seen.trace.states.header.procs → IfSome report.slice (SliceFits (lengths (clocks_seen seen)))
    → IsCanonical text → IsWellFormed report
formed seen trace shape ds answer is small some shown text report made names spelled slice canonical = record {
  batch = record { some = omega (arith, made.number, some); small = omega (arith, made.number, small) };
  run = record {
    procs = record {
      some = subst (λ (procs : List (List ℕ)). 0 < length procs) (sym names) (omega (arith, trace.whole.header.some));
      few = subst (λ (procs : List (List ℕ)). length procs ≤ most_processes) (sym names) trace.whole.header.few;
      each = subst (AllByRecursion (λ n. is_name n ≡ true)) (sym names) spelled;
      distinct = subst (λ (procs : List (List ℕ)). are_distinct procs ≡ true) (sym names) trace.whole.header.distinct;
    };
    lengths = record {
      width = ap length made.lengths_are ∙ length-lengths (clocks_seen seen) ∙ ap length trace.clocks ∙ length-clocks_of seen.trace.states.events ∙ trace.whole.events ∙ ap length (sym names);
      few = subst (λ lens. sum lens ≤ most_events) (sym made.lengths_are) shape.events;
    };
  };
  formula = subst IsCanonical (sym made.formula) canonical;
  slice = subst (λ lens. IfSome report.slice (SliceFits lens)) (sym made.lengths_are) slice;
  witnesses = subst (λ lens. AllByRecursion (WitnessTextFits lens) report.witnesses) (sym made.lengths_are) (elim (cases_Bool shown.witness) [
    | inl on ↦ told_fit (clocks_seen seen) (chosen answer.truth answer.parts) report.witnesses (all_chosen IsNumbered answer.truth answer.parts (numbered seen 1 (omega arith) ds answer.parts is.parts)) (made.witnesses on)
    | inr off ↦ subst (AllByRecursion (WitnessTextFits (lengths (clocks_seen seen)))) (sym (made.unwanted off)) tt
  ]);
}
