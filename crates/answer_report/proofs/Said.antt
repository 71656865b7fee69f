-- What a report says is so of the run.
use Rattle.std.proofs.Common.{◌≡◌, ℕ, Bool, true, false, List, [], refl, sym, ◌∙◌, subst, arith}
use Rattle.std.specs.Prelude.{◌↔◌}
use Rattle.std.specs.List.{AllByRecursion}
use Rattle.std.proofs.lemmas.Bool.{false≢true}
use Rattle.run_model.specs.Cut.{Cut, lengths, initial}
use Rattle.run_model.specs.Run.{Run}
use Rattle.run_model.specs.Meaning.{IsRun, Sat}
use Rattle.run_model.specs.Class.{disjuncts, SatDisjuncts}
use Rattle.run_model.proofs.Orders.{initial_consistent}
use Rattle.meaning_laws.proofs.DisjunctLemmas.{disjuncts_mean}
use Rattle.pota_names.specs.Names.{is_name}
use Rattle.trace_growth.specs.Growing.{IsTrace}
use Rattle.report.specs.declared.report.Report.{Report}
use Rattle.run_report.specs.Reports.{Asked, IsReportOn, IsSliceShown}
use Rattle.run_report.specs.Witnesses.{AreWitnesses}
use Rattle.part_pulls.specs.declared.observed.Observed.{Observed}
use Rattle.conjunctions.specs.declared.answer.Answer.{Answer}
use Rattle.part_pulls.specs.Observing.{Reading, clocks_seen, run_seen, trace_seen}
use Rattle.call_options.specs.declared.shown.Shown.{Shown}
use Rattle.answer_report.specs.Asking.{IsAskedOf}
use Rattle.answer_report.specs.inside.Choosing.{chosen}
use Rattle.answer_report.specs.inside.Showing.{IsSliceTold, TellAll}
use Rattle.answer_report.proofs.Named.{named}
use Rattle.answer_report.proofs.Parts.{IsReadIn}
use Rattle.answer_report.proofs.Texts.{texts_of_true, texts_of_false}
use Rattle.answer_report.proofs.Slices.{same_truth, slice_shown}

-- what a report was made of
pub record IsMadeOf (seen : Observed) (answer : Answer) (shown : Shown) (text : List ℕ) (report : Report) : Type 0 where
  pub number : report.batch ≡ seen.trace.batches
  pub lengths_are : report.lengths ≡ lengths (clocks_seen seen)
  pub formula : report.formula ≡ text
  pub verdict : report.verdict ≡ answer.truth
  pub slice : IsSliceTold shown.slice (clocks_seen seen) answer.slice report.slice
  pub witnesses : shown.witness ≡ true → TellAll (clocks_seen seen) (chosen answer.truth answer.parts) report.witnesses
  pub unwanted : shown.witness ≡ false → report.witnesses ≡ []

pub says : (seen : Observed) → IsTrace seen.trace.states → AllByRecursion (λ n. is_name n ≡ true) seen.trace.states.header.procs → (answer : Answer) (shown : Shown) (text : List ℕ) (report : Report) → IsMadeOf seen answer shown text report
    → (reading : Reading) (q : Asked) → IsAskedOf seen answer shown text reading q → IsReportOn q seen.trace.batches (trace_seen seen) reading.watches report
says seen trace spelled answer shown text report made reading q asked = record {
  number = made.number;
  lengths_are = made.lengths_are;
  formula = made.formula ∙ sym asked.text_is;
  verdict = (λ h. truth.0 (sym made.verdict ∙ h), λ h. made.verdict ∙ truth.1 h);
  slice = subst (λ (b : Bool). IsSliceShown b r q.formula report.slice) (sym asked.slice)
      (slice_shown seen reading run asked.watches asked.pieces answer asked.answered q.formula asked.meaning asked.kept shown.slice report.slice made.slice);
  witnesses = λ on. subst (λ (b : Bool). AreWitnesses r q.formula b report.witnesses) (sym made.verdict) (by answer.truth refl (made.witnesses (sym asked.witness ∙ on)));
  unasked = λ off. made.unwanted (sym asked.witness ∙ off);
}
  where
    r : Run
    r = run_seen seen reading

    run : IsRun r
    run = trace.run.run reading.watches

    known : IsReadIn seen reading
    known = record { order = run.order; are = asked.watches; named = named seen trace reading spelled }

    first : Cut
    first = initial (clocks_seen seen)

    truth : (answer.truth ≡ true) ↔ Sat r q.formula first
    truth =
        let parts = asked.answered.truth reading asked.watches in
        let formula = same_truth seen reading run.order asked.pieces q.formula asked.meaning first (initial_consistent (clocks_seen seen)) in
        (λ h. formula.0 (parts.0 h), λ h. parts.1 (formula.1 h))

    disjunction : SatDisjuncts r (disjuncts true q.formula) first ↔ Sat r q.formula first
    disjunction = disjuncts_mean r run.order q.formula first (initial_consistent (clocks_seen seen))

    by : (b : Bool) → answer.truth ≡ b → TellAll (clocks_seen seen) (chosen b answer.parts) report.witnesses → AreWitnesses r q.formula b report.witnesses
    by true e told = texts_of_true seen reading known 1 asked.pieces answer.parts asked.answered.parts (disjuncts true q.formula) asked.meaning (disjunction.1 (truth.0 e)) report.witnesses told
    by false e told = texts_of_false seen reading known 0 1 (omega arith) asked.pieces answer.parts asked.answered.parts (disjuncts true q.formula) asked.meaning
        (λ sat. absurd (false≢true (sym e ∙ truth.1 (disjunction.0 sat)))) report.witnesses told
