-- How the answer to a bench is that to the words.
use Rattle.std.proofs.Common.{◌≡◌, ℕ, List, [], Option, None, Result, Ok, Err, refl, sym, subst, arith, inr}
use Rattle.std.specs.Prelude.{Bool, true, false, if◌then◌else◌, ◌↔◌}
use Rattle.std.proofs.KnownBytes.{Consumes-nil}
use Rattle.pota_base.specs.Outside.{IsPrefix}
use Rattle.pota_base.specs.declared.status.Status.TheVariants as status
use Rattle.pota_base.specs.Changes.{behind_of, change_of, counts_of}
use Rattle.command_words.specs.declared.request.Task.TheVariants as task
use Rattle.call_options.specs.declared.sizes.Sizes.{Sizes}
use Rattle.stated_formula.specs.declared.formula.Stated.{Stated}
use Rattle.call_request.specs.Questions.{AsksFor}
use Rattle.stated_formula.specs.Stating.{IsStated}
use Rattle.run_report.specs.Reports.{Asked}
use Rattle.run_report.specs.Benches.{IsSummaryOf}
use Rattle.fault_kinds.specs.declared.refusal.Refusal.TheVariants as refusal
use Rattle.log_rules.specs.Passage.{passage_of}
use Rattle.log_rules.specs.WholeLogs.{all_of}
use Rattle.batch_answers.specs.PassedOn.{Says, Aim, aim_of, names_of, watches_of}
use Rattle.watch.specs.declared.predicate.Handed.{Handed}
use Rattle.fault_line.specs.Faults.{status_of}
use Rattle.log_answers.specs.declared.stop.StopCause.{StopCause}
use Rattle.log_answers.specs.declared.stop.StopCause.TheVariants as causes
use Rattle.log_answers.specs.declared.stop.Stop.{Stop}
use Rattle.log_answers.specs.declared.stop.Verdict.{Verdict}
use Rattle.batch_answers.specs.Outcome.{fault_of, faulty_outcome, outcome_of}
use Rattle.call_promise.specs.Asking.{Handing, handing_of, asked, certifying}
use Rattle.bench_answers.specs.inside.Benching.{IsSummary, missing_name, IsBenchOf, BenchStops}
use Rattle.bench_answers.specs.inside.Benching.{BenchesTo, HasMade}
use Rattle.call_promise.proofs.Clauses.{not_both}
use Rattle.call_promise.specs.Certificates.{IsTrueAtStart}
use Rattle.call_promise.specs.Run.{IsBenched, HasBenched, made_by, Answer, Ran}
use Rattle.batch_answers.proofs.Undone.{stated_asked, nothing_front}

module _ {X : Type 0} {P : X → Type 0} (says : Says X P) (s : Stated) (sizes : Sizes) (handed : List (Handed X P)) (words : List (List ℕ)) (formula : List ℕ) (is : IsStated formula s) (asks : AsksFor words (task.Bench sizes) s.formula.tree) where
  abbrev bench_aim : Aim
  bench_aim = aim_of s (record { slice = true; witness = false }) (names_of handed) (watches_of says handed)

  abbrev bench_on : Handing
  bench_on = handing_of says handed

  summary_asked : (text : List ℕ) → IsSummary bench_aim sizes text
      → IsSummaryOf sizes (asked s.formula.tree true false) (made_by sizes).header (made_by sizes).batches (watches_of says handed) text
  summary_asked text h =
      subst (λ (q : Asked). IsSummaryOf sizes q (made_by sizes).header (made_by sizes).batches (watches_of says handed) text)
      (stated_asked s (record { slice = true; witness = false }) (names_of handed) (watches_of says handed) formula is) h

  abbrev benched_as : (text : List ℕ) (b : Bool) → missing_name bench_aim sizes ≡ None → IsSummary bench_aim sizes text
      → ((b ≡ true) ↔ IsTrueAtStart (watches_of says handed) s.formula.tree (all_of (made_by sizes))) → IsBenched bench_on words text b
  benched_as text b named summary truth = record {
    tree = s.formula.tree;
    sizes = sizes;
    asks = asks;
    named = named;
    says = summary_asked text summary;
    truth = truth;
  }

  module _ (left : Option (List ℕ)) (lf of of' : ℕ) (written : List ℕ) where
    bench_stop : (why : StopCause) (n : ℕ) → BenchStops why n (counts_of of of') bench_aim sizes written
        → Answer (status_of (fault_of why)) (behind_of left lf lf of of') bench_on words (passage_of [] written) (faulty_outcome n (fault_of why))
    bench_stop (causes.Refused (refusal.Formula x)) n h = (
      x,
      inr (inr (record {
        tree = s.formula.tree;
        sizes = sizes;
        asks = asks;
        missing = h.0;
        nothing = (refl, h.1);
        batches = h.2;
        fault = refl;
      })),
    )
    bench_stop (causes.Refused (refusal.Log x)) n h = absurd h
    bench_stop (causes.Refused (refusal.Import x)) n h = absurd h
    bench_stop (causes.Refused (refusal.Merge x)) n h = absurd h
    bench_stop causes.Write n h = (
      inr (record {
        nothing = refl;
        summary = h.0.summary;
        verdict = h.0.is.report.verdict;
        is = benched_as h.0.summary h.0.is.report.verdict h.0.named h.0.is h.0.is.says.says.verdict;
        part = h.0.part;
        batches = h.0.count;
      }),
      refl,
      h.1,
    )
    bench_stop causes.Memory n h = record {
      front = λ other text batches w. (subst (λ (t : List ℕ). IsPrefix t text) (sym h.0) (nothing_front text), let none = h.1 in omega (arith, none));
      certified = λ u k. absurd (not_both words certifying sizes u s.formula.tree k asks);
      unread = λ t sizes k. refl;
      unnamed = λ t sizes f k lacks. h;
      fault = refl;
    }
    bench_stop causes.Read n h = absurd h

    bench_of : (b : Bool) (v : Verdict) → v.truth ≡ b → IsBenchOf bench_aim sizes written v
        → HasBenched bench_on words [] written (record { status = if b then status.True else status.False; batches = v.batches; fault = None }) b
    bench_of b v same_truth h = record {
      nothing = refl;
      summary = benched_as written b h.named h.summary (subst (λ (x : Bool). (x ≡ true) ↔ IsTrueAtStart (watches_of says handed) s.formula.tree (all_of (made_by sizes))) same_truth h.truth);
      batches = h.batches;
      fault = refl;
    }

    bench_verdict : (b : Bool) (v : Verdict) → v.truth ≡ b → IsBenchOf bench_aim sizes written v
        → Answer (if b then status.True else status.False) (behind_of left lf lf of of') bench_on words (passage_of [] written) (record { status = if b then status.True else status.False; batches = v.batches; fault = None })
    bench_verdict true v e h = inr (bench_of true v e h)
    bench_verdict false v e h = inr (bench_of false v e h)

    bench_answer : (result : Result Verdict Stop) → BenchesTo (counts_of of of') bench_aim sizes written result
        → Answer (outcome_of result).status (behind_of left lf lf of of') bench_on words (passage_of [] written) (outcome_of result)
    bench_answer (Ok v) h = bench_verdict v.truth v refl h
    bench_answer (Err stop) h = bench_stop stop.cause stop.batches h

  pub ran_made : (left held held' : Option (List ℕ)) (lf of of' : ℕ) (result : Result Verdict Stop) → HasMade (change_of held held' of of') bench_aim sizes result
      → Ran (change_of left left lf lf) (change_of held held' of of') bench_on words (outcome_of result)
  ran_made left held held' lf of of' result h = record {
    read = [];
    written = h.written;
    consumed = Consumes-nil left;
    wrote = h.wrote;
    log_later = omega arith;
    out_later = h.later;
    answer = bench_answer left lf of of' h.written result h.to;
  }
