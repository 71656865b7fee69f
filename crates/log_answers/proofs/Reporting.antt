-- What writing a report, or the summary of a bench, leads to.
use Rattle.std.proofs.Common.{◌≡◌, ℕ, Bool, true, Option, Ok, Err, List, [], ◌∷◌, ◌++◌, refl, sym, ap, subst, ◌∙◌, arith, append-nil}
use Rattle.std.proofs.KnownBytes.{Appends-nil}
use Rattle.pota_base.specs.Outside.{IsPrefix}
use Rattle.pota_base.specs.Changes.{change_of, counts_of}
use Rattle.report.specs.declared.report.Report.{Report}
use Rattle.report.specs.Spelling.{report_text}
use Rattle.run_report.specs.Reports.{Asked, IsReportOf}
use Rattle.log_rules.specs.SoFar.{counted}
use Rattle.run_report.specs.Benches.{IsSummaryOf, benched, summary_text}
use Rattle.call_options.specs.declared.sizes.Sizes.{Sizes}
use Rattle.log_rules.specs.Judgement.{Prefix, Judgement, waiting, growing, finished, refused}
use Rattle.log_rules.specs.Due.{batches_of}
use Rattle.log_judgement.specs.Texts.{IsReportText}
use Rattle.log_judgement.proofs.Texts.{texts_join}
use Rattle.reported_log.specs.Aims.{Aim, asked_of, IsReportFor}
use Rattle.reported_log.specs.Checking.{HasClosed}
use Rattle.log_answers.specs.Asking.{reached_of, summing_of}
use Rattle.log_answers.specs.declared.stop.StopCause.TheVariants as causes
use Rattle.log_answers.specs.declared.stop.Stop.{Stop}
use Rattle.log_answers.specs.declared.stop.Verdict.{Verdict}
use Rattle.log_answers.specs.Checking.{AreReportsFor, ReportStops, Reports, IsBenchAim}
use Rattle.log_answers.specs.Checking.{SummaryStops, SumsUp}
use Rattle.log_answers.specs.inside.Checking.{Puts}
use Rattle.log_answers.proofs.Items.{whole_front}

-- ---- one text

-- ---- a report

closed_count : (j : Judgement) (log : Prefix) → HasClosed j log → batches_of j ≡ counted log.batches
closed_count waiting log h = absurd h
closed_count (growing so_far since) log h = ap (λ (p : Prefix). counted p.batches) (sym h.0)
closed_count (finished so_far last) log h = ap (λ (p : Prefix). counted p.batches) (sym h)
closed_count (refused so_far why) log h = absurd h

pub count_closed : (n : ℕ) (j : Judgement) (log : Prefix) → n ≡ batches_of j → HasClosed j log
    → n ≡ counted log.batches
count_closed n j log is closed = is ∙ closed_count j log closed

module _ (aim : Aim) (n : ℕ) (before : List Prefix) (log : Prefix) (text : List ℕ)
    (texts : AreReportsFor aim before text) where
  pub report_short : (held : Option (List ℕ)) (of : ℕ) (stop : Stop)
      → stop ≡ record { batches = 0; cause = causes.Memory }
      → Reports (change_of held held of of) aim n (reached_of before log) text (Err stop)
  report_short held of stop is =
      subst (λ (s : Stop). Reports (change_of held held of of) aim n (reached_of before log) text (Err s)) (sym is) (record {
        written = [];
        wrote = Appends-nil held;
        later = omega arith;
        to = whole_front aim before (text ++ []) 0 (subst (AreReportsFor aim before) (sym (append-nil text)) texts) refl;
      })

  module _ (held held' : Option (List ℕ)) (of of' : ℕ) (report : Report) (is : IsReportFor aim log report) where
    pub report_whole : {T : Type 0} (x : T) (v : Verdict) → v ≡ record { batches = n; truth = report.verdict }
        → (t : List ℕ) → t ≡ report_text report → Puts (change_of held held' of of') t n (Ok x)
        → Reports (change_of held held' of of') aim n (reached_of before log) text (Ok v)
    report_whole x v same t is_text p =
        subst (λ (w : Verdict). Reports (change_of held held' of of') aim n (reached_of before log) text (Ok w)) (sym same) (record {
          written = p.written;
          wrote = p.wrote;
          later = p.later;
          to = (
            texts_join (IsReportText (asked_of aim) aim.watches) before (log ∷ []) text p.written texts
                (report_text report, (report, is, refl), [], refl, p.to ∙ is_text ∙ sym (append-nil (report_text report))),
            is.says.verdict,
            refl,
          );
        })

    pub report_part : {T : Type 0} (stop : Stop) → n ≡ counted log.batches
        → (t : List ℕ) → t ≡ report_text report → Puts {T = T} (change_of held held' of of') t n (Err stop)
        → Reports (change_of held held' of of') aim n (reached_of before log) text (Err stop)
    report_part stop count t is_text p = record {
      written = p.written;
      wrote = p.wrote;
      later = p.later;
      to = subst (λ (s : Stop). ReportStops s.cause s.batches (counts_of of of') aim (reached_of before log) (text ++ p.written)) (sym p.to.0) (
        record {
          before = before;
          log = log;
          behind = [];
          are = refl;
          whole = text;
          texts = texts;
          report = report;
          report_is = is;
          part = p.written;
          part_of = subst (IsPrefix p.written) is_text p.to.1;
          wrote = refl;
          count = count;
        },
        p.to.2,
      );
    }

-- ---- a refusal

-- ---- a summary

bench_asked : (aim : Aim) → IsBenchAim aim → asked_of aim ≡ benched (asked_of aim)
bench_asked aim is =
    ap (λ (b : Bool). record (asked_of aim) { slice = b }) is.slice
    ∙ ap (λ (b : Bool). record (asked_of aim) { slice = true; witness = b }) is.witness

module _ (aim : Aim) (n : ℕ) (log : Prefix) (sizes : Sizes) where
  pub summary_short : (held : Option (List ℕ)) (of : ℕ) (stop : Stop) → stop ≡ record { batches = 0; cause = causes.Memory }
      → SumsUp (change_of held held of of) aim n log sizes (Err stop)
  summary_short held of stop is = subst (λ (s : Stop). SumsUp (change_of held held of of) aim n log sizes (Err s)) (sym is) (record {
    written = [];
    wrote = Appends-nil held;
    later = omega arith;
    to = (refl, refl);
  })

  module _ (held held' : Option (List ℕ)) (of of' : ℕ) (report : Report) (bench_aim : IsBenchAim aim) (is : IsReportFor aim log report) where
    sums : (text : List ℕ) → text ≡ summary_text sizes report → IsSummaryOf sizes (asked_of aim) log.header log.batches aim.watches text
    sums text same = record {
      report = report;
      says = subst (λ (q : Asked). IsReportOf q log.header log.batches aim.watches report) (bench_asked aim bench_aim) is;
      text_is = same;
    }

    pub summary_whole : {T : Type 0} (x : T) (v : Verdict) → v ≡ record { batches = n; truth = report.verdict }
        → (t : List ℕ) → t ≡ summary_text sizes report → Puts (change_of held held' of of') t n (Ok x) → SumsUp (change_of held held' of of') aim n log sizes (Ok v)
    summary_whole x v same t is_text p = subst (λ (w : Verdict). SumsUp (change_of held held' of of') aim n log sizes (Ok w)) (sym same) (record {
      written = p.written;
      wrote = p.wrote;
      later = p.later;
      to = (sums p.written (p.to ∙ is_text), is.says.verdict, refl);
    })

    pub summary_part : {T : Type 0} (stop : Stop) → (t : List ℕ) → t ≡ summary_text sizes report → Puts {T = T} (change_of held held' of of') t n (Err stop)
        → SumsUp (change_of held held' of of') aim n log sizes (Err stop)
    summary_part stop t is_text p = record {
      written = p.written;
      wrote = p.wrote;
      later = p.later;
      to = subst (λ (s : Stop). SummaryStops s.cause s.batches (counts_of of of') (summing_of aim log sizes) n p.written) (sym p.to.0)
          (t, sums t is_text, p.to.1, refl, p.to.2);
    }
