-- A bench: the items of the log that is made, and what they lead to.
use Rattle.std.proofs.Common.{◌≡◌, ℕ, true, false, Option, Some, None, Result, Ok, Err, List, [], ◌∷◌, ◌++◌, length, refl, sym, ap, subst, ◌∙◌, arith}
use Rattle.std.proofs.KnownBytes.{Appends-nil}
use Rattle.std.proofs.lemmas.List.{length-replicate}
use Rattle.std.proofs.lemmas.Option.{none-some}
use Rattle.pota_base.specs.Changes.{change_of, counts_of}
use Rattle.log_lines.specs.Reading.{choose}
use Rattle.rctl_grammar.specs.declared.fault.FormulaFault.{FormulaFault}
use Rattle.call_options.specs.declared.sizes.Sizes.{Sizes}
use Rattle.event_log.specs.declared.log.Event.{Event}
use Rattle.event_log.specs.declared.item.LogFault.{LogFault}
use Rattle.event_log.specs.declared.log.Header.{Header}
use Rattle.event_log.specs.declared.log.Log.{Log}
use Rattle.event_log.specs.Faults.{items_in}
use Rattle.event_log.specs.FittingItems.{FitFirst}
use Rattle.event_log.specs.Laws.{IsLog}
use Rattle.event_log.specs.LogText.{onto, log_text, batch_items, log_items}
use Rattle.event_log.proofs.FittingItems.{items_fit}
use Rattle.fault_kinds.specs.declared.refusal.Refusal.{Refusal}
use Rattle.fault_kinds.specs.declared.refusal.Refusal.TheVariants as refusal
use Rattle.event_log.specs.States.{StatesView, AreWhole}
use Rattle.event_log.specs.States.{opened as no_events_of}
use Rattle.event_log.proofs.NameNumbers.{header_known}
use Rattle.vector_clock.specs.Events.{no_events}
use Rattle.counter_preds.specs.declared.values.Variable.{Variable}
use Rattle.counter_preds.specs.Counters.{IsVariable}
use Rattle.counter_preds.specs.Falls.{fall_fault}
use Rattle.vector_clock.specs.Filled.{filled_log}
use Rattle.rctl_class.specs.Nodes.{formula_of}
use Rattle.log_rules.specs.Counters.{counters_in}
use Rattle.log_rules.specs.Judgement.{Prefix, Judgement, waiting, refused, opened, judged}
use Rattle.log_rules.specs.Due.{whole_of, batches_of, at_end}
use Rattle.log_rules.specs.WholeLogs.{first_fall, IsLogFor, all_of}
use Rattle.log_rules.proofs.Items.{refused-stays}
use Rattle.log_rules.proofs.Logs.{log_due, reads_back}
use Rattle.batch_answers.specs.PassedOn.{Says, Aim, rules_of, unknown_name}
use Rattle.batch_answers.specs.PassedOn.{IsCheckOf, IsFree, HasClosed, MayFollow}
use Rattle.batch_answers.specs.PassedOn.{ReportedLog}
use Rattle.trace_gen.specs.Generated.{generated_events}
use Rattle.trace_gen.proofs.Clear.{length-names}
use Rattle.trace_gen.proofs.Fits.{log_fits, all_written, filled_clean}
use Rattle.trace_gen.proofs.Rising.{made_rising}
use Rattle.trace_gen.proofs.Size.{log_small}
use Rattle.log_answers.specs.Asking.{summing_of}
use Rattle.log_answers.specs.declared.stop.StopCause.{StopCause}
use Rattle.log_answers.specs.declared.stop.StopCause.TheVariants as causes
use Rattle.log_answers.specs.declared.stop.Stop.{Stop}
use Rattle.log_answers.specs.declared.stop.Verdict.{Verdict}
use Rattle.call_promise.specs.Run.{made_by}
use Rattle.log_answers.specs.Checking.{SummaryStops, SumsUpTo, SumsUp}
use Rattle.bench_answers.specs.Benching.{CanBeMade}
use Rattle.bench_answers.specs.inside.Benching.{BenchStops, BenchesTo, HasMade}
use Rattle.batch_answers.proofs.ReadingSteps.{of_text}
use Rattle.log_answers.specs.Whole.{TakingStops}
use Rattle.log_answers.proofs.OneBatch.{whole_closed}
use Rattle.bench_answers.proofs.NoFall.{none_falls}

-- ---- what the items lead to

refused_not : (log other : Option Prefix) (why : Refusal) (j : Judgement) (p : Prefix) → j ≡ refused log why → whole_of j ≡ Some p → ⊥
refused_not log other why j p is some = none-some p (sym (ap whole_of is) ∙ some)

abbrev made_events : Sizes → List Event
made_events sizes = generated_events sizes.seed sizes.procs sizes.events

-- no variable of the formula's differences falls in the log that is made
abbrev pub MadeRises : Aim → Sizes → Type 0
MadeRises aim sizes =
    first_fall (no_events_of (made_by sizes).header) (counters_in (formula_of aim.node) (made_by sizes).header) (filled_log (made_by sizes)).batches ≡ None

pub made_rises : (aim : Aim) (sizes : Sizes) → CanBeMade sizes → MadeRises aim sizes
unfolding first_fall
made_rises aim sizes can =
    let h = (made_by sizes).header in
    let counters = counters_in (formula_of aim.node) h in
    let made : ℕ → StatesView = λ n. record { header = h; events = no_events n } in
    let named = length-names 0 sizes.procs in
    let whole : AreWhole (made (length h.procs)) = record { header = header_known h (log_fits sizes.procs can.some can.few sizes.seed sizes.events can.limit).header; events = length-replicate (length h.procs) [] } in
    let each : (x : Variable) → IsVariable (made (length h.procs)) x → fall_fault (made (length h.procs)) (x ∷ []) (made_events sizes) ≡ None =
    subst (λ (n : ℕ). (x : Variable) → IsVariable (made n) x → fall_fault (made n) (x ∷ []) (made_events sizes) ≡ None) (sym named)
    (made_rising sizes.procs can.some can.few sizes.seed sizes.events) in
    let written : (filled_log (made_by sizes)).batches ≡ (made_by sizes).batches = ap (λ (l : Log). l.batches) (all_written sizes.procs can.some can.few sizes.seed sizes.events can.limit) in
    ap (λ (bs : List (List Event)). first_fall (no_events_of h) counters bs) written
    ∙ ap (λ (o : Option LogFault). choose o (λ f. Some f) None) (none_falls (made (length h.procs)) whole (made_events sizes) each counters)

module _ {X : Type 0} {P : X → Type 0} (says : Says X P) (aim : Aim) (sizes : Sizes) (can : CanBeMade sizes) where
  abbrev log : Log
  log = made_by sizes

  abbrev names : Header → Option FormulaFault
  names = unknown_name aim.node aim.names

  pub made_log : IsLog (made_by sizes)
  made_log = record {
    fits = log_fits sizes.procs can.some can.few sizes.seed sizes.events can.limit;
    small = log_small sizes.procs can.some can.few sizes.seed sizes.events can.limit;
  }

  pub made_follows : MayFollow waiting (log_items (made_by sizes))
  made_follows = subst FitFirst (reads_back (made_by sizes) made_log).1 (items_fit (onto (log_text (made_by sizes)) []))

  abbrev pub made_judgement : Judgement
  made_judgement = judged (rules_of aim) waiting (log_items (made_by sizes))

  -- where the log has the names it is whole
  record IsMade : Type 0 where
    whole : whole_of (judged (rules_of aim) waiting (log_items (made_by sizes))) ≡ Some (all_of (made_by sizes))
    count : batches_of (judged (rules_of aim) waiting (log_items (made_by sizes))) ≡ 1

  made_whole : MadeRises aim sizes → names (made_by sizes).header ≡ None → IsMade
  made_whole rises known =
      let back = reads_back (made_by sizes) made_log in
      let bytes = log_text (made_by sizes) in
      let counters = counters_in (formula_of aim.node) in
      let logged : IsLogFor names counters bytes (made_by sizes) = record {
        is = made_log;
        lines = refl;
        spelled = refl;
        ordered = filled_clean sizes.procs can.some can.few sizes.seed sizes.events can.limit;
        rising = rises;
        named = known;
      } in
      let due_is = log_due names counters bytes (made_by sizes) logged in
      let same : judged (rules_of aim) waiting (items_in bytes) ≡ judged (rules_of aim) waiting (log_items (made_by sizes)) = ap (judged (rules_of aim) waiting) back.1 in
      record {
        whole = sym (ap whole_of same) ∙ sym (ap (λ (o : Option LogFault). at_end true (of_text o) (whole_of (judged (rules_of aim) waiting (items_in bytes)))) back.0) ∙ due_is.whole
            ∙ ap (λ (l : Log). Some (all_of l)) (all_written sizes.procs can.some can.few sizes.seed sizes.events can.limit);
        count = sym (ap batches_of same) ∙ due_is.batches;
      }

  -- where it lacks one it is refused at its header
  made_refused : (f : FormulaFault) → names (made_by sizes).header ≡ Some f
      → judged (rules_of aim) waiting (log_items (made_by sizes)) ≡ refused None (refusal.Formula f)
  unfolding judged
  made_refused f some =
      let stop : opened (rules_of aim) (made_by sizes).header ≡ refused None (refusal.Formula f) = rw some refl in
      ap (λ (j : Judgement). judged (rules_of aim) j (batch_items (made_by sizes).batches)) stop
      ∙ refused-stays (rules_of aim) None (refusal.Formula f) (batch_items (made_by sizes).batches)

  -- a check that is not refused has the names
  has_names : (check : ReportedLog X P) → IsCheckOf says aim check (judged (rules_of aim) waiting (log_items (made_by sizes))) → names (made_by sizes).header ≡ None
  has_names check is = go (names (made_by sizes).header) refl
    where
      go : (o : Option FormulaFault) → names (made_by sizes).header ≡ o → o ≡ None
      go None e = refl
      go (Some f) e = absurd (subst IsFree (made_refused f e) is.log.free)

  pub made_closed : MadeRises aim sizes → (check : ReportedLog X P) → IsCheckOf says aim check (judged (rules_of aim) waiting (log_items (made_by sizes)))
      → HasClosed (judged (rules_of aim) waiting (log_items (made_by sizes))) (all_of (made_by sizes))
  made_closed rises check is =
      whole_closed (judged (rules_of aim) waiting (log_items (made_by sizes))) (all_of (made_by sizes)) (made_whole rises (has_names check is)).whole

  -- the log that was made is that one
  pub as_made : (made : Log) → made ≡ made_by sizes → (check : ReportedLog X P) → IsCheckOf says aim check (judged (rules_of aim) waiting (log_items made))
      → IsCheckOf says aim check (judged (rules_of aim) waiting (log_items (made_by sizes)))
  as_made made same check is = subst (λ (l : Log). IsCheckOf says aim check (judged (rules_of aim) waiting (log_items l))) same is

  -- ---- the summary

  module _ (rises : MadeRises aim sizes) (held held' : Option (List ℕ)) (of of' : ℕ) (check : ReportedLog X P)
      (taken : IsCheckOf says aim check (judged (rules_of aim) waiting (log_items (made_by sizes)))) where
    count_is : check.log.intake.batches ≡ 1
    count_is = taken.log.intake.batches ∙ (made_whole rises (has_names check taken)).count

    sum_stops : (f : StopCause) (n : ℕ) (text : List ℕ) → SummaryStops f n (counts_of of of') (summing_of aim (all_of (made_by sizes)) sizes) check.log.intake.batches text
        → BenchStops f n (counts_of of of') aim sizes text
    sum_stops causes.Write n text h = (
      record {
        named = has_names check taken;
        summary = h.0;
        is = h.1;
        part = h.2;
        count = h.3 ∙ count_is;
      },
      h.4,
    )
    sum_stops causes.Memory n text h = h
    sum_stops (causes.Refused r) n text h = absurd h
    sum_stops causes.Read n text h = absurd h

    sum_to : (result : Result Verdict Stop) (text : List ℕ) → SumsUpTo (counts_of of of') (summing_of aim (all_of (made_by sizes)) sizes) check.log.intake.batches text result
        → BenchesTo (counts_of of of') aim sizes text result
    sum_to (Ok v) text h = record {
      named = has_names check taken;
      summary = h.0;
      truth = h.1;
      batches = h.2 ∙ count_is;
    }
    sum_to (Err stop) text h = sum_stops stop.cause stop.batches text h

    pub summed : (result : Result Verdict Stop) → SumsUp (change_of held held' of of') aim check.log.intake.batches (all_of (made_by sizes)) sizes result
        → HasMade (change_of held held' of of') aim sizes result
    summed result s = record { written = s.written; wrote = s.wrote; later = s.later; to = sum_to result s.written s.to }

  -- ---- a stop before its end

  not_refused : MadeRises aim sizes → (why : Refusal) (at : Option Prefix) → judged (rules_of aim) waiting (log_items (made_by sizes)) ≡ refused at why
      → (f : FormulaFault) × (names (made_by sizes).header ≡ Some f) × (why ≡ refusal.Formula f)
  not_refused rises why at is = go (names (made_by sizes).header) refl
    where
      go : (o : Option FormulaFault) → names (made_by sizes).header ≡ o → (f : FormulaFault) × (o ≡ Some f) × (why ≡ refusal.Formula f)
      go None e = absurd (refused_not at at why _ (all_of (made_by sizes)) is (made_whole rises e).whole)
      go (Some f) e =
          let both : refused at why ≡ refused None (refusal.Formula f) = sym is ∙ made_refused f e in
          (f, refl, cc)

  stop_of : MadeRises aim sizes → (f : StopCause) (n of of' : ℕ) → TakingStops f n aim (made_by sizes) → BenchStops f n (counts_of of of') aim sizes []
  stop_of rises (causes.Refused (refusal.Formula x)) n of of' h =
      let found = not_refused rises (refusal.Formula x) h.log h.is in
      let same : refusal.Formula x ≡ refusal.Formula found.0 = found.2 in
      let mine : found.0 ≡ x = cc in
      (found.1 ∙ ap (λ (y : FormulaFault). Some y) mine, refl, h.number ∙ ap batches_of (made_refused found.0 found.1))
  stop_of rises (causes.Refused (refusal.Log x)) n of of' h =
      let found = not_refused rises (refusal.Log x) h.log h.is in
      let same : refusal.Log x ≡ refusal.Formula found.0 = found.2 in
      absurd cc
  stop_of rises (causes.Refused (refusal.Import x)) n of of' h =
      let found = not_refused rises (refusal.Import x) h.log h.is in
      let same : refusal.Import x ≡ refusal.Formula found.0 = found.2 in
      absurd cc
  stop_of rises (causes.Refused (refusal.Merge x)) n of of' h =
      let found = not_refused rises (refusal.Merge x) h.log h.is in
      let same : refusal.Merge x ≡ refusal.Formula found.0 = found.2 in
      absurd cc
  stop_of rises causes.Write n of of' h = absurd h
  stop_of rises causes.Memory n of of' h = (refl, h)
  stop_of rises causes.Read n of of' h = absurd h

  pub made_stops : MadeRises aim sizes → (held : Option (List ℕ)) (of : ℕ) (stop : Stop) → TakingStops stop.cause stop.batches aim (made_by sizes) → HasMade (change_of held held of of) aim sizes (Err stop)
  made_stops rises held of stop t = record {
    written = [];
    wrote = Appends-nil held;
    later = omega arith;
    to = stop_of rises stop.cause stop.batches of of t;
  }

  pub made_short : (held : Option (List ℕ)) (of : ℕ) (stop : Stop) → stop ≡ record { batches = 0; cause = causes.Memory }
      → HasMade (change_of held held of of) aim sizes (Err stop)
  made_short held of stop is = subst (λ (s : Stop). HasMade (change_of held held of of) aim sizes (Err s)) (sym is) (record {
    written = [];
    wrote = Appends-nil held;
    later = omega arith;
    to = (refl, refl);
  })
