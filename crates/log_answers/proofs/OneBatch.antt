-- What a log that stands whole leads to.
use Rattle.std.proofs.Common.{◌≡◌, ℕ, Bool, false, Option, Some, None, Result, Ok, Err, List, [], ◌∷◌, ◌++◌, length, refl, sym, ap, subst, ◌∙◌, arith, append_assoc, append-nil}
use Rattle.std.proofs.KnownBytes.{Appends-nil}
use Rattle.std.proofs.lemmas.Option.{none-some, same_Some}
use Rattle.pota_base.specs.Changes.{change_of, counts_of}
use Rattle.log_lines.specs.Reading.{choose}
use Rattle.rctl_grammar.specs.declared.fault.FormulaFault.{FormulaFault}
use Rattle.event_log.specs.declared.item.Item.{Item}
use Rattle.event_log.specs.declared.item.Item.TheVariants as item
use Rattle.event_log.specs.declared.item.LogFault.{LogFault}
use Rattle.event_log.specs.declared.log.Event.{Event}
use Rattle.event_log.specs.declared.log.Header.{Header}
use Rattle.event_log.specs.declared.log.Log.{Log}
use Rattle.event_log.specs.LogText.{event_items, batch_items, log_items}
use Rattle.fault_kinds.specs.declared.refusal.Refusal.TheVariants as refusal
use Rattle.log_rules.specs.Judgement.{Prefix, followed_by, with_clocks, Rules, Judgement, waiting, growing, finished, refused, closing, judged}
use Rattle.log_rules.specs.Due.{whole_of}
use Rattle.log_rules.proofs.Items.{prefix_at, refused-stays}
use Rattle.reported_log.specs.Aims.{Says, Aim, rules_of}
use Rattle.reported_log.specs.Checking.{IsCheckOf, IsFree, HasClosed}
use Rattle.reported_log.specs.declared.reported.ReportedLog.{ReportedLog}
use Rattle.log_answers.specs.Asking.{reached_of}
use Rattle.log_answers.specs.declared.stop.StopCause.{StopCause}
use Rattle.log_answers.specs.declared.stop.StopCause.TheVariants as causes
use Rattle.log_answers.specs.declared.stop.Stop.{Stop}
use Rattle.log_answers.specs.declared.stop.Verdict.{Verdict}
use Rattle.log_answers.specs.Checking.{AreReportsFor, HasFrontOf, ReportStops, ReportsTo, Reports}
use Rattle.log_answers.specs.Whole.{judgement_on, TakingStops, WholeStops, WholeTo, HasWhole}

-- ---- where it isn't refused it is whole

judged-events : (rules : Rules) (log : Prefix) (since es : List Event) (rest : List Item)
    → judged rules (growing log since) (event_items es ++ rest) ≡ judged rules (growing log (since ++ es)) rest
unfolding judged
judged-events rules log since [] rest = ap (λ (xs : List Event). judged rules (growing log xs) rest) (sym (append-nil since))
judged-events rules log since (e ∷ es) rest =
    judged-events rules log (since ++ e ∷ []) es rest
    ∙ ap (λ (xs : List Event). judged rules (growing log xs) rest) (append_assoc since (e ∷ []) es)

judged-end : (rules : Rules) (log : Prefix) (b : List Event)
    → judged rules (growing log b) (item.End ∷ []) ≡ closing rules log (with_clocks log b) (finished log (with_clocks log b))
unfolding judged
judged-end rules log b = refl

abbrev IsDone : Judgement → Type 0
IsDone j = (log : Prefix) × (whole_of j ≡ Some log)

closed_done : (log : Prefix) (batch : List Event) (o : Option LogFault)
    → IsFree (choose o (λ f. refused (Some log) (refusal.Log f)) (finished log batch)) → IsDone (choose o (λ f. refused (Some log) (refusal.Log f)) (finished log batch))
closed_done log batch None free = (followed_by log batch, refl)
closed_done log batch (Some f) free = absurd free

batch_done : (rules : Rules) (log : Prefix) (b : List Event) → IsFree (judged rules (growing log []) (batch_items (b ∷ [])))
    → IsDone (judged rules (growing log []) (batch_items (b ∷ [])))
batch_done rules log b free =
    let full = with_clocks log b in
    let same = judged-events rules log [] b (item.End ∷ []) ∙ judged-end rules log b in
    subst IsDone (sym same) (closed_done log full (rules.batch log full) (subst IsFree same free))

opened_done : (rules : Rules) (h : Header) (b : List Event) (o : Option FormulaFault)
    → IsFree (judged rules (choose o (λ f. refused None (refusal.Formula f)) (growing (prefix_at h []) [])) (batch_items (b ∷ [])))
    → IsDone (judged rules (choose o (λ f. refused None (refusal.Formula f)) (growing (prefix_at h []) [])) (batch_items (b ∷ [])))
opened_done rules h b None free = batch_done rules (prefix_at h []) b free
opened_done rules h b (Some f) free = absurd (subst IsFree (refused-stays rules None (refusal.Formula f) (batch_items (b ∷ []))) free)

header_done : (rules : Rules) (h : Header) (b : List Event) → IsFree (judged rules waiting (item.Header h ∷ batch_items (b ∷ [])))
    → IsDone (judged rules waiting (item.Header h ∷ batch_items (b ∷ [])))
unfolding judged
header_done rules h b free = opened_done rules h b (rules.names h) free

batches_done : (rules : Rules) (h : Header) (bs : List (List Event)) → length bs ≡ 1 → IsFree (judged rules waiting (item.Header h ∷ batch_items bs))
    → IsDone (judged rules waiting (item.Header h ∷ batch_items bs))
batches_done rules h [] one free = absurd (omega (arith, one))
batches_done rules h (b ∷ []) one free = header_done rules h b free
batches_done rules h (b ∷ c ∷ bs) one free = absurd (omega (arith, one))

pub whole_done : (rules : Rules) (log : Log) → length log.batches ≡ 1 → IsFree (judged rules waiting (log_items log))
    → (whole : Prefix) × (whole_of (judged rules waiting (log_items log)) ≡ Some whole)
whole_done rules log one free = batches_done rules log.header log.batches one free

pub whole_closed : (j : Judgement) (log : Prefix) → whole_of j ≡ Some log → HasClosed j log
whole_closed waiting log h = absurd (none-some log h)
whole_closed (growing so_far since) log h = absurd (none-some log h)
whole_closed (finished so_far last) log h = sym (same_Some (followed_by so_far last) log h)
whole_closed (refused so_far why) log h = absurd (none-some log h)

-- ---- its report was to be written

-- no report, and no text
no_text : (aim : Aim) (text : List ℕ) (n : ℕ) → HasFrontOf aim [] text n → text ≡ []
no_text aim text n h = go h.front h.are h.texts
  where
    go : (front : List Prefix) → [] ≡ front ++ h.rest → AreReportsFor aim front text → text ≡ []
    go [] e texts = texts
    go (p ∷ front) e texts = absurd cc

pub whole_stops : (aim : Aim) (log : Log) (held : Option (List ℕ)) (of : ℕ) (stop : Stop) → TakingStops stop.cause stop.batches aim log → HasWhole (change_of held held of of) aim log (Err stop)
whole_stops aim log held of stop t = record {
  written = [];
  wrote = Appends-nil held;
  later = omega arith;
  to = go stop.cause stop.batches t;
}
  where
    go : (f : StopCause) (n : ℕ) → TakingStops f n aim log → WholeStops f n (counts_of of of) aim log []
    go (causes.Refused why) n h = record { before = h.log; is = h.is; nothing = refl; count = h.number }
    go causes.Memory n h = (refl, h)
    go causes.Write n h = absurd h
    go causes.Read n h = absurd h

module _ {X : Type 0} {P : X → Type 0} (says : Says X P) (aim : Aim) (log : Log) where
  module _ (one : length log.batches ≡ 1) (check : ReportedLog X P) (taken : IsCheckOf says aim check (judgement_on aim log)) where
    whole : (p : Prefix) × (whole_of (judgement_on aim log) ≡ Some p)
    whole = whole_done (rules_of aim) log one taken.log.free

    closed : HasClosed (judgement_on aim log) whole.0
    closed = whole_closed (judgement_on aim log) whole.0 whole.1

    pub some_whole : (j : Judgement) × (p : Prefix) × IsCheckOf says aim check j × HasClosed j p
    some_whole = (judgement_on aim log, whole.0, taken, closed)

    module _ (held held' : Option (List ℕ)) (of of' : ℕ) where
      report_stops : (f : StopCause) (n : ℕ) (text : List ℕ) → ReportStops f n (counts_of of of') aim (reached_of [] whole.0) text → WholeStops f n (counts_of of of') aim log text
      report_stops causes.Write n text h = (record { whole = whole.0; is = whole.1; part = h.0 }, h.1)
      report_stops causes.Memory n text h = (no_text aim text n h, h.count)
      report_stops (causes.Refused r) n text h = absurd h
      report_stops causes.Read n text h = absurd h

      reported : (result : Result Verdict Stop) (text : List ℕ) → ReportsTo (counts_of of of') aim check.log.intake.batches (reached_of [] whole.0) text result → WholeTo (counts_of of of') aim log text result
      reported (Ok v) text to = record { whole = whole.0; is = whole.1; texts = to.0; truth = to.1; count = to.2 ∙ taken.log.intake.batches }
      reported (Err stop) text to = report_stops stop.cause stop.batches text to

      pub whole_reported : (result : Result Verdict Stop)
          → ((j : Judgement) (p : Prefix) → IsCheckOf says aim check j → HasClosed j p → (before : List Prefix) (text : List ℕ) → AreReportsFor aim before text
          → Reports (change_of held held' of of') aim check.log.intake.batches (reached_of before p) text result)
          → HasWhole (change_of held held' of of') aim log result
      whole_reported result reports =
          let r = reports (judgement_on aim log) whole.0 taken closed [] [] refl in
          record { written = r.written; wrote = r.wrote; later = r.later; to = reported result r.written r.to }
