-- A log of one batch.
use Rattle.std.proofs.Common.{◌≡◌, ℕ, ◌+◌, ◌≤◌, List, [], ◌∷◌, ◌++◌, length, refl, sym, ap, subst, ◌∙◌, arith}
use Rattle.std.specs.Prelude.{Result, OnOk}
use Rattle.std.specs.List.{AllByRecursion}
use Rattle.std.proofs.lemmas.List.{length_push, nil_from_length}
use Rattle.pota_base.specs.declared.fault.Refused.{Refused}
use Rattle.pota_base.specs.Limits.{most_events}
use Rattle.event_log.specs.declared.item.LogFault.{LogFault}
use Rattle.event_log.specs.declared.log.Log.{Log}
use Rattle.vector_clock.specs.Admitted.{IfFault}
use Rattle.vector_clock.proofs.Admitting.{on_ok, if_fault}
use Rattle.event_log.specs.declared.item.Item.TheVariants as item
use Rattle.event_log.specs.declared.log.Event.{Event}
use Rattle.event_log.specs.declared.log.Header.{Header}
use Rattle.event_log.specs.FittingItems.{FitFrom, FitFirst}
use Rattle.event_log.specs.LogText.{EventFits, event_items, log_items}
use Rattle.log_rules.specs.Judgement.{Prefix, Judgement, waiting, growing, opened, judge, judged}
use Rattle.log_rules.proofs.Logs.{judged-batch}
use Rattle.log_trace.specs.Judging.{without_formula, IsRefused, MayFollow}
use Rattle.filled_log.specs.declared.filling.FilledLog.{FilledLog}
use Rattle.filled_log.specs.Filling.{Keeps}

abbrev pub first_of : Header → Prefix
first_of h = record { header = h; batches = [] }

-- its events fit
record Fit (h : Header) (n : ℕ) (b : List Event) : Type 0 where
  each : AllByRecursion (EventFits h) b
  few : n ≤ most_events → n + length b ≤ most_events

fit_of : (h : Header) (n : ℕ) (b : List Event) → FitFrom h n (event_items b ++ item.End ∷ []) → Fit h n b
fit_of h n [] fit = record { each = tt; few = λ k. omega (arith, k) }
fit_of h n (e ∷ es) fit =
    let rest = fit_of h (n + 1) es fit.2 in
    record { each = (fit.0, rest.each); few = λ k. let m = rest.few (omega (arith, fit.1)) in omega (arith, m) }

-- its judgement is that of its end
pub whole_judged : (h : Header) (b : List Event) → judged without_formula waiting (log_items (record { header = h; batches = b ∷ [] })) ≡ judge without_formula (growing (first_of h) b) item.End
unfolding judged
whole_judged h b = judged-batch without_formula (first_of h) b []

-- the header came, and with it all events
pub ready : (h : Header) (b : List Event) (kept : FilledLog) → FitFirst (log_items (record { header = h; batches = b ∷ [] })) → Keeps kept (opened without_formula h)
    → Keeps (record kept { since = b }) (growing (first_of h) b) × MayFollow (growing (first_of h) b) (item.End ∷ [])
ready h b kept fit is =
    let fits = fit_of h 0 b fit.1 in
    let few = fits.few (omega arith) in (
      (
        record { begun = is.0.begun; is = is.0.is; has = is.0.has },
        record { since_is = refl; open_ = is.1.open_; each = fits.each; few = omega (arith, few) },
      ),
      tt,
    )

-- the one that was taken out is all
pub only : (all given rest : List (List Event)) (b : List Event) → length all ≡ 1 → given ≡ all → given ≡ rest ++ b ∷ [] → all ≡ b ∷ []
only all given rest b one is split =
    let long : length rest + 1 ≡ 1 = sym (length_push rest b) ∙ ap length (sym split ∙ is) ∙ one in
    sym is ∙ split ∙ ap (λ (xs : List (List Event)). xs ++ b ∷ []) (nil_from_length rest (omega (arith, long)))

module _ (log : Log) (b : List Event) (kept : FilledLog) (is : log.batches ≡ b ∷ []) (fit : FitFirst (log_items log)) (began : Keeps kept (opened without_formula log.header)) where
  items_are : log_items log ≡ log_items (record { header = log.header; batches = b ∷ [] })
  items_are = ap (λ (bs : List (List Event)). log_items (record { header = log.header; batches = bs })) is

  whole_so : judged without_formula waiting (log_items log) ≡ judge without_formula (growing (first_of log.header) b) item.End
  whole_so = ap (judged without_formula waiting) items_are ∙ whole_judged log.header b

  are_ready : Keeps (record kept { since = b }) (growing (first_of log.header) b) × MayFollow (growing (first_of log.header) b) (item.End ∷ [])
  are_ready = ready log.header b kept (subst FitFirst items_are fit) began

  pub may_close : (j : Judgement) × Keeps (record kept { since = b }) j × MayFollow j (item.End ∷ [])
  may_close = (growing (first_of log.header) b, are_ready.0, are_ready.1)

  pub closed : (now : FilledLog) (r : Result (Unit {0}) (Refused LogFault))
      → OnOk r ((j : Judgement) → Keeps (record kept { since = b }) j → MayFollow j (item.End ∷ []) → Keeps now (judge without_formula j item.End))
      → OnOk r (Keeps now (judged without_formula waiting (log_items log)))
  closed now r came = on_ok r (λ f. subst (Keeps now) (sym whole_so) (f (growing (first_of log.header) b) are_ready.0 are_ready.1)) came

  pub not_closed : (r : Result (Unit {0}) (Refused LogFault))
      → IfFault r (λ f. (j : Judgement) → Keeps (record kept { since = b }) j → MayFollow j (item.End ∷ []) → IsRefused (judge without_formula j item.End) f)
      → IfFault r (IsRefused (judged without_formula waiting (log_items log)))
  not_closed r came = if_fault r (λ f g. subst (λ (j : Judgement). IsRefused j f) (sym whole_so) (g (growing (first_of log.header) b) are_ready.0 are_ready.1)) came
