-- A batch behind a log, with its clocks.
use Rattle.std.proofs.Common.{◌≡◌, ℕ, zero, suc, ◌+◌, ◌≤◌, None, List, [], ◌∷◌, ◌++◌, length, map, sum, refl, sym, ap, subst, ◌∙◌, arith}
use Rattle.std.specs.List.{AllByRecursion}
use Rattle.event_log.specs.declared.item.LogFault.{LogFault}
use Rattle.event_log.specs.declared.log.Event.{Event}
use Rattle.event_log.specs.declared.log.Header.{Header}
use Rattle.event_log.specs.declared.log.Kind.{Kind}
use Rattle.event_log.specs.declared.log.Kind.TheVariants as kind
use Rattle.event_log.specs.LogText.{HeaderFits, EventFits, KindFits, KindWithin, event_count}
use Rattle.event_log.specs.States.{with_event, with_batch, with_batches}
use Rattle.event_log.proofs.Keeping.{sum_batch}
use Rattle.event_log.proofs.Lists.{all_push}
use Rattle.run_model.specs.Cut.{Clocks, lengths}
use Rattle.vector_clock.specs.Admitted.{HasAdmitted}
use Rattle.vector_clock.specs.Events.{Events, EventStands, BatchStands, BatchFits, no_events}
use Rattle.vector_clock.specs.Faults.{batch_fault, batches_fault}
use Rattle.vector_clock.specs.Events as clocks
use Rattle.vector_clock.specs.Filled.{is_left_out, filled_event, fill_from, clock_of}
use Rattle.vector_clock.specs.Events.{place}
use Rattle.std.specs.Prelude.{Bool, true, false, if◌then◌else◌}
use Rattle.vector_clock.proofs.Admitting.{filled_may_be_admitted}
use Rattle.vector_clock.proofs.BatchLaws.{events_stand}
use Rattle.vector_clock.proofs.Faultless.{chosen_none}
use Rattle.vector_clock.proofs.FilledBatches.{filled_fits, length-fill_from}
use Rattle.vector_clock.proofs.Growth.{length-clocks_of, lengths_of}
use Rattle.log_rules.specs.Judgement.{Prefix, followed_by, events_of, with_clocks, clock_fault}
use Rattle.log_rules.proofs.Orders.{with_batches-push, event_count_is}
use Rattle.log_trace.proofs.Following.{event_count-push}
use Rattle.log_writing.specs.Spelling.{CanBeSpelled}
use Rattle.filled_log.specs.declared.filling.Begun.{Begun}
use Rattle.filled_log.specs.Filling.{AreFaultless, HasLog}
use Rattle.filled_log.specs.inside.Filling.{IsBegunBy, MayComeBehind}

-- ---- how many events there are

no_sum : (n : ℕ) → sum (map (length {A = Event}) (no_events n)) ≡ 0
no_sum zero = refl
no_sum (suc n) = no_sum n

batches_sum : (ess : List (List Event)) (bs : List (List Event)) → sum (map length (with_batches ess bs)) ≤ sum (map length ess) + event_count bs
batches_sum ess [] = omega arith
batches_sum ess (b ∷ bs) = omega (arith, batches_sum (with_batch ess b) bs, sum_batch ess b)

-- ---- lines that can be spelled

within : (procs process : ℕ) (k : Kind) → KindFits procs process k → KindWithin procs k
within procs process kind.Internal fits = tt
within procs process (kind.Send to id) fits = fits.0
within procs process (kind.Receive sender id) fits = fits.0

spelled_event : (h : Header) (all before : Events) (e : Event) → EventFits h e → CanBeSpelled h (filled_event all before e)
spelled_event h all before e fits = go (is_left_out e)
  where
    go : (out : Bool) → CanBeSpelled h (if out then record e { clock = clock_of all (record { process = e.process; position = place before e }) } else e)
    go true = record { process = fits.process; peer = within (length h.procs) e.process e.kind fits.kind; assigns = fits.assigns }
    go false = record { process = fits.process; peer = within (length h.procs) e.process e.kind fits.kind; assigns = fits.assigns }

spelled_from : (h : Header) (all before : Events) (es : List Event) → AllByRecursion (EventFits h) es → AllByRecursion (CanBeSpelled h) (fill_from all before es)
unfolding fill_from
spelled_from h all before [] fits = tt
spelled_from h all before (e ∷ es) fits = (spelled_event h all before e fits.0, spelled_from h all (with_event before (filled_event all before e)) es fits.1)

-- ---- the first fault behind others

no_batches : (before : Events) → batches_fault before [] ≡ None
unfolding batches_fault
no_batches before = refl

first_none : (before : Events) (b : List Event) (bs : List (List Event)) → batch_fault before b ≡ None → batches_fault (with_batch before b) bs ≡ None → batches_fault before (b ∷ bs) ≡ None
unfolding batches_fault
first_none before b bs one rest = rw one rest

both_none : (before : Events) (b : List Event) (bs : List (List Event)) → batches_fault before (b ∷ bs) ≡ None → (batch_fault before b ≡ None) × (batches_fault (with_batch before b) bs ≡ None)
unfolding batches_fault
both_none before b bs none = chosen_none (batch_fault before b) (λ (f : LogFault). f) (batches_fault (with_batch before b) bs) none

behind_none : (before : Events) (bs : List (List Event)) (b : List Event) → batches_fault before bs ≡ None → batch_fault (with_batches before bs) b ≡ None → batches_fault before (bs ++ b ∷ []) ≡ None
behind_none before [] b none one = first_none before b [] one (no_batches (with_batch before b))
behind_none before (x ∷ bs) b none one =
    let parts = both_none before x bs none in
    first_none before x (bs ++ b ∷ []) parts.0 (behind_none (with_batch before x) bs b parts.1 one)

-- ---- a log that begins

pub begins_by : (h : Header) (begun : Begun) → HeaderFits h → begun.log.header ≡ h → begun.log.batches ≡ [] → HasAdmitted begun.clocks (no_events (length h.procs)) → IsBegunBy h begun
begins_by h begun fits header none admitted = record {
  fits = fits;
  log_is = rw (header, none) refl;
  admitted = admitted;
  spelled = tt;
  faultless = record { clocks = tt; faultless = no_batches (no_events (length h.procs)); events = omega arith };
}

-- ---- a batch more

module _ (begun : Begun) (log : Prefix) (batch : List Event) (has : HasLog begun log) (may : MayComeBehind log batch) where
  pub stands : BatchStands (length begun.clocks.order) (sum (lengths begun.clocks.order)) batch
  stands =
      let procs : length begun.clocks.order ≡ length log.header.procs = ap length has.admitted.order ∙ length-clocks_of (events_of log) ∙ event_count_is log in
      let total : sum (lengths begun.clocks.order) ≡ sum (map length (events_of log)) = ap (λ (o : Clocks). sum (lengths o)) has.admitted.order ∙ ap sum (lengths_of (events_of log)) in
      record {
        each = subst (λ (n : ℕ). AllByRecursion (EventStands n) batch) (sym procs) (events_stand log.header batch may.each);
        few = omega (arith, total, may.few, batches_sum (no_events (length log.header.procs)) log.batches, no_sum (length log.header.procs));
      }

  pub may_be_admitted : (full : List Event) → full ≡ with_clocks log batch → BatchFits (length begun.clocks.order) (sum (lengths begun.clocks.order)) full
  may_be_admitted full is = filled_may_be_admitted begun.clocks (events_of log) batch full has.admitted stands is

  placed : AllByRecursion (clocks.EventFits (length log.header.procs)) (with_clocks log batch)
  placed =
      subst (λ (n : ℕ). AllByRecursion (clocks.EventFits n) (with_clocks log batch)) (event_count_is log)
      (filled_fits (events_of log) batch (subst (λ (n : ℕ). AllByRecursion (EventStands n) batch) (sym (event_count_is log)) (events_stand log.header batch may.each)))

  faultless_more : clock_fault log (with_clocks log batch) ≡ None → AreFaultless (length log.header.procs) (log.batches ++ with_clocks log batch ∷ [])
  faultless_more none =
      let full = with_clocks log batch in
      record {
        clocks = all_push (AllByRecursion (clocks.EventFits (length log.header.procs))) log.batches full has.faultless.clocks placed;
        faultless = behind_none (no_events (length log.header.procs)) log.batches full has.faultless.faultless none;
        events = omega (arith, event_count-push log.batches full, length-fill_from (with_batch (events_of log) batch) (events_of log) batch, may.few);
      }

  pub followed : (now : Begun) (full : List Event) → clock_fault log (with_clocks log batch) ≡ None → full ≡ with_clocks log batch → now.log.header ≡ begun.log.header → now.log.batches ≡ begun.log.batches ++ full ∷ []
      → HasAdmitted now.clocks (with_batch (events_of log) full) → HasLog now (followed_by log (with_clocks log batch))
  followed now full none is header pushed admitted = record {
    fits = has.fits;
    log_is =
        rw (header, pushed, is) (ap (λ (p : Prefix). followed_by p (with_clocks log batch)) has.log_is);
    admitted = subst (HasAdmitted now.clocks) (sym (with_batches-push (no_events (length log.header.procs)) log.batches (with_clocks log batch))) (subst (λ (b : List Event). HasAdmitted now.clocks (with_batch (events_of log) b)) is admitted);
    spelled = all_push (AllByRecursion (CanBeSpelled log.header)) log.batches (with_clocks log batch) has.spelled (spelled_from log.header (with_batch (events_of log) batch) (events_of log) batch may.each);
    faultless = faultless_more none;
  }

  -- no fault of its clocks and messages was found
  pub extended : (now : Begun) (full slice : List Event) → slice ≡ full → full ≡ with_clocks log batch → (batch_fault (events_of log) slice ≡ None) × HasAdmitted now.clocks (with_batch (events_of log) slice)
      → now.log.header ≡ begun.log.header → now.log.batches ≡ begun.log.batches ++ full ∷ [] → (clock_fault log (with_clocks log batch) ≡ None) × HasLog now (followed_by log (with_clocks log batch))
  extended now full slice same is admits header pushed = (
    none,
    followed now full none is header pushed (subst (λ (b : List Event). HasAdmitted now.clocks (with_batch (events_of log) b)) same admits.1),
  )
    where
      none : clock_fault log (with_clocks log batch) ≡ None
      none = subst (λ (b : List Event). batch_fault (events_of log) b ≡ None) (same ∙ is) admits.0
