-- A log whose clocks are all written, as reading its text gives it.
use Rattle.std.proofs.Common.{◌≡◌, ℕ, ◌+◌, ◌^◌, ◌<◌, ◌≤◌, false, None, List, [], ◌∷◌, ◌++◌, length, map, refl, sym, ap, ap₂, subst, arith, inl}
use Rattle.std.specs.List.{AllByRecursion}
use Rattle.event_log.specs.Before.{Line}
use Rattle.event_log.specs.declared.log.Event.{Event}
use Rattle.event_log.specs.declared.log.Header.{Header}
use Rattle.event_log.specs.declared.log.Kind.{Kind}
use Rattle.event_log.specs.declared.log.Kind.TheVariants as kind
use Rattle.event_log.specs.LogText.{EventFits, EventsFit, BatchesFit, KindFits, KindWithin, LogFits, event_count, header_lines, event_lines, batch_lines, closing_line, text_of, log_text}
use Rattle.vector_clock.specs.Events as clocks
use Rattle.vector_clock.specs.Events.{AllFit, no_events}
use Rattle.vector_clock.specs.Faults.{log_fault}
use Rattle.vector_clock.specs.Filled.{filled_log}
use Rattle.vector_clock.proofs.FilledLogs.{written_log}
use Rattle.log_rules.specs.Judgement.{Prefix}
use Rattle.one_log.specs.Logging.{one_log}
use Rattle.one_log_laws.specs.inside.Lines.{without_line, without_lines, on_lines, batches_on_lines, first_header, as_read}
use Rattle.one_log_laws.proofs.Few.{IsSmall}
use Rattle.one_log_laws.proofs.Fine.{IsPlaced, IsFine, all_so}
use Rattle.one_log_laws.proofs.Lines.{on_other_lines}

-- ---- lists on lines

length-on_lines : (line : ℕ) (es : List Event) → length (on_lines line es) ≡ length es
length-on_lines line [] = refl
length-on_lines line (e ∷ es) = omega (arith, length-on_lines (line + 1) es)

count-on_lines : (line : ℕ) (bs : List (List Event)) → event_count (batches_on_lines line bs) ≡ event_count bs
count-on_lines line [] = refl
count-on_lines line (b ∷ bs) = omega (arith, length-on_lines line b, count-on_lines (line + length b + 1) bs)

some-on_lines : (line : ℕ) (bs : List (List Event)) → length (batches_on_lines line bs) ≡ length bs
some-on_lines line [] = refl
some-on_lines line (b ∷ bs) = omega (arith, some-on_lines (line + length b + 1) bs)

bare_events : (line : ℕ) (es : List Event) → map without_line es ≡ map without_line (on_lines line es)
bare_events line [] = refl
bare_events line (e ∷ es) = ap (λ (xs : List Event). without_line e ∷ xs) (bare_events (line + 1) es)

pub bare : (line : ℕ) (bs : List (List Event)) → without_lines bs ≡ without_lines (batches_on_lines line bs)
bare line [] = refl
bare line (b ∷ bs) = ap₂ (λ (x : List Event) (xs : List (List Event)). x ∷ xs) (bare_events line b) (bare (line + length b + 1) bs)

-- ---- the text

text_events : (h k : Header) (line : ℕ) (es : List Event) → k.procs ≡ h.procs → k.vars ≡ h.vars → event_lines k (on_lines line es) ≡ event_lines h es
text_events h k line [] procs vars = refl
text_events h k line (e ∷ es) procs vars = ap₂ (λ (x : Line) (xs : List Line). x ∷ xs) (rw (procs, vars) refl) (text_events h k (line + 1) es procs vars)

closing_same : (line : ℕ) (bs : List (List Event)) → closing_line (batches_on_lines line bs) ≡ closing_line bs
closing_same line [] = refl
closing_same line (b ∷ bs) = refl

text_batches : (h k : Header) (line : ℕ) (bs : List (List Event)) → k.procs ≡ h.procs → k.vars ≡ h.vars → batch_lines k (batches_on_lines line bs) ≡ batch_lines h bs
text_batches h k line [] procs vars = refl
text_batches h k line (b ∷ bs) procs vars =
    ap₂ (λ (xs ys : List Line). xs ++ ys) (text_events h k line b procs vars)
    (ap₂ (λ (x : Line) (xs : List Line). x ∷ xs) (closing_same (line + length b + 1) bs) (text_batches h k (line + length b + 1) bs procs vars))

pub same_text : (log : Prefix) → log_text (as_read log) ≡ log_text (one_log false log)
same_text log =
    ap (λ (ls : List Line). text_of (header_lines (first_header log.header) ++ ls))
    (text_batches (record log.header { version = 1 }) (first_header log.header) (length (header_lines (first_header log.header)) + 1) log.batches refl refl)

-- ---- it fits

module _ (log : Prefix) (fine : IsFine log) (small : IsSmall log) where
  abbrev Placed : Event → Type 0
  Placed e = IsPlaced log.header (event_count log.batches) e

  event_fits : (line : ℕ) (e : Event) → IsPlaced log.header (event_count log.batches) e → EventFits (first_header log.header) (record e { line = line })
  event_fits line e p = record {
    process = p.process;
    width = inl p.width;
    clock = all_so (λ n. n ≤ event_count log.batches) (λ n. n < 2 ^ 32) (λ n few. omega (arith, few, small.few)) e.clock p.clock;
    kind = p.kind;
    few = p.few;
    assigns = p.assigns;
    distinct = p.distinct;
  }

  events_fit : (line : ℕ) (es : List Event) → AllByRecursion (IsPlaced log.header (event_count log.batches)) es → EventsFit (first_header log.header) line (on_lines line es)
  events_fit line [] each = tt
  events_fit line (e ∷ es) each = ((event_fits line e each.0, refl), events_fit (line + 1) es each.1)

  batches_fit : (line : ℕ) (bs : List (List Event)) → AllByRecursion (AllByRecursion (IsPlaced log.header (event_count log.batches))) bs → BatchesFit (first_header log.header) line (batches_on_lines line bs)
  batches_fit line [] each = tt
  batches_fit line (b ∷ bs) each = (
    events_fit line b each.0,
    subst (λ (n : ℕ). BatchesFit (first_header log.header) (line + n + 1) (batches_on_lines (line + length b + 1) bs)) (sym (length-on_lines line b)) (batches_fit (line + length b + 1) bs each.1),
  )

  pub log_fits : LogFits (as_read log)
  log_fits =
      let line = length (header_lines (first_header log.header)) + 1 in
      record {
        header = record { version = inl refl; procs = fine.header.procs; all = fine.header.all; vars = fine.header.vars };
        some = omega (arith, some-on_lines line log.batches, small.some);
        batches = batches_fit line log.batches fine.each;
        few = omega (arith, count-on_lines line log.batches, small.few);
      }

  -- ---- it has no fault

  pub faultless : log_fault (as_read log) ≡ None
  faultless =
      let line = length (header_lines (first_header log.header)) + 1 in
      on_other_lines (no_events (length log.header.procs)) log.batches (batches_on_lines line log.batches) (bare line log.batches) fine.faultless

  -- ---- no clock is left out

  within : (procs process : ℕ) (k : Kind) → KindFits procs process k → KindWithin procs k
  within procs process kind.Internal fits = tt
  within procs process (kind.Send to id) fits = fits.0
  within procs process (kind.Receive sender id) fits = fits.0

  events_written : (line : ℕ) (es : List Event) → AllByRecursion (IsPlaced log.header (event_count log.batches)) es → AllByRecursion (clocks.EventFits (length log.header.procs)) (on_lines line es)
  events_written line [] each = tt
  events_written line (e ∷ es) each = (
    record {
      clock = record { process = each.0.process; width = each.0.width };
      peer = within (length log.header.procs) e.process e.kind each.0.kind;
    },
    events_written (line + 1) es each.1,
  )

  batches_written : (line : ℕ) (bs : List (List Event)) → AllByRecursion (AllByRecursion (IsPlaced log.header (event_count log.batches))) bs → AllFit (length log.header.procs) (batches_on_lines line bs)
  batches_written line [] each = tt
  batches_written line (b ∷ bs) each = (events_written line b each.0, batches_written (line + length b + 1) bs each.1)

  pub filled_already : filled_log (as_read log) ≡ as_read log
  filled_already =
      let line = length (header_lines (first_header log.header)) + 1 in
      ap (λ (bs : List (List Event)). record { header = first_header log.header; batches = bs })
      (written_log (length log.header.procs) (no_events (length log.header.procs)) (batches_on_lines line log.batches) fine.header.procs.some (batches_written line log.batches fine.each))
