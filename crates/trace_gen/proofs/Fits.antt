-- The log that is made has a text.
use Rattle.std.proofs.Common.{◌≡◌, ℕ, zero, suc, ◌+◌, ◌^◌, ◌<◌, ◌≤◌, true, List, [], ◌∷◌, length, map, replicate, refl, sym, ap, ◌∙◌, subst, arith, inl, inr}
use Rattle.std.specs.Prelude.{pos, None, FitsSigned}
use Rattle.std.specs.Int.{w64}
use Rattle.std.specs.List.{AllByRecursion}
use Rattle.std.proofs.lemmas.Int.{ints}
use Rattle.std.proofs.lemmas.List.{length-replicate, get_or-replicate}
use Rattle.run_model.specs.Cut.{Cut, count}
use Rattle.pota_base.specs.Limits.{most_events, most_processes, most_variables}
use Rattle.log_lines.specs.Names.{are_distinct}
use Rattle.log_lines.specs.Spelling.{names_of}
use Rattle.event_log.specs.declared.log.Assign.{Assign}
use Rattle.event_log.specs.declared.log.Binding.{Binding}
use Rattle.event_log.specs.declared.log.Event.{Event}
use Rattle.event_log.specs.declared.log.Header.{Header}
use Rattle.event_log.specs.LogText.{named, vars_lines, BindingsFit, HeaderFits, KindFits, AssignFits, EventFits, EventsFit, LogFits}
use Rattle.event_log.specs.Numbers.{variables_at}
use Rattle.event_log.specs.States.{with_event}
use Rattle.causal_order.proofs.Growing.{count-lengths}
use Rattle.vector_clock.specs.Events.{Events, clocks_of, no_events}
use Rattle.vector_clock.specs.Faults.{log_fault}
use Rattle.vector_clock.specs.Filled.{filled_log}
use Rattle.vector_clock.proofs.BatchLaws.{all_fit}
use Rattle.vector_clock.proofs.FilledLogs.{written_log}
use Rattle.vector_clock.proofs.Growth.{length-clocks_of, own_count}
use Rattle.trace_gen.specs.Words.{word, first_state, next_state}
use Rattle.trace_gen.specs.Making.{Processes, position_is, seen_is, made}
use Rattle.trace_gen.specs.Generated.{names_from, opening, header_of, events_from, at_rest, generated}
use Rattle.trace_gen.proofs.Steps.{Going}
use Rattle.trace_gen.proofs.Choices.{HasAssigns, IsMadeWell, made_well}
use Rattle.trace_gen.proofs.Clear.{length-names, start_going, no_log_fault}
use Rattle.trace_gen.proofs.Naming.{names_distinct, names_are}

-- ---- the header

small_fits : (n : ℕ) → n ≤ most_events + 1 → FitsSigned w64 (pos n)
small_fits n low = omega (arith, ints)

opening_fits : BindingsFit opening
opening_fits = record { few = omega arith; each = (record { name = refl; value = small_fits 0 (omega arith) }, (record { name = refl; value = small_fits 0 (omega arith) }, tt)); distinct = refl }

all_openings : (n : ℕ) → AllByRecursion BindingsFit (replicate n opening)
all_openings zero = tt
all_openings (suc n) = (opening_fits, all_openings n)

pub header_fits : (procs : ℕ) → 1 ≤ procs → procs ≤ most_processes → HeaderFits (header_of procs)
header_fits procs some few = record {
  version = inl refl;
  procs = record {
    some = omega (arith, length-names 0 procs);
    few = omega (arith, length-names 0 procs);
    each = names_are 0 procs (omega arith);
    distinct = names_distinct procs few;
  };
  all = length-replicate procs opening ∙ sym (length-names 0 procs);
  vars = all_openings procs;
}

pub length-vars : (i n : ℕ) → length (vars_lines (names_from i n) (replicate n opening)) ≡ n
length-vars i zero = refl
length-vars i (suc n) = omega (arith, length-vars (i + 1) n)

-- ---- an event

all_low : (c : Cut) (bound : ℕ) → bound < 2 ^ 32 → ((j : ℕ) → count c j ≤ bound) → AllByRecursion (λ n. n < 2 ^ 32) c
all_low [] bound low h = tt
all_low (x ∷ c) bound low h = (omega (arith, h 0), all_low c bound low (λ j. h (suc j)))

assigns_fit : (k : ℕ) (assigns : List Assign) → k < most_events → HasAssigns k assigns → (length assigns ≤ most_variables) × AllByRecursion (AssignFits opening) assigns
    × (are_distinct (names_of (map (named opening) assigns)) ≡ true)
assigns_fit k assigns limit has = elim has.are [
  | inl is ↦ subst Fit (sym is) (omega arith, (n_fits, tt), refl)
  | inr is ↦ subst Fit (sym is) (omega arith, (n_fits, (seen_fits, tt)), refl)
]
  where
    Fit : List Assign → Type 0
    Fit list = (length list ≤ most_variables) × AllByRecursion (AssignFits opening) list × (are_distinct (names_of (map (named opening) list)) ≡ true)

    n_fits : AssignFits opening (position_is has.n)
    n_fits = record { variable = omega arith; value = small_fits has.n (omega (arith, has.n_low)) }

    seen_fits : AssignFits opening (seen_is has.seen)
    seen_fits = record { variable = omega arith; value = small_fits has.seen (omega (arith, has.seen_low)) }

module _ (procs : ℕ) (some : 1 ≤ procs) (few : procs ≤ most_processes) where
  abbrev h : Header
  h = header_of procs

  pub vars_at : (i : ℕ) → i < procs → variables_at h.vars i ≡ opening
  vars_at i lt = get_or-replicate procs i opening [] lt

  -- a clock has a count for each process
  pub event_width : (before : Events) (k w : ℕ) (ps : Processes) → IsMadeWell procs before k (made procs k w ps) → length (made procs k w ps).event.clock ≡ procs
  event_width before k w ps well = well.past.shaped ∙ length-clocks_of (with_event before (made procs k w ps).event) ∙ well.goes.tables

  pub event_fits : (before : Events) (k w : ℕ) (ps : Processes) → k < most_events → IsMadeWell procs before k (made procs k w ps) → EventFits h (made procs k w ps).event
  event_fits before k w ps limit well =
      let e = (made procs k w ps).event in
      let after = with_event before e in
      let fit = assigns_fit k e.assigns limit well.assigns in
      record {
        process = omega (arith, well.there, length-names 0 procs);
        width = inl (event_width before k w ps well ∙ sym (length-names 0 procs));
        clock = all_low e.clock (k + 1) (omega arith) (λ j. omega (arith, well.past.within j, count-lengths (clocks_of after) j, own_count after j, well.goes.few j));
        kind = subst (λ n. KindFits n e.process e.kind) (sym (length-names 0 procs)) (well.kind limit);
        few = fit.0;
        assigns = subst (λ (vars : List Binding). AllByRecursion (AssignFits vars) e.assigns) (sym (vars_at e.process well.there)) fit.1;
        distinct = subst (λ (vars : List Binding). are_distinct (names_of (map (named vars) e.assigns)) ≡ true) (sym (vars_at e.process well.there)) fit.2;
      }

  events_fit : (n k s line : ℕ) (before : Events) (ps : Processes) → k + n ≤ most_events → line ≡ procs + 3 + k → Going procs before k ps → EventsFit h line (events_from procs k n s ps)
  unfolding events_from
  events_fit zero k s line before ps limit here going = tt
  events_fit (suc n) k s line before ps limit here going =
      let x = made procs k (word s) ps in
      let well = made_well procs before k (word s) ps some going in (
        (event_fits before k (word s) ps (omega arith) well, well.line ∙ sym here),
        events_fit n (k + 1) (next_state s) (line + 1) (with_event before x.event) x.processes (omega arith) (omega arith) well.goes,
      )

  pub length-events : (n k s : ℕ) (ps : Processes) → length (events_from procs k n s ps) ≡ n
  unfolding events_from
  length-events zero k s ps = refl
  length-events (suc n) k s ps = omega (arith, length-events n (k + 1) (next_state s) (made procs k (word s) ps).processes)

  pub log_fits : (seed events : ℕ) → events ≤ most_events → LogFits (generated seed procs events)
  log_fits seed events limit = record {
    header = header_fits procs some few;
    some = omega arith;
    batches = (events_fit events 0 (first_state seed) _ (no_events procs) (at_rest procs) (omega arith) (omega (arith, length-vars 0 procs)) (start_going procs), tt);
    few = omega (arith, length-events events 0 (first_state seed) (at_rest procs));
  }

  -- no clock is left out
  pub all_written : (seed events : ℕ) → events ≤ most_events → filled_log (generated seed procs events) ≡ generated seed procs events
  all_written seed events limit =
      let log = generated seed procs events in
      let fits = log_fits seed events limit in
      ap (λ (batches : List (List Event)). record { header = log.header; batches = batches })
      (written_log (length log.header.procs) (no_events (length log.header.procs)) log.batches fits.header.procs.some (all_fit log.header _ log.batches refl fits.batches))

  pub filled_clean : (seed events : ℕ) → events ≤ most_events → log_fault (filled_log (generated seed procs events)) ≡ None
  filled_clean seed events limit = ap log_fault (all_written seed events limit) ∙ no_log_fault seed procs events some
