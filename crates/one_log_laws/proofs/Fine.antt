-- What is known of a log that was judged without a fault, its clocks filled in.
use Rattle.std.proofs.Common.{◌≡◌, ℕ, zero, suc, ◌+◌, ◌<◌, ◌≤◌, Bool, true, false, Option, Some, None, List, [], ◌∷◌, ◌++◌, length, map, sum, refl, sym, ap, subst, ◌∙◌, arith}
use Rattle.std.specs.Prelude.{if◌then◌else◌}
use Rattle.std.specs.List.{AllByRecursion}
use Rattle.std.proofs.lemmas.List.Sums.{sum_by-cons}
use Rattle.log_lines.specs.Names.{are_distinct}
use Rattle.log_lines.specs.Spelling.{names_of}
use Rattle.log_lines.specs.Reading.{choose}
use Rattle.run_model.specs.Cut.{Cut, count, lengths, IsWithin}
use Rattle.pota_base.specs.Limits.{most_variables}
use Rattle.event_log.specs.declared.item.LogFault.{LogFault}
use Rattle.event_log.specs.declared.log.Event.{Event}
use Rattle.event_log.specs.declared.log.Header.{Header}
use Rattle.event_log.specs.LogText.{HeaderFits, EventFits, KindFits, AssignFits, named, event_count}
use Rattle.event_log.specs.Numbers.{variables_at}
use Rattle.event_log.specs.States.{with_event, with_batch, with_batches}
use Rattle.event_log.proofs.Keeping.{sum_batch}
use Rattle.event_log.proofs.Lists.{all_push}
use Rattle.vector_clock.specs.Events as clocks
use Rattle.vector_clock.specs.Events.{Events, EventStands, clocks_of, place, no_events}
use Rattle.vector_clock.specs.Faults.{event_fault, message_fault, clock_fault, at_line, fault_from, batch_fault, batches_fault}
use Rattle.vector_clock.specs.Filled.{is_left_out, filled_event, fill_from, clock_of}
use Rattle.vector_clock.proofs.BatchLaws.{events_stand}
use Rattle.vector_clock.proofs.Faultless.{chosen_none, no_fault_right, dangles_not}
use Rattle.vector_clock.proofs.FilledBatches.{filled_fits}
use Rattle.vector_clock.proofs.Growth.{lengths_of}
use Rattle.counter_preds.proofs.Staying.{none_without}
use Rattle.log_rules.specs.Judgement as judgement
use Rattle.log_rules.specs.Judgement.{Prefix, followed_by, events_of, states_of, with_clocks}
use Rattle.log_rules.proofs.Items.{prefix_at}
use Rattle.log_rules.proofs.Orders.{with_batches-push, event_count_is}
use Rattle.log_rules.proofs.Sound.{Follows}
use Rattle.log_trace.specs.Judging.{without_formula}
use Rattle.log_trace.proofs.Following.{event_count-push}
use Rattle.one_log_laws.proofs.Lines.{batches_none, batches_cons, batches_parts}

-- an event with its clock, of which no count is above this
pub record IsPlaced (h : Header) (most : ℕ) (e : Event) : Type 0 where
  pub process : e.process < length h.procs
  pub width : length e.clock ≡ length h.procs
  pub clock : AllByRecursion (λ n. n ≤ most) e.clock
  pub kind : KindFits (length h.procs) e.process e.kind
  pub few : length e.assigns ≤ most_variables
  pub assigns : AllByRecursion (AssignFits (variables_at h.vars e.process)) e.assigns
  pub distinct : are_distinct (names_of (map (named (variables_at h.vars e.process)) e.assigns)) ≡ true

pub record IsFine (log : Prefix) : Type 0 where
  pub header : HeaderFits log.header
  pub each : AllByRecursion (AllByRecursion (IsPlaced log.header (event_count log.batches))) log.batches
  pub faultless : batches_fault (no_events (length log.header.procs)) log.batches ≡ None

-- ---- all that is known of each

pub all_so : {X : Type 0} (P Q : X → Type 0) → ((x : X) → P x → Q x) → (xs : List X) → AllByRecursion P xs → AllByRecursion Q xs
all_so P Q f [] each = tt
all_so P Q f (x ∷ xs) each = (f x each.0, all_so P Q f xs each.1)

placed_more : (h : Header) (n m : ℕ) → n ≤ m → (e : Event) → IsPlaced h n e → IsPlaced h m e
placed_more h n m le e p = record {
  process = p.process;
  width = p.width;
  clock = all_so (λ k. k ≤ n) (λ k. k ≤ m) (λ k small. omega (arith, le, small)) e.clock p.clock;
  kind = p.kind;
  few = p.few;
  assigns = p.assigns;
  distinct = p.distinct;
}

-- ---- counts of a clock

-- a list of which each count is within a bound
pub within_all : (c : Cut) (most : ℕ) → ((j : ℕ) → count c j ≤ most) → AllByRecursion (λ n. n ≤ most) c
within_all [] most within = tt
within_all (x ∷ c) most within = (within 0, within_all c most (λ j. within (suc j)))

pub count_sum : (c : Cut) (j : ℕ) → count c j ≤ sum c
count_sum [] j = omega arith
count_sum (x ∷ c) zero = let all : sum (x ∷ c) ≡ x + sum c = sum_by-cons (λ (n : ℕ). n) x c in omega (arith, all)
count_sum (x ∷ c) (suc j) = let all : sum (x ∷ c) ≡ x + sum c = sum_by-cons (λ (n : ℕ). n) x c in omega (arith, all, count_sum c j)

pub no_sum : (n : ℕ) → sum (map (length {A = Event}) (no_events n)) ≡ 0
no_sum zero = refl
no_sum (suc n) = no_sum n

pub batches_sum : (ess : Events) (bs : List (List Event)) → sum (map length (with_batches ess bs)) ≤ sum (map length ess) + event_count bs
batches_sum ess [] = omega arith
batches_sum ess (b ∷ bs) = omega (arith, batches_sum (with_batch ess b) bs, sum_batch ess b)

-- ---- no event names one that isn't there

-- of these events each has a clock within those that are there
pub named_there : (before all : Events) (es : List Event) → fault_from before all es ≡ None → AllByRecursion (λ (e : Event). IsWithin e.clock (lengths (clocks_of all))) es
unfolding fault_from
named_there before all [] none = tt
named_there before all (e ∷ es) none =
    let parts = chosen_none (event_fault before all e) (at_line e) (fault_from (with_event before e) all es) none in
    let own = chosen_none (clock_fault (clocks_of all) (place before e) e) (λ f. f) (message_fault before all e) parts.0 in
    let right = no_fault_right (clocks_of all) (place before e) e own.0 in
    (dangles_not (clocks_of all) e right.dangling, named_there (with_event before e) all es parts.1)

-- ---- a batch that is filled

-- what filling leaves as it was
module _ (h : Header) (most : ℕ) where
  abbrev Filled : Event → Type 0
  Filled e = clocks.EventFits (length h.procs) e

  place_event : (all before : Events) (e : Event) → EventFits h e → Filled (filled_event all before e) → AllByRecursion (λ n. n ≤ most) (filled_event all before e).clock → IsPlaced h most (filled_event all before e)
  place_event all before e fits = go (is_left_out e)
    where
      given : Bool → Event
      given out = if out then record e { clock = clock_of all (record { process = e.process; position = place before e }) } else e

      go : (out : Bool) → Filled (given out) → AllByRecursion (λ n. n ≤ most) (given out).clock → IsPlaced h most (given out)
      go true full small = record {
        process = fits.process;
        width = full.clock.width;
        clock = small;
        kind = fits.kind;
        few = fits.few;
        assigns = fits.assigns;
        distinct = fits.distinct;
      }
      go false full small = record {
        process = fits.process;
        width = full.clock.width;
        clock = small;
        kind = fits.kind;
        few = fits.few;
        assigns = fits.assigns;
        distinct = fits.distinct;
      }

  place_all : (all before : Events) (es : List Event) → AllByRecursion (EventFits h) es → AllByRecursion Filled (fill_from all before es)
      → AllByRecursion (λ (e : Event). AllByRecursion (λ n. n ≤ most) e.clock) (fill_from all before es) → AllByRecursion (IsPlaced h most) (fill_from all before es)
  unfolding fill_from
  place_all all before [] fits full small = tt
  place_all all before (e ∷ es) fits full small =
      (place_event all before e fits.0 full.0 small.0, place_all all (with_event before (filled_event all before e)) es fits.1 full.1 small.1)

-- ---- the first fault behind others

pub fault_behind_none : (ess : Events) (bs : List (List Event)) (b : List Event) → batches_fault ess bs ≡ None → batch_fault (with_batches ess bs) b ≡ None → batches_fault ess (bs ++ b ∷ []) ≡ None
fault_behind_none ess [] b none one = batches_cons ess b [] one (batches_none (with_batch ess b))
fault_behind_none ess (x ∷ bs) b none one =
    let parts = batches_parts ess x bs none in
    batches_cons ess x (bs ++ b ∷ []) parts.0 (fault_behind_none (with_batch ess x) bs b parts.1 one)

-- ---- a batch more

pub fine_first : (h : Header) → HeaderFits h → IsFine (prefix_at h [])
fine_first h fits = record { header = fits; each = tt; faultless = batches_none (no_events (length h.procs)) }

module _ (log : Prefix) (since : List Event) (fine : IsFine log) (fits : AllByRecursion (EventFits log.header) since) (none : batch_fault (events_of log) (with_clocks log since) ≡ None) where
  full : List Event
  full = with_clocks log since

  most : ℕ
  most = event_count (log.batches ++ with_clocks log since ∷ [])

  filled : AllByRecursion (clocks.EventFits (length log.header.procs)) (with_clocks log since)
  filled =
      subst (λ (n : ℕ). AllByRecursion (clocks.EventFits n) (with_clocks log since)) (event_count_is log)
      (filled_fits (events_of log) since (subst (λ (n : ℕ). AllByRecursion (EventStands n) since) (sym (event_count_is log)) (events_stand log.header since fits)))

  -- all events that are there
  there : sum (lengths (clocks_of (with_batch (events_of log) (with_clocks log since)))) ≤ event_count (log.batches ++ with_clocks log since ∷ [])
  there =
      let all = with_batches-push (no_events (length log.header.procs)) log.batches (with_clocks log since) in
      let same : sum (lengths (clocks_of (with_batch (events_of log) (with_clocks log since)))) ≡ sum (map length (with_batches (no_events (length log.header.procs)) (log.batches ++ with_clocks log since ∷ []))) =
      ap sum (lengths_of (with_batch (events_of log) (with_clocks log since))) ∙ ap (λ (ess : Events). sum (map length ess)) (sym all) in
      omega (arith, same, batches_sum (no_events (length log.header.procs)) (log.batches ++ with_clocks log since ∷ []), no_sum (length log.header.procs))

  small : AllByRecursion (λ (e : Event). AllByRecursion (λ n. n ≤ event_count (log.batches ++ with_clocks log since ∷ [])) e.clock) (with_clocks log since)
  small =
      let o = clocks_of (with_batch (events_of log) (with_clocks log since)) in
      all_so (λ (e : Event). IsWithin e.clock (lengths (clocks_of (with_batch (events_of log) (with_clocks log since)))))
      (λ (e : Event). AllByRecursion (λ n. n ≤ event_count (log.batches ++ with_clocks log since ∷ [])) e.clock)
      (λ e within. within_all e.clock (event_count (log.batches ++ with_clocks log since ∷ [])) (λ j. omega (arith, within j, count_sum (lengths o) j, there)))
      (with_clocks log since) (named_there (events_of log) (with_batch (events_of log) (with_clocks log since)) (with_clocks log since) none)

  placed : AllByRecursion (IsPlaced log.header (event_count (log.batches ++ with_clocks log since ∷ []))) (with_clocks log since)
  placed = place_all log.header (event_count (log.batches ++ with_clocks log since ∷ [])) (with_batch (events_of log) since) (events_of log) since fits filled small

  pub fine_more : IsFine (followed_by log (with_clocks log since))
  fine_more = record {
    header = fine.header;
    each = all_push (AllByRecursion (IsPlaced log.header (event_count (log.batches ++ with_clocks log since ∷ [])))) log.batches (with_clocks log since)
        (all_so (AllByRecursion (IsPlaced log.header (event_count log.batches))) (AllByRecursion (IsPlaced log.header (event_count (log.batches ++ with_clocks log since ∷ []))))
        (λ b each. all_so (IsPlaced log.header (event_count log.batches)) (IsPlaced log.header (event_count (log.batches ++ with_clocks log since ∷ [])))
        (placed_more log.header (event_count log.batches) (event_count (log.batches ++ with_clocks log since ∷ [])) (omega (arith, event_count-push log.batches (with_clocks log since)))) b each)
        log.batches fine.each) placed;
    faultless = fault_behind_none (no_events (length log.header.procs)) log.batches (with_clocks log since) fine.faultless none;
  }

-- the fault of a batch without a formula is that of its clocks and messages
batch_fault_is : (log : Prefix) (batch : List Event) → without_formula.batch log batch ≡ judgement.clock_fault log batch
batch_fault_is log batch =
    ap (λ (o : Option LogFault). choose o (λ f. Some f) (judgement.clock_fault log batch)) (none_without (states_of log) batch)

pub fine_next : Follows without_formula IsFine
fine_next log since fine fits none = fine_more log since fine fits (sym (batch_fault_is log (with_clocks log since)) ∙ none)
