-- A cut that is lowered until it is logged whole.
use Rattle.std.proofs.Common.{set, ◌≡◌, ℕ, suc, ◌+◌, ◌<◌, ◌≤◌, Bool, true, false, ◌||◌, List, [], length, map, take, replicate, get_or, sum, refl, sym, ap, ◌∙◌, subst, inl, inr, arith}
use Rattle.std.proofs.lemmas.Bool.{cases_eq, cases_lt}
use Rattle.std.proofs.lemmas.List.{length-set, length_push}
use Rattle.std.proofs.lemmas.List.Sums.{sum_by-set}
use Rattle.run_model.specs.Cut.{Cut, count, IsWithin}
use Rattle.run_model.specs.Consistent.{clock}
use Rattle.run_model.proofs.Counts.{within_trans}
use Rattle.torn_runs.proofs.Greatest.{lower_within, lower_above}
use Rattle.event_log.specs.declared.item.Item.{Item}
use Rattle.event_log.specs.declared.item.Item.TheVariants as item
use Rattle.event_log.specs.declared.log.Event.{Event}
use Rattle.event_log.specs.States.{with_event}
use Rattle.vector_clock.specs.Events.{Events, own_events, no_events}
use Rattle.vector_clock.proofs.FirstPlaces.{own_same, own_other}
use Rattle.torn_log.specs.Counts.{Grows}
use Rattle.torn_log.specs.declared.sends.Sends.{Sends}
use Rattle.torn_log.specs.Items.{with_item, with_items, ItemsStand}
use Rattle.torn_log.specs.Sends.{HasSends}
use Rattle.torn_log.specs.Needs.{need, needs}
use Rattle.torn_log.specs.Torn.{IsKept}
use Rattle.torn_log.specs.Rounds.{BoundsAll, IsLowered, IsSettledUpto, HasLooked, IsRoundOf, IsRound}
use Rattle.torn_log.proofs.Passing.{count-lens, length-lens, counts_none, counts_long, own_none, items_more, items_all, grows_split}
use Rattle.torn_log.proofs.Standing.{clock_needs, length-needs, count-needs}

sum_lower : (c : Cut) (i k : ℕ) → i < length c → k < count c i → sum (set c i k) < sum c
sum_lower c i k lt less =
    let changed : sum (set c i k) + count c i ≡ sum c + k = sum_by-set (λ x. x) c i k 0 lt in
    omega (arith, less, changed)

-- the count of the events before, on the process of an event
own_place : (before : Events) (counts : List ℕ) (p : ℕ) → counts ≡ map length before → get_or counts p 0 ≡ length (own_events before p)
own_place before counts p are = ap (λ (cs : List ℕ). get_or cs p 0) are ∙ count-lens before p

lowered_bounds : (events before : Events) (e : Event) (old : Cut) (k : ℕ) → BoundsAll events old → Grows (with_event before e) events → e.process < length before → e.process < length old → k ≡ length (own_events before e.process) → k < count old e.process → (IsWithin (need events e) old → ⊥) → BoundsAll events (set old e.process k)
lowered_bounds events before e old k b grows lt here at less lacks = record {
  shaped = length-set old e.process k ∙ b.shaped;
  within = within_trans (set old e.process k) old (map length events) (lower_within old e.process k here (omega (arith, less))) b.within;
  bounds = λ d whole. lower_above d old e.process k here (b.bounds d whole) (elim (cases_lt k (count d e.process)) [
    | inl more ↦ absurd (lacks (subst (λ past. IsWithin past old) (clock_needs events before e k grows lt at) (within_trans (clock (needs events) e.process (suc k)) d old (whole.pasts e.process (suc k) (omega arith, omega (arith, more))) (b.bounds d whole))))
    | inr few ↦ few
  ]);
}

settled_event : (events before : Events) (e : Event) (old : Cut) (k : ℕ) → Grows (with_event before e) events → e.process < length before → k ≡ length (own_events before e.process) → (k < count old e.process → IsWithin (need events e) old) → IsSettledUpto events before old → IsSettledUpto events (with_event before e) old
settled_event events before e old k grows lt at has settled i a ev few = elim (cases_eq i e.process) [
  | inr other ↦ settled i a ev (omega (arith, few, ap length (own_other before e i other)))
  | inl same ↦ elim (cases_lt k a) [
    | inr early ↦ settled i a ev (subst (λ p. a ≤ length (own_events before p)) (sym same) (omega (arith, early, at)))
    | inl late ↦
        let size : length (own_events (with_event before e) e.process) ≡ suc k = omega (arith, ap length (own_same before e lt), length_push (own_events before e.process) e, at) in
        let last : a ≡ suc k = omega (arith, late, size, subst (λ p. a ≤ length (own_events (with_event before e) p)) same few) in
        let there : k < count old e.process = omega (arith, last, subst (λ p. a ≤ count old p) same ev.1) in
        subst (λ b. IsWithin (clock (needs events) i b) old) (sym last)
        (subst (λ p. IsWithin (clock (needs events) p (suc k)) old) (sym same)
        (subst (λ past. IsWithin past old) (sym (clock_needs events before e k grows lt at)) (has there)))
  ]
]

pub looked_event : (events before : Events) (e : Event) (counts : List ℕ) (old new : Cut) (lowered : Bool) → BoundsAll events old → counts ≡ map length before → Grows (with_event before e) events → e.process < length before → e.process < length old → IsLowered (need events e) counts e.process old new lowered → HasLooked events before (item.Event e) old new lowered
looked_event events before e counts old new true b are grows lt here low =
    let k = get_or counts e.process 0 in
    let at : k ≡ length (own_events before e.process) = own_place before counts e.process are in
    record {
      bounds = subst (BoundsAll events) (sym low.0) (lowered_bounds events before e old k b grows lt here at low.1 low.2);
      looked = subst (λ c. sum c < sum old) (sym low.0) (sum_lower old e.process k here low.1);
    }
looked_event events before e counts old new false b are grows lt here low = record {
  bounds = subst (BoundsAll events) (sym low.0) b;
  looked = (low.0, settled_event events before e old (get_or counts e.process 0) grows lt (own_place before counts e.process are) low.1);
}

-- an item that is no event changes nothing
pub looked_other : (events before : Events) (i : Item) (old new : Cut) → with_item before i ≡ before → BoundsAll events old → new ≡ old → HasLooked events before i old new false
looked_other events before i old new none b same = record {
  bounds = subst (BoundsAll events) (sym same) b;
  looked = (same, λ settled. subst (λ x. IsSettledUpto events x old) (sym none) settled);
}

-- ---- a round

pub round_none : (events none : Events) (old : Cut) → ((p : ℕ) → own_events none p ≡ []) → BoundsAll events old → IsRoundOf events none old old false
round_none events none old empty b = record {
  bounds = b;
  gone = (refl, λ i a ev few. absurd (omega (arith, ev.0, few, ap length (empty i))));
}

pub round_more : (events before : Events) (i : Item) (old cut new : Cut) (lowered looked : Bool) → IsRoundOf events before old cut lowered → HasLooked events before i cut new looked → IsRoundOf events (with_item before i) old new (lowered || looked)
round_more events before i old cut new true true r h = record { bounds = h.bounds; gone = omega (arith, r.gone, h.looked) }
round_more events before i old cut new true false r h = record { bounds = h.bounds; gone = omega (arith, r.gone, ap sum h.looked.0) }
round_more events before i old cut new false true r h = record { bounds = h.bounds; gone = omega (arith, ap sum r.gone.0, h.looked) }
round_more events before i old cut new false false r h = record {
  bounds = h.bounds;
  gone = (h.looked.0 ∙ r.gone.0, subst (IsSettledUpto events (with_item before i)) (sym h.looked.0) (h.looked.1 r.gone.1));
}

-- ---- all rounds

pub bounds_first : (events : Events) (cut : Cut) → cut ≡ map length events → BoundsAll events cut
bounds_first events cut are = record {
  shaped = ap length are ∙ length-lens events;
  within = λ i. omega (arith, ap (λ c. count c i) are);
  bounds = λ d whole i. omega (arith, whole.within i, count-needs events i, count-lens events i, ap (λ c. count c i) are);
}

pub kept_last : (events : Events) (old new : Cut) → IsRoundOf events events old new false → IsKept events new
kept_last events old new r = record {
  member = record {
    shaped = r.bounds.shaped ∙ sym (length-needs events);
    within = λ i. omega (arith, r.bounds.within i, count-needs events i, count-lens events i);
    pasts = λ i a ev. r.gone.1 i a ev (omega (arith, ev.1, r.bounds.within i, count-lens events i));
  };
  greatest = r.bounds.bounds;
}

-- ---- the loop of a round, by the number of items that were looked at

pub record GoesRound (sends : Sends) (items : List Item) (procs k : ℕ) (old cut : Cut) (counts : List ℕ) (lowered : Bool) : Type 0 where
  pub counts_are : counts ≡ map length (with_items (no_events procs) (take k items))
  pub long : length cut ≡ procs
  pub round : HasSends sends (with_items (no_events procs) items) → BoundsAll (with_items (no_events procs) items) old
      → IsRoundOf (with_items (no_events procs) items) (with_items (no_events procs) (take k items)) old cut lowered

pub goes_first : (sends : Sends) (items : List Item) (cut : Cut) (counts : List ℕ) → counts ≡ replicate (length cut) 0 → GoesRound sends items (length cut) 0 cut cut counts false
goes_first sends items cut counts zeros = record {
  counts_are = zeros ∙ counts_none (length cut);
  long = refl;
  round = λ has bounds. round_none (with_items (no_events (length cut)) items) (no_events (length cut)) cut (own_none (length cut)) bounds;
}

pub goes_long : {sends : Sends} {items : List Item} {procs k : ℕ} {old cut : Cut} {counts : List ℕ} {lowered : Bool} → GoesRound sends items procs k old cut counts lowered → length counts ≡ length cut
goes_long {items = items} {procs = procs} {k = k} {counts = counts} g = counts_long procs (take k items) counts g.counts_are ∙ sym g.long

pub goes_more : (sends : Sends) (items : List Item) (procs k : ℕ) (old cut new : Cut) (counts counts' : List ℕ) (lowered looked both : Bool) (i : Item)
    → ItemsStand procs items → k < length items → i ≡ get_or items k i → GoesRound sends items procs k old cut counts lowered
    → ((events before : Events) → HasSends sends events → BoundsAll events cut → counts ≡ map length before → Grows (with_item before i) events → HasLooked events before i cut new looked)
    → ((events : Events) → counts ≡ map length events → counts' ≡ map length (with_item events i))
    → both ≡ (lowered || looked) → length new ≡ length cut → GoesRound sends items procs (k + 1) old new counts' both
goes_more sends items procs k old cut new counts counts' lowered looked both i stand lt read g looks counted is size =
    let all = with_items (no_events procs) items in
    let before = with_items (no_events procs) (take k items) in
    let next = items_more (no_events procs) items k i lt read in
    record {
      counts_are = counted before g.counts_are ∙ ap (map length) (sym next);
      long = size ∙ g.long;
      round = λ has bounds.
          let r = g.round has bounds in
          subst (λ x. IsRoundOf all x old new both) (sym next)
          (subst (IsRoundOf all (with_item before i) old new) (sym is)
          (round_more all before i old cut new lowered looked r (looks all before has r.bounds g.counts_are (grows_split procs items k i stand lt read))));
    }

pub goes_all : {sends : Sends} {items : List Item} {procs k : ℕ} {old cut : Cut} {counts : List ℕ} {lowered : Bool} → GoesRound sends items procs k old cut counts lowered → length items ≤ k → IsRound sends (with_items (no_events procs) items) old cut lowered
goes_all {items = items} {procs = procs} {k = k} {old = old} {cut = cut} {lowered = lowered} g done = λ has bounds.
    subst (λ x. IsRoundOf (with_items (no_events procs) items) x old cut lowered) (items_all (no_events procs) items k done) (g.round has bounds)

-- ---- the loop of rounds

pub round_by : {old new : Cut} {lowered : Bool} (sends : Sends) (items : List Item) (procs : ℕ) → length old ≡ procs → HasSends sends (with_items (no_events procs) items) → BoundsAll (with_items (no_events procs) items) old → IsRound sends (with_items (no_events (length old)) items) old new lowered → IsRoundOf (with_items (no_events procs) items) (with_items (no_events procs) items) old new lowered
round_by {old = old} {new = new} {lowered = lowered} sends items procs long has bounds round =
    subst (λ (n : ℕ). IsRound sends (with_items (no_events n) items) old new lowered) long round has bounds

pub round_bounds : {events before : Events} {old new : Cut} {lowered : Bool} → IsRoundOf events before old new lowered → BoundsAll events new
round_bounds r = r.bounds

pub round_long : {events before : Events} {old new : Cut} {lowered : Bool} {procs : ℕ} → length old ≡ procs → BoundsAll events old → IsRoundOf events before old new lowered → length new ≡ procs
round_long long bounds r = r.bounds.shaped ∙ sym bounds.shaped ∙ long

pub round_less : {events before : Events} {old new : Cut} {lowered : Bool} → IsRoundOf events before old new lowered → lowered ≡ true → sum new < sum old
round_less {events = events} {before = before} {old = old} {new = new} r is = (subst (IsRoundOf events before old new) is r).gone

pub round_last : {events : Events} {old new : Cut} {lowered : Bool} → IsRoundOf events events old new lowered → lowered ≡ false → IsKept events new
round_last {events = events} {old = old} {new = new} r is = kept_last events old new (subst (IsRoundOf events events old new) is r)
