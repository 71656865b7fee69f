-- Counts along the events of a process.
use Rattle.std.proofs.Common.{◌≡◌, ℕ, zero, suc, ◌+◌, ◌-◌, ◌<◌, ◌≤◌, Bool, true, false, List, [], ◌∷◌, ◌++◌, length, map, take, get_or, refl, ap, sym, subst, ◌∙◌, arith}
use Rattle.std.specs.Prelude.{if◌then◌else◌, count_by}
use Rattle.std.specs.List.{range_with_len}
use Rattle.std.proofs.lemmas.List.Sums.{count_by-le-length, count_by_more_yes, count_by_more_no, sum_by-take-le, get_or-le-sum_by}
use Rattle.std.proofs.lemmas.List.{take-take, take-append-le, get_or-map, length-map}
use Rattle.std.proofs.lemmas.List.FromFn.{map-range_with_len_more, length-map-range_with_len, get_or-map-range_with_len}
use Rattle.pota_base.specs.Shape.{IsShape}
use Rattle.pota_base.specs.Limits.{most_events}
use Rattle.event_log.specs.States.{StatesView}
use Rattle.event_log.specs.declared.log.Event.{Event}
use Rattle.channel_preds.specs.declared.counted.Counted.{Counted}
use Rattle.channel_preds.specs.Channels.{is_counted, count_of, counts_of, events_at, sends_to}
use Rattle.channel_preds.specs.Channels.{receipts_from, ChannelView, channel_of, FitsShape}
use Rattle.channel_preds.specs.inside.Channels.{AreCounts}

-- the counts after at most i events are told, and this is the last of them
pub record CountedSoFar (which : Counted) (events : List Event) (i count : ℕ) (counts : List ℕ) : Type 0 where
  pub told : counts ≡ map (count_of which events) (range_with_len 0 (i + 1))
  pub last : count ≡ count_of which events i

one_more : (which : Counted) (events : List Event) (i : ℕ) (e : Event) (yes_ : Bool) → i < length events → is_counted which (get_or events i e).kind ≡ yes_
    → count_of which events (i + 1) ≡ (if yes_ then count_of which events i + 1 else count_of which events i)
one_more which events i e true there has = count_by_more_yes (λ (x : Event). is_counted which x.kind) events i e there has
one_more which events i e false there has = count_by_more_no (λ (x : Event). is_counted which x.kind) events i e there has

-- one event more
pub counted_more : (which : Counted) (events : List Event) (i count : ℕ) (counts : List ℕ) (e : Event) (yes_ : Bool) → i < length events → e ≡ get_or events (i + 1 - 1) e → is_counted which e.kind ≡ yes_
    → CountedSoFar which events i count counts
    → (next : ℕ) → next ≡ (if yes_ then count + 1 else count) → CountedSoFar which events (i + 1) next (counts ++ next ∷ [])
counted_more which events i count counts e yes_ there is has h next more =
    let place : i + 1 - 1 ≡ i = omega arith in
    let read : is_counted which (get_or events i e).kind ≡ yes_ =
    ap (λ (x : Event). is_counted which x.kind) (sym (is ∙ ap (λ (k : ℕ). get_or events k e) place)) ∙ has in
    let last : next ≡ count_of which events (i + 1) =
    more ∙ ap (λ (n : ℕ). if yes_ then n + 1 else n) h.last ∙ sym (one_more which events i e yes_ there read) in
    record {
      told = ap (λ (l : List ℕ). l ++ next ∷ []) h.told ∙ ap (λ (n : ℕ). map (count_of which events) (range_with_len 0 (i + 1)) ++ n ∷ []) last
          ∙ sym (map-range_with_len_more (count_of which events) 0 (i + 1) (i + 1) (omega arith));
      last = last;
    }

-- all events are counted
pub counted_all : (which : Counted) (events : List Event) (i count : ℕ) (counts : List ℕ) → i ≡ length events → CountedSoFar which events i count counts
    → counts ≡ counts_of which events
counted_all which events i count counts end h = h.told ∙ ap (λ (n : ℕ). map (count_of which events) (range_with_len 0 (n + 1))) end

-- ---- what counts are

pub length-counts_of : (which : Counted) (events : List Event) → length (counts_of which events) ≡ length events + 1
length-counts_of which events = length-map-range_with_len (count_of which events) 0 (length events + 1)

pub get_or-counts_of : (which : Counted) (events : List Event) (a : ℕ) → a ≤ length events → get_or (counts_of which events) a 0 ≡ count_of which events a
get_or-counts_of which events a h = get_or-map-range_with_len (count_of which events) 0 (length events + 1) a a 0 (omega arith) (omega arith)

-- counts never fall
pub count_of-rises : (which : Counted) (events : List Event) (a b : ℕ) → a ≤ b → count_of which events a ≤ count_of which events b
count_of-rises which events a b h =
    let part : take a (take b events) ≡ take a events = take-take a b events h in
    omega (
      arith,
      ap (λ (es : List Event). count_by (λ (e : Event). is_counted which e.kind) es) part,
      sum_by-take-le (λ (e : Event). if is_counted which e.kind then 1 else 0) (take b events) a,
    )

pub counts_are : (which : Counted) (events : List Event) → AreCounts (counts_of which events)
counts_are which events = record {
  some = omega (arith, length-counts_of which events);
  rises = λ x y h there. omega (arith, length-counts_of which events, get_or-counts_of which events x, get_or-counts_of which events y, count_of-rises which events x y h);
}

-- the counts before more events came are the first of those after
pub counts_of-append : (which : Counted) (events more : List Event) (a : ℕ) → a ≤ length events → count_of which (events ++ more) a ≡ count_of which events a
counts_of-append which events more a h = ap (λ (es : List Event). count_by (λ (e : Event). is_counted which e.kind) es) (take-append-le a events more h)

-- ---- the lengths of the processes

pub length-events_at : (states : StatesView) (lens : List ℕ) (process len : ℕ) → process < length states.events → lens ≡ map length states.events → len ≡ get_or lens process 0
    → length (events_at states process) ≡ len
length-events_at states lens process len there shape is =
    sym (is ∙ ap (λ (l : List ℕ). get_or l process 0) shape ∙ get_or-map (λ (es : List Event). length es) states.events process [] 0 there)

pub few_events : (states : StatesView) (lens : List ℕ) (process : ℕ) → process < length states.events → lens ≡ map length states.events → IsShape lens
    → length (events_at states process) ≤ most_events
few_events states lens process there shape is =
    let size : length lens ≡ length states.events = ap (λ (l : List ℕ). length l) shape ∙ length-map states.events (λ (es : List Event). length es) in
    omega (arith, is.events, length-events_at states lens process (get_or lens process 0) there shape refl, get_or-le-sum_by (λ (n : ℕ). n) lens process 0 (omega arith))

-- the channel has a count after each number of events of its processes
pub channel_fits : (states : StatesView) (p q : ℕ) → p < length states.events → q < length states.events → (channel : ChannelView) → channel ≡ channel_of states p q
    → FitsShape (map length states.events) channel
channel_fits states p q source target channel is =
    let lens : List ℕ = map length states.events in
    let size : length lens ≡ length states.events = length-map states.events length in
    subst (λ (ch : ChannelView). FitsShape lens ch) (sym is) (record {
      sender = omega arith;
      receiver = omega arith;
      sent = length-counts_of (sends_to p q) (events_at states p) ∙ ap (λ (n : ℕ). n + 1) (length-events_at states lens p (get_or lens p 0) source refl refl);
      received = length-counts_of (receipts_from p q) (events_at states q) ∙ ap (λ (n : ℕ). n + 1) (length-events_at states lens q (get_or lens q 0) target refl refl);
    })
