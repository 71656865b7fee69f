-- A channel's counts are those of the run, so its bounds mean what formulas say.
use Rattle.std.proofs.Common.{◌≡◌, ◌↔◌, ℕ, zero, suc, ◌+◌, ◌-◌, ◌<◌, ◌≤◌, ◌==◌, true, false, List, [], ◌∷◌, length, map, take, get_or, inl, inr, refl, ap, sym, subst, ◌∙◌, arith}
use Rattle.std.specs.Prelude.{Bool, count_by, if◌then◌else◌}
use Rattle.std.specs.List.{sum_by}
use Rattle.std.proofs.lemmas.Bool.{cases_eq, eq-eqb, ne_eqb}
use Rattle.std.proofs.lemmas.List.{take-map, length-map}
use Rattle.std.proofs.lemmas.List.Sums.{sum_by-cons}
use Rattle.run_model.specs.Cut.{Cut, Clocks, count, lengths}
use Rattle.run_model.specs.Run as run
use Rattle.run_model.specs.Run.{Name, Trace, Watches, process_at, clocks_of, sends, receipts, is_send_to, is_receipt_from}
use Rattle.run_model.specs.Consistent.{IsConsistent}
use Rattle.run_model.specs.Formula.{LessOrEqual, GreaterOrEqual, InTransit}
use Rattle.run_model.specs.Meaning.{Sat, ReceiptsHaveSends, in_transit}
use Rattle.run_model.proofs.RelationLemmas.{holds_of, from_holds}
use Rattle.event_log.specs.declared.log.Event.{Event}
use Rattle.event_log.specs.States.{StatesView, AreWhole, trace_of, event_of, kind_of}
use Rattle.event_log.proofs.Keeping.{process_is}
use Rattle.event_log.proofs.NameNumbers.{names_are, number_again}
use Rattle.pull_system.specs.Pulls.{ClosedUnder}
use Rattle.channel_preds.specs.declared.counted.Counted.{Counted}
use Rattle.channel_preds.specs.declared.counted.Counted.TheVariants as counted
use Rattle.channel_preds.specs.Channels.{count_of, counts_of, events_at, sends_to, receipts_from}
use Rattle.channel_preds.specs.Channels.{channel_of, sent_at, received_at}
use Rattle.channel_preds.specs.Truth.{run_in, name_of, at_most_pulls, at_least_pulls}
use Rattle.channel_preds.proofs.Counting.{length-counts_of, get_or-counts_of, counts_are}
use Rattle.channel_preds.proofs.Tables.{positions_close}

-- two names stand for these processes of the run
pub record AreEnds (states : StatesView) (watches : Watches) (sender receiver : Name) (p q : ℕ) : Type 0 where
  pub whole : AreWhole states
  pub sender_there : p < length states.events
  pub receiver_there : q < length states.events
  pub sender_is : (run_in states watches).process sender ≡ p
  pub receiver_is : (run_in states watches).process receiver ≡ q

number_is : (states : StatesView) (watches : Watches) → AreWhole states → (p : ℕ) → p < length states.events → (run_in states watches).process (name_of states p) ≡ p
number_is states watches whole p there =
    ap (run.number_of (name_of states p)) (names_are states whole.header.vars whole.events)
    ∙ number_again states.header.procs p whole.header.distinct (omega (arith, whole.events))

ends_are : (states : StatesView) (watches : Watches) → AreWhole states → (p q : ℕ) → p < length states.events → q < length states.events
    → AreEnds states watches (name_of states p) (name_of states q) p q
ends_are states watches whole p q source target = record {
  whole = whole;
  sender_there = source;
  receiver_there = target;
  sender_is = number_is states watches whole p source;
  receiver_is = number_is states watches whole q target;
}

-- the events of a process in the run are those that were logged
events_are : (states : StatesView) (watches : Watches) (sender receiver : Name) (p q : ℕ) → AreEnds states watches sender receiver p q → (i : ℕ) → i < length states.events
    → (process_at (trace_of states) i).events ≡ map event_of (events_at states i)
events_are states watches sender receiver p q ends i there =
    ap (λ (x : run.Process). x.events)
    (process_is states.header.procs states.header.vars states.events i (omega (arith, ends.whole.events)) (omega (arith, ends.whole.events, ends.whole.header.vars)) there)

-- a cut has no more events of a process than there are
lengths_are : (t : Trace) (i : ℕ) → get_or (lengths (clocks_of t)) i 0 ≡ length (process_at t i).events
unfolding lengths
lengths_are [] i = refl
lengths_are (x ∷ t) zero = length-map x.events (λ (e : run.Event). e.clock)
lengths_are (x ∷ t) (suc i) = lengths_are t i

cut_within : (states : StatesView) (watches : Watches) (sender receiver : Name) (p q : ℕ) → AreEnds states watches sender receiver p q → (c : Cut) → IsConsistent (clocks_of (trace_of states)) c
    → (i : ℕ) → i < length states.events → count c i ≤ length (events_at states i)
cut_within states watches sender receiver p q ends c consistent i there =
    omega (arith, consistent.within i, lengths_are (trace_of states) i, ap (λ (es : List run.Event). length es) (events_are states watches sender receiver p q ends i there), length-map (events_at states i) event_of)

summed : (f : run.Event → ℕ) (events : List Event) → sum_by f (map event_of events) ≡ sum_by (λ (e : Event). f (event_of e)) events
summed f [] = refl
summed f (e ∷ es) =
    sum_by-cons f (event_of e) (map event_of es) ∙ ap (λ (n : ℕ). f (event_of e) + n) (summed f es) ∙ sym (sum_by-cons (λ (x : Event). f (event_of x)) e es)

-- counts over the logged events are counts over the run's
counted_run : (test : run.Kind → Bool) (events : List Event) (a : ℕ)
    → count_by (λ (e : run.Event). test e.kind) (take a (map event_of events)) ≡ count_by (λ (e : Event). test (kind_of e.kind)) (take a events)
counted_run test events a =
    ap (λ (es : List run.Event). count_by (λ (e : run.Event). test e.kind) es) (take-map event_of a events)
    ∙ summed (λ (e : run.Event). if test e.kind then 1 else 0) (take a events)

nothing_summed : (events : List Event) → sum_by (λ (e : Event). 0) events ≡ 0
nothing_summed [] = refl
nothing_summed (e ∷ es) = sum_by-cons (λ (x : Event). 0) e es ∙ ap (λ (n : ℕ). 0 + n) (nothing_summed es)

-- a count at a number of events that are there
count_at : (which : Counted) (events : List Event) (a : ℕ) → a ≤ length events → (chosen : Counted) → which ≡ chosen → get_or (counts_of which events) a 0 ≡ count_of chosen events a
count_at which events a h chosen is = get_or-counts_of which events a h ∙ ap (λ (w : Counted). count_of w events a) is

transit_by : (r : run.Run) (p q : ℕ) (c : Cut) (same : Bool) → (p == q) ≡ same → in_transit r p q c ≡ (if same then 0 else (r.sent p q (count c p) - r.received p q (count c q)))
unfolding in_transit
transit_by r p q c same h = ap (λ (b : Bool). if b then 0 else (r.sent p q (count c p) - r.received p q (count c q))) h

-- the sends and receipts of a channel are those of the run, and none from a process to itself
pub record IsCounted (states : StatesView) (watches : Watches) (p q : ℕ) (c : Cut) : Type 0 where
  pub transit : in_transit (run_in states watches) p q c ≡ sent_at (channel_of states p q) c - received_at (channel_of states p q) c
  pub received : ReceiptsHaveSends (run_in states watches) → received_at (channel_of states p q) c ≤ sent_at (channel_of states p q) c

counted_apart : (states : StatesView) (watches : Watches) (sender receiver : Name) (p q : ℕ) → AreEnds states watches sender receiver p q
    → (c : Cut) → IsConsistent (clocks_of (trace_of states)) c → (p ≡ q → ⊥) → IsCounted states watches p q c
counted_apart states watches sender receiver p q ends c consistent differ =
    let b = ne_eqb p q differ in
    let sends_is : sends_to p q ≡ counted.SendsTo q = ap (λ (v : Bool). if v then counted.Nothing else counted.SendsTo q) b in
    let receipts_is : receipts_from p q ≡ counted.ReceiptsFrom p = ap (λ (v : Bool). if v then counted.Nothing else counted.ReceiptsFrom p) b in
    let sent : sent_at (channel_of states p q) c ≡ sends (trace_of states) p q (count c p) =
    count_at (sends_to p q) (events_at states p) (count c p) (cut_within states watches sender receiver p q ends c consistent p ends.sender_there) _ sends_is
    ∙ sym (counted_run (is_send_to q) (events_at states p) (count c p))
    ∙ ap (λ (es : List run.Event). count_by (λ (e : run.Event). is_send_to q e.kind) (take (count c p) es)) (sym (events_are states watches sender receiver p q ends p ends.sender_there)) in
    let received : received_at (channel_of states p q) c ≡ receipts (trace_of states) p q (count c q) =
    count_at (receipts_from p q) (events_at states q) (count c q) (cut_within states watches sender receiver p q ends c consistent q ends.receiver_there) _ receipts_is
    ∙ sym (counted_run (is_receipt_from p) (events_at states q) (count c q))
    ∙ ap (λ (es : List run.Event). count_by (λ (e : run.Event). is_receipt_from p e.kind) (take (count c q) es)) (sym (events_are states watches sender receiver p q ends q ends.receiver_there)) in
    record {
      transit = transit_by (run_in states watches) p q c false b ∙ ap (λ (n : ℕ). n - receipts (trace_of states) p q (count c q)) (sym sent)
          ∙ ap (λ (n : ℕ). sent_at (channel_of states p q) c - n) (sym received);
      received = λ have. omega (arith, sent, received, have p q differ c consistent);
    }

counted_alone : (states : StatesView) (watches : Watches) (sender receiver : Name) (p q : ℕ) → AreEnds states watches sender receiver p q
    → (c : Cut) → IsConsistent (clocks_of (trace_of states)) c → p ≡ q → IsCounted states watches p q c
counted_alone states watches sender receiver p q ends c consistent same =
    let b = eq-eqb p q same in
    let sends_is : sends_to p q ≡ counted.Nothing = ap (λ (v : Bool). if v then counted.Nothing else counted.SendsTo q) b in
    let receipts_is : receipts_from p q ≡ counted.Nothing = ap (λ (v : Bool). if v then counted.Nothing else counted.ReceiptsFrom p) b in
    let sent : sent_at (channel_of states p q) c ≡ 0 =
    count_at (sends_to p q) (events_at states p) (count c p) (cut_within states watches sender receiver p q ends c consistent p ends.sender_there) _ sends_is
    ∙ nothing_summed (take (count c p) (events_at states p)) in
    let received : received_at (channel_of states p q) c ≡ 0 =
    count_at (receipts_from p q) (events_at states q) (count c q) (cut_within states watches sender receiver p q ends c consistent q ends.receiver_there) _ receipts_is
    ∙ nothing_summed (take (count c q) (events_at states q)) in
    record {
      transit = omega (arith, transit_by (run_in states watches) p q c true b, sent, received);
      received = λ have. omega (arith, sent, received);
    }

is_counted : (states : StatesView) (watches : Watches) (sender receiver : Name) (p q : ℕ) → AreEnds states watches sender receiver p q
    → (c : Cut) → IsConsistent (clocks_of (trace_of states)) c → IsCounted states watches p q c
is_counted states watches sender receiver p q ends c consistent = elim (cases_eq p q) [
  | inl same ↦ counted_alone states watches sender receiver p q ends c consistent same
  | inr differ ↦ counted_apart states watches sender receiver p q ends c consistent differ
]

-- the channel of the names is that of their numbers
named : (states : StatesView) (watches : Watches) (sender receiver : Name) (p q : ℕ) → AreEnds states watches sender receiver p q → (c : Cut)
    → in_transit (run_in states watches) ((run_in states watches).process sender) ((run_in states watches).process receiver) c ≡ in_transit (run_in states watches) p q c
named states watches sender receiver p q ends c =
    let r = run_in states watches in
    ap (λ (i : ℕ). in_transit r i (r.process receiver) c) ends.sender_is ∙ ap (λ (j : ℕ). in_transit r p j c) ends.receiver_is

at_most_between : (states : StatesView) (watches : Watches) (sender receiver : Name) (p q k : ℕ) → AreEnds states watches sender receiver p q
    → (c : Cut) → IsConsistent (clocks_of (trace_of states)) c
    → ClosedUnder (at_most_pulls states p q k) c ↔ Sat (run_in states watches) (InTransit sender receiver LessOrEqual k) c
at_most_between states watches sender receiver p q k ends c consistent =
    let r = run_in states watches in
    let transit = in_transit r (r.process sender) (r.process receiver) c in
    let counted_ = is_counted states watches sender receiver p q ends c consistent in
    let is : transit ≡ sent_at (channel_of states p q) c - received_at (channel_of states p q) c = named states watches sender receiver p q ends c ∙ counted_.transit in
    let sends_ = counts_of (sends_to p q) (events_at states p) in
    let receipts_ = counts_of (receipts_from p q) (events_at states q) in
    let close = positions_close p q sends_ 0 receipts_ k (counts_are _ _) (counts_are _ _) c
    (omega (arith, length-counts_of (sends_to p q) (events_at states p), cut_within states watches sender receiver p q ends c consistent p ends.sender_there))
    (omega (arith, length-counts_of (receipts_from p q) (events_at states q), cut_within states watches sender receiver p q ends c consistent q ends.receiver_there)) in (
      λ closed. from_holds LessOrEqual transit k (omega (arith, is, close.0 closed)),
      λ true_. close.1 (omega (arith, is, holds_of LessOrEqual transit k true_)),
    )

at_least_between : (states : StatesView) (watches : Watches) (sender receiver : Name) (p q k : ℕ) → AreEnds states watches sender receiver p q → ReceiptsHaveSends (run_in states watches)
    → (c : Cut) → IsConsistent (clocks_of (trace_of states)) c
    → ClosedUnder (at_least_pulls states p q k) c ↔ Sat (run_in states watches) (InTransit sender receiver GreaterOrEqual k) c
at_least_between states watches sender receiver p q k ends have c consistent =
    let r = run_in states watches in
    let transit = in_transit r (r.process sender) (r.process receiver) c in
    let counted_ = is_counted states watches sender receiver p q ends c consistent in
    let is : transit ≡ sent_at (channel_of states p q) c - received_at (channel_of states p q) c = named states watches sender receiver p q ends c ∙ counted_.transit in
    let low = counted_.received have in
    let sends_ = counts_of (sends_to p q) (events_at states p) in
    let receipts_ = counts_of (receipts_from p q) (events_at states q) in
    let close = positions_close q p receipts_ k sends_ 0 (counts_are _ _) (counts_are _ _) c
    (omega (arith, length-counts_of (receipts_from p q) (events_at states q), cut_within states watches sender receiver p q ends c consistent q ends.receiver_there))
    (omega (arith, length-counts_of (sends_to p q) (events_at states p), cut_within states watches sender receiver p q ends c consistent p ends.sender_there)) in (
      λ closed. from_holds GreaterOrEqual transit k (omega (arith, is, low, close.0 closed)),
      λ true_. close.1 (omega (arith, is, low, holds_of GreaterOrEqual transit k true_)),
    )

pub at_most_means : (states : StatesView) (watches : Watches) (p q k : ℕ) → AreWhole states → p < length states.events → q < length states.events
    → (c : Cut) → IsConsistent (clocks_of (trace_of states)) c
    → ClosedUnder (at_most_pulls states p q k) c ↔ Sat (run_in states watches) (InTransit (name_of states p) (name_of states q) LessOrEqual k) c
at_most_means states watches p q k whole source target =
    at_most_between states watches (name_of states p) (name_of states q) p q k (ends_are states watches whole p q source target)

pub at_least_means : (states : StatesView) (watches : Watches) (p q k : ℕ) → AreWhole states → p < length states.events → q < length states.events
    → ReceiptsHaveSends (run_in states watches)
    → (c : Cut) → IsConsistent (clocks_of (trace_of states)) c
    → ClosedUnder (at_least_pulls states p q k) c ↔ Sat (run_in states watches) (InTransit (name_of states p) (name_of states q) GreaterOrEqual k) c
at_least_means states watches p q k whole source target =
    at_least_between states watches (name_of states p) (name_of states q) p q k (ends_are states watches whole p q source target)
