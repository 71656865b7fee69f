-- Consistent cuts: they hold the past of each of their events, and are closed under minimum and maximum.
use Rattle.std.proofs.Common.{ℕ, ◌<◌, ◌≤◌, length, sym, subst, refl, inl, inr, arith, le_refl, le_trans}
use Rattle.std.proofs.lemmas.Bool.{cases_lt}
use Rattle.run_model.specs.Cut.{Cut, Clocks, count, IsWithin, min_cut, max_cut, lengths, initial}
use Rattle.run_model.specs.Consistent.{clock, IsEvent, IsOrder, IsConsistent, HappenedBefore}
use Rattle.run_model.specs.Sublattice.{IsLeast, IsGreatest, Having, IsSublattice}
use Rattle.run_model.proofs.Counts.{count-min, count-max, length-min, length-max, count_past, within_trans, within_min, max_left, max_right, length-lengths, length-initial, count-initial}

-- the process of an event is there
pub has_process : (c : Cut) (i a : ℕ) → IsEvent c i a → i < length c
has_process c i a ev = elim (cases_lt i (length c)) [
  | inl l ↦ l
  | inr g ↦ absurd (omega (arith, count_past c i g, ev.0, ev.1))
]

-- events of a cut are events of the cuts that hold it
pub event_up : (c d : Cut) (i a : ℕ) → IsWithin c d → IsEvent c i a → IsEvent d i a
event_up c d i a h ev = (ev.0, le_trans ev.1 (h i))

-- the past of an event holds the pasts of the events before it on its process
pub past_rises : (o : Clocks) → IsOrder o → (i a b : ℕ) → IsEvent (lengths o) i b → 0 < a → a ≤ b → IsWithin (clock o i a) (clock o i b)
past_rises o order i a b ev pos h = order.transitive i b i a ev (pos, omega (arith, order.own i b ev))

-- a consistent cut holds the past of each of its events
pub has_past : (o : Clocks) → IsOrder o → (c : Cut) → IsConsistent o c → (i a : ℕ) → IsEvent c i a → IsWithin (clock o i a) c
has_past o order c k i a ev =
    let last : 0 < count c i = omega (arith, ev.0, ev.1) in
    within_trans (clock o i a) (clock o i (count c i)) c (past_rises o order i a (count c i) (last, k.within i) ev.0 ev.1) (k.pasts i last)

pub event_of_run : (o : Clocks) (c : Cut) → IsConsistent o c → (i a : ℕ) → IsEvent c i a → IsEvent (lengths o) i a
event_of_run o c k i a ev = event_up c (lengths o) i a k.within ev

pub min_consistent : (o : Clocks) → IsOrder o → (c d : Cut) → IsConsistent o c → IsConsistent o d → IsConsistent o (min_cut c d)
min_consistent o order c d k l = record {
  shaped = omega (arith, length-min c d, k.shaped, l.shaped);
  within = λ i. omega (arith, count-min c d i, k.within i);
  pasts = λ i pos. within_min (clock o i (count (min_cut c d) i)) c d (has_past o order c k i (count (min_cut c d) i) (pos, omega (arith, count-min c d i))) (has_past o order d l i (count (min_cut c d) i) (pos, omega (arith, count-min c d i)));
}

pub max_consistent : (o : Clocks) → IsOrder o → (c d : Cut) → IsConsistent o c → IsConsistent o d → IsConsistent o (max_cut c d)
max_consistent o order c d k l = record {
  shaped = omega (arith, length-max c d, k.shaped, l.shaped);
  within = λ i. omega (arith, count-max c d i, k.within i, l.within i);
  pasts = λ i pos. elim (cases_lt (count c i) (count d i)) [
    | inl h ↦ within_trans (clock o i (count (max_cut c d) i)) d (max_cut c d) (has_past o order d l i (count (max_cut c d) i) (pos, omega (arith, count-max c d i, h))) (max_right c d)
    | inr h ↦ within_trans (clock o i (count (max_cut c d) i)) c (max_cut c d) (has_past o order c k i (count (max_cut c d) i) (pos, omega (arith, count-max c d i, h))) (max_left c d)
  ];
}

pub consistent_closed : (o : Clocks) → IsOrder o → IsSublattice o (IsConsistent o)
consistent_closed o order = record {
  consistent = λ c k. k;
  has_min = min_consistent o order;
  has_max = max_consistent o order;
}

pub initial_consistent : (o : Clocks) → IsConsistent o (initial o)
initial_consistent o = record {
  shaped = length-initial o;
  within = λ i. omega (arith, count-initial o i);
  pasts = λ i pos. absurd (omega (arith, count-initial o i, pos));
}

pub final_consistent : (o : Clocks) → IsOrder o → IsConsistent o (lengths o)
final_consistent o order = record {
  shaped = length-lengths o;
  within = λ i. le_refl (count (lengths o) i);
  pasts = λ i pos. order.named i (count (lengths o) i) (pos, le_refl (count (lengths o) i));
}

pub past_consistent : (o : Clocks) → IsOrder o → (i a : ℕ) → IsEvent (lengths o) i a → IsConsistent o (clock o i a)
past_consistent o order i a ev = record {
  shaped = order.shaped i a ev;
  within = order.named i a ev;
  pasts = λ j pos. order.transitive i a j (count (clock o i a) j) ev (pos, le_refl (count (clock o i a) j));
}

pub past_has : (o : Clocks) → IsOrder o → (i a : ℕ) → IsEvent (lengths o) i a → a ≤ count (clock o i a) i
past_has o order i a ev = omega (arith, order.own i a ev)

-- the past of an event is the least consistent cut with it
pub past_least : (o : Clocks) → IsOrder o → (i a : ℕ) → IsEvent (lengths o) i a → IsLeast (Having (IsConsistent o) i a) (clock o i a)
past_least o order i a ev = record {
  member = (past_consistent o order i a ev, past_has o order i a ev);
  least = λ c h. has_past o order c h.0 i a (ev.0, h.1);
}

pub initial_least : (o : Clocks) → IsLeast (IsConsistent o) (initial o)
initial_least o = record {
  member = initial_consistent o;
  least = λ c h i. omega (arith, count-initial o i);
}

pub final_greatest : (o : Clocks) → IsOrder o → IsGreatest (IsConsistent o) (lengths o)
final_greatest o order = record {
  member = final_consistent o order;
  greatest = λ c h. h.within;
}

pub happened_before_transitive : (o : Clocks) → IsOrder o → (i a j b k c : ℕ) → HappenedBefore o i a j b → HappenedBefore o j b k c → HappenedBefore o i a k c
happened_before_transitive o order i a j b k c p q =
    let up = order.transitive k c j b q.second q.in_past in
    let first = event_up (clock o j b) (clock o k c) i a up p.in_past in
    record {
      first = p.first;
      second = q.second;
      in_past = first;
      differs = λ same.
          let back : IsEvent (clock o i a) j b = subst (λ x. IsEvent (clock o x a) j b) (sym same.0) (subst (λ x. IsEvent (clock o k x) j b) (sym same.1) q.in_past) in
          p.differs (order.loopless i a j b p.first back p.in_past.1);
    }

pub happened_before_asymmetric : (o : Clocks) → IsOrder o → (i a j b : ℕ) → HappenedBefore o i a j b → HappenedBefore o j b i a → ⊥
happened_before_asymmetric o order i a j b p q =
    let loop = happened_before_transitive o order j b i a j b q p in
    loop.differs (refl, refl)

-- the events of one process are in their order
pub earlier_happened_before : (o : Clocks) → IsOrder o → (i a b : ℕ) → IsEvent (lengths o) i b → 0 < a → a < b → HappenedBefore o i a i b
earlier_happened_before o order i a b ev pos h = record {
  first = (pos, omega (arith, ev.1, h));
  second = ev;
  in_past = (pos, omega (arith, order.own i b ev));
  differs = λ same. absurd (omega (arith, same.1, h));
}
