-- Consistent cuts by the clocks of the last events that they have.
use Rattle.std.proofs.Common.{◌≡◌, ℕ, ◌+◌, ◌<◌, ◌≤◌, true, false, List, [], length, sum, map, replicate, zero, suc, refl, sym, ap, ◌∙◌, subst, arith, inl, inr}
use Rattle.std.specs.Prelude.{◌↔◌}
use Rattle.std.proofs.lemmas.Bool.{cases_lt}
use Rattle.std.proofs.lemmas.List.{ext_get_or, length-replicate}
use Rattle.std.proofs.lemmas.List.Sums.{sum_by-cons}
use Rattle.pota_base.specs.Shape.{IsShape, HasEvent}
use Rattle.pota_base.specs.declared.shape.EventId.{EventId}
use Rattle.run_model.specs.Cut.{Cut, Clocks, count, IsWithin, lengths, with_next}
use Rattle.run_model.specs.Consistent.{IsEvent, IsOrder, IsConsistent, HappenedBefore, clock}
use Rattle.run_model.specs.Sublattice.{IsLeast, Having}
use Rattle.run_model.proofs.Counts.{count_past, with_next_same, with_next_other}
use Rattle.run_model.proofs.Orders.{past_least}
use Rattle.pota_base.specs.Limits.{most_events, most_processes}
use Rattle.cut_lattice.proofs.Steps.{DoneBelow}
use Rattle.event_log.specs.declared.log.Event.{Event}
use Rattle.causal_order.specs.Blocks.{AreOrdered}
use Rattle.causal_order.specs.Growth.{with_clocks}
use Rattle.causal_order.proofs.Growing.{length-lengths, sum_grown}

pub holds : {P : Type 0} → P → (true ≡ true) ↔ P
holds p = (λ _. p, λ _. refl)

pub fails : {P : Type 0} → (P → ⊥) → (false ≡ true) ↔ P
fails f = (λ h. absurd (no h), λ p. absurd (f p))
  where
    no : false ≡ true → ⊥
    no h = cc

pub event_there : (o : Clocks) (e : EventId) → HasEvent (lengths o) e → IsEvent (lengths o) e.process e.position
event_there o e h = (h.first, h.last)

-- ---- the past

pub all_done : (c d e : Cut) (i : ℕ) → DoneBelow (λ (x y : ℕ). x) c d e i → length d ≡ length c → length c ≤ i → e ≡ c
all_done c d e i h same all = ext_get_or 0 e c (omega (arith, h.len)) (λ k lt. h.below k (omega (arith, h.len)))

pub past_of : (o : Clocks) (e : EventId) (c : Cut) → IsOrder o → HasEvent (lengths o) e → c ≡ clock o e.process e.position
    → IsLeast (Having (IsConsistent o) e.process e.position) c
past_of o e c order there is = subst (IsLeast (Having (IsConsistent o) e.process e.position)) (sym is) (past_least o order e.process e.position (event_there o e there))

-- ---- happened before

pub is_before : (o : Clocks) (i a j b : ℕ) → IsEvent (lengths o) i a → IsEvent (lengths o) j b → a ≤ count (clock o j b) i → ((i ≡ j) × (a ≡ b) → ⊥) → HappenedBefore o i a j b
is_before o i a j b first second within differs = record { first = first; second = second; in_past = (first.0, within); differs = differs }

-- ---- consistent cuts

-- the cut has only events of the process that are there, and the past of its last one
pub record HasLast (o : Clocks) (c : Cut) (k : ℕ) : Type 0 where
  pub there : count c k ≤ count (lengths o) k
  pub past : 0 < count c k → IsWithin (clock o k (count c k)) c

pub has_none : (o : Clocks) (c : Cut) (k : ℕ) → count c k ≡ 0 → HasLast o c k
has_none o c k none = record { there = omega arith; past = λ pos. absurd (omega arith) }

pub all_last : (o : Clocks) (c : Cut) (i : ℕ) → length c ≡ length o → ((k : ℕ) → k < i → HasLast o c k) → length o ≤ i → IsConsistent o c
all_last o c i width h all = record {
  shaped = width;
  within = λ k. (each k).there;
  pasts = λ k. (each k).past;
}
  where
    each : (k : ℕ) → HasLast o c k
    each k = elim (cases_lt k i) [
      | inl lt ↦ h k lt
      | inr ge ↦ has_none o c k (count_past c k (omega arith))
    ]

-- ---- the next event of a process

pub next_others : (o : Clocks) (c : Cut) (p : ℕ) → p < length c → IsConsistent o (with_next c p) → (j : ℕ) → (j ≡ p → ⊥) → count (clock o p (count c p + 1)) j ≤ count c j
next_others o c p lt h j ne =
    let some : 0 < count (with_next c p) p = omega (arith, with_next_same c p lt) in
    let past : count (clock o p (count (with_next c p) p)) j ≤ count (with_next c p) j = h.pasts p some j in
    let same : count (clock o p (count c p + 1)) j ≤ count (with_next c p) j = subst (λ (n : ℕ). count (clock o p n) j ≤ count (with_next c p) j) (with_next_same c p lt) past in
    omega (arith, with_next_other c p j ne)

-- ---- no events

abbrev pub without_events : ℕ → Clocks
without_events n = replicate n []

none_of : (n p : ℕ) → count (lengths (without_events n)) p ≡ 0
unfolding lengths
none_of zero p = refl
none_of (suc n) zero = refl
none_of (suc n) (suc p) = none_of n p

none_in_all : (n : ℕ) → sum (lengths (without_events n)) ≡ 0
unfolding lengths
none_in_all zero = refl
none_in_all (suc n) = sum_by-cons (λ k. k) 0 (map length (without_events n)) ∙ omega (arith, none_in_all n)

no_event : (n i a : ℕ) → IsEvent (lengths (without_events n)) i a → ⊥
no_event n i a ev = omega (arith, ev.0, ev.1, none_of n i)

pub no_events_order : (n : ℕ) → IsOrder (without_events n)
no_events_order n = record {
  shaped = λ i a ev. absurd (no_event n i a ev);
  own = λ i a ev. absurd (no_event n i a ev);
  named = λ i a ev. absurd (no_event n i a ev);
  transitive = λ i a j b ev _. absurd (no_event n i a ev);
  loopless = λ i a j b ev _ _. absurd (no_event n i a ev);
}

pub no_events_few : (n : ℕ) (o : Clocks) → o ≡ without_events n → sum (lengths o) ≤ most_events
no_events_few n o is = omega (arith, ap (λ (x : Clocks). sum (lengths x)) is, none_in_all n)

pub no_events_shape : (n : ℕ) (o : Clocks) (lens : List ℕ) → o ≡ without_events n → lens ≡ lengths o → 1 ≤ n → n ≤ most_processes → IsShape lens
no_events_shape n o lens is at some few =
    let count : length lens ≡ n = ap length at ∙ length-lengths o ∙ ap length is ∙ length-replicate n [] in
    record { some = omega arith; few = omega arith; events = omega (arith, ap sum at, no_events_few n o is) }

pub no_events_ordered : (n : ℕ) (o : Clocks) (shape lens : List ℕ) → o ≡ without_events n → lens ≡ lengths o → shape ≡ lens → 1 ≤ n → n ≤ most_processes → AreOrdered shape o
no_events_ordered n o shape lens is at same some few = record {
  fits = no_events_shape n o shape is (same ∙ at) some few;
  lens = same ∙ at;
  order = subst IsOrder (sym is) (no_events_order n);
}

-- ---- more events

-- the lengths of clocks of which there are as many as a shape has
pub lengths_shape : (o : Clocks) (shape : List ℕ) → IsShape shape → length shape ≡ length o → sum (lengths o) ≤ most_events → IsShape (lengths o)
lengths_shape o shape is same few = record {
  some = omega (arith, length-lengths o, is.some);
  few = omega (arith, length-lengths o, is.few);
  events = few;
}

pub grown_ordered : (o now : Clocks) (shape shape' : List ℕ) → AreOrdered shape o → length now ≡ length o → sum (lengths now) ≤ most_events → shape' ≡ lengths now → IsOrder now
    → AreOrdered shape' now
grown_ordered o now shape shape' h same few is order = record {
  fits = subst IsShape (sym is) (lengths_shape now shape h.fits (ap length h.lens ∙ length-lengths o ∙ sym same) few);
  lens = is;
  order = order;
}

pub grown_few : (o : Clocks) (events : List Event) (now : Clocks) → now ≡ with_clocks o events → sum (lengths o) + length events ≤ most_events → sum (lengths now) ≤ most_events
grown_few o events now is few = omega (arith, ap (λ (x : Clocks). sum (lengths x)) is, sum_grown o events)
