-- What AG asks of a cut, and the least consistent cut that holds a cut.
use Rattle.std.proofs.Common.{◌≡◌, ℕ, zero, suc, ◌+◌, ◌<◌, ◌≤◌, ◌↔◌, ◌⊎◌, ltb, max, cond, List, length, get_or, replicate, sum, Option, Some, None, refl, sym, ap, ◌∙◌, subst, arith, inl, inr, le_refl, le_trans, below_more}
use Rattle.std.proofs.lemmas.Bool.{cases_lt, cases_eq, cond-true, cond-false, lt-ltb, le-ltb}
use Rattle.pota_base.specs.Shape.{HasEvent, row_of}
use Rattle.pota_base.specs.declared.shape.EventId.{EventId}
use Rattle.run_model.specs.Cut.{Cut, Clocks, count, IsWithin, max_cut, lengths, initial}
use Rattle.run_model.specs.Consistent.{IsOrder, IsConsistent, IsEvent, clock}
use Rattle.run_model.specs.Sublattice.{IsLeast}
use Rattle.run_model.specs.Slice.{Slice, HasWithin, Cuts}
use Rattle.run_model.specs.Operators.{AgHoldsByRows}
use Rattle.run_model.proofs.Counts.{count-max, count_past, max_left, max_right, max_within, within_trans, length-lengths, initial_within}
use Rattle.run_model.proofs.Orders.{has_process, has_past, past_consistent, max_consistent, initial_consistent}
use Rattle.run_model.proofs.SliceLemmas.{has_within_up}
use Rattle.slice_graph.specs.Views.{SliceView, slice_of, last_row, IsCut, IsRow}
use Rattle.slice_graph.specs.Words.{filled, row_words}
use Rattle.slice_graph.proofs.Events.{rows_apart, row_there}
use Rattle.slice_graph.proofs.Words.{filled_within}
use Rattle.temporal_slice.proofs.Rows.{consistent_cut, clock_cut, event_in, max_cut_cut, row_of_last, initial_is}

-- ---- raising a cut

abbrev pub beyond : ℕ → ℕ → ℕ → ℕ
beyond word past n = cond (ltb past word) (max word n) n

-- the first i counts are raised, the others are as they were
pub record RaisedBelow (words past old : List ℕ) (i : ℕ) (now : List ℕ) : Type 0 where
  pub len : length now ≡ length old
  pub below : (k : ℕ) → k < i → count now k ≡ beyond (count words k) (count past k) (count old k)
  pub above : (k : ℕ) → i ≤ k → count now k ≡ count old k

beyond_is : (word past n : ℕ) → ((past < word) × (beyond word past n ≡ max word n)) ⊎ ((word ≤ past) × (beyond word past n ≡ n))
beyond_is word past n = elim (cases_lt past word) [
  | inl lt ↦ inl (lt, cond-true (ltb past word) (max word n) n (lt-ltb past word lt))
  | inr ge ↦ inr (ge, cond-false (ltb past word) (max word n) n (le-ltb past word ge))
]

raised_count : (words past old now c : List ℕ) (i : ℕ) → RaisedBelow words past old i now → length words ≤ i → length old ≡ length words → (k : ℕ)
    → (count now k ≤ count c k) ↔ ((count old k ≤ count c k) × (count words k ≤ count (max_cut c past) k))
raised_count words past old now c i h all size k = elim (cases_lt k i) [
  | inl lt ↦ elim (beyond_is (count words k) (count past k) (count old k)) [
    | inl b ↦ (
      λ le. (omega (arith, le, h.below k lt, b.1), omega (arith, le, h.below k lt, b.1, count-max c past k)),
      λ both. omega (arith, both.0, both.1, b.0, b.1, h.below k lt, count-max c past k),
    )
    | inr b ↦ (
      λ le. (omega (arith, le, h.below k lt, b.1), omega (arith, b.0, count-max c past k)),
      λ both. omega (arith, both.0, b.1, h.below k lt),
    )
  ]
  | inr ge ↦ (
    λ le. (omega (arith, le, h.above k ge), omega (arith, count_past words k (omega arith))),
    λ both. omega (arith, both.0, h.above k ge),
  )
]

pub raised_within : (words past old now : List ℕ) (i : ℕ) → RaisedBelow words past old i now → length words ≤ i → length old ≡ length words → (c : Cut)
    → IsWithin now c ↔ (IsWithin old c × IsWithin words (max_cut c past))
raised_within words past old now i h all size c = (
  λ within. (λ k. ((raised_count words past old now c i h all size k).0 (within k)).0, λ k. ((raised_count words past old now c i h all size k).0 (within k)).1),
  λ both k. (raised_count words past old now c i h all size k).1 (both.0 k, both.1 k),
)

-- ---- what the rows of the first events ask

-- the cut holds the bottom, and of each event before row n what its row has beyond its past
pub record HoldsBelow (o : Clocks) (v : SliceView) (n : ℕ) (c : Cut) : Type 0 where
  pub bottom : HasWithin (slice_of v).bottom c
  pub rows : (e : EventId) → HasEvent (lengths o) e → row_of (lengths o) e < n → HasWithin ((slice_of v).row e.process e.position) (max_cut c (clock o e.process e.position))

abbrev pub AsksBelow : Clocks → SliceView → ℕ → Cut → Type 0
AsksBelow o v n asked = (c : Cut) → IsCut (lengths o) c → IsWithin asked c ↔ HoldsBelow o v n c

pub asks_first : (o : Clocks) (v : SliceView) (words asked : List ℕ) → v.lens ≡ lengths o → 1 ≤ length v.lens → words ≡ row_words v 0 0 → asked ≡ words → AsksBelow o v 1 asked
asks_first o v words asked lens some are is c cut =
    let within : IsWithin c v.lens = subst (IsWithin c) (sym lens) cut.within in
    let here = filled_within v.lens (slice_of v).bottom c some within in
    let same : asked ≡ filled v.lens (slice_of v).bottom = is ∙ are in (
      λ h. record {
        bottom = here.0 (subst (λ (x : Cut). IsWithin x c) same h);
        rows = λ e there lt. absurd (omega (arith, there.first));
      },
      λ h. subst (λ (x : Cut). IsWithin x c) (sym same) (here.1 h.bottom),
    )

pub asks_next : (o : Clocks) → IsOrder o → (v : SliceView) (n : ℕ) (e : EventId) (words past old now : List ℕ) → v.lens ≡ lengths o → 1 ≤ length v.lens → AsksBelow o v n old
    → HasEvent (lengths o) e → row_of (lengths o) e ≡ n → words ≡ row_words v e.process e.position → past ≡ clock o e.process e.position
    → ((c : Cut) → IsWithin now c ↔ (IsWithin old c × IsWithin words (max_cut c past))) → AsksBelow o v (n + 1) now
asks_next o order v n e words past old now lens some asks there at are is raised c cut =
    let clock_in = clock_cut o order e there in
    let with_past = max_cut_cut (lengths o) c (clock o e.process e.position) cut clock_in in
    let row : Option Cut = (slice_of v).row e.process e.position in
    let words_are : words ≡ filled v.lens row = are ∙ ap (filled v.lens) (row_of_last (slice_of v) e.process e.position there.first) in
    let one = filled_within v.lens row (max_cut c (clock o e.process e.position)) some (subst (IsWithin (max_cut c (clock o e.process e.position))) (sym lens) with_past.within) in (
      λ h.
          let both = (raised c).0 h in
          let before = (asks c cut).0 both.0 in
          let here : HasWithin row (max_cut c (clock o e.process e.position)) =
          one.0 (subst (λ (x : Cut). IsWithin x (max_cut c (clock o e.process e.position))) words_are (subst (λ (x : Cut). IsWithin words (max_cut c x)) is both.1)) in
          record {
            bottom = before.bottom;
            rows = λ f known lt. elim (cases_lt (row_of (lengths o) f) n) [
              | inl less ↦ before.rows f known less
              | inr ge ↦ subst (λ (g : EventId). HasWithin ((slice_of v).row g.process g.position) (max_cut c (clock o g.process g.position)))
                  (rows_apart (lengths o) e f there known (omega (arith, at, lt, ge))) here
            ];
          },
      λ h. (raised c).1 (
        (asks c cut).1 (record { bottom = h.bottom; rows = λ f known lt. h.rows f known (omega (arith, lt)) }),
        subst (λ (x : Cut). IsWithin words (max_cut c x)) (sym is)
            (subst (λ (x : Cut). IsWithin x (max_cut c (clock o e.process e.position))) (sym words_are) (one.1 (h.rows e there (omega (arith, at))))),
      ),
    )

holds_all : (o : Clocks) (v : SliceView) (n : ℕ) (c : Cut) → sum (lengths o) < n → HoldsBelow o v n c ↔ AgHoldsByRows o (slice_of v) c
holds_all o v n c all = (
  λ h. record {
    bottom = h.bottom;
    rows = λ i a ev.
        let e : EventId = record { process = i; position = a } in
        let there : HasEvent (lengths o) e = record { process = omega (arith, has_process (lengths o) i a ev); first = omega (arith, ev.0); last = ev.1 } in
        h.rows e there (omega (arith, row_there (lengths o) e there));
  },
  λ h. record { bottom = h.bottom; rows = λ e there lt. h.rows e.process e.position (event_in o e there) },
)

pub asks_all : (o : Clocks) (v : SliceView) (n : ℕ) (asked : Cut) → sum (lengths o) < n → AsksBelow o v n asked → (c : Cut) → IsCut (lengths o) c
    → IsWithin asked c ↔ AgHoldsByRows o (slice_of v) c
asks_all o v n asked all asks c cut =
    let here = asks c cut in
    let there = holds_all o v n c all in
    (λ h. there.0 (here.0 h), λ h. here.1 (there.1 h))

-- where the slice has the final cut, what is asked is within the lengths
pub asked_within : (o : Clocks) (v : SliceView) (asked : Cut) → Cuts o (slice_of v) (lengths o)
    → ((c : Cut) → IsCut (lengths o) c → IsWithin asked c ↔ AgHoldsByRows o (slice_of v) c) → IsWithin asked (lengths o)
asked_within o v asked last asks = (asks (lengths o) (record { size = refl; within = λ i. le_refl (count (lengths o) i) })).1 (record {
  bottom = last.from_bottom;
  rows = λ i a ev. has_within_up ((slice_of v).row i a) (lengths o) (max_cut (lengths o) (clock o i a)) (max_left (lengths o) (clock o i a)) (last.rows i a ev);
})

-- the least consistent cut that holds what is asked is the least at which the rows say so
pub asked_least : (o : Clocks) (v : SliceView) (asked b : Cut) → ((c : Cut) → IsCut (lengths o) c → IsWithin asked c ↔ AgHoldsByRows o (slice_of v) c)
    → IsLeast (λ c. IsConsistent o c × IsWithin asked c) b → IsLeast (λ c. IsConsistent o c × AgHoldsByRows o (slice_of v) c) b
asked_least o v asked b asks h = record {
  member = (h.member.0, (asks b (consistent_cut o b h.member.0)).0 h.member.1);
  least = λ c k. h.least c (k.0, (asks c (consistent_cut o c k.0)).1 k.1);
}

-- ---- the least consistent cut that holds a cut

-- it is consistent, has the first k counts of the cut, and lies within each consistent cut that holds the cut
pub record Closes (o : Clocks) (cut : Cut) (k : ℕ) (closed : Cut) : Type 0 where
  pub consistent : IsConsistent o closed
  pub has : (i : ℕ) → i < k → count cut i ≤ count closed i
  pub least : (d : Cut) → IsConsistent o d → IsWithin cut d → IsWithin closed d

pub closes_none : (o : Clocks) (cut closed : Cut) (n : ℕ) → closed ≡ replicate n 0 → n ≡ length o → Closes o cut 0 closed
closes_none o cut closed n is all = subst (Closes o cut 0) (sym (is ∙ initial_is o n all)) (record {
  consistent = initial_consistent o;
  has = λ i lt. absurd (omega arith);
  least = λ d _ _. initial_within o d;
})

pub closes_more : (o : Clocks) → IsOrder o → (cut old new : Cut) (k a : ℕ) → Closes o cut k old → IsWithin cut (lengths o) → a ≡ count cut k
    → (a ≡ 0 → new ≡ old) → (0 < a → new ≡ max_cut (clock o k a) old) → Closes o cut (k + 1) new
closes_more o order cut old new k a h within at none some = elim (cases_lt 0 a) [
  | inr zero' ↦ subst (Closes o cut (k + 1)) (sym (none (omega arith))) (record {
    consistent = h.consistent;
    has = below_more (λ i. count cut i ≤ count old i) k h.has (omega (arith, at, zero'));
    least = h.least;
  })
  | inl pos ↦
      let ev : IsEvent (lengths o) k a = (pos, omega (arith, at, within k)) in
      subst (Closes o cut (k + 1)) (sym (some pos)) (record {
        consistent = max_consistent o order (clock o k a) old (past_consistent o order k a ev) h.consistent;
        has = below_more (λ i. count cut i ≤ count (max_cut (clock o k a) old) i) k
            (λ i lt. le_trans (h.has i lt) (max_right (clock o k a) old i))
            (omega (arith, at, order.own k a ev, count-max (clock o k a) old k));
        least = λ d consistent holds. max_within (clock o k a) old d (has_past o order d consistent k a (pos, omega (arith, at, holds k))) (h.least d consistent holds);
      })
]
