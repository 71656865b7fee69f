-- The pulls of EX of a process are pulls of the shape, and hold at a consistent cut exactly where the slice has the cut with the process's next event.
use Rattle.std.proofs.Common.{◌≡◌, ℕ, ◌+◌, ◌-◌, ◌*◌, ◌<◌, ◌≤◌, ◌^◌, ◌↔◌, eqb, leb, List, [], length, get_or, flat_map, sum, All, refl, sym, ap, ◌∙◌, subst, arith, inl, inr}
use Rattle.std.specs.List.{range_with_len}
use Rattle.std.proofs.lemmas.Bool.{cases_lt, cases_eq, cond-true, cond-false, eq-eqb, ne_eqb, le-leb, lt-leb}
use Rattle.std.proofs.lemmas.List.Elements.{All-nil, All-cons, All-head}
use Rattle.std.proofs.lemmas.List.Sums.{get_or-le-sum_by}
use Rattle.std.proofs.lemmas.List.FromFn.{length-map-range_with_len}
use Rattle.run_model.specs.Cut.{Cut, Clocks, count, IsWithin, with_next, lengths}
use Rattle.run_model.specs.Consistent.{IsConsistent}
use Rattle.run_model.specs.Slice.{Cuts}
use Rattle.run_model.specs.Operators.{ExHolds}
use Rattle.run_model.proofs.Counts.{count_past, length-lengths, length-with_next, with_next_same, with_next_other}
use Rattle.run_model.proofs.Paths.{next_time_from}
use Rattle.pull_system.specs.declared.pull.Pull.{Pull}
use Rattle.pull_system.specs.System.{IsPull}
use Rattle.pull_system.specs.Pulls.{HoldsAt, ClosedUnder}
use Rattle.slice_graph.specs.Views.{SliceView, slice_of, last_row, IsCut, HasAllRows, HasLasts}
use Rattle.slice_graph.specs.Words.{row_words}
use Rattle.slice_graph.specs.Fitting.{FitsOrder}
use Rattle.slice_graph.proofs.Words.{filled_most, filled_within, length-filled}
use Rattle.slice_graph.proofs.Lasts.{words_rise, has_lasts}
use Rattle.slice_graph.proofs.OrderPulls.{entry_at, table_rises}
use Rattle.slice_graph.proofs.SlicePulls.{last_is_row}
use Rattle.slice_graph.proofs.Pairs.{all_pairs, all_pairs_at, length_flat}
use Rattle.temporal_slice.specs.NextPulls.{with_one, one_less, next_entry, next_table, next_pull, pulls_of_next}

-- ---- one event more, and one less

pub with_one_here : (p i x : ℕ) → i ≡ p → with_one p i x ≡ x + 1
with_one_here p i x same = cond-true (eqb i p) (x + 1) x (eq-eqb i p same)

pub with_one_other : (p i x : ℕ) → (i ≡ p → ⊥) → with_one p i x ≡ x
with_one_other p i x ne = cond-false (eqb i p) (x + 1) x (ne_eqb i p ne)

with_one_rises : (p i x y : ℕ) → x ≤ y → with_one p i x ≤ with_one p i y
with_one_rises p i x y up = elim (cases_eq i p) [
  | inl same ↦ omega (arith, up, with_one_here p i x same, with_one_here p i y same)
  | inr ne ↦ omega (arith, up, with_one_other p i x ne, with_one_other p i y ne)
]

pub one_less_here : (p j w : ℕ) → j ≡ p → one_less p j w ≡ w - 1
one_less_here p j w same = cond-true (eqb j p) (w - 1) w (eq-eqb j p same)

pub one_less_other : (p j w : ℕ) → (j ≡ p → ⊥) → one_less p j w ≡ w
one_less_other p j w ne = cond-false (eqb j p) (w - 1) w (ne_eqb j p ne)

one_less_most : (p j w : ℕ) → one_less p j w ≤ w
one_less_most p j w = elim (cases_eq j p) [
  | inl same ↦ omega (arith, one_less_here p j w same)
  | inr ne ↦ omega (arith, one_less_other p j w ne)
]

one_less_rises : (p j w u : ℕ) → w ≤ u → one_less p j w ≤ one_less p j u
one_less_rises p j w u up = elim (cases_eq j p) [
  | inl same ↦ omega (arith, up, one_less_here p j w same, one_less_here p j u same)
  | inr ne ↦ omega (arith, up, one_less_other p j w ne, one_less_other p j u ne)
]

with_one_next : (c : Cut) (p i : ℕ) → p < length c → with_one p i (count c i) ≡ count (with_next c p) i
with_one_next c p i there = elim (cases_eq i p) [
  | inl same ↦ subst (λ (k : ℕ). with_one p k (count c k) ≡ count (with_next c p) k) (sym same) (with_one_here p p (count c p) refl ∙ sym (with_next_same c p there))
  | inr ne ↦ with_one_other p i (count c i) ne ∙ sym (with_next_other c p i ne)
]

-- what is asked of the cut is what is asked of the cut with the next event
one_less_next : (c : Cut) (p j w : ℕ) → p < length c → (one_less p j w ≤ count c j) ↔ (w ≤ count (with_next c p) j)
one_less_next c p j w there = elim (cases_eq j p) [
  | inl same ↦
      let next : count (with_next c p) j ≡ count c j + 1 = subst (λ (k : ℕ). count (with_next c p) k ≡ count c k + 1) (sym same) (with_next_same c p there) in
      (λ h. omega (arith, h, next, one_less_here p j w same), λ h. omega (arith, h, next, one_less_here p j w same))
  | inr ne ↦ (λ h. omega (arith, h, with_next_other c p j ne, one_less_other p j w ne), λ h. omega (arith, h, with_next_other c p j ne, one_less_other p j w ne))
]

-- ---- entries

pub entry_there : (v : SliceView) (p i j x : ℕ) → with_one p i x ≤ count v.lens i → next_entry v p i j x ≡ one_less p j (count (row_words v i (with_one p i x)) j)
entry_there v p i j x le =
    cond-true (leb (with_one p i x) (count v.lens i)) (one_less p j (count (row_words v i (with_one p i x)) j)) (count v.lens j + 1) (le-leb (with_one p i x) (count v.lens i) le)

pub entry_gone : (v : SliceView) (p i j x : ℕ) → count v.lens i < with_one p i x → next_entry v p i j x ≡ count v.lens j + 1
entry_gone v p i j x gt =
    cond-false (leb (with_one p i x) (count v.lens i)) (one_less p j (count (row_words v i (with_one p i x)) j)) (count v.lens j + 1) (lt-leb (with_one p i x) (count v.lens i) gt)

pub entry_most : (v : SliceView) → HasAllRows v → (p i j x : ℕ) → next_entry v p i j x ≤ count v.lens j + 1
entry_most v rows p i j x = elim (cases_lt (count v.lens i) (with_one p i x)) [
  | inl gone ↦ omega (arith, entry_gone v p i j x gone)
  | inr le ↦ omega (
    arith,
    entry_there v p i j x le,
    one_less_most p j (count (row_words v i (with_one p i x)) j),
    filled_most v.lens (last_row (slice_of v) i (with_one p i x)) (last_is_row v rows i (with_one p i x)) j,
  )
]

entries_rise : (o : Clocks) (v : SliceView) → FitsOrder o v → HasAllRows v → (p i j x y : ℕ) → j < length v.lens → x ≤ y → next_entry v p i j x ≤ next_entry v p i j y
entries_rise o v fits rows p i j x y process up =
    let more = with_one_rises p i x y up in
    elim (cases_lt (count v.lens i) (with_one p i y)) [
      | inl gone ↦ omega (arith, entry_gone v p i j y gone, entry_most v rows p i j x)
      | inr le ↦
          let words = words_rise o v fits i (with_one p i x) (with_one p i y) j more (subst (λ (lens : List ℕ). with_one p i y ≤ count lens i) fits.shape le) process (last_is_row v rows i (with_one p i x)) in
          omega (
            arith,
            entry_there v p i j x (omega (arith, more, le)),
            entry_there v p i j y le,
            one_less_rises p j (count (row_words v i (with_one p i x)) j) (count (row_words v i (with_one p i y)) j) words,
          )
    ]

-- ---- pulls of the shape

abbrev the_pull : SliceView → ℕ → ℕ → ℕ → Pull
the_pull v p i j = record { src = i; dst = j; table = next_table v p i j }

pub next_pulls_fit : (o : Clocks) (v : SliceView) → FitsOrder o v → HasAllRows v → (p : ℕ) → All (IsPull v.lens) (pulls_of_next v p)
next_pulls_fit o v fits rows p = all_pairs (IsPull v.lens) (next_pull v p) (length v.lens) (λ i j lt less.
    All-cons (IsPull v.lens) (the_pull v p i j) [] (record {
      source = lt;
      target = less;
      size = length-map-range_with_len (next_entry v p i j) 0 (count v.lens i + 2);
      table = table_rises (next_entry v p i j) (count v.lens i + 2) (count v.lens j + 1)
          (λ x y up _. entries_rise o v fits rows p i j x y less up)
          (λ x _. entry_most v rows p i j x);
    }) (All-nil (IsPull v.lens)))

pub next_pulls_count : (v : SliceView) (p : ℕ) → length (pulls_of_next v p) ≡ length v.lens * length v.lens
next_pulls_count v p = length_flat (λ i. flat_map (next_pull v p i) (range_with_len 0 (length v.lens))) (length v.lens) 0 (length v.lens) (λ i _.
    omega (arith, length_flat (next_pull v p i) 1 0 (length v.lens) (λ j _. refl)))

-- ---- closed cuts

module _ (o : Clocks) (v : SliceView) (fits : FitsOrder o v) (rows : HasAllRows v) (p : ℕ) (process : p < length v.lens) (c : Cut) (k : IsConsistent o c) where
  abbrev next : Cut
  next = with_next c p

  there : p < length c
  there = omega (arith, process, k.shaped, length-lengths o, ap length fits.shape)

  within : (i : ℕ) → count c i ≤ count v.lens i
  within i = subst (λ (lens : List ℕ). count c i ≤ count lens i) (sym fits.shape) (k.within i)

  -- the entry that is read at the cut
  holds_entry : (i j : ℕ) → HoldsAt c (the_pull v p i j) ↔ (next_entry v p i j (count c i) ≤ count c j)
  holds_entry i j =
      let at = entry_at (next_entry v p i j) (count v.lens i + 2) (count c i) (omega (arith, within i)) in
      (λ h. omega (arith, h, at), λ h. omega (arith, h, at))

  -- where the row is there, it is asked of the cut with the next event
  holds_row : (i j : ℕ) → count (with_next c p) i ≤ count v.lens i → HoldsAt c (the_pull v p i j) ↔ (count (row_words v i (count (with_next c p) i)) j ≤ count (with_next c p) j)
  holds_row i j le =
      let same = with_one_next c p i there in
      let is : next_entry v p i j (count c i) ≡ one_less p j (count (row_words v i (count (with_next c p) i)) j) =
      entry_there v p i j (count c i) (omega (arith, le, same)) ∙ ap (λ (x : ℕ). one_less p j (count (row_words v i x) j)) same in
      let less = one_less_next c p j (count (row_words v i (count (with_next c p) i)) j) there in
      let entry = holds_entry i j in
      (λ h. less.0 (omega (arith, entry.0 h, is)), λ h. entry.1 (omega (arith, less.1 h, is)))

  -- the next event is there, by the pull from the process to itself
  next_within : ClosedUnder (pulls_of_next v p) c → IsCut v.lens (with_next c p)
  next_within closed =
      let own = (holds_entry p p).0 (All-head (HoldsAt c) (the_pull v p p p) [] (all_pairs_at (HoldsAt c) (next_pull v p) (length v.lens) p p process process closed)) in
      let event : count c p + 1 ≤ count v.lens p = elim (cases_lt (count v.lens p) (with_one p p (count c p))) [
        | inl gone ↦ absurd (omega (arith, own, entry_gone v p p p (count c p) gone, within p))
        | inr le ↦ omega (arith, le, with_one_here p p (count c p) refl)
      ] in
      record {
        size = length-with_next c p ∙ k.shaped ∙ sym (length-lengths o) ∙ sym (ap length fits.shape);
        within = λ i. elim (cases_eq i p) [
          | inl same ↦ subst (λ (x : ℕ). count (with_next c p) x ≤ count v.lens x) (sym same) (omega (arith, event, with_next_same c p there))
          | inr ne ↦ omega (arith, with_next_other c p i ne, within i)
        ];
      }

  next_lasts : ClosedUnder (pulls_of_next v p) c → HasLasts v (with_next c p)
  next_lasts closed i lt =
      let h = next_within closed in
      (filled_within v.lens (last_row (slice_of v) i (count (with_next c p) i)) (with_next c p) rows.cuts.shape.some h.within).0 (λ j. elim (cases_lt j (length v.lens)) [
        | inl less ↦ (holds_row i j (h.within i)).0 (All-head (HoldsAt c) (the_pull v p i j) [] (all_pairs_at (HoldsAt c) (next_pull v p) (length v.lens) i j lt less closed))
        | inr past ↦ omega (arith, count_past (row_words v i (count (with_next c p) i)) j (omega (arith, length-filled v.lens (last_row (slice_of v) i (count (with_next c p) i)) (last_is_row v rows i (count (with_next c p) i)))))
      ])

  lasts_next : IsCut v.lens (with_next c p) → HasLasts v (with_next c p) → ClosedUnder (pulls_of_next v p) c
  lasts_next h lasts = all_pairs (HoldsAt c) (next_pull v p) (length v.lens) (λ i j lt less.
      All-cons (HoldsAt c) (the_pull v p i j) [] ((holds_row i j (h.within i)).1
      ((filled_within v.lens (last_row (slice_of v) i (count (with_next c p) i)) (with_next c p) rows.cuts.shape.some h.within).1 (lasts i lt) j)) (All-nil (HoldsAt c)))

  pub next_closed : ClosedUnder (pulls_of_next v p) c ↔ ExHolds o p (Cuts o (slice_of v)) c
  next_closed = (
    λ closed.
        let h = next_within closed in
        let member = (has_lasts o v fits rows.cuts.shape.some (with_next c p) h).0 (next_lasts closed) in
        next_time_from o p (Cuts o (slice_of v)) c there k member.consistent member,
    λ w.
        let h : IsCut v.lens (with_next c p) = record {
          size = w.2.consistent.shaped ∙ sym (length-lengths o) ∙ sym (ap length fits.shape);
          within = subst (IsWithin (with_next c p)) (sym fits.shape) w.2.consistent.within;
        } in
        lasts_next h ((has_lasts o v fits rows.cuts.shape.some (with_next c p) h).1 w.2),
  )

-- ---- rows of 16 bits

pub asked_small : (v : SliceView) → HasAllRows v → (p i x : ℕ) (row : List ℕ) → length row ≡ length v.lens → ((j : ℕ) → j < length v.lens → get_or row j 0 ≡ next_entry v p i j x)
    → (j : ℕ) → get_or row j 0 < 2 ^ 16
asked_small v rows p i x row size are j = elim (cases_lt j (length v.lens)) [
  | inl less ↦ omega (arith, are j less, entry_most v rows p i j x, get_or-le-sum_by (λ (n : ℕ). n) v.lens j 0 less, rows.cuts.shape.events)
  | inr past ↦ omega (arith, count_past row j (omega (arith, size, past)))
]
