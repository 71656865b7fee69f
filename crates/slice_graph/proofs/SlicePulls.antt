-- The pulls of a slice: they are pulls of its shape, and hold exactly at its cuts.
use Rattle.std.proofs.Common.{◌≡◌, ℕ, zero, suc, ◌+◌, ◌*◌, ◌<◌, ◌≤◌, ◌↔◌, leb, List, [], length, flat_map, All, refl, subst, arith, inl, inr}
use Rattle.std.specs.List.{range_with_len}
use Rattle.std.proofs.lemmas.Bool.{cases_lt, cond-true, cond-false, le-leb, lt-leb}
use Rattle.std.proofs.lemmas.List.Elements.{All-nil, All-cons, All-head}
use Rattle.std.proofs.lemmas.List.FromFn.{length-map-range_with_len}
use Rattle.run_model.specs.Cut.{Cut, Clocks, count}
use Rattle.run_model.specs.Slice.{Cuts}
use Rattle.run_model.proofs.Counts.{count_past}
use Rattle.pull_system.specs.declared.pull.Pull.{Pull}
use Rattle.pull_system.specs.System.{IsPull}
use Rattle.pull_system.specs.Pulls.{HoldsAt, ClosedUnder}
use Rattle.slice_graph.specs.Views.{SliceView, slice_of, last_row, IsCut, IsRow, HasAllRows, HasLasts}
use Rattle.slice_graph.specs.Words.{row_words}
use Rattle.slice_graph.specs.Fitting.{FitsOrder}
use Rattle.slice_graph.specs.PullLists.{slice_entry, slice_table, slice_pull, pulls_of_slice}
use Rattle.slice_graph.proofs.Words.{filled_most, filled_within, length-filled}
use Rattle.slice_graph.proofs.Lasts.{words_rise, has_lasts}
use Rattle.slice_graph.proofs.OrderPulls.{entry_at, table_rises}
use Rattle.slice_graph.proofs.Pairs.{all_pairs, all_pairs_at, length_flat}

-- each row that is read has no cut or one within the lengths
pub last_is_row : (v : SliceView) → HasAllRows v → (i a : ℕ) → IsRow v.lens (last_row (slice_of v) i a)
last_is_row v rows i zero = rows.cuts.each 0
last_is_row v rows i (suc a) = rows.cuts.each _

-- ---- entries

pub entry_within : (v : SliceView) (i j x : ℕ) → x ≤ count v.lens i → slice_entry v i j x ≡ count (row_words v i x) j
entry_within v i j x le = cond-true (leb x (count v.lens i)) (count (row_words v i x) j) (count v.lens j + 1) (le-leb x (count v.lens i) le)

pub entry_past : (v : SliceView) (i j x : ℕ) → count v.lens i < x → slice_entry v i j x ≡ count v.lens j + 1
entry_past v i j x gt = cond-false (leb x (count v.lens i)) (count (row_words v i x) j) (count v.lens j + 1) (lt-leb x (count v.lens i) gt)

entry_most : (v : SliceView) → HasAllRows v → (i j x : ℕ) → slice_entry v i j x ≤ count v.lens j + 1
entry_most v rows i j x = elim (cases_lt (count v.lens i) x) [
  | inl past ↦ omega (arith, entry_past v i j x past)
  | inr le ↦ omega (arith, entry_within v i j x le, filled_most v.lens (last_row (slice_of v) i x) (last_is_row v rows i x) j)
]

pub entries_rise : (o : Clocks) (v : SliceView) → FitsOrder o v → HasAllRows v → (i j x y : ℕ) → j < length v.lens → x ≤ y → slice_entry v i j x ≤ slice_entry v i j y
entries_rise o v fits rows i j x y process up = elim (cases_lt (count v.lens i) y) [
  | inl past ↦ omega (arith, entry_past v i j y past, entry_most v rows i j x)
  | inr le ↦ omega (
    arith,
    entry_within v i j x (omega arith),
    entry_within v i j y le,
    words_rise o v fits i x y j up (subst (λ (lens : List ℕ). y ≤ count lens i) fits.shape le) process (last_is_row v rows i x),
  )
]

-- ---- pulls of the shape

abbrev the_pull : SliceView → ℕ → ℕ → Pull
the_pull v i j = record { src = i; dst = j; table = slice_table v i j }

pub slice_pulls_fit : (o : Clocks) (v : SliceView) → FitsOrder o v → HasAllRows v → All (IsPull v.lens) (pulls_of_slice v)
slice_pulls_fit o v fits rows = all_pairs (IsPull v.lens) (slice_pull v) (length v.lens) (λ i j lt less.
    All-cons (IsPull v.lens) (the_pull v i j) [] (record {
      source = lt;
      target = less;
      size = length-map-range_with_len (slice_entry v i j) 0 (count v.lens i + 2);
      table = table_rises (slice_entry v i j) (count v.lens i + 2) (count v.lens j + 1)
          (λ x y up _. entries_rise o v fits rows i j x y less up)
          (λ x _. entry_most v rows i j x);
    }) (All-nil (IsPull v.lens)))

pub slice_pulls_count : (v : SliceView) → length (pulls_of_slice v) ≡ length v.lens * length v.lens
slice_pulls_count v = length_flat (λ i. flat_map (slice_pull v i) (range_with_len 0 (length v.lens))) (length v.lens) 0 (length v.lens) (λ i _.
    omega (arith, length_flat (slice_pull v i) 1 0 (length v.lens) (λ j _. refl)))

-- ---- closed cuts

holds_row : (v : SliceView) (c : Cut) (i j : ℕ) → count c i ≤ count v.lens i → HoldsAt c (the_pull v i j) ↔ (count (row_words v i (count c i)) j ≤ count c j)
holds_row v c i j there =
    let at = entry_at (slice_entry v i j) (count v.lens i + 2) (count c i) (omega arith) in
    let is = entry_within v i j (count c i) there in
    (λ h. omega (arith, h, at, is), λ h. omega (arith, h, at, is))

closed_lasts : (v : SliceView) → HasAllRows v → (c : Cut) → IsCut v.lens c → ClosedUnder (pulls_of_slice v) c → HasLasts v c
closed_lasts v rows c h closed i lt =
    (filled_within v.lens (last_row (slice_of v) i (count c i)) c rows.cuts.shape.some h.within).0 (λ j. elim (cases_lt j (length v.lens)) [
      | inl less ↦ (holds_row v c i j (h.within i)).0 (All-head (HoldsAt c) (the_pull v i j) [] (all_pairs_at (HoldsAt c) (slice_pull v) (length v.lens) i j lt less closed))
      | inr past ↦ omega (arith, count_past (row_words v i (count c i)) j (omega (arith, length-filled v.lens (last_row (slice_of v) i (count c i)) (last_is_row v rows i (count c i)))))
    ])

lasts_closed : (v : SliceView) → HasAllRows v → (c : Cut) → IsCut v.lens c → HasLasts v c → ClosedUnder (pulls_of_slice v) c
lasts_closed v rows c h lasts = all_pairs (HoldsAt c) (slice_pull v) (length v.lens) (λ i j lt less.
    All-cons (HoldsAt c) (the_pull v i j) [] ((holds_row v c i j (h.within i)).1
    ((filled_within v.lens (last_row (slice_of v) i (count c i)) c rows.cuts.shape.some h.within).1 (lasts i lt) j)) (All-nil (HoldsAt c)))

pub slice_closed : (o : Clocks) (v : SliceView) → FitsOrder o v → HasAllRows v → (c : Cut) → IsCut v.lens c → ClosedUnder (pulls_of_slice v) c ↔ Cuts o (slice_of v) c
slice_closed o v fits rows c h =
    let has = has_lasts o v fits rows.cuts.shape.some c h in
    (λ closed. has.0 (closed_lasts v rows c h closed), λ cut. lasts_closed v rows c h (has.1 cut))
