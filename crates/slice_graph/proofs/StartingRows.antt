-- Rows that a table may begin from: those of a slice, and the clocks of an order.
use Rattle.std.proofs.Common.{◌≡◌, ℕ, zero, suc, ◌+◌, ◌-◌, ◌*◌, ◌<◌, ◌≤◌, min, eqb, List, [], ◌∷◌, ◌++◌, length, get_or, take, drop, replicate, sum, All, Option, Some, None, refl, sym, ap, ◌∙◌, subst, arith, inl, inr, below_more, length-append}
use Rattle.std.proofs.lemmas.Bool.{cases_lt, cases_eq, cond-false, ne_eqb}
use Rattle.std.proofs.lemmas.List.{ext_get_or, get_or_append_left, get_or_push}
use Rattle.std.proofs.lemmas.List.Elements.{All-head}
use Rattle.pota_base.specs.Shape.{HasEvent, row_of}
use Rattle.pota_base.specs.declared.shape.EventId.{EventId}
use Rattle.run_model.specs.Cut.{Cut, Clocks, count, lengths, max_cut}
use Rattle.run_model.specs.Consistent.{IsOrder, IsEvent, clock}
use Rattle.run_model.specs.Sublattice.{Having}
use Rattle.run_model.specs.Slice.{IsLeastOf, Cuts}
use Rattle.run_model.proofs.Counts.{count_past, count-max, length-max, length-lengths}
use Rattle.causal_order.specs.Blocks.{rows_of}
use Rattle.causal_order.proofs.Rows.{length-rows_of, row_at as row_cut_out}
use Rattle.pull_system.specs.declared.pull.Pull.{Pull}
use Rattle.pull_system.specs.Vector.{IsAtMost, IsVector}
use Rattle.pull_system.specs.Pulls.{HoldsAt, ClosedUnder}
use Rattle.pull_system.specs.Rows.{start_of, row_at}
use Rattle.slice_graph.specs.Views.{SliceView, HasAllRows, no_row, slice_of, last_row}
use Rattle.slice_graph.specs.Words.{filled, row_words}
use Rattle.slice_graph.specs.inside.Words.{AreAllWords}
use Rattle.slice_graph.specs.Fitting.{FitsOrder}
use Rattle.slice_graph.specs.PullLists.{order_entry, order_table, order_pull, pulls_of_order}
use Rattle.slice_graph.specs.PullLists.{slice_entry, slice_table, slice_pull, pulls_of_slice}
use Rattle.slice_graph.specs.Starting.{AreAbove, AreWithinClosed}
use Rattle.slice_graph.proofs.Words.{rows_pushed, count-past_ends, length-filled}
use Rattle.slice_graph.proofs.Events.{event_of_row, row_there}
use Rattle.slice_graph.proofs.Kept.{bottom_start, event_start}
use Rattle.slice_graph.proofs.Pairs.{all_pairs_at}
use Rattle.slice_graph.proofs.RowByRow.{zero_counts}
use Rattle.slice_graph.proofs.OrderPulls.{entry_at, counts_rise, past_is}
use Rattle.slice_graph.proofs.SlicePulls.{entries_rise, entry_within, last_is_row}

-- the words are the first rows, each as it should be
pub record AreBuilt (lens : List ℕ) (P : ℕ → List ℕ → Type 0) (n : ℕ) (words : List ℕ) : Type 0 where
  pub size : length words ≡ n * length lens
  pub each : (r : ℕ) → r < n → P r (get_or (rows_of (length lens) n words) r [])

pub words_none : (lens : List ℕ) (P : ℕ → List ℕ → Type 0) (words : List ℕ) → words ≡ [] → AreBuilt lens P 0 words
words_none lens P words none = record { size = ap length none ∙ omega arith; each = λ r lt. absurd (omega arith) }

pub words_more : (lens : List ℕ) (P : ℕ → List ℕ → Type 0) (n : ℕ) (words new row : List ℕ) → AreBuilt lens P n words → length row ≡ length lens → P n row → new ≡ words ++ row → AreBuilt lens P (n + 1) new
words_more lens P n words new row h width is same =
    let w : ℕ = length lens in
    let more = rows_pushed lens n words row h.size width in
    let len = length-rows_of w n words in
    subst (AreBuilt lens P (n + 1)) (sym same) (record {
      size = omega (arith, length-append words row, h.size, width);
      each = below_more (λ r. P r (get_or (rows_of w (n + 1) (words ++ row)) r [])) n
          (λ r lt. subst (P r) (sym (ap (λ (rs : List Cut). get_or rs r []) more ∙ get_or_append_left (rows_of w n words) (row ∷ []) [] r (omega (arith, lt, len)))) (h.each r lt))
          (subst (P n) (sym (ap (λ (rs : List Cut). get_or rs n []) more ∙ get_or_push (rows_of w n words) row [] n len)) is);
    })

pub words_size : (lens : List ℕ) (P : ℕ → List ℕ → Type 0) (n : ℕ) (words : List ℕ) → AreBuilt lens P n words → n ≡ sum lens + 1 → length words ≡ (sum lens + 1) * length lens
words_size lens P n words h all = h.size ∙ ap (λ (k : ℕ). k * length lens) all

-- the words of one row are cut out
cut_out : (lens words : List ℕ) (row : ℕ) → row_at lens words row ≡ take (length lens) (drop (row * length lens) words)
cut_out lens words row =
    let size : (row + 1) * length lens + 0 - (row * length lens + 0) ≡ length lens = omega arith in
    let place : row * length lens + 0 ≡ row * length lens = omega arith in
    ap (λ (k : ℕ). take k (drop (row * length lens + 0) words)) size ∙ ap (λ (k : ℕ). take (length lens) (drop k words)) place

pub words_row : (lens : List ℕ) (P : ℕ → List ℕ → Type 0) (n : ℕ) (words : List ℕ) → AreBuilt lens P n words → n ≡ sum lens + 1 → (row : ℕ) → row ≤ sum lens → P row (row_at lens words row)
words_row lens P n words h all row there =
    let lt : row < n = omega (arith, all, there) in
    subst (P row) (row_cut_out (length lens) n row words lt ∙ sym (cut_out lens words row)) (h.each row lt)

-- the pulls hold at a vector that is at or above the start of a row: by the bottom and the events
below_start : (lens words c : List ℕ) → ((i : ℕ) → count (row_at lens words 0) i ≤ count c i)
    → ((e : EventId) → HasEvent lens e → e.position ≤ count c e.process → (i : ℕ) → count (row_at lens words (row_of lens e)) i ≤ count c i)
    → (row : ℕ) → row ≤ sum lens → IsAtMost (start_of lens row) c → IsAtMost (row_at lens words row) c
below_start lens words c bottom event row there above = elim (cases_lt 0 row) [
  | inr none ↦
      let P : ℕ → Type 0 = λ r. IsAtMost (row_at lens words r) c in
      let zeroth : 0 ≡ row = omega (arith, none) in
      subst P zeroth (record { each = bottom })
  | inl pos ↦
      let r = event_of_row lens row (omega arith) there in
      let P : ℕ → Type 0 = λ k. IsAtMost (row_at lens words k) c in
      let at : IsAtMost (start_of lens (row_of lens r.0)) c = subst (λ (k : ℕ). IsAtMost (start_of lens k) c) (sym r.2) above in
      subst P r.2 (record { each = event r.0 r.1 ((event_start lens r.0 c r.1).0 at.each) })
]

above_start : (lens words : List ℕ) → ((e : EventId) → HasEvent lens e → e.position ≤ count (row_at lens words (row_of lens e)) e.process)
    → (row : ℕ) → row ≤ sum lens → IsAtMost (start_of lens row) (row_at lens words row)
above_start lens words event row there = elim (cases_lt 0 row) [
  | inr none ↦
      let P : ℕ → Type 0 = λ r. IsAtMost (start_of lens r) (row_at lens words r) in
      let zeroth : 0 ≡ row = omega (arith, none) in
      subst P zeroth (record { each = bottom_start lens (row_at lens words 0) })
  | inl pos ↦
      let r = event_of_row lens row (omega arith) there in
      let P : ℕ → Type 0 = λ k. IsAtMost (start_of lens k) (row_at lens words k) in
      subst P r.2 (record { each = (event_start lens r.0 (row_at lens words (row_of lens r.0)) r.1).1 (event r.0 r.1) })
]

-- ---- the clocks of an order

order_asks : (o : Clocks) → IsOrder o → (c : List ℕ) → IsVector (lengths o) c → ClosedUnder (pulls_of_order o) c → (i j x : ℕ) → i < length o → j < length o → (i ≡ j → ⊥)
    → x ≤ count c i → IsEvent (lengths o) i x → count (clock o i x) j ≤ count c j
order_asks o order c vector closed i j x there less ne up ev =
    let pull : Pull = record { src = i; dst = j; table = order_table o i j } in
    let one : All (HoldsAt c) (pull ∷ []) =
    subst (All (HoldsAt c)) (cond-false (eqb i j) [] (pull ∷ []) (ne_eqb i j ne)) (all_pairs_at (HoldsAt c) (order_pull o) (length o) i j there less closed) in
    let last : ℕ = min (count c i) (count (lengths o) i) in
    omega (
      arith,
      All-head (HoldsAt c) pull [] one,
      entry_at (order_entry o i j) (count (lengths o) i + 2) (count c i) (omega (arith, vector.within i)),
      counts_rise o order i j x last (omega (arith, up, ev.1)) (omega arith),
      past_is o i j x ev.0,
    )

order_row_below : (o : Clocks) → IsOrder o → (c : List ℕ) → IsVector (lengths o) c → ClosedUnder (pulls_of_order o) c → (e : EventId) → HasEvent (lengths o) e → e.position ≤ count c e.process
    → (j : ℕ) → count (clock o e.process e.position) j ≤ count c j
order_row_below o order c vector closed e there up j =
    let ev : IsEvent (lengths o) e.process e.position = (omega (arith, there.first), there.last) in
    elim (cases_eq e.process j) [
      | inl same ↦ subst (λ (k : ℕ). count (clock o e.process e.position) k ≤ count c k) same (omega (arith, order.own e.process e.position ev, up))
      | inr ne ↦ elim (cases_lt j (length o)) [
        | inl less ↦ order_asks o order c vector closed e.process j e.position (omega (arith, there.process, length-lengths o)) less ne up ev
        | inr past ↦ omega (arith, count_past (clock o e.process e.position) j (omega (arith, past, order.shaped e.process e.position ev)))
      ]
    ]

-- the row is its event's clock, raised to the vector, and the bottom's is the vector
pub record IsRaisedRow (o : Clocks) (v : List ℕ) (r : ℕ) (row : List ℕ) : Type 0 where
  pub bottom : r ≡ 0 → row ≡ v
  pub event : (e : EventId) → HasEvent (lengths o) e → row_of (lengths o) e ≡ r → row ≡ max_cut (clock o e.process e.position) v

pub raised_begins : (o : Clocks) → IsOrder o → (v : List ℕ) (pulls : List Pull) → AreAbove o pulls v → (words : List ℕ) → length words ≡ (sum (lengths o) + 1) * length (lengths o)
    → ((row : ℕ) → row ≤ sum (lengths o) → IsRaisedRow o v row (row_at (lengths o) words row)) → AreWithinClosed (lengths o) pulls words
raised_begins o order v pulls more words size rows = record {
  size = size;
  above = above_start (lengths o) words (λ e there.
      let ev : IsEvent (lengths o) e.process e.position = (omega (arith, there.first), there.last) in
      omega (arith, ap (λ (row : List ℕ). count row e.process) (raised_at e there), count-max (clock o e.process e.position) v e.process, order.own e.process e.position ev));
  below = λ row here c vector above closed. below_start (lengths o) words c
      (λ i. omega (arith, ap (λ (row : List ℕ). count row i) ((rows 0 (omega arith)).bottom refl), (more.above c vector closed).each i))
      (λ e there up i. omega (
        arith,
        ap (λ (row : List ℕ). count row i) (raised_at e there),
        count-max (clock o e.process e.position) v i,
        order_row_below o order c vector (more.order c closed) e there up i,
        (more.above c vector closed).each i,
      ))
      row here above;
}
  where
    raised_at : (e : EventId) → HasEvent (lengths o) e → row_at (lengths o) words (row_of (lengths o) e) ≡ max_cut (clock o e.process e.position) v
    raised_at e there = (rows (row_of (lengths o) e) (row_there (lengths o) e there)).event e there refl

-- zeros raise nothing
pub above_zeros : (o : Clocks) (v : List ℕ) → v ≡ replicate (length o) 0 → AreAbove o (pulls_of_order o) v
above_zeros o v zeros = record {
  order = λ c closed. closed;
  above = λ c vector closed. record { each = λ i. omega (arith, ap (λ (row : List ℕ). count row i) zeros, (zero_counts (length o) i).1) };
}

pub max_zeros : (n : ℕ) (c v : List ℕ) → v ≡ replicate n 0 → length c ≡ n → max_cut c v ≡ c
max_zeros n c v zeros size =
    ext_get_or 0 (max_cut c v) c (omega (arith, length-max c v, ap length zeros, (zero_counts n 0).0))
    (λ i lt. let e : count (max_cut c v) i ≡ count c i = omega (arith, count-max c v i, ap (λ (row : List ℕ). count row i) zeros, (zero_counts n i).1) in e)

pub zeros_max : (n : ℕ) (c v : List ℕ) → c ≡ replicate n 0 → length v ≡ n → max_cut c v ≡ v
zeros_max n c v zeros size =
    ext_get_or 0 (max_cut c v) v (omega (arith, length-max c v, ap length zeros, (zero_counts n 0).0))
    (λ i lt. let e : count (max_cut c v) i ≡ count v i = omega (arith, count-max c v i, ap (λ (row : List ℕ). count row i) zeros, (zero_counts n i).1) in e)

-- ---- the rows of a slice

-- the row is the slice's
abbrev pub IsSliceRow : SliceView → ℕ → List ℕ → Type 0
IsSliceRow v r row = row ≡ filled v.lens (get_or v.rows r no_row)

-- so are all of them, one behind the other
pub all_built : (v : SliceView) (words : List ℕ) → AreAllWords v words → AreBuilt v.lens (IsSliceRow v) (length v.rows) words
all_built v words all = record { size = all.size; each = all.each }

-- the row of an event has the event
row_has : (A : Cut → Type 0) (lens : List ℕ) (i a : ℕ) (k : Option Cut) → IsLeastOf (Having A i a) k → i < length lens → a ≤ count lens i → a ≤ count (filled lens k) i
row_has A lens i a None least there last = omega (arith, last, count-past_ends lens i there)
row_has A lens i a (Some c) least there last = least.member.1

words_of_event : (v : SliceView) (i a : ℕ) → 1 ≤ a → row_words v i a ≡ filled v.lens (get_or v.rows (sum (take i v.lens) + a) no_row)
words_of_event v i zero some = absurd (omega arith)
words_of_event v i (suc a) some = refl

slice_asks : (o : Clocks) (v : SliceView) → FitsOrder o v → HasAllRows v → (c : List ℕ) → IsVector v.lens c → ClosedUnder (pulls_of_slice v) c → (i x : ℕ) → i < length v.lens
    → x ≤ count v.lens i → x ≤ count c i → (j : ℕ) → count (row_words v i x) j ≤ count c j
slice_asks o v fits rows c vector closed i x there last up j = elim (cases_lt j (length v.lens)) [
  | inl less ↦ omega (
    arith,
    All-head (HoldsAt c) (record { src = i; dst = j; table = slice_table v i j }) [] (all_pairs_at (HoldsAt c) (slice_pull v) (length v.lens) i j there less closed),
    entry_at (slice_entry v i j) (count v.lens i + 2) (count c i) (omega (arith, vector.within i)),
    entries_rise o v fits rows i j x (count c i) less up,
    entry_within v i j x last,
  )
  | inr past ↦ omega (arith, count_past (row_words v i x) j (omega (arith, past, length-filled v.lens (last_row (slice_of v) i x) (last_is_row v rows i x))))
]

pub slice_begins : (o : Clocks) (v : SliceView) → FitsOrder o v → HasAllRows v → (words : List ℕ) → length words ≡ (sum v.lens + 1) * length v.lens
    → ((row : ℕ) → row ≤ sum v.lens → IsSliceRow v row (row_at v.lens words row)) → AreWithinClosed v.lens (pulls_of_slice v) words
slice_begins o v fits rows words size each = record {
  size = size;
  above = above_start v.lens words (λ e there.
      omega (arith, ap (λ (row : List ℕ). count row e.process) (row_of_event e there), row_has (Cuts o (slice_of v)) v.lens e.process e.position _ (fits.stands.rows e.process e.position (event e there)) (omega (arith, there.process)) there.last));
  below = λ row here c vector above closed. below_start v.lens words c
      (λ i. omega (arith, ap (λ (x : List ℕ). count x i) (each 0 (omega arith)), slice_asks o v fits rows c vector closed 0 0 (omega (arith, rows.cuts.shape.some)) (omega arith) (omega arith) i))
      (λ e there up i. omega (
        arith,
        ap (λ (x : List ℕ). count x i) (row_of_event e there),
        ap (λ (x : List ℕ). count x i) (words_of_event v e.process e.position there.first),
        slice_asks o v fits rows c vector closed e.process e.position (omega (arith, there.process)) there.last up i,
      ))
      row here above;
}
  where
    row_of_event : (e : EventId) → HasEvent v.lens e → row_at v.lens words (row_of v.lens e) ≡ filled v.lens (get_or v.rows (row_of v.lens e) no_row)
    row_of_event e there = each (row_of v.lens e) (row_there v.lens e there)

    event : (e : EventId) → HasEvent v.lens e → IsEvent (lengths o) e.process e.position
    event e there = (omega (arith, there.first), subst (λ (lens : List ℕ). e.position ≤ count lens e.process) fits.shape there.last)
