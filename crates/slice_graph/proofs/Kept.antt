-- The cuts that are kept of the least closed vectors are the slice of the closed cuts.
use Rattle.std.proofs.Common.{◌≡◌, ℕ, ◌+◌, ◌≤◌, ◌↔◌, List, length, get_or, take, set, sum, Option, Some, None, sym, ap, ◌∙◌, subst, arith, inl, inr}
use Rattle.std.proofs.lemmas.Bool.{cases_eq}
use Rattle.std.proofs.lemmas.List.{get_or-set_same, get_or-set_other}
use Rattle.pota_base.specs.Shape.{HasEvent, row_of}
use Rattle.pota_base.specs.declared.shape.EventId.{EventId}
use Rattle.run_model.specs.Cut.{Cut, Clocks, count, IsWithin, min_cut, max_cut, lengths}
use Rattle.run_model.specs.Consistent.{IsOrder, IsConsistent}
use Rattle.run_model.specs.Sublattice.{IsSublattice, IsLeast as IsLeastCut, Having}
use Rattle.run_model.specs.Slice.{IsLeastOf, Cuts, StandsFor}
use Rattle.run_model.proofs.Counts.{count-min, count-max, length-min, length-max}
use Rattle.run_model.proofs.Orders.{min_consistent, max_consistent, has_process}
use Rattle.run_model.proofs.SliceLemmas.{least_same, exact_slice}
use Rattle.pull_system.specs.Vector.{IsVector}
use Rattle.pull_system.specs.System.{SystemView, IsSystem, IsClosed, IsClosedFrom, IsLeastFrom}
use Rattle.pull_system.specs.Rows.{IsLeast, AreLeastRows, start_of, row_at}
use Rattle.pull_system.proofs.Starts.{start_of-bottom, start_of-event, length-start_of}
use Rattle.pull_system.proofs.Existence.{minimum_closed, maximum_closed}
use Rattle.slice_graph.specs.Views.{SliceView, slice_of, no_row}
use Rattle.slice_graph.specs.Fitting.{FitsOrder, HasOrder, ClosedCuts, IsCutOfVector}
use Rattle.slice_graph.proofs.Building.{BuiltBy, fits_of_set}
use Rattle.slice_graph.proofs.Events.{row_there}

-- the closed cuts at or above a start
abbrev pub From : Clocks → SystemView → List ℕ → Cut → Type 0
From o system start c = ClosedCuts o system c × IsWithin start c

closed_from : (o : Clocks) (system : SystemView) → system.lens ≡ lengths o → (start c : Cut) → From o system start c → length c ≡ length system.lens → IsClosedFrom system start c
closed_from o system lens start c h size = record {
  vector = record { size = size; within = λ i. omega (arith, h.0.0.within i, ap (λ (ns : List ℕ). count ns i) lens) };
  above = record { each = h.1 };
  closed = h.0.1;
}

size_of : (o : Clocks) (lens : List ℕ) → lens ≡ lengths o → (c : Cut) → length c ≡ length o → length (lengths o) ≡ length o → length c ≡ length lens
size_of o lens is c size count = size ∙ sym count ∙ sym (ap length is)

-- what is kept of a least closed vector is the least closed cut at or above its start
kept_least : (o : Clocks) (system : SystemView) → system.lens ≡ lengths o → length (lengths o) ≡ length o → HasOrder o system → (start v : List ℕ) → IsLeastFrom system start v
    → (k : Option Cut) → IsCutOfVector system.lens v k → IsLeastOf (From o system start) k
kept_least o system lens count has start v least None kept = λ c h.
    kept (λ i. omega (arith, (least.least c (closed_from o system lens start c h (size_of o system.lens lens c h.0.0.shaped count))).each i, h.0.0.within i, ap (λ (ns : List ℕ). get_or ns i 0) lens))
kept_least o system lens count has start v least (Some c) kept = subst (IsLeastCut (From o system start)) (sym kept.0) (record {
  member = (
    (has v (least.closed.vector.size ∙ ap length lens ∙ count) (subst (λ (ns : List ℕ). IsWithin v ns) lens kept.1) least.closed.closed, least.closed.closed),
    least.closed.above.each,
  );
  least = λ d h. (least.least d (closed_from o system lens start d h (size_of o system.lens lens d h.0.0.shaped count))).each;
})

-- each cut is above the start of the bottom's row
pub bottom_start : (lens : List ℕ) (c : Cut) → IsWithin (start_of lens 0) c
bottom_start lens c i = omega (arith, start_of-bottom lens i)

-- a cut is above the start of an event's row exactly where it has the event
pub event_start : (lens : List ℕ) (e : EventId) (c : Cut) → HasEvent lens e → IsWithin (start_of lens (row_of lens e)) c ↔ (e.position ≤ count c e.process)
event_start lens e c there = (
  λ h. omega (arith, h e.process, at, same),
  λ h i. elim (cases_eq i e.process) [
    | inl eq ↦ subst (λ (k : ℕ). count (start_of lens (row_of lens e)) k ≤ count c k) (sym eq) (omega (arith, h, at, same))
    | inr ne ↦ omega (arith, ap (λ (ns : List ℕ). get_or ns i 0) is, get_or-set_other (start_of lens 0) e.process i e.position 0 ne, start_of-bottom lens i)
  ],
)
  where
    is : start_of lens (row_of lens e) ≡ set (start_of lens 0) e.process e.position
    is = start_of-event lens e.process e.position there.process there.first there.last

    same : get_or (set (start_of lens 0) e.process e.position) e.process 0 ≡ e.position
    same = get_or-set_same (start_of lens 0) e.process e.position 0 (omega (arith, there.process, length-start_of lens 0))

    at : count (start_of lens (row_of lens e)) e.process ≡ get_or (set (start_of lens 0) e.process e.position) e.process 0
    at = ap (λ (ns : List ℕ). get_or ns e.process 0) is

pub bottom_kept : (o : Clocks) (system : SystemView) → system.lens ≡ lengths o → length (lengths o) ≡ length o → HasOrder o system → (v : List ℕ) → IsLeast system 0 v
    → (k : Option Cut) → IsCutOfVector system.lens v k → IsLeastOf (ClosedCuts o system) k
bottom_kept o system lens count has v least k kept =
    least_same (From o system (start_of system.lens 0)) (ClosedCuts o system) (λ c. (λ h. h.0, λ h. (h, bottom_start system.lens c))) k
    (kept_least o system lens count has (start_of system.lens 0) v least k kept)

pub event_kept : (o : Clocks) (system : SystemView) → system.lens ≡ lengths o → length (lengths o) ≡ length o → HasOrder o system → (e : EventId) → HasEvent system.lens e
    → (v : List ℕ) → IsLeast system (row_of system.lens e) v
    → (k : Option Cut) → IsCutOfVector system.lens v k → IsLeastOf (Having (ClosedCuts o system) e.process e.position) k
event_kept o system lens count has e there v least k kept =
    least_same (From o system (start_of system.lens (row_of system.lens e))) (Having (ClosedCuts o system) e.process e.position)
    (λ c. let at = event_start system.lens e c there in (λ h. (h.0, at.0 h.1), λ h. (h.0, at.1 h.1))) k
    (kept_least o system lens count has (start_of system.lens (row_of system.lens e)) v least k kept)

-- ---- all rows

-- what is pushed for each row
abbrev pub KeptRow : List ℕ → List ℕ → ℕ → Option Cut → Type 0
KeptRow lens words r k = IsCutOfVector lens (row_at lens words r) k

stands_here : (o : Clocks) (system : SystemView) (words : List ℕ) (v : SliceView) (n : ℕ) → BuiltBy system.lens (KeptRow system.lens words) n v → n ≡ sum system.lens + 1
    → system.lens ≡ lengths o → length (lengths o) ≡ length o → HasOrder o system → AreLeastRows system words → StandsFor o (slice_of v) (ClosedCuts o system)
stands_here o system words v n h all lens count has least = record {
  bottom = bottom_kept o system lens count has (row_at system.lens words 0) (least.each 0 (omega arith)) (get_or v.rows 0 no_row) (h.each 0 (omega arith));
  rows = λ i a ev.
      let e : EventId = record { process = i; position = a } in
      let there : HasEvent system.lens e = record {
        process = omega (arith, has_process (lengths o) i a ev, ap length lens);
        first = omega (arith, ev.0);
        last = subst (λ (ns : List ℕ). a ≤ get_or ns i 0) (sym lens) ev.1;
      } in
      let within = row_there system.lens e there in
      subst (λ (ns : List ℕ). IsLeastOf (Having (ClosedCuts o system) i a) (get_or v.rows (sum (take i ns) + a) no_row)) (sym h.shape)
      (event_kept o system lens count has e there (row_at system.lens words (row_of system.lens e)) (least.each (row_of system.lens e) within)
      (get_or v.rows (row_of system.lens e) no_row) (h.each (row_of system.lens e) (omega arith)));
}

pub kept_stands : (o : Clocks) (lens words : List ℕ) (v : SliceView) (n : ℕ) → BuiltBy lens (KeptRow lens words) n v → n ≡ sum lens + 1 → lens ≡ lengths o → length (lengths o) ≡ length o
    → (system : SystemView) → system.lens ≡ lengths o → HasOrder o system → AreLeastRows system words → StandsFor o (slice_of v) (ClosedCuts o system)
kept_stands o lens words v n h all is count system at has least =
    let same : lens ≡ system.lens = is ∙ sym at in
    stands_here o system words v n (subst (λ (ns : List ℕ). BuiltBy ns (KeptRow ns words) n v) same h) (all ∙ ap (λ (ns : List ℕ). sum ns + 1) same) at count has least

-- the closed cuts are closed under minimum and maximum
pub closed_cuts_closed : (o : Clocks) → IsOrder o → (system : SystemView) → IsSystem system → system.lens ≡ lengths o → length (lengths o) ≡ length o → IsSublattice o (ClosedCuts o system)
closed_cuts_closed o order system is lens count = record {
  consistent = λ c h. h.0;
  has_min = λ c d h k. (
    min_consistent o order c d h.0 k.0,
    minimum_closed system is c d (min_cut c d) (vector c h.0) (vector d k.0) h.1 k.1 (record { size = omega (arith, length-min c d, h.0.shaped, k.0.shaped); each = count-min c d }),
  );
  has_max = λ c d h k. (
    max_consistent o order c d h.0 k.0,
    maximum_closed system c d (max_cut c d) h.1 k.1 (record { size = omega (arith, length-max c d, h.0.shaped, k.0.shaped); each = count-max c d }),
  );
}
  where
    vector : (c : Cut) → IsConsistent o c → IsVector system.lens c
    vector c h = record { size = size_of o system.lens lens c h.shaped count; within = λ i. omega (arith, h.within i, ap (λ (ns : List ℕ). get_or ns i 0) lens) }

pub kept_fits : (o : Clocks) → IsOrder o → (lens words : List ℕ) (v : SliceView) (n : ℕ) → BuiltBy lens (KeptRow lens words) n v → n ≡ sum lens + 1 → lens ≡ lengths o → length (lengths o) ≡ length o
    → (system : SystemView) → IsSystem system → system.lens ≡ lengths o → HasOrder o system → AreLeastRows system words → FitsOrder o v
kept_fits o order lens words v n h all is count system sys at has least =
    fits_of_set o v (ClosedCuts o system) (closed_cuts_closed o order system sys at count) (h.shape ∙ is) (h.size ∙ all ∙ ap (λ (ns : List ℕ). sum ns + 1) (sym h.shape))
    (kept_stands o lens words v n h all is count system at has least)

pub kept_cuts : (o : Clocks) → IsOrder o → (lens words : List ℕ) (v : SliceView) (n : ℕ) → BuiltBy lens (KeptRow lens words) n v → n ≡ sum lens + 1 → lens ≡ lengths o → length (lengths o) ≡ length o
    → (system : SystemView) → IsSystem system → system.lens ≡ lengths o → HasOrder o system → AreLeastRows system words → (c : Cut) → IsConsistent o c → Cuts o (slice_of v) c ↔ IsClosed system c
kept_cuts o order lens words v n h all is count system sys at has least c consistent =
    let exact = exact_slice o (ClosedCuts o system) (closed_cuts_closed o order system sys at count) (slice_of v) (kept_stands o lens words v n h all is count system at has least) c in
    (λ cut. (exact.1 cut).1, λ closed. exact.0 (consistent, closed))
