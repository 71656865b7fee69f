-- The rows of a slice are the least closed vectors of its own pulls.
use Rattle.std.proofs.Common.{◌≡◌, ℕ, ◌≤◌, List, get_or, sum, Option, Some, None, refl, sym, ap, ◌∙◌, subst, arith, inl, inr}
use Rattle.std.proofs.lemmas.Bool.{cases_lt}
use Rattle.pota_base.specs.Shape.{row_of}
use Rattle.run_model.specs.Cut.{Cut, Clocks, count, lengths}
use Rattle.run_model.specs.Consistent.{IsEvent}
use Rattle.run_model.specs.Sublattice.{Having}
use Rattle.run_model.specs.Slice.{IsLeastOf, Cuts}
use Rattle.pull_system.specs.Vector.{IsVector}
use Rattle.pull_system.specs.System.{SystemView, IsSystem, IsClosed}
use Rattle.pull_system.specs.Rows.{AreLeastRows, start_of, row_at}
use Rattle.pull_system.proofs.PullLists.{closed_under}
use Rattle.pull_system.proofs.Climbing.{tops_closed}
use Rattle.pull_system.proofs.Starts.{start_of-vector}
use Rattle.slice_graph.specs.Views.{SliceView, HasAllRows, IsRow, IsCut, no_row, slice_of}
use Rattle.slice_graph.specs.Words.{filled}
use Rattle.slice_graph.specs.Fitting.{FitsOrder}
use Rattle.slice_graph.specs.PullLists.{pulls_of_slice}
use Rattle.slice_graph.specs.Starting.{AreWithinClosed}
use Rattle.slice_graph.proofs.Events.{event_of_row}
use Rattle.slice_graph.proofs.SlicePulls.{slice_closed}
use Rattle.slice_graph.proofs.StartingRows.{IsSliceRow}

abbrev pub alone : SliceView → SystemView
alone v = record { lens = v.lens; pulls = pulls_of_slice v }

member : (A : Cut → Type 0) (c : Cut) → IsLeastOf A (Some c) → A c
member A c least = least.member

-- a row with a cut is a cut of the slice
row_cut : (o : Clocks) (v : SliceView) → FitsOrder o v → (row : ℕ) → row ≤ sum v.lens → (c : Cut) → get_or v.rows row no_row ≡ Some c → Cuts o (slice_of v) c
row_cut o v fits row there c is = elim (cases_lt 0 row) [
  | inr none ↦
      let zeroth : row ≡ 0 = omega (arith, none) in
      let e : get_or v.rows 0 no_row ≡ Some c = ap (λ r. get_or v.rows r no_row) (sym zeroth) ∙ is in
      member (Cuts o (slice_of v)) c (subst (IsLeastOf (Cuts o (slice_of v))) e fits.stands.bottom)
  | inl pos ↦
      let r = event_of_row v.lens row (omega arith) there in
      let e : get_or v.rows (row_of v.lens r.0) no_row ≡ Some c = ap (λ k. get_or v.rows k no_row) r.2 ∙ is in
      let ev : IsEvent (lengths o) r.0.process r.0.position = (omega (arith, r.1.first), subst (λ (lens : List ℕ). r.0.position ≤ count lens r.0.process) fits.shape r.1.last) in
      (member (Having (Cuts o (slice_of v)) r.0.process r.0.position) c (subst (IsLeastOf (Having (Cuts o (slice_of v)) r.0.process r.0.position)) e (fits.stands.rows r.0.process r.0.position ev))).0
]

-- what fills a row is closed
filled_closed : (o : Clocks) (v : SliceView) → FitsOrder o v → HasAllRows v → IsSystem (alone v) → (row : ℕ) → row ≤ sum v.lens → (k : Option Cut) → get_or v.rows row no_row ≡ k
    → (IsVector v.lens (filled v.lens k)) × IsClosed (alone v) (filled v.lens k)
filled_closed o v fits rows is row there None e =
    let top = tops_closed (alone v) is (start_of v.lens row) (start_of v.lens row) (start_of-vector v.lens row) record { each = λ i. omega arith } in
    (top.vector, top.closed)
filled_closed o v fits rows is row there (Some c) e =
    let cut : IsCut v.lens c = subst (IsRow v.lens) e (rows.cuts.each row) in (
      record { size = cut.size; within = λ i. omega (arith, cut.within i) },
      (closed_under (alone v) c).1 ((slice_closed o v fits rows c cut).1 (row_cut o v fits row there c e)),
    )

pub rows_alone : (o : Clocks) (v : SliceView) → FitsOrder o v → HasAllRows v → IsSystem (alone v) → (words : List ℕ)
    → ((row : ℕ) → row ≤ sum v.lens → IsSliceRow v row (row_at v.lens words row))
    → AreWithinClosed v.lens (pulls_of_slice v) words → AreLeastRows (alone v) words
rows_alone o v fits rows is words each begins = record {
  each = λ row there.
      let h = filled_closed o v fits rows is row there (get_or v.rows row no_row) refl in
      let e : filled v.lens (get_or v.rows row no_row) ≡ row_at v.lens words row = sym (each row there) in
      let V : List ℕ → Type 0 = IsVector v.lens in
      let C : List ℕ → Type 0 = IsClosed (alone v) in
      record {
        closed = record { vector = subst V e h.0; above = begins.above row there; closed = subst C e h.1 };
        least = λ c closed. begins.below row there c closed.vector closed.above ((closed_under (alone v) c).0 closed.closed);
      };
}
