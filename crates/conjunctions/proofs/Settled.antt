-- A conjunction whose pulls were gathered is settled.
use Rattle.std.proofs.Common.{◌≡◌, ℕ, ◌+◌, ◌-◌, ◌*◌, ◌≤◌, Bool, true, false, List, [], ◌∷◌, ◌++◌, length, sum, All, refl, sym, ◌∙◌, ap, subst, arith, length-append, Option}
use Rattle.std.specs.Prelude.{◌↔◌}
use Rattle.std.proofs.Math.Nat.{mul-le-mul_right}
use Rattle.run_model.specs.Cut.{Cut, Clocks, IsWithin, lengths}
use Rattle.run_model.specs.Consistent.{IsConsistent}
use Rattle.run_model.specs.Slice.{Cuts}
use Rattle.run_model.proofs.Counts.{length-lengths}
use Rattle.run_model.proofs.SliceLemmas.{stands_same}
use Rattle.pull_system.specs.declared.pull.Pull.{Pull}
use Rattle.pull_system.specs.System.{SystemView, IsSystem, IsPull, IsClosed}
use Rattle.pull_system.specs.Pulls.{ClosedUnder}
use Rattle.pull_system.specs.Rows.{RowsView, AreLeastRows}
use Rattle.pull_system.proofs.PullLists.{closed_under, closed_left, closed_right, closed_both}
use Rattle.slice_workers.specs.Spent.{spent_of}
use Rattle.slice_graph.specs.Views.{SliceView, slice_of}
use Rattle.slice_graph.specs.Fitting.{FitsOrder, HasOrder}
use Rattle.slice_graph.specs.PullLists.{pulls_of_order}
use Rattle.rctl_parts.specs.Pieces.{Piece}
use Rattle.part_pulls.specs.declared.observed.Observed.{Observed}
use Rattle.part_pulls.specs.Observing.{Reading, AreAnswers, Satisfying, clocks_seen, lens_seen}
use Rattle.conjunctions.specs.Numbering.{all_atoms}
use Rattle.conjunctions.specs.inside.Numbering.{gives_order}
use Rattle.conjunctions.specs.Counting.{pulls_bound, steps_for, first_of, floor_words}
use Rattle.part_pulls.specs.Systems.{pulls_of_parts}
use Rattle.conjunctions.specs.inside.Gathering.{AddsPulls, first_pulls}
use Rattle.conjunctions.specs.Rounds.{RoundView}
use Rattle.conjunctions.specs.Settling.{IsSettled, Settles}
use Rattle.conjunctions.specs.inside.Settling.{SettlesOne, conjoined_of}
use Rattle.conjunctions.specs.Answering.{IsSliceOf}
use Rattle.conjunctions.proofs.LeastCuts.{least_cuts}
use Rattle.conjunctions.proofs.Ordering.{atoms_give_none}

-- what is known of the pulls that a conjunction begins with
pub record AreFirstPulls (o : Clocks) (gives : Bool) : Type 0 where
  pub fit : All (IsPull (lengths o)) (first_pulls o gives)
  pub count : length (first_pulls o gives) ≤ length o * (length o - 1)
  pub closed : (c : Cut) → IsConsistent o c → ClosedUnder (first_pulls o gives) c
  pub orders : gives ≡ false → (c : Cut) → length c ≡ length o → IsWithin c (lengths o) → ClosedUnder (first_pulls o gives) c → IsConsistent o c

-- a slice is that of the parts by its cuts
pub slice_is : (seen : Observed) (slice : SliceView) (ps : List Piece) → FitsOrder (clocks_seen seen) slice
    → ((reading : Reading) → AreAnswers seen reading → (c : Cut) → Cuts (clocks_seen seen) (slice_of slice) c ↔ Satisfying seen reading ps c) → IsSliceOf seen slice ps
slice_is seen slice ps fits cuts = record {
  fits = fits;
  cuts = cuts;
  stands = λ reading are. stands_same (clocks_seen seen) (slice_of slice) (Cuts (clocks_seen seen) (slice_of slice)) (Satisfying seen reading ps) (cuts reading are) fits.stands;
}

-- more pulls may take more steps
more_steps : (few many : ℕ) (keeps : Bool) (lens : List ℕ) (before : Option RowsView) (rows : RowsView) → few ≤ many → steps_for few keeps lens before rows ≤ steps_for many keeps lens before rows
more_steps few many true lens before rows h = mul-le-mul_right ((sum lens + 1) + (sum rows.words - sum (floor_words lens before))) h
more_steps few many false lens before rows h = mul-le-mul_right ((length lens + 1) * (sum lens + length lens)) h

-- the gathered pulls are closed at a consistent cut exactly where all parts are true there
members : (seen : Observed) (pulls : List Pull) (ps : List Piece) → AreFirstPulls (clocks_seen seen) (gives_order ps)
    → AddsPulls seen (first_pulls (clocks_seen seen) (gives_order ps)) pulls ps → (reading : Reading) → AreAnswers seen reading
    → (c : Cut) → Satisfying seen reading ps c ↔ (IsConsistent (clocks_seen seen) c × IsClosed (record { lens = lens_seen seen; pulls = pulls }) c)
members seen pulls ps order adds reading are c =
    let o = clocks_seen seen in
    let system : SystemView = record { lens = lens_seen seen; pulls = pulls } in
    let P : List Pull → Type 0 = λ list. ClosedUnder list c in (
      λ h.
          let consistent : IsConsistent o c = h.0 in
          let by_order = order.closed c consistent in
          let by_parts = (adds.meaning reading are c consistent).1 h.1 in
          (consistent, (closed_under system c).1 (subst P (sym adds.is) (closed_both (first_pulls o (gives_order ps)) adds.added c by_order by_parts))),
      λ h.
          let all : ClosedUnder (first_pulls o (gives_order ps) ++ adds.added) c = subst P adds.is ((closed_under system c).0 h.1) in
          (h.0, (adds.meaning reading are c h.0).0 (closed_right (first_pulls o (gives_order ps)) adds.added c all)),
    )

-- what is closed under them is consistent: by the pulls of the order, or by those of a part that gives it
pub has_order : (seen : Observed) (pulls : List Pull) (ps : List Piece) → AreFirstPulls (clocks_seen seen) (gives_order ps)
    → AddsPulls seen (first_pulls (clocks_seen seen) (gives_order ps)) pulls ps → HasOrder (clocks_seen seen) (record { lens = lens_seen seen; pulls = pulls })
has_order seen pulls ps order adds c shaped within closed =
    let P : List Pull → Type 0 = λ list. ClosedUnder list c in
    ordered (gives_order ps) refl (subst P adds.is ((closed_under (record { lens = lens_seen seen; pulls = pulls }) c).0 closed))
  where
    ordered : (gives : Bool) → gives_order ps ≡ gives → ClosedUnder (first_pulls (clocks_seen seen) (gives_order ps) ++ adds.added) c → IsConsistent (clocks_seen seen) c
    ordered true is all = adds.orders is c shaped within (closed_right (first_pulls (clocks_seen seen) (gives_order ps)) adds.added c all)
    ordered false is all = order.orders is c shaped within (closed_left (first_pulls (clocks_seen seen) (gives_order ps)) adds.added c all)

pub slice_settled : (seen : Observed) (pulls : List Pull) (ps : List Piece) (workers : ℕ) (old new : RoundView) (s t : ℕ) (slice : SliceView)
    → AreFirstPulls (clocks_seen seen) (gives_order ps) → AddsPulls seen (first_pulls (clocks_seen seen) (gives_order ps)) pulls ps
    → SettlesOne (conjoined_of (clocks_seen seen) pulls (all_atoms ps)) workers old new (spent_of s t) slice → IsSliceOf seen slice ps
slice_settled seen pulls ps workers old new s t slice order adds one =
    slice_is seen slice ps one.fits
    (λ reading are c.
    let is = members seen pulls ps order adds reading are c in
    (λ h. is.1 (h.consistent, (one.cuts c h.consistent).0 h), λ h. (one.cuts c h.0).1 ((is.0 h).1)))

-- how many pulls there are
pub few_pulls : (seen : Observed) (pulls : List Pull) (ps : List Piece) → AreFirstPulls (clocks_seen seen) (gives_order ps)
    → AddsPulls seen (first_pulls (clocks_seen seen) (gives_order ps)) pulls ps → length pulls ≤ pulls_bound (length (lens_seen seen)) ps
few_pulls seen pulls ps order adds =
    let o = clocks_seen seen in
    let wide : length (lens_seen seen) ≡ length o = length-lengths o in
    let square : length (lens_seen seen) * (length (lens_seen seen) - 1) ≡ length o * (length o - 1) = ap (λ n. n * (n - 1)) wide in
    let few = adds.few in
    let count = order.count in
    omega (arith, square, ap length adds.is, length-append (first_pulls o (gives_order ps)) adds.added)

pub rows_settled : (seen : Observed) (pulls : List Pull) (ps : List Piece) (workers : ℕ) (old new : RoundView) (s t : ℕ) (slice : SliceView)
    → AreFirstPulls (clocks_seen seen) (gives_order ps) → AddsPulls seen (first_pulls (clocks_seen seen) (gives_order ps)) pulls ps
    → SettlesOne (conjoined_of (clocks_seen seen) pulls (all_atoms ps)) workers old new (spent_of s t) slice → Settles seen workers old new (spent_of s t) (ps ∷ [])
rows_settled seen pulls ps workers old new s t slice order adds one = record {
  before = one.before;
  added = one.one ∷ [];
  settled = one.settled;
  rows = (is_settled, tt);
  by_steps = (one.by_steps, tt);
  looks = λ single.
      let looks = one.looks single in
      let more = more_steps (length pulls) (pulls_bound (length (lens_seen seen)) ps) (all_atoms ps) (lens_seen seen) (first_of old.before) one.one.rows (few_pulls seen pulls ps order adds) in
      omega arith;
  order = one.order;
}
  where
    o : Clocks
    o = clocks_seen seen

    own : all_atoms ps ≡ true → pulls ≡ pulls_of_order (clocks_seen seen) ++ pulls_of_parts seen ps
    own atoms = adds.is ∙ ap (λ b. first_pulls (clocks_seen seen) b ++ adds.added) (atoms_give_none ps atoms) ∙ ap (λ list. pulls_of_order (clocks_seen seen) ++ list) (adds.own atoms)

    is_settled : IsSettled seen ps one.one.rows
    is_settled = record {
      lens = one.lens;
      cuts = λ reading are.
          least_cuts (clocks_seen seen) (record { lens = lens_seen seen; pulls = pulls }) (Satisfying seen reading ps) refl (has_order seen pulls ps order adds) (members seen pulls ps order adds reading are)
          one.one.rows.words one.least;
      least = λ atoms. let P : List Pull → Type 0 = λ list. AreLeastRows (record { lens = lens_seen seen; pulls = list }) one.one.rows.words in subst P (own atoms) one.least;
      system = λ atoms. let P : List Pull → Type 0 = λ list. IsSystem (record { lens = lens_seen seen; pulls = list }) in subst P (own atoms) one.system;
    }
