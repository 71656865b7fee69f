-- From the least closed vector of a system to the least cut of a conjunction.
use Rattle.std.proofs.Common.{◌≡◌, ℕ, ◌-◌, Bool, true, false, List, [], ◌∷◌, ◌++◌, length, replicate, sym, ◌∙◌, ap, subst, refl, arith, Option, Some, None}
use Rattle.std.specs.Prelude.{◌↔◌, nat_le, if◌then◌else◌}
use Rattle.run_model.specs.Cut.{Cut, Clocks, min_cut, max_cut}
use Rattle.run_model.specs.Consistent.{IsOrder, IsConsistent}
use Rattle.run_model.proofs.Counts.{length-lengths}
use Rattle.run_model.specs.Sublattice.{IsSublattice, Smallest}
use Rattle.run_model.specs.Slice.{IsLeastOf}
use Rattle.run_model.proofs.Counts.{within_both}
use Rattle.run_model.proofs.SliceLemmas.{least_same, stands_same}
use Rattle.meaning_laws.proofs.JoinLemmas.{smallest_of_closed}
use Rattle.meaning_laws.proofs.ListedSlices.{listed_slice, listed_stands}
use Rattle.pull_system.specs.declared.pull.Pull.{Pull}
use Rattle.pull_system.specs.System.{SystemView, IsSystem}
use Rattle.pull_system.specs.Pulls.{ClosedUnder}
use Rattle.pull_system.specs.Rows.{start_of}
use Rattle.pull_system.proofs.PullLists.{closed_under, closed_right, closed_both}
use Rattle.slice_graph.specs.Fitting.{ClosedCuts}
use Rattle.slice_graph.specs.PullLists.{pulls_of_order}
use Rattle.slice_graph.proofs.Kept.{bottom_kept, closed_cuts_closed}
use Rattle.slice_graph.proofs.OrderPulls.{has_order, order_closed}
use Rattle.rctl_parts.specs.Pieces.{Piece}
use Rattle.rctl_parts.specs.Spelled.{conjunction_of}
use Rattle.part_pulls.specs.declared.observed.Observed.{Observed}
use Rattle.part_pulls.specs.Observing.{Reading, AreAnswers, Satisfying, clocks_seen, lens_seen, run_seen, names_seen}
use Rattle.least_holding.specs.Least.{IsBottomHolding, IsLeastHolding}
use Rattle.least_holding.specs.inside.Asking.{AsksMore}
use Rattle.least_holding.specs.inside.Finding.{IsLeastCut}

-- the order's pulls and then those of the parts
abbrev pub with_parts : Observed → List Pull → SystemView
with_parts seen pulls = record { lens = lens_seen seen; pulls = pulls_of_order (clocks_seen seen) ++ pulls }

-- the system is closed exactly at the consistent cuts at which all parts are true
members : (seen : Observed) → IsOrder (clocks_seen seen) → (pulls : List Pull) (ps : List Piece) → AsksMore seen [] pulls ps
    → (reading : Reading) → AreAnswers seen reading → (c : Cut) → ClosedCuts (clocks_seen seen) (with_parts seen pulls) c ↔ Satisfying seen reading ps c
members seen order pulls ps asks reading are c =
    let o = clocks_seen seen in
    let system = with_parts seen pulls in (
      λ h.
          let consistent : IsConsistent o c = h.0 in
          let all : ClosedUnder (pulls_of_order o ++ pulls) c = (closed_under system c).0 h.1 in
          (consistent, (asks.meaning reading are c consistent).0 (subst (λ (list : List Pull). ClosedUnder list c) asks.is (closed_right (pulls_of_order o) pulls c all))),
      λ h.
          let consistent : IsConsistent o c = h.0 in
          let by_order = (order_closed o order c consistent.shaped consistent.within).1 consistent in
          let by_parts = subst (λ (list : List Pull). ClosedUnder list c) (sym asks.is) ((asks.meaning reading are c consistent).1 h.1) in
          (consistent, (closed_under system c).1 (closed_both (pulls_of_order o) pulls c by_order by_parts)),
    )

pub least_holds : (seen : Observed) → IsOrder (clocks_seen seen) → (pulls : List Pull) (ps : List Piece) → AsksMore seen [] pulls ps
    → (cut : Option Cut) → IsLeastCut (with_parts seen pulls) cut → IsLeastHolding seen ps cut
least_holds seen order pulls ps asks cut found reading are =
    let o = clocks_seen seen in
    let system = with_parts seen pulls in
    let least = bottom_kept o system refl (length-lengths o) (has_order o order system pulls refl) found.vector found.least cut found.kept in
    least_same (ClosedCuts o system) (Satisfying seen reading ps) (members seen order pulls ps asks reading are) cut least

-- ---- the slice

same_sublattice : (o : Clocks) (A B : Cut → Type 0) → ((c : Cut) → A c ↔ B c) → IsSublattice o A → IsSublattice o B
same_sublattice o A B same closed = record {
  consistent = λ c h. closed.consistent c ((same c).1 h);
  has_min = λ c d h k. (same (min_cut c d)).0 (closed.has_min c d ((same c).1 h) ((same d).1 k));
  has_max = λ c d h k. (same (max_cut c d)).0 (closed.has_max c d ((same c).1 h) ((same d).1 k));
}

one_least : (o : Clocks) (A : Cut → Type 0) → ((c : Cut) → A c → IsConsistent o c) → (j k : Option Cut) → IsLeastOf A j → IsLeastOf A k → j ≡ k
one_least o A consistent None None l m = refl
one_least o A consistent None (Some k) l m = absurd (l k m.member)
one_least o A consistent (Some j) None l m = absurd (m j l.member)
one_least o A consistent (Some j) (Some k) l m = ap Some (within_both j k ((consistent j l.member).shaped ∙ sym (consistent k m.member).shaped) (l.least k m.member) (m.least j l.member))

-- the pulls make a system, so that the cuts at which all parts are true have a slice
pub bottom_holds : (seen : Observed) → IsOrder (clocks_seen seen) → (pulls : List Pull) (ps : List Piece) → AsksMore seen [] pulls ps → IsSystem (with_parts seen pulls)
    → (cut : Option Cut) → IsLeastHolding seen ps cut → IsBottomHolding seen ps cut
bottom_holds seen order pulls ps asks is cut least reading are =
    let o = clocks_seen seen in
    let r = run_seen seen reading in
    let f = conjunction_of (names_seen seen reading) ps in
    let A = Satisfying seen reading ps in
    let system = with_parts seen pulls in
    let closed = same_sublattice o (ClosedCuts o system) A (members seen order pulls ps asks reading are) (closed_cuts_closed o order system is refl (length-lengths o)) in
    let stands = stands_same o (listed_slice r f) (Smallest A) A (smallest_of_closed o A closed) (listed_stands r order f) in
    (listed_slice r f, stands, one_least o A (λ c h. h.0) (listed_slice r f).bottom cut stands.bottom (least reading are))

-- the start of the bottom's row has no event
pub start_zeros : (lens : List ℕ) → start_of lens 0 ≡ replicate (length lens) 0
start_zeros [] = refl
start_zeros (len ∷ lens) = λ i. cond_same (nat_le 0 len) i ∷ (ap (start_of lens) (zero-sub len) ∙ start_zeros lens) i
  where
    zero : ℕ
    zero = 0

    cond_same : (b : Bool) → (if b then zero else zero) ≡ 0
    cond_same true = refl
    cond_same false = refl

    zero-sub : (n : ℕ) → 0 - n ≡ 0
    zero-sub n = omega arith
