-- From the least closed vectors of a system to the least cuts of a set.
use Rattle.std.proofs.Common.{◌≡◌, ℕ, ◌≤◌, List, length, sum, sym, ◌∙◌, ap, subst, arith}
use Rattle.std.specs.Prelude.{◌↔◌}
use Rattle.run_model.specs.Cut.{Cut, Clocks, IsWithin, lengths}
use Rattle.run_model.specs.Consistent.{IsConsistent}
use Rattle.run_model.proofs.Counts.{length-lengths}
use Rattle.pull_system.specs.Vector.{IsVector}
use Rattle.pull_system.specs.System.{SystemView, IsClosed, IsLeastFrom}
use Rattle.pull_system.specs.Rows.{AreLeastRows, row_at, start_of}
use Rattle.slice_graph.specs.Fitting.{HasOrder}
use Rattle.conjunctions.specs.Settling.{Above, IsLeastOrNone, AreLeastCuts}

-- a consistent cut is a vector of its order's lengths
cut_vector : (o : Clocks) (c : Cut) → IsConsistent o c → IsVector (lengths o) c
cut_vector o c consistent = record {
  size = consistent.shaped ∙ sym (length-lengths o);
  within = λ i. let h = consistent.within i in omega arith;
}

-- the least closed vector from a start is the least member that holds the start, or there is none
pub least_or_none : (o : Clocks) (system : SystemView) (A : Cut → Type 0) → system.lens ≡ lengths o → HasOrder o system
    → ((c : Cut) → A c ↔ (IsConsistent o c × IsClosed system c)) → (start v : List ℕ) → IsLeastFrom system start v → IsLeastOrNone (lengths o) A start v
least_or_none o system A lens order members start v least = record {
  there = λ within.
      let shaped : length v ≡ length o = least.closed.vector.size ∙ ap length lens ∙ length-lengths o in
      record {
        member = ((members v).1 (order v shaped within least.closed.closed, least.closed.closed), least.closed.above.each);
        least = λ c above. below c above;
      };
  absent = λ i past c above. let under = below c above i in let inside = (((members c).0 above.0).0).within i in omega arith;
}
  where
    below : (c : Cut) → Above A start c → IsWithin v c
    below c above =
        let is = (members c).0 above.0 in
        let vector : IsVector system.lens c = subst (λ (lens : List ℕ). IsVector lens c) (sym lens) (cut_vector o c is.0) in
        (least.least c (record { vector = vector; above = record { each = above.1 }; closed = is.1 })).each

pub least_cuts : (o : Clocks) (system : SystemView) (A : Cut → Type 0) → system.lens ≡ lengths o → HasOrder o system
    → ((c : Cut) → A c ↔ (IsConsistent o c × IsClosed system c)) → (words : List ℕ) → AreLeastRows system words → AreLeastCuts (lengths o) words A
least_cuts o system A lens order members words rows row there =
    let P : List ℕ → Type 0 = λ l. IsLeastFrom system (start_of l row) (row_at l words row) in
    let here : row ≤ sum system.lens = subst (λ (l : List ℕ). row ≤ sum l) (sym lens) there in
    least_or_none o system A lens order members (start_of (lengths o) row) (row_at (lengths o) words row) (subst P lens (rows.each row here))
