-- The first rows of a process are final where the last of them is.
use Rattle.std.proofs.Common.{◌≡◌, ℕ, zero, suc, ◌+◌, ◌-◌, ◌<◌, ◌≤◌, List, [], ◌∷◌, Bool, Option, Some, None, length, sum, take, get_or, arith, sym, ap, ◌∙◌, subst, inl, inr, get_or-set_same}
use Rattle.std.specs.Prelude.{nat_le, if◌then◌else◌}
use Rattle.std.proofs.lemmas.Bool.{le-leb, lt-leb}
use Rattle.std.proofs.lemmas.List.Sums.{sum_by-cons}
use Rattle.pull_system.specs.Vector.{IsAtMost}
use Rattle.pull_system.specs.System.{SystemView, IsSystem}
use Rattle.pull_system.specs.Rows.{RowsView, AreLeastRows, start_of, row_at}
use Rattle.pull_system.specs.Growth.{Grows, Stays, old_row_from, old_row, grown_words}
use Rattle.pull_system.proofs.Final.{final_row}
use Rattle.pull_system.proofs.Climbing.{set_case}
use Rattle.pull_system.proofs.Starts.{start_of-bottom, start_of-event, length-start_of, get_or-row_at}
use Rattle.bound_table.specs.Firm.{ReachesFirst}
use Rattle.bound_table.proofs.Own.{sum_old}

-- the row that an event had before
old_row_at : (before : ℕ) (olds lens : List ℕ) (p k : ℕ) → length olds ≡ length lens → p < length lens → 1 ≤ k → k ≤ get_or olds p 0 → ((i : ℕ) → get_or olds i 0 ≤ get_or lens i 0)
    → old_row_from before olds lens (sum (take p lens) + k) ≡ Some (before + (sum (take p olds) + k))
old_row_at before [] lens p k size there one few grow = absurd (omega arith)
old_row_at before (old ∷ olds) [] p k size there one few grow = absurd (omega arith)
old_row_at before (old ∷ olds) (len ∷ lens) zero k size there one few grow =
    let inner : Bool → Option ℕ = λ b. if b then Some (before + (0 + k)) else None in
    let outer : Bool → Option ℕ = λ b. if b then inner (nat_le (0 + k) old) else old_row_from (before + old) olds lens (0 + k - len) in
    ap outer (le-leb (0 + k) len (omega (arith, grow 0))) ∙ ap inner (le-leb (0 + k) old (omega arith))
old_row_at before (old ∷ olds) (len ∷ lens) (suc p) k size there one few grow =
    let row : ℕ = sum (len ∷ take p lens) + k in
    let split : row ≡ len + (sum (take p lens) + k) = omega (arith, sum_by-cons (λ (n : ℕ). n) len (take p lens)) in
    let outer : Bool → Option ℕ = λ b. if b then (if nat_le row old then Some (before + row) else None) else old_row_from (before + old) olds lens (row - len) in
    let rest : row - len ≡ sum (take p lens) + k = omega (arith, split) in
    let place : before + old + (sum (take p olds) + k) ≡ before + (sum (old ∷ take p olds) + k) = omega (arith, sum_by-cons (λ (n : ℕ). n) old (take p olds)) in
    ap outer (lt-leb row len (omega (arith, split)))
    ∙ ap (λ r. old_row_from (before + old) olds lens r) rest
    ∙ old_row_at (before + old) olds lens p k (omega arith) (omega arith) one few (λ i. grow (suc i))
    ∙ ap (λ (n : ℕ). Some n) place

start_rises : (lens : List ℕ) (p k m : ℕ) → p < length lens → 1 ≤ k → k ≤ m → m ≤ get_or lens p 0 → IsAtMost (start_of lens (sum (take p lens) + k)) (start_of lens (sum (take p lens) + m))
start_rises lens p k m there one less few = record {
  each = λ i.
      let low = start_of-event lens p k (omega arith) one (omega arith) in
      let high = start_of-event lens p m (omega arith) (omega arith) few in
      let at : get_or (start_of lens (sum (take p lens) + m)) p 0 ≡ m =
      ap (λ v. get_or v p 0) high ∙ get_or-set_same (start_of lens 0) p m 0 (omega (arith, length-start_of lens 0)) in
      elim (set_case (start_of lens 0) p k i 0) [
        | inl e ↦ omega (arith, ap (λ v. get_or v i 0) low, e, start_of-bottom lens i)
        | inr e ↦ omega (arith, ap (λ v. get_or v i 0) low, e.1, at, ap (λ j. get_or (start_of lens (sum (take p lens) + m)) j 0) e.0)
      ];
}

pub first_final : (before after : SystemView) → IsSystem before → Grows before after → Stays before after → (old : RowsView) → old.lens ≡ before.lens → AreLeastRows before old.words
    → (p m : ℕ) → p < length before.lens → 1 ≤ m → m ≤ get_or before.lens p 0
    → IsAtMost (row_at before.lens old.words (sum (take p before.lens) + m)) before.lens
    → ReachesFirst after p m (grown_words after.lens old)
first_final before after is grows stays old same least p m there some few within = record {
  each = λ k one less.
      let kept : ℕ = sum (take p before.lens) + k in
      let row : ℕ = sum (take p after.lens) + k in
      let after_there : p < length after.lens = omega (arith, grows.fell.count, there) in
      let fits : k ≤ get_or after.lens p 0 = omega (arith, grows.fell.each p) in
      let v = least.each kept (sum_old before.lens p k (omega arith) there) in
      let w = least.each (sum (take p before.lens) + m) (sum_old before.lens p m few there) in
      let rises = start_rises before.lens p k m there one less few in
      let below = v.least _ record { vector = w.closed.vector; above = record { each = λ i. omega (arith, rises.each i, w.closed.above.each i) }; closed = w.closed.closed } in
      let here : IsAtMost (row_at before.lens old.words kept) before.lens = record { each = λ i. omega (arith, below.each i, within.each i) } in
      let found : old_row before.lens after.lens row ≡ Some kept = old_row_at 0 before.lens after.lens p k grows.fell.count after_there one (omega arith) grows.fell.each ∙ ap (λ (n : ℕ). Some n) (let z : 0 + kept ≡ kept = omega arith in z) in
      let F : List ℕ → Type 0 = λ l. old_row l after.lens row ≡ Some kept in
      let W : List ℕ → Type 0 = λ l. IsAtMost (row_at l old.words kept) l in
      let row_there : row ≤ sum after.lens = sum_old after.lens p k fits after_there in
      record {
        vector = row_at after.lens (grown_words after.lens old) row;
        is = final_row before after is grows stays old same least row kept row_there (subst F (sym same) found) (subst W (sym same) here);
        below = λ i i_there. omega (arith, get_or-row_at after.lens (grown_words after.lens old) row i i_there);
      };
}
