-- The initial cut and the cuts with one event, as the code makes them.
use Rattle.std.proofs.Common.{◌≡◌, ℕ, zero, suc, ◌+◌, List, length, get_or, refl, sym, ◌∙◌, ap, arith}
use Rattle.std.specs.Prelude.{◌↔◌, set, replicate}
use Rattle.run_model.specs.Cut.{Cut, Clocks, initial, with_next}
use Rattle.run_model.specs.Operators.{ExHolds}
use Rattle.run_model.specs.Slice.{Slice, Cuts}
use Rattle.run_model.specs.Witness.{HasFirst}
use Rattle.run_model.proofs.Counts.{length-initial}
use Rattle.run_model.proofs.Orders.{initial_consistent}
use Rattle.run_model.proofs.Paths.{next_time_from}

abbrev pub zeros : ℕ → List ℕ
zeros n = replicate n 0

pub zero_at : (n p : ℕ) → get_or (zeros n) p 0 ≡ 0
zero_at zero p = refl
zero_at (suc n) zero = refl
zero_at (suc n) (suc p) = zero_at n p

-- EX is true at the initial cut exactly where the cut with the first event of its process is there
pub first_next : (o : Clocks) (s : Slice) (process : ℕ) → HasFirst o s process ↔ ExHolds o process (Cuts o s) (initial o)
first_next o s process = (
  λ h. next_time_from o process (Cuts o s) (initial o) (omega (arith, h.0, length-initial o)) (initial_consistent o) h.1.consistent h.1,
  λ w. (omega (arith, w.0, length-initial o), w.2),
)

-- ---- the initial cut, as the code makes it

pub start_is : (o : Clocks) (n : ℕ) (start : Cut) → n ≡ length o → start ≡ replicate n 0 → start ≡ initial o
unfolding initial
start_is o n start size is = is ∙ ap (λ (k : ℕ). zeros k) size

-- ---- the cut with the first event of a process, as the code makes it

one_more : (n process : ℕ) → set (zeros n) process 1 ≡ with_next (zeros n) process
one_more n process = ap (λ (k : ℕ). set (zeros n) process (k + 1)) (sym (zero_at n process))

pub first_is : (o : Clocks) (n process : ℕ) (first : Cut) → n ≡ length o → first ≡ set (zeros n) process 1 → first ≡ with_next (initial o) process
unfolding initial
first_is o n process first size is = is ∙ one_more n process ∙ ap (λ (k : ℕ). with_next (zeros k) process) size
