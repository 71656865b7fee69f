-- The greatest number is one alone.
use Rattle.std.proofs.Common.{◌≡◌, ℕ, ◌≤◌, inl, inr, arith}
use Rattle.greatest_reach.specs.Back.{IsGreatest}

at_most : {N : Type 0} (Link : N → N → Type 0) (Gives : N → ℕ → Type 0) (e : N) (m n : ℕ) → IsGreatest Link Gives e m → IsGreatest Link Gives e n → m ≤ n
at_most Link Gives e m n one other = elim one.reached [
  | inl none ↦ omega (arith, none)
  | inr there ↦ other.above there.0 there.1 m there.2
]

pub one_greatest : {N : Type 0} (Link : N → N → Type 0) (Gives : N → ℕ → Type 0) (e : N) (m n : ℕ) → IsGreatest Link Gives e m → IsGreatest Link Gives e n → m ≡ n
one_greatest Link Gives e m n one other =
    let up = at_most Link Gives e m n one other in
    let down = at_most Link Gives e n m other one in
    omega (arith, up, down)
