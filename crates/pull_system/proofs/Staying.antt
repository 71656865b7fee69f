-- Lists of pulls that stay.
use Rattle.std.proofs.Common.{◌≡◌, ℕ, zero, suc, ◌+◌, ◌<◌, List, [], ◌∷◌, ◌++◌, length, get_or, flat_map, refl, ap, arith}
use Rattle.std.specs.List.{range_with_len}
use Rattle.pull_system.specs.declared.pull.Pull.{Pull}
use Rattle.pull_system.specs.System.{no_pull}
use Rattle.pull_system.specs.Growth.{PullStays}

-- as many pulls, each of which stays
pub record AllStay (old : List ℕ) (before after : List Pull) : Type 0 where
  pub count : length before ≡ length after
  pub each : (k : ℕ) → k < length after → PullStays old (get_or before k no_pull) (get_or after k no_pull)

pub stay_none : (old : List ℕ) → AllStay old [] []
stay_none old = record { count = refl; each = λ k lt. absurd (omega arith) }

pub stay_cons : (old : List ℕ) (p q : Pull) (ps qs : List Pull) → PullStays old p q → AllStay old ps qs → AllStay old (p ∷ ps) (q ∷ qs)
stay_cons old p q ps qs one h = record { count = ap (λ (n : ℕ). suc n) h.count; each = at }
  where
    at : (k : ℕ) → k < length (q ∷ qs) → PullStays old (get_or (p ∷ ps) k no_pull) (get_or (q ∷ qs) k no_pull)
    at zero lt = one
    at (suc k) lt = h.each k (omega arith)

pub stay_one : (old : List ℕ) (p q : Pull) → PullStays old p q → AllStay old (p ∷ []) (q ∷ [])
stay_one old p q one = stay_cons old p q [] [] one (stay_none old)

pub stay_on : (old : List ℕ) (ps qs rs ts : List Pull) → AllStay old ps qs → AllStay old rs ts → AllStay old (ps ++ rs) (qs ++ ts)
stay_on old [] [] rs ts h k = k
stay_on old [] (q ∷ qs) rs ts h k = absurd (let c = h.count in omega arith)
stay_on old (p ∷ ps) [] rs ts h k = absurd (let c = h.count in omega arith)
stay_on old (p ∷ ps) (q ∷ qs) rs ts h k =
    stay_cons old p q (ps ++ rs) (qs ++ ts) (h.each 0 (omega arith))
    (stay_on old ps qs rs ts (record { count = let c = h.count in omega arith; each = λ n lt. h.each (suc n) (omega arith) }) k)

pub stay_flat : (old : List ℕ) (f g : ℕ → List Pull) (a n : ℕ) → ((k : ℕ) → AllStay old (f k) (g k)) → AllStay old (flat_map f (range_with_len a n)) (flat_map g (range_with_len a n))
stay_flat old f g a zero h = stay_none old
stay_flat old f g a (suc n) h =
    stay_on old (f a) (g a) (flat_map f (range_with_len (a + 1) n)) (flat_map g (range_with_len (a + 1) n)) (h a) (stay_flat old f g (a + 1) n h)
