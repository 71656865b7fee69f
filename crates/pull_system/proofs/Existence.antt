-- There is exactly one least closed vector from each start, and closed vectors are closed under minimum and maximum.
use Rattle.std.proofs.Common.{◌≡◌, ℕ, zero, suc, ◌+◌, ◌<◌, ◌≤◌, ◌⊎◌, inl, inr, List, length, get_or, set, sum, max, arith, sym, ◌∙◌, subst}
use Rattle.std.proofs.lemmas.List.{ext_get_or}
use Rattle.pull_system.specs.Vector.{IsVector, IsMinimum, IsMaximum}
use Rattle.pull_system.specs.System.{SystemView, IsSystem, IsPull, IsClosed, IsLeastFrom, HoldsPull, source_of, target_of, ask, IsBelowLeast}
use Rattle.pull_system.proofs.Pulls.{pull-of, ask-rises}
use Rattle.pull_system.proofs.Sums.{sum-set, sum-is_vector}
use Rattle.pull_system.proofs.Climbing.{climb, asked, settled_least, starts_below}

le_or_lt : (a b : ℕ) → (a ≤ b) ⊎ (b < a)
le_or_lt a b = grind arith

last : (k count : ℕ) → k < suc count → (k < count) ⊎ (k ≡ count)
last k count h = grind arith

-- a pull that does not hold at the vector
record Fails (system : SystemView) (v : List ℕ) (count : ℕ) : Type 0 where
  k : ℕ
  below : k < count
  asks : get_or v (target_of system k) 0 < ask system k (get_or v (source_of system k) 0)

all_or_fails : (system : SystemView) (v : List ℕ) (count : ℕ) → ((k : ℕ) → k < count → HoldsPull system v k) ⊎ Fails system v count
all_or_fails system v zero = inl (λ k below. absurd (omega arith))
all_or_fails system v (suc count) =
    elim (all_or_fails system v count) [
      | inr f ↦ inr record { k = f.k; below = omega (arith, f.below); asks = f.asks }
      | inl all ↦
          elim (le_or_lt (ask system count (get_or v (source_of system count) 0)) (get_or v (target_of system count) 0)) [
            | inl holds ↦ inl (λ k below. elim (last k count below) [ inl less ↦ all k less | inr same ↦ let P : ℕ → Type 0 = HoldsPull system v in subst P (sym same) holds ])
            | inr asks ↦ inr record { k = count; below = omega arith; asks = asks }
          ]
    ]

abbrev pub AddsToSum : SystemView → List ℕ → List ℕ → List ℕ → Type 0
AddsToSum system start v w = IsBelowLeast system start w × (sum v + 1 ≤ sum w)

raise_adds : (system : SystemView) → IsSystem system → (start v : List ℕ) → IsBelowLeast system start v → (f : Fails system v (length system.pulls)) → (w : List ℕ) × AddsToSum system start v w
raise_adds system is start v below f =
    let z = ask system f.k (get_or v (source_of system f.k) 0) in
    let p : IsPull system.lens _ = pull-of system is f.k f.below in (
      set v (target_of system f.k) z,
      (
        climb system is start v below (target_of system f.k) z (omega (arith, f.asks)) (asked system is start v below f.k f.below (get_or v (source_of system f.k) 0) (omega arith)),
        omega (arith, f.asks, sum-set v (target_of system f.k) z (omega (arith, p.target, below.vector.size))),
      ),
    )

-- raising what fails ends at the least closed vector, since each raise adds to a sum that is bounded
climb_up : (system : SystemView) → IsSystem system → (start : List ℕ) (fuel : ℕ) (v : List ℕ) → IsBelowLeast system start v → sum system.lens + length system.lens ≤ fuel + sum v
    → (w : List ℕ) × IsLeastFrom system start w
climb_up system is start zero v below enough =
    elim (all_or_fails system v (length system.pulls)) [
      | inl all ↦ (v, settled_least system start v below all)
      | inr f ↦ let more = raise_adds system is start v below f in absurd (omega (arith, more.1.1, sum-is_vector system.lens more.0 more.1.0.vector))
    ]
climb_up system is start (suc fuel) v below enough =
    elim (all_or_fails system v (length system.pulls)) [
      | inl all ↦ (v, settled_least system start v below all)
      | inr f ↦ let more = raise_adds system is start v below f in climb_up system is start fuel more.0 more.1.0 (omega (arith, more.1.1))
    ]

pub least_exists : (system : SystemView) (start : List ℕ) → IsSystem system → IsVector system.lens start → (v : List ℕ) × IsLeastFrom system start v
least_exists system start is vector = climb_up system is start (sum system.lens + length system.lens) start (starts_below system start vector) (omega arith)

pub least_unique : (system : SystemView) (start v w : List ℕ) → IsLeastFrom system start v → IsLeastFrom system start w → v ≡ w
least_unique system start v w a b =
    ext_get_or 0 v w (omega (arith, a.closed.vector.size, b.closed.vector.size)) (λ i _. omega (arith, (a.least w b.closed).each i, (b.least v a.closed).each i))

pub minimum_closed : (system : SystemView) → IsSystem system → (v w m : List ℕ) → IsVector system.lens v → IsVector system.lens w → IsClosed system v → IsClosed system w → IsMinimum v w m → IsClosed system m
minimum_closed system is v w m vector_v vector_w closed_v closed_w minimum = record {
  each = λ k there.
      let x = get_or m (source_of system k) 0 in
      omega (
        arith,
        minimum.each (source_of system k),
        minimum.each (target_of system k),
        closed_v.each k there,
        closed_w.each k there,
        ask-rises system is k there x (get_or v (source_of system k) 0) (omega (arith, minimum.each (source_of system k))) (vector_v.within (source_of system k)),
        ask-rises system is k there x (get_or w (source_of system k) 0) (omega (arith, minimum.each (source_of system k))) (vector_w.within (source_of system k)),
      );
}

-- the greater of two numbers is one of them
max_case : (a b : ℕ) → (max a b ≡ a) ⊎ (max a b ≡ b)
max_case a b = grind arith

pub maximum_closed : (system : SystemView) (v w m : List ℕ) → IsClosed system v → IsClosed system w → IsMaximum v w m → IsClosed system m
maximum_closed system v w m closed_v closed_w maximum = record {
  each = λ k there.
      let x = source_of system k in
      let P : ℕ → Type 0 = λ n. ask system k n ≤ get_or m (target_of system k) 0 in
      elim (max_case (get_or v x 0) (get_or w x 0)) [
        | inl e ↦ subst P (sym (maximum.each x ∙ e)) (omega (arith, closed_v.each k there, maximum.each (target_of system k)))
        | inr e ↦ subst P (sym (maximum.each x ∙ e)) (omega (arith, closed_w.each k there, maximum.each (target_of system k)))
      ];
}
