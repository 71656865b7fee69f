-- Raising one component of a vector below the least, to no more than each closed vector has there.
use Rattle.std.proofs.Common.{◌≡◌, ℕ, zero, suc, ◌+◌, ◌<◌, ◌≤◌, ◌⊎◌, inl, inr, List, [], ◌∷◌, length, get_or, set, refl, arith, subst, sym, ap, ◌∙◌}
use Rattle.std.proofs.lemmas.List.{length-map, length-set, get_or_past}
use Rattle.pull_system.specs.Vector.{IsAtMost, IsVector}
use Rattle.pull_system.specs.System.{SystemView, IsSystem, IsPull, IsClosedFrom, IsLeastFrom, HoldsPull, source_of, target_of, ask, IsBelowLeast}
use Rattle.pull_system.proofs.Pulls.{pull-of, ask-closed, tops, get_or-tops}

pub lt_or_le : (i n : ℕ) → (i < n) ⊎ (n ≤ i)
lt_or_le i n = grind arith

-- what stands at j after a write at i
pub set_case : {A : Type 0} (v : List A) (i : ℕ) (z : A) (j : ℕ) (d : A) → (get_or (set v i z) j d ≡ get_or v j d) ⊎ ((j ≡ i) × (get_or (set v i z) j d ≡ z))
set_case [] i z j d = inl refl
set_case (x ∷ v) zero z zero d = inr (refl, refl)
set_case (x ∷ v) zero z (suc j) d = inl refl
set_case (x ∷ v) (suc i) z zero d = inl refl
set_case (x ∷ v) (suc i) z (suc j) d = elim (set_case v i z j d) [ inl e ↦ inl e | inr e ↦ inr (ap (λ n. suc n) e.0, e.1) ]

pub set_at_least : (v : List ℕ) (i z : ℕ) → get_or v i 0 ≤ z → (j : ℕ) → get_or v j 0 ≤ get_or (set v i z) j 0
set_at_least v i z more j = elim (set_case v i z j 0) [ inl e ↦ omega arith | inr e ↦ let P : ℕ → Type 0 = λ n. get_or v n 0 ≤ z in omega (arith, e.1, subst P (sym e.0) more) ]

pub set_at_most : (v w : List ℕ) (i z : ℕ) → ((j : ℕ) → get_or v j 0 ≤ get_or w j 0) → z ≤ get_or w i 0 → (j : ℕ) → get_or (set v i z) j 0 ≤ get_or w j 0
set_at_most v w i z within less j = elim (set_case v i z j 0) [ inl e ↦ omega (arith, within j) | inr e ↦ let P : ℕ → Type 0 = λ n. z ≤ get_or w n 0 in omega (arith, e.1, subst P (sym e.0) less) ]

pub get_or-tops_le : (lens : List ℕ) (i : ℕ) → get_or (tops lens) i 0 ≤ get_or lens i 0 + 1
get_or-tops_le lens i = elim (lt_or_le i (length lens)) [ inl there ↦ omega (arith, get_or-tops lens i there) | inr past ↦ omega (arith, get_or_past (tops lens) i 0 (omega (arith, length-map lens (λ (n : ℕ). n + 1)))) ]

pub le_tops : (lens v : List ℕ) → IsVector lens v → (i : ℕ) → get_or v i 0 ≤ get_or (tops lens) i 0
le_tops lens v vector i = elim (lt_or_le i (length lens)) [ inl there ↦ omega (arith, get_or-tops lens i there, vector.within i) | inr past ↦ omega (arith, get_or_past v i 0 (omega (arith, vector.size))) ]

-- the vector with no such cut anywhere is closed
pub tops_closed : (system : SystemView) → IsSystem system → (start v : List ℕ) → IsVector system.lens v → IsAtMost start v → IsClosedFrom system start (tops system.lens)
tops_closed system is start v vector above = record {
  vector = record { size = length-map system.lens (λ (n : ℕ). n + 1); within = get_or-tops_le system.lens };
  above = record { each = λ i. omega (arith, above.each i, le_tops system.lens v vector i) };
  closed = record {
    each = λ k there. let p : IsPull system.lens _ = pull-of system is k there in omega (arith, p.table.within (get_or (tops system.lens) (source_of system k) 0), get_or-tops system.lens (target_of system k) p.target);
  };
}

-- a component may rise to what each closed vector has there
pub climb : (system : SystemView) → IsSystem system → (start v : List ℕ) → IsBelowLeast system start v → (i z : ℕ)
    → get_or v i 0 ≤ z → ((c : List ℕ) → IsClosedFrom system start c → z ≤ get_or c i 0) → IsBelowLeast system start (set v i z)
climb system is start v below i z more least = record {
  vector = record {
    size = length-set v i z ∙ below.vector.size;
    within = λ j. omega (arith, get_or-tops_le system.lens j, set_at_most v (tops system.lens) i z (le_tops system.lens v below.vector) (least (tops system.lens) (tops_closed system is start v below.vector below.above)) j);
  };
  above = record { each = λ j. omega (arith, below.above.each j, set_at_least v i z more j) };
  below = λ c closed. record { each = set_at_most v c i z ((below.below c closed).each) (least c closed) };
}

-- what a pull asks of a vector below the least, at no more than its source, is within each closed vector
pub asked : (system : SystemView) → IsSystem system → (start v : List ℕ) → IsBelowLeast system start v → (k : ℕ) → k < length system.pulls
    → (x : ℕ) → x ≤ get_or v (source_of system k) 0 → (c : List ℕ) → IsClosedFrom system start c → ask system k x ≤ get_or c (target_of system k) 0
asked system is start v below k there x less c closed =
    ask-closed system is k there start c closed x (omega (arith, (below.below c closed).each (source_of system k)))

-- a vector below the least whose pulls all hold is the least
pub settled_least : (system : SystemView) (start v : List ℕ) → IsBelowLeast system start v → ((k : ℕ) → k < length system.pulls → HoldsPull system v k) → IsLeastFrom system start v
settled_least system start v below holds = record { closed = record { vector = below.vector; above = below.above; closed = record { each = holds } }; least = below.below }

-- where a vector starts, it is below the least
pub starts_below : (system : SystemView) (v : List ℕ) → IsVector system.lens v → IsBelowLeast system v v
starts_below system v vector = record { vector = vector; above = record { each = λ i. omega arith }; below = λ c closed. closed.above }
