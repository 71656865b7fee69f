-- Items that are the nodes of a graph, or lie one link behind one.
use Rattle.std.proofs.Common.{◌≡◌, ◌⊎◌, ℕ, ◌<◌, ◌≤◌, List, length, refl, subst, arith, inl, inr}
use Rattle.greatest_reach.specs.Back.{Back, itself, further, IsGreatest}
use Rattle.greatest_reach.specs.Graph.{Reads}
use Rattle.greatest_reach.proofs.Backs.{back_on}

-- the graph has the links turned round: a node reads what it links to where that is a node, and
-- else the number of what it links to starts at it
pub record IsTurned {N : Type 0} (Link : N → N → Type 0) (Gives : N → ℕ → Type 0) (readers : List (List ℕ)) (Begins : ℕ → ℕ → Type 0) (item : ℕ → N) (End : N → Type 0) : Type 0 where
  pub reads : (x y : ℕ) → Reads readers x y → Link (item x) (item y)
  pub starts_at : (x n : ℕ) → Begins x n → (y : N) × Back Link (item x) y × Gives y n
  pub links : (x : ℕ) → x < length readers → (y : N) → Link (item x) y
      → ((k : ℕ) × (k < length readers) × (y ≡ item k) × Reads readers x k)
      ⊎ (End y × ((n : ℕ) → Gives y n → (n ≡ 0) ⊎ Begins x n))
  pub gives : (x : ℕ) → x < length readers → (n : ℕ) → Gives (item x) n → (n ≡ 0) ⊎ Begins x n
  pub ends : (x y : N) → End x → Link x y → ⊥

module _ {N : Type 0} (Link : N → N → Type 0) (Gives : N → ℕ → Type 0) (readers : List (List ℕ)) (Begins : ℕ → ℕ → Type 0) (item : ℕ → N) (End : N → Type 0) (t : IsTurned Link Gives readers Begins item End) where
  to_items : (e x : ℕ) → Back (Reads readers) e x → Back Link (item e) (item x)
  to_items e x itself = itself
  to_items e x (further {x = m} b r) = further (to_items e m b) (t.reads m x r)

  -- it is a node that e looks back on, or lies behind one
  abbrev IsBehind : ℕ → N → Type 0
  IsBehind e y =
      ((x : ℕ) × (x < length readers) × (y ≡ item x) × Back (Reads readers) e x)
      ⊎ (End y × ((x : ℕ) × Back (Reads readers) e x × ((n : ℕ) → Gives y n → (n ≡ 0) ⊎ Begins x n)))

  behind : (e : ℕ) → e < length readers → (y : N) → Back Link (item e) y → IsBehind e y
  behind e lt y itself = inl (e, lt, refl, itself)
  behind e lt y (further {x = m} b l) = elim (behind e lt m b) [
    | inr old ↦ absurd (t.ends m y old.0 l)
    | inl at ↦
        let x = at.0 in
        elim (t.links x at.1 y (subst (λ (z : N). Link z y) at.2 l)) [
          | inl k ↦ inl (k.0, k.1, k.2, further at.3 k.3)
          | inr out ↦ inr (out.0, (x, at.3, out.1))
        ]
  ]

  pub item_greatest : (e value : ℕ) → e < length readers → IsGreatest (Reads readers) Begins e value → IsGreatest Link Gives (item e) value
  item_greatest e value lt is = record { above = above; reached = reached }
    where
      low : (x n : ℕ) → Back (Reads readers) e x → (n ≡ 0) ⊎ Begins x n → n ≤ value
      low x n b (inl none) = omega (arith, none)
      low x n b (inr there) = is.above x b n there

      above : (y : N) → Back Link (item e) y → (n : ℕ) → Gives y n → n ≤ value
      above y b n g = elim (behind e lt y b) [
        | inl at ↦ low at.0 n at.3 (t.gives at.0 at.1 n (subst (λ (z : N). Gives z n) at.2 g))
        | inr out ↦ low out.1.0 n out.1.1 (out.1.2 n g)
      ]

      reached : (value ≡ 0) ⊎ ((y : N) × Back Link (item e) y × Gives y value)
      reached = elim is.reached [
        | inl none ↦ inl none
        | inr k ↦
            let start = t.starts_at k.0 value k.2 in
            inr (start.0, back_on Link (item e) (item k.0) start.0 (to_items e k.0 k.1) start.1, start.2)
      ]
