-- Lists that are made number by number and pair by pair.
use Rattle.std.proofs.Common.{◌≡◌, ℕ, zero, suc, ◌+◌, ◌*◌, ◌<◌, ◌≤◌, List, [], ◌∷◌, ◌++◌, length, map, flat_map, All, sym, ap, ◌∙◌, arith, inl, inr, append_assoc, append-nil, length-append}
use Rattle.std.specs.List.{range_with_len}
use Rattle.std.proofs.lemmas.Bool.{cases_eq}
use Rattle.std.proofs.lemmas.List.{map-id}
use Rattle.std.proofs.lemmas.List.Concat.{flat_map-append}
use Rattle.std.proofs.lemmas.List.FromFn.{map-range_with_len_more}
use Rattle.run_model.proofs.EdgeLemmas.{all_flat, all_flat_at}
use Rattle.pull_system.specs.declared.pull.Pull.{Pull}
use Rattle.slice_graph.specs.PullLists.{by_pairs}

pub range_more : (a n x : ℕ) → a + n ≡ x → range_with_len a (n + 1) ≡ range_with_len a n ++ x ∷ []
range_more a n x is =
    sym (map-id (range_with_len a (n + 1))) ∙ map-range_with_len_more (λ (k : ℕ). k) a n x is ∙ ap (λ (ks : List ℕ). ks ++ x ∷ []) (map-id (range_with_len a n))

flat_more : {X : Type 0} (f : ℕ → List X) (a n x : ℕ) → a + n ≡ x → flat_map f (range_with_len a (n + 1)) ≡ flat_map f (range_with_len a n) ++ f x
flat_more f a n x is =
    ap (flat_map f) (range_more a n x is) ∙ flat_map-append f (range_with_len a n) (x ∷ []) ∙ ap (λ (ys : List _). flat_map f (range_with_len a n) ++ ys) (append-nil (f x))

-- one number more
pub flat_next : {X : Type 0} (old now new : List X) (f : ℕ → List X) (a n x : ℕ) → a + n ≡ x → now ≡ old ++ flat_map f (range_with_len a n) → new ≡ now ++ f x
    → new ≡ old ++ flat_map f (range_with_len a (n + 1))
flat_next old now new f a n x is h more =
    more ∙ ap (λ (ys : List _). ys ++ f x) h ∙ append_assoc old (flat_map f (range_with_len a n)) (f x) ∙ ap (λ (ys : List _). old ++ ys) (sym (flat_more f a n x is))

pub flat_first : {X : Type 0} (now new : List X) (f : ℕ → List X) (n : ℕ) → now ≡ flat_map f (range_with_len 0 n) → new ≡ now ++ f n → new ≡ flat_map f (range_with_len 0 (n + 1))
flat_first now new f n h more = more ∙ ap (λ (ys : List _). ys ++ f n) h ∙ sym (flat_more f 0 n n (omega arith))

-- ---- what holds of each pull

pub all_pairs : (P : Pull → Type 0) (f : ℕ → ℕ → List Pull) (n : ℕ) → ((i j : ℕ) → i < n → j < n → All P (f i j)) → All P (by_pairs f n)
all_pairs P f n h = all_flat P (λ i. flat_map (f i) (range_with_len 0 n)) 0 n (λ i _ lt. all_flat P (f i) 0 n (λ j _ less. h i j (omega (arith, lt)) (omega (arith, less))))

pub all_pairs_at : (P : Pull → Type 0) (f : ℕ → ℕ → List Pull) (n i j : ℕ) → i < n → j < n → All P (by_pairs f n) → All P (f i j)
all_pairs_at P f n i j lt less h =
    all_flat_at P (f i) 0 n j (omega arith) (omega arith) (all_flat_at P (λ k. flat_map (f k) (range_with_len 0 n)) 0 n i (omega arith) (omega arith) h)

-- ---- how many there are

pub length_flat : {X : Type 0} (f : ℕ → List X) (m a n : ℕ) → ((k : ℕ) → k < a + n → length (f k) ≡ m) → length (flat_map f (range_with_len a n)) ≡ n * m
length_flat f m a zero h = omega arith
length_flat f m a (suc n) h =
    omega (arith, length-append (f a) (flat_map f (range_with_len (a + 1) n)), h a (omega arith), length_flat f m (a + 1) n (λ k lt. h k (omega (arith, lt))))

-- one item for each number
ones : {X : Type 0} (f : ℕ → List X) (a n : ℕ) → ((k : ℕ) → a ≤ k → length (f k) ≡ 1) → length (flat_map f (range_with_len a n)) ≡ n
ones f a zero h = omega arith
ones f a (suc n) h = omega (arith, length-append (f a) (flat_map f (range_with_len (a + 1) n)), h a (omega arith), ones f (a + 1) n (λ k le. h k (omega (arith, le))))

-- one item for each number but one
pub all_but_one : {X : Type 0} (f : ℕ → List X) (i : ℕ) → length (f i) ≡ 0 → ((k : ℕ) → (k ≡ i → ⊥) → length (f k) ≡ 1) → (a n : ℕ) → a ≤ i → i < a + n
    → length (flat_map f (range_with_len a n)) + 1 ≡ n
all_but_one f i none one a zero le lt = absurd (omega arith)
all_but_one f i none one a (suc n) le lt = elim (cases_eq a i) [
  | inl here ↦ omega (
    arith,
    length-append (f a) (flat_map f (range_with_len (a + 1) n)),
    ap (λ (k : ℕ). length (f k)) here,
    ones f (a + 1) n (λ k after. one k (λ e. absurd (omega (arith, e, after, here)))),
  )
  | inr later ↦ omega (arith, length-append (f a) (flat_map f (range_with_len (a + 1) n)), one a later, all_but_one f i none one (a + 1) n (omega (arith, later)) (omega arith))
]

-- ---- tables

pub entry_more : (f : ℕ → ℕ) (old new : List ℕ) (n v : ℕ) → old ≡ map f (range_with_len 0 n) → new ≡ old ++ v ∷ [] → v ≡ f n → new ≡ map f (range_with_len 0 (n + 1))
entry_more f old new n v h more is =
    more ∙ ap (λ (xs : List ℕ). xs ++ v ∷ []) h ∙ ap (λ (x : ℕ). map f (range_with_len 0 n) ++ x ∷ []) is ∙ sym (map-range_with_len_more f 0 n n (omega arith))
