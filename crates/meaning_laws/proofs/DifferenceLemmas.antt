-- Differences of counters: what holds of the differences at two cuts holds at their minimum and maximum, but for unequal.
use Rattle.std.proofs.Common.{◌≡◌, ℕ, ◌≤◌, ◌⊎◌, min, max, Bool, true, false, ℤ, pos, ◌+ℤ◌, ◌-ℤ◌, ◌≤ℤ◌, int_le, int_lt, int_eq, sym, ap, ◌∙◌, subst, refl, inl, inr, arith}
use Rattle.std.proofs.lemmas.Bool.{cases_lt, both_ways}
use Rattle.std.proofs.lemmas.Bool.Decides.{Decides-int_eq}
use Rattle.std.proofs.lemmas.Int.{ints}
use Rattle.run_model.specs.Formula.{Relation, Equal, Unequal, Less, LessOrEqual, Greater, GreaterOrEqual}
use Rattle.run_model.specs.Meaning.{compares}
use Rattle.run_model.specs.Class.{is_unequal}

-- n is between a and b
abbrev pub Mid : ℤ → ℤ → ℤ → Type 0
Mid a b n = ((a ≤ℤ n) ⊎ (b ≤ℤ n)) × ((n ≤ℤ a) ⊎ (n ≤ℤ b))

refl_ints : (a : ℤ) → a ≤ℤ a
refl_ints a = omega (arith, ints)

mid_left : (a b : ℤ) → Mid a b a
mid_left a b = (inl (refl_ints a), inl (refl_ints a))

mid_right : (a b : ℤ) → Mid a b b
mid_right a b = (inr (refl_ints b), inr (refl_ints b))

mid_swapped : (a b n : ℤ) → Mid b a n → Mid a b n
mid_swapped a b n h = (
  elim h.0 [ inl u ↦ inr u | inr u ↦ inl u ],
  elim h.1 [ inl u ↦ inr u | inr u ↦ inl u ],
)

less_subtracted : (a b y : ℤ) → y ≤ℤ b → (a -ℤ b) ≤ℤ (a -ℤ y)
less_subtracted a b y h = omega (arith, ints, h)

less_before : (a x y : ℤ) → a ≤ℤ x → (a -ℤ y) ≤ℤ (x -ℤ y)
less_before a x y h = omega (arith, ints, h)

-- the lower of the first values with the lower of the second ones, each of another pair
mid_low : (a b x y : ℤ) → a ≤ℤ x → y ≤ℤ b → Mid (a -ℤ b) (x -ℤ y) (a -ℤ y)
mid_low a b x y h k = (inl (less_subtracted a b y k), inr (less_before a x y h))

-- and the higher ones
mid_high : (a b x y : ℤ) → x ≤ℤ a → b ≤ℤ y → Mid (a -ℤ b) (x -ℤ y) (a -ℤ y)
mid_high a b x y h k = (inr (less_before x a y h), inl (less_subtracted a y b k))

least_left : (m a x : ℕ) → m ≡ min a x → a ≤ x → m ≡ a
least_left m a x e h = omega (arith, e, h)

least_right : (m a x : ℕ) → m ≡ min a x → x ≤ a → m ≡ x
least_right m a x e h = omega (arith, e, h)

greatest_left : (m a x : ℕ) → m ≡ max a x → x ≤ a → m ≡ a
greatest_left m a x e h = omega (arith, e, h)

greatest_right : (m a x : ℕ) → m ≡ max a x → a ≤ x → m ≡ x
greatest_right m a x e h = omega (arith, e, h)

-- a value that never falls along its process
abbrev pub Rises : (ℕ → ℤ) → Type 0
Rises f = (a b : ℕ) → a ≤ b → f a ≤ℤ f b

at_counts : (f g : ℕ → ℤ) (P : ℤ → Type 0) (m n a b : ℕ) → m ≡ a → n ≡ b → P (f a -ℤ g b) → P (f m -ℤ g n)
at_counts f g P m n a b e h p = subst (λ z. P (f z -ℤ g n)) (sym e) (subst (λ z. P (f a -ℤ g z)) (sym h) p)

pub difference_min : (f g : ℕ → ℤ) → Rises f → Rises g → (a b x y m n : ℕ) → m ≡ min a x → n ≡ min b y → Mid (f a -ℤ g b) (f x -ℤ g y) (f m -ℤ g n)
difference_min f g up more a b x y m n first second = elim (cases_lt a x) [
  | inl l ↦ elim (cases_lt b y) [
    | inl k ↦ at_counts f g (Mid (f a -ℤ g b) (f x -ℤ g y)) m n a b (least_left m a x first (omega (arith, l))) (least_left n b y second (omega (arith, k))) (mid_left (f a -ℤ g b) (f x -ℤ g y))
    | inr k ↦ at_counts f g (Mid (f a -ℤ g b) (f x -ℤ g y)) m n a y (least_left m a x first (omega (arith, l))) (least_right n b y second k) (mid_low (f a) (g b) (f x) (g y) (up a x (omega (arith, l))) (more y b k))
  ]
  | inr l ↦ elim (cases_lt b y) [
    | inl k ↦ at_counts f g (Mid (f a -ℤ g b) (f x -ℤ g y)) m n x b (least_right m a x first l) (least_left n b y second (omega (arith, k))) (mid_swapped (f a -ℤ g b) (f x -ℤ g y) (f x -ℤ g b) (mid_low (f x) (g y) (f a) (g b) (up x a l) (more b y (omega (arith, k)))))
    | inr k ↦ at_counts f g (Mid (f a -ℤ g b) (f x -ℤ g y)) m n x y (least_right m a x first l) (least_right n b y second k) (mid_right (f a -ℤ g b) (f x -ℤ g y))
  ]
]

pub difference_max : (f g : ℕ → ℤ) → Rises f → Rises g → (a b x y m n : ℕ) → m ≡ max a x → n ≡ max b y → Mid (f a -ℤ g b) (f x -ℤ g y) (f m -ℤ g n)
difference_max f g up more a b x y m n first second = elim (cases_lt a x) [
  | inl l ↦ elim (cases_lt b y) [
    | inl k ↦ at_counts f g (Mid (f a -ℤ g b) (f x -ℤ g y)) m n x y (greatest_right m a x first (omega (arith, l))) (greatest_right n b y second (omega (arith, k))) (mid_right (f a -ℤ g b) (f x -ℤ g y))
    | inr k ↦ at_counts f g (Mid (f a -ℤ g b) (f x -ℤ g y)) m n x b (greatest_right m a x first (omega (arith, l))) (greatest_left n b y second k) (mid_swapped (f a -ℤ g b) (f x -ℤ g y) (f x -ℤ g b) (mid_high (f x) (g y) (f a) (g b) (up a x (omega (arith, l))) (more y b k)))
  ]
  | inr l ↦ elim (cases_lt b y) [
    | inl k ↦ at_counts f g (Mid (f a -ℤ g b) (f x -ℤ g y)) m n a y (greatest_left m a x first l) (greatest_right n b y second (omega (arith, k))) (mid_high (f a) (g b) (f x) (g y) (up x a l) (more b y (omega (arith, k))))
    | inr k ↦ at_counts f g (Mid (f a -ℤ g b) (f x -ℤ g y)) m n a b (greatest_left m a x first l) (greatest_left n b y second k) (mid_left (f a -ℤ g b) (f x -ℤ g y))
  ]
]

-- but for unequal, what holds of two numbers holds between them
pub ints_between : (relation : Relation) (a b n k : ℤ) → is_unequal relation ≡ false → Mid a b n → compares relation a k ≡ true → compares relation b k ≡ true → compares relation n k ≡ true
ints_between Equal a b n k one mid h l = (Decides-int_eq n k).1 (equal_between a b n k mid ((Decides-int_eq a k).0 h) ((Decides-int_eq b k).0 l))
  where
    equal_between : (a b n k : ℤ) → Mid a b n → a ≡ k → b ≡ k → n ≡ k
    equal_between a b n k mid h l = elim mid.0 [
      | inl u ↦ elim mid.1 [ inl v ↦ omega (arith, ints, u, v, h, l) | inr v ↦ omega (arith, ints, u, v, h, l) ]
      | inr u ↦ elim mid.1 [ inl v ↦ omega (arith, ints, u, v, h, l) | inr v ↦ omega (arith, ints, u, v, h, l) ]
    ]
ints_between Unequal a b n k one mid h l = absurd (both_ways true one refl)
ints_between Less a b n k one mid h l = elim mid.1 [ inl u ↦ grind (arith, ints) | inr u ↦ grind (arith, ints) ]
ints_between LessOrEqual a b n k one mid h l = elim mid.1 [ inl u ↦ grind (arith, ints) | inr u ↦ grind (arith, ints) ]
ints_between Greater a b n k one mid h l = elim mid.0 [ inl u ↦ grind (arith, ints) | inr u ↦ grind (arith, ints) ]
ints_between GreaterOrEqual a b n k one mid h l = elim mid.0 [ inl u ↦ grind (arith, ints) | inr u ↦ grind (arith, ints) ]

-- ---- the same with one bound

pub less_as_bound : (n k : ℤ) → int_lt n k ≡ int_le n (k -ℤ pos 1)
less_as_bound n k = grind (arith, ints)

pub greater_as_bound : (n k : ℤ) → int_lt k n ≡ int_le (k +ℤ pos 1) n
greater_as_bound n k = grind (arith, ints)

pub bounds_from_equal : (n k : ℤ) → int_eq n k ≡ true → (int_le n k ≡ true) × (int_le k n ≡ true)
bounds_from_equal n k h = let e = (Decides-int_eq n k).0 h in (grind (arith, ints), grind (arith, ints))

pub equal_from_bounds : (n k : ℤ) → int_le n k ≡ true → int_le k n ≡ true → int_eq n k ≡ true
equal_from_bounds n k h l = (Decides-int_eq n k).1 (grind (arith, ints))
