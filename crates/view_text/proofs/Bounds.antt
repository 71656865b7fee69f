-- The events of a process that are shown, one event back, and the bounds of the processes.
use Rattle.std.proofs.Common.{◌≡◌, ℕ, zero, suc, ◌+◌, ◌-◌, ◌<◌, ◌≤◌, inl, inr, Bool, true, false, [], ◌∷◌, length, refl, sym, ap, ◌∙◌, length-append, add-one, arith}
use Rattle.view_parts.specs.Each.{each_below}
use Rattle.std.specs.Prelude.{nat_lt}
use Rattle.std.proofs.lemmas.Bool.{cases_Bool}
use Rattle.view_text.specs.Shown.{shown_above, kept_behind}

kept_step : (kept : ℕ → Bool) (limit n : ℕ) → kept (suc n) ≡ true → shown_above kept (suc limit) (suc n) ≡ shown_above kept limit n
unfolding shown_above
kept_step kept limit n h = rw h refl

passed_step : (kept : ℕ → Bool) (limit n : ℕ) → kept (suc n) ≡ false → shown_above kept (suc limit) (suc n) ≡ shown_above kept (suc limit) n
unfolding shown_above
passed_step kept limit n h = rw h refl

pub kept_back : (kept : ℕ → Bool) (left position : ℕ) → 0 < left → 0 < position → kept position ≡ true → shown_above kept left position ≡ shown_above kept (left - 1) (position - 1)
kept_back kept zero position some there h = absurd (omega arith)
kept_back kept (suc l) zero some there h = absurd (omega arith)
kept_back kept (suc l) (suc n) some there h =
    let e : suc l - 1 ≡ l = omega arith in
    let f : suc n - 1 ≡ n = omega arith in
    kept_step kept l n h ∙ ap (λ (i : ℕ). shown_above kept i n) (sym e) ∙ ap (shown_above kept (suc l - 1)) (sym f)

pub passed_back : (kept : ℕ → Bool) (left position : ℕ) → 0 < left → 0 < position → kept position ≡ false → shown_above kept left position ≡ shown_above kept left (position - 1)
passed_back kept zero position some there h = absurd (omega arith)
passed_back kept (suc l) zero some there h = absurd (omega arith)
passed_back kept (suc l) (suc n) some there h =
    let f : suc n - 1 ≡ n = omega arith in
    passed_step kept l n h ∙ ap (shown_above kept (suc l)) (sym f)

-- at the end nothing is left of the limit or of the events
pub none_left : (kept : ℕ → Bool) (position : ℕ) → shown_above kept zero position ≡ position
unfolding shown_above
none_left kept position = refl

pub at_start : (kept : ℕ → Bool) (left : ℕ) → shown_above kept left zero ≡ zero
unfolding shown_above
at_start kept zero = refl
at_start kept (suc l) = refl

-- a list of one number for each process has as many
pub each_length : (f : ℕ → ℕ) (n : ℕ) → length (each_below n (λ k. f k ∷ [])) ≡ n
each_length f zero = refl
each_length f (suc n) = length-append (each_below n (λ k. f k ∷ [])) (f n ∷ []) ∙ ap (λ (k : ℕ). k + 1) (each_length f n) ∙ add-one n

above_most : (kept : ℕ → Bool) (limit n : ℕ) → shown_above kept limit n ≤ n
unfolding shown_above
above_most kept zero n = omega arith
above_most kept (suc l) zero = omega arith
above_most kept (suc l) (suc n) = elim (cases_Bool (kept (suc n))) [
  | inl is ↦ rw is (le_more (shown_above kept l n) n (above_most kept l n))
  | inr isnt ↦ rw isnt (le_more (shown_above kept (suc l) n) n (above_most kept (suc l) n))
]
  where
    le_more : (a b : ℕ) → a ≤ b → a ≤ suc b
    le_more a b h = omega arith

-- where one may be shown, the last event is
above_less : (kept : ℕ → Bool) (l n : ℕ) → shown_above kept (suc l) (suc n) ≤ n
unfolding shown_above
above_less kept l n = elim (cases_Bool (kept (suc n))) [
  | inl is ↦ rw is (above_most kept l n)
  | inr isnt ↦ rw isnt (above_most kept (suc l) n)
]

less : (a b : ℕ) → a < b → nat_lt a b ≡ true
less a b h = grind arith

not_less : (a b : ℕ) → b ≤ a → nat_lt a b ≡ false
not_less a b h = grind arith

at_most : (p n : ℕ) → nat_lt p (suc n) ≡ true → p ≤ n
at_most p n h = grind arith

above : (p n : ℕ) → nat_lt p (suc n) ≡ false → suc n ≤ p
above p n h = grind arith

one_more_each : (k l : ℕ) → nat_lt (suc k) (suc l) ≡ nat_lt k l
one_more_each k l = elim (cases_Bool (nat_lt k l)) [
  | inl is ↦ rw is (less (suc k) (suc l) (up k l is))
  | inr isnt ↦ rw isnt (not_less (suc k) (suc l) (down k l isnt))
]
  where
    up : (a b : ℕ) → nat_lt a b ≡ true → suc a < suc b
    up a b h = grind arith

    down : (a b : ℕ) → nat_lt a b ≡ false → suc b ≤ suc a
    down a b h = grind arith

-- nothing is kept behind the last position
none_behind : (kept : ℕ → Bool) (position n : ℕ) → n ≤ position → kept_behind kept position n ≡ 0
unfolding kept_behind
none_behind kept position zero past = refl
none_behind kept position (suc n) past = rw (not_less position (suc n) past) (none_behind kept position n (omega arith))

behind_kept : (kept : ℕ → Bool) (position n : ℕ) → nat_lt position (suc n) ≡ true → kept (suc n) ≡ true → kept_behind kept position (suc n) ≡ suc (kept_behind kept position n)
unfolding kept_behind
behind_kept kept position n there is = rw (there, is) refl

behind_passed : (kept : ℕ → Bool) (position n : ℕ) → nat_lt position (suc n) ≡ true → kept (suc n) ≡ false → kept_behind kept position (suc n) ≡ kept_behind kept position n
unfolding kept_behind
behind_passed kept position n there isnt = rw (there, isnt) refl

pub above_by_count : (kept : ℕ → Bool) (limit n position : ℕ) → 0 < position → position ≤ n → nat_lt (shown_above kept limit n) position ≡ nat_lt (kept_behind kept position n) limit
above_by_count kept zero n position some at =
    ap (λ (x : ℕ). nat_lt x position) (none_left kept n) ∙ not_less n position at ∙ sym (not_less (kept_behind kept position n) 0 (omega arith))
above_by_count kept (suc l) zero position some at = absurd (omega arith)
above_by_count kept (suc l) (suc n) position some at = elim (cases_Bool (nat_lt position (suc n))) [
  | inl there ↦ elim (cases_Bool (kept (suc n))) [
    | inl is ↦ ap (λ (x : ℕ). nat_lt x position) (kept_step kept l n is) ∙ above_by_count kept l n position some (at_most position n there)
        ∙ sym (one_more_each (kept_behind kept position n) l) ∙ ap (λ (x : ℕ). nat_lt x (suc l)) (sym (behind_kept kept position n there is))
    | inr isnt ↦ ap (λ (x : ℕ). nat_lt x position) (passed_step kept l n isnt) ∙ above_by_count kept (suc l) n position some (at_most position n there)
        ∙ ap (λ (x : ℕ). nat_lt x (suc l)) (sym (behind_passed kept position n there isnt))
  ]
  | inr past ↦
      less (shown_above kept (suc l) (suc n)) position (below (shown_above kept (suc l) (suc n)) n position (above_less kept l n) (above position n past))
      ∙ sym (ap (λ (x : ℕ). nat_lt x (suc l)) (none_behind kept position (suc n) (above position n past)) ∙ less 0 (suc l) (omega arith))
]
  where
    below : (a b c : ℕ) → a ≤ b → suc b ≤ c → a < c
    below a b c h k = omega arith
