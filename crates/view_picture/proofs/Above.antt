-- The last kept events of a process, one event back.
use Rattle.std.proofs.Common.{◌≡◌, ℕ, zero, suc, ◌-◌, ◌<◌, Bool, true, false, refl, sym, ap, ◌∙◌, arith}
use Rattle.view_picture.specs.Choice.{shown_above}

kept_step : (kept : ℕ → Bool) (limit n : ℕ) → kept (suc n) ≡ true → shown_above kept (suc limit) (suc n) ≡ shown_above kept limit n
unfolding shown_above
kept_step kept limit n h = rw h refl

passed_step : (kept : ℕ → Bool) (limit n : ℕ) → kept (suc n) ≡ false → shown_above kept (suc limit) (suc n) ≡ shown_above kept (suc limit) n
unfolding shown_above
passed_step kept limit n h = rw h refl

pub kept_back : (kept : ℕ → Bool) (left position : ℕ) → 0 < left → 0 < position → kept position ≡ true → shown_above kept left position ≡ shown_above kept (left - 1) (position - 1)
kept_back kept zero position some there h = absurd (omega arith)
kept_back kept (suc l) zero some there h = absurd (omega arith)
kept_back kept (suc l) (suc n) some there h =
    let e : suc l - 1 ≡ l = omega arith in
    let f : suc n - 1 ≡ n = omega arith in
    kept_step kept l n h ∙ ap (λ (i : ℕ). shown_above kept i n) (sym e) ∙ ap (shown_above kept (suc l - 1)) (sym f)

pub passed_back : (kept : ℕ → Bool) (left position : ℕ) → 0 < left → 0 < position → kept position ≡ false → shown_above kept left position ≡ shown_above kept left (position - 1)
passed_back kept zero position some there h = absurd (omega arith)
passed_back kept (suc l) zero some there h = absurd (omega arith)
passed_back kept (suc l) (suc n) some there h =
    let f : suc n - 1 ≡ n = omega arith in
    passed_step kept l n h ∙ ap (shown_above kept (suc l)) (sym f)

-- at the end nothing is left of the limit or of the events
pub none_left : (kept : ℕ → Bool) (position : ℕ) → shown_above kept zero position ≡ position
unfolding shown_above
none_left kept position = refl

pub at_start : (kept : ℕ → Bool) (left : ℕ) → shown_above kept left zero ≡ zero
unfolding shown_above
at_start kept zero = refl
at_start kept (suc l) = refl
