-- Numbers behind commas.
use Rattle.std.proofs.Common.{◌≡◌, ℕ, zero, suc, ◌+◌, ◌-◌, ◌^◌, ◌<◌, ◌≤◌, ◌++◌, List, [], ◌∷◌, length, Some, refl, ap, ◌∙◌, arith, length-append}
use Rattle.std.specs.Fmt.{decimal}
pub use Rattle.pota_base.proofs.NumberLaws.{NumberTaken, number_takes, number_again, starts_digit}
use Rattle.log_lines.specs.Reading.{number_at, text_at, clock_from}
use Rattle.log_lines.proofs.WordLaws.{text_takes}

-- ---- numbers behind commas

-- a number behind a comma leaves less
pub shorter : (bytes behind after : List ℕ) (most n : ℕ) → most < 2 ^ 64 → text_at (44 ∷ []) bytes ≡ Some behind → number_at most behind ≡ Some (n, after) → length after < length bytes
shorter bytes behind after most n wide comma number =
    let text : bytes ≡ 44 ∷ behind = text_takes (44 ∷ []) bytes behind comma in
    let more : behind ≡ decimal n ++ after = (number_takes most behind n after wide number).text in
    let len : length behind ≡ length (decimal n) + length after = ap length more ∙ length-append (decimal n) after in
    let whole : length bytes ≡ suc (length behind) = ap length text in
    omega arith

pub clock-next : (fuel : ℕ) (front bytes behind after : List ℕ) (n : ℕ) → length bytes ≤ fuel → text_at (44 ∷ []) bytes ≡ Some behind → number_at (2 ^ 32 - 1) behind ≡ Some (n, after)
    → (k : ℕ) × (length after ≤ k) × (clock_from fuel front bytes ≡ clock_from k (front ++ n ∷ []) after)
unfolding clock_from
clock-next zero front bytes behind after n le comma number = absurd (omega (arith, shorter bytes behind after (2 ^ 32 - 1) n (omega arith) comma number))
clock-next (suc k) front bytes behind after n le comma number =
    (k, omega (arith, shorter bytes behind after (2 ^ 32 - 1) n (omega arith) comma number), rw (comma, number) refl)
