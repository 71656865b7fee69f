-- How a number is read digit by digit.
use Rattle.std.proofs.Common.{◌≡◌, ℕ, ◌+◌, ◌-◌, ◌*◌, ◌<◌, ◌≤◌, true, false, None, List, length, drop, slice_index, refl}
use Rattle.std.proofs.lemmas.Bool.{le-leb, lt-leb}
use Rattle.std.proofs.lemmas.List.{drop_more, drop_all}
use Rattle.pota_base.specs.Number.{is_digit, digits_from, digits_end, is_leading_zero}

pub digits-stop : (most value n : ℕ) (xs : List ℕ) (i : ℕ) → i < length xs → is_digit (slice_index xs i) ≡ false
    → digits_from most value n (drop i xs) ≡ digits_end value n (drop i xs)
unfolding digits_from
digits-stop most value n xs i lt d = rw (drop_more xs i 0 lt, d) refl

pub digits-zero : (most value n : ℕ) (xs : List ℕ) (i : ℕ) → i < length xs → is_digit (slice_index xs i) ≡ true → is_leading_zero value n ≡ true
    → digits_from most value n (drop i xs) ≡ None
unfolding digits_from
digits-zero most value n xs i lt d z = rw (drop_more xs i 0 lt, d, z) refl

pub digits-over : (most value n : ℕ) (xs : List ℕ) (i : ℕ) → i < length xs → is_digit (slice_index xs i) ≡ true → is_leading_zero value n ≡ false
    → most < value * 10 + (slice_index xs i - 48)
    → digits_from most value n (drop i xs) ≡ None
unfolding digits_from
digits-over most value n xs i lt d z o = rw (drop_more xs i 0 lt, d, z, lt-leb _ _ o) refl

pub digits-next : (most value n : ℕ) (xs : List ℕ) (i : ℕ) → i < length xs → is_digit (slice_index xs i) ≡ true → is_leading_zero value n ≡ false
    → value * 10 + (slice_index xs i - 48) ≤ most
    → digits_from most value n (drop i xs) ≡ digits_from most (value * 10 + (slice_index xs i - 48)) (n + 1) (drop (i + 1) xs)
unfolding digits_from
digits-next most value n xs i lt d z o = rw (drop_more xs i 0 lt, d, z, le-leb _ _ o) refl

pub digits-all : (most value n : ℕ) (xs : List ℕ) (i : ℕ) → length xs ≤ i → digits_from most value n (drop i xs) ≡ digits_end value n (drop i xs)
unfolding digits_from
digits-all most value n xs i le = rw drop_all refl
