-- How the readers of Reading follow a loop over the bytes.
use Rattle.std.proofs.Common.{◌≡◌, ℕ, zero, suc, ◌+◌, ◌-◌, ◌^◌, ◌<◌, ◌≤◌, true, false, Option, Some, None, List, [], ◌∷◌, ◌++◌, length, drop, slice_index, refl, ap, arith}
use Rattle.std.proofs.lemmas.List.{drop_more, drop_all}
use Rattle.log_lines.specs.Names.{Name}
use Rattle.std.specs.Prelude.{◌==◌, map}
use Rattle.log_lines.specs.declared.draft.LineError.{LineError}
use Rattle.log_lines.specs.declared.draft.LineError.TheVariants as error
use Rattle.log_lines.specs.declared.draft.Setting.{Setting}
use Rattle.log_lines.specs.Spelling.{names_of}
use Rattle.log_lines.specs.Drafts.{Fails, values_of}
use Rattle.log_lines.specs.Reading.{front, text_at, items_from, clock_from, number_at}

-- ---- names

-- ---- words

pub text-more : (text xs : List ℕ) (i : ℕ) → i < length text → i < length xs → (slice_index xs i == slice_index text i) ≡ true → text_at (drop i text) (drop i xs) ≡ text_at (drop (i + 1) text) (drop (i + 1) xs)
unfolding text_at
text-more text xs i lt within h = rw (drop_more xs i 0 within, drop_more text i 0 lt, h) refl

pub text-other : (text xs : List ℕ) (i : ℕ) → i < length text → i < length xs → (slice_index xs i == slice_index text i) ≡ false → text_at (drop i text) (drop i xs) ≡ None
unfolding text_at
text-other text xs i lt within h = rw (drop_more xs i 0 within, drop_more text i 0 lt, h) refl

pub text-short : (text xs : List ℕ) (i : ℕ) → i < length text → length xs ≤ i → text_at (drop i text) (drop i xs) ≡ None
unfolding text_at
text-short text xs i lt le = rw (drop_all i xs le, drop_more text i 0 lt) refl

pub text-done : (text xs : List ℕ) (i : ℕ) → length text ≤ i → text_at (drop i text) (drop i xs) ≡ Some (drop i xs)
unfolding text_at
text-done text xs i le = rw (drop_all i text le) refl

-- ---- items to the end of the line

module _ {A : Type 0} (item_at : List ℕ → Option (A × List ℕ)) where
  pub items-end : (most : ℕ) (front : List A) (bytes : List ℕ) → length bytes ≡ 0 → items_from item_at most front bytes ≡ Some front
  unfolding items_from
  items-end zero front bytes h = rw h refl
  items-end (suc k) front bytes h = rw h refl

  pub items-next : (most i : ℕ) (front : List A) (bytes : List ℕ) (x : A) (after : List ℕ) → i < most → (length bytes == 0) ≡ false → item_at bytes ≡ Some (x, after)
      → items_from item_at (most - i) front bytes ≡ items_from item_at (most - (i + 1)) (front ++ x ∷ []) after
  unfolding items_from
  items-next most i front bytes x after lt some h =
      let k : most - i ≡ suc (most - (i + 1)) = omega arith in
      rw (k, some, h) refl

  pub items-bad : (most i : ℕ) (front : List A) (bytes : List ℕ) → i < most → (length bytes == 0) ≡ false → item_at bytes ≡ None → items_from item_at (most - i) front bytes ≡ None
  unfolding items_from
  items-bad most i front bytes lt some h =
      let k : most - i ≡ suc (most - (i + 1)) = omega arith in
      rw (k, some, h) refl

  pub items-full : (most i : ℕ) (front : List A) (bytes : List ℕ) → most ≤ i → (length bytes == 0) ≡ false → items_from item_at (most - i) front bytes ≡ None
  unfolding items_from
  items-full most i front bytes le some =
      let k : most - i ≡ 0 = omega arith in
      rw (k, some) refl

-- ---- clocks

pub clock-end : (fuel : ℕ) (front bytes : List ℕ) → text_at (44 ∷ []) bytes ≡ None → clock_from fuel front bytes ≡ Some (front, bytes)
unfolding clock_from
clock-end zero front bytes h = refl
clock-end (suc k) front bytes h = rw h refl

pub clock-bad : (fuel : ℕ) (front bytes behind : List ℕ) → length bytes ≤ fuel → text_at (44 ∷ []) bytes ≡ Some behind → number_at (2 ^ 32 - 1) behind ≡ None → clock_from fuel front bytes ≡ None
unfolding clock_from text_at
clock-bad zero front [] behind le h n = absurd cc
clock-bad zero front (b ∷ bs) behind le h n = absurd (omega arith)
clock-bad (suc k) front bytes behind le h n = rw (h, n) refl

-- a refused line is one that does not read, unless memory ran out
pub fails_none : {Y : Type 0} (e : LineError) (read : Option Y) → read ≡ None → Fails e read
fails_none error.NoMemory read h = tt
fails_none error.Malformed read h = h

-- the names of the values are those of their variables
pub names_of-values_of : (settings : List Setting) → map (λ (s : Setting). s.name.now) settings ≡ names_of (values_of settings)
names_of-values_of [] = refl
names_of-values_of (s ∷ rest) = ap (λ (names : List Name). s.name.now ∷ names) (names_of-values_of rest)

pub ruleset value_names = (names_of-values_of)
