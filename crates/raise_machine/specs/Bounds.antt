-- Words of rows that lie between the starts and the least closed vectors.
use Rattle.std.specs.Prelude.{◌≡◌, ℕ, ◌+◌, ◌*◌, ◌<◌, ◌≤◌, List, [], ◌∷◌, Bool, true, ◌&&◌, nat_le}
use Rattle.std.specs.Prelude.{length, sum, max, slice_index, slice_set}
use Rattle.pull_system.specs.Vector.{IsAtMost}
use Rattle.pull_system.specs.System.{SystemView, IsClosedFrom}
use Rattle.pull_system.specs.Rows.{start_of, starts, place_of}

-- The number is within each closed vector of the row that has a word at this place. As the least
-- closed vector of the row is one of them, that is: it is within the least.
pub record IsBound (system : SystemView) (place number : ℕ) : Type 0 where
  pub each : (row process : ℕ) → process < length system.lens
      → place ≡ place_of system.lens row process
      → (c : List ℕ) → IsClosedFrom system (start_of system.lens row) c
      → number ≤ slice_index c process

-- each word is between its row's start and its row's least closed vector
pub record AreBounds (system : SystemView) (words : List ℕ) : Type 0 where
  pub size : length words ≡ (sum system.lens + 1) * length system.lens
  pub above : IsAtMost (starts system.lens) words
  pub below : (place : ℕ) → IsBound system place (slice_index words place)

abbrev pub word_at : List ℕ → List ℕ → ℕ → ℕ → ℕ
word_at lens words row process = slice_index words (place_of lens row process)

-- the words with one of them made its maximum with the number
abbrev pub raised : List ℕ → ℕ → ℕ → List ℕ
raised words place number = slice_set words place (max (slice_index words place) number)

-- each number is at most the word as many places after this one
abbrev pub are_covered : List ℕ → List ℕ → ℕ → Bool
are_covered [] words place = true
are_covered (x ∷ xs) words place =
    nat_le x (slice_index words place) && are_covered xs words (place + 1)

-- The words of a row are at or above the start of another: that one is the bottom's row, or the
-- word at the process of its event has that event.
abbrev pub has_start : List ℕ → List ℕ → ℕ → ℕ → Bool
has_start lens words row other = are_covered (start_of lens other) words (place_of lens row 0)
