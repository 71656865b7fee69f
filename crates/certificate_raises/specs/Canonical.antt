-- The one way to begin and raise rows in which each step follows from the rows as they stand.
use Rattle.std.specs.Prelude.{◌≡◌, ℕ, zero, suc, ◌+◌, ◌-◌, ◌*◌, ◌<◌, ◌==◌, Bool, true, false, List}
use Rattle.std.specs.Prelude.{[], ◌∷◌, length, sum, Option, None, Some, nat_le, if◌then◌else◌}
use Rattle.std.specs.Prelude.{slice_index_or}
use Rattle.pull_system.specs.System.{HoldsPull, source_of, target_of, ask}
use Rattle.pull_fans.specs.Sources.{numbers_from}
use Rattle.raise_machine.specs.Bounds.{word_at}
use Rattle.certificate_table.specs.Begun.{BegunView, present, present_row}
use Rattle.certificate_raises.specs.declared.raise.Raise.{Raise}

-- ---- raises

-- pull k is the first that fails at the present row, and x is the row's number at its source
pub record IsFirstFailing (v : BegunView) (k x : ℕ) : Type 0 where
  pub pull : k < length v.system.pulls
  pub value : x ≡ word_at v.system.lens v.words (present v) (source_of v.system k)
  pub fails : word_at v.system.lens v.words (present v) (target_of v.system k) < ask v.system k x
  pub least : (j : ℕ) → j < k → HoldsPull v.system (present_row v) j

-- ---- rows

-- whether the row is that of the first event of its process
abbrev pub is_first : List ℕ → ℕ → Bool
is_first [] row = false
is_first (len ∷ lens) row = if nat_le row len then row == 1 else is_first lens (row - len)

-- the row that this one begins behind: none for the bottom's, the bottom's for a process's first
-- event, and else that of the event before it
abbrev pub after_of : List ℕ → ℕ → Option ℕ
after_of lens zero = None
after_of lens (suc row) = Some (if is_first lens (suc row) then 0 else row)

-- ---- what is looked at

-- the pulls that may fail at the present row: each of the others holds there
pub record AreDoubts (v : BegunView) (doubts : List Bool) : Type 0 where
  pub count : length doubts ≡ length v.system.pulls
  pub each : (k : ℕ) → k < length v.system.pulls → slice_index_or doubts k true ≡ false
      → HoldsPull v.system (present_row v) k

-- how many pulls there are from the target of pull k
abbrev pub from_target : BegunView → ℕ → ℕ
from_target v k =
    length (numbers_from v.system.pulls (target_of v.system k) (length v.system.pulls))

-- what is looked up beside the doubts: nothing where no pull fails, and else the pulls that the
-- raise brings into doubt
abbrev pub looks_beside : BegunView → Option Raise → ℕ
looks_beside v None = 0
looks_beside v (Some raise) = from_target v raise.pull

-- ---- how many steps are left

-- no row sums to more
abbrev pub most_of : List ℕ → ℕ
most_of lens = sum lens + length lens

-- at most so many: for each row that isn't begun its begin and all that a row can rise, and what
-- the present row can still rise
abbrev pub left_of : BegunView → ℕ
left_of v = (sum v.system.lens + 1 - v.begun) * (most_of v.system.lens + 1)
    + (most_of v.system.lens - sum (present_row v))
