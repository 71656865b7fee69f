-- What the laws of this crate say.
use Rattle.std.specs.Prelude.{◌≡◌, ℕ, ◌<◌, ◌≤◌, List, length, sum, slice_index}
use Rattle.pull_system.specs.System.{SystemView, IsSystem, IsClosed}
use Rattle.raise_machine.specs.declared.step.Step.{Step}
use Rattle.raise_machine.specs.Bounds.{AreBounds, word_at}
use Rattle.raise_machine.specs.Machine.{words_at, IsSeen}

-- a row that was seen closed has the same words from then on
abbrev pub ClosedRowsStay : Type 0
ClosedRowsStay = (system : SystemView) (words : List ℕ) (steps : List Step) (row : ℕ)
    (moments : ℕ → ℕ) (v : List ℕ) → row ≤ sum system.lens → IsSystem system
    → AreBounds system words → IsSeen system words steps row moments v → IsClosed system v
    → (n : ℕ) → ((process : ℕ) → process < length system.lens → moments process ≤ n)
    → (process : ℕ) → process < length system.lens
    → word_at system.lens (words_at system words steps n) row process ≡ slice_index v process
