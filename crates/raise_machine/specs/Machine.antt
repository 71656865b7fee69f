-- The raise machine: one word per row and process, and steps that raise one word (after Chase and
-- Garg's advancing of forbidden processes, in any order, with lending between rows added).
use Rattle.std.specs.Prelude.{slice_index, ◌<◌, ◌≡◌, ℕ, zero, suc, ◌+◌, List, [], ◌∷◌, Bool, ◌&&◌}
use Rattle.std.specs.Prelude.{nat_le, nat_lt, length, sum, if◌then◌else◌}
use Rattle.pull_system.specs.System.{SystemView, source_of, target_of, ask}
use Rattle.pull_system.specs.Rows.{place_of}
use Rattle.raise_machine.specs.declared.step.Step.{Step}
use Rattle.raise_machine.specs.declared.step.Step.TheVariants.{Look, Pull, Lend}
use Rattle.raise_machine.specs.Bounds.{word_at, raised, has_start}

-- the system of the machine, and its words row by row
pub record MachineView : Type 0 where
  pub system : SystemView
  pub words : List ℕ

abbrev pub is_word : List ℕ → ℕ → ℕ → Bool
is_word lens row process = nat_le row (sum lens) && nat_lt process (length lens)

-- the numbers of the step are in range, and its condition holds
abbrev pub is_allowed : SystemView → List ℕ → Step → Bool
is_allowed system words (Look row process) = is_word system.lens row process
is_allowed system words (Pull row k x) =
    nat_le row (sum system.lens) && nat_lt k (length system.pulls)
    && nat_le x (word_at system.lens words row (source_of system k))
is_allowed system words (Lend to_row from_row process y) =
    is_word system.lens to_row process && nat_le from_row (sum system.lens)
    && nat_le y (word_at system.lens words from_row process)
    && has_start system.lens words to_row from_row

-- what an allowed step makes of the words
abbrev pub words_after : SystemView → List ℕ → Step → List ℕ
words_after system words (Look row process) = words
words_after system words (Pull row k x) =
    raised words (place_of system.lens row (target_of system k)) (ask system k x)
words_after system words (Lend to_row from_row process y) =
    raised words (place_of system.lens to_row process) y

-- a step that is not allowed changes nothing
abbrev pub happens : SystemView → List ℕ → Step → List ℕ
happens system words step =
    if is_allowed system words step then words_after system words step else words

-- the words after the first n of the steps, or after all of them where there are fewer
abbrev pub words_at : SystemView → List ℕ → List Step → ℕ → List ℕ
words_at system words steps zero = words
words_at system words [] (suc n) = words
words_at system words (step ∷ steps) (suc n) = words_at system (happens system words step) steps n

-- how many of the steps are allowed, each when its turn comes
abbrev pub allowed_count : SystemView → List ℕ → List Step → ℕ
allowed_count system words [] = 0
allowed_count system words (step ∷ steps) =
    (if is_allowed system words step then 1 else 0) + allowed_count system
    (happens system words step) steps

-- the words of the row, each read after as many steps as its process has in `moments`
pub record IsSeen (system : SystemView) (words : List ℕ) (steps : List Step) (row : ℕ)
    (moments : ℕ → ℕ) (v : List ℕ) : Type 0 where
  pub size : length v ≡ length system.lens
  pub each : (process : ℕ) → process < length system.lens
      → slice_index v process ≡ word_at system.lens (words_at system words steps (moments process))
      row process
