-- Texts of one line.
use Rattle.std.specs.Prelude.{◌≡◌, ℕ, ◌==◌, false, List}
use Rattle.std.specs.List.{AllByRecursion}

-- no byte is a line feed
abbrev pub IsOneLine : List ℕ → Type 0
IsOneLine bytes = AllByRecursion (λ b. b == 10 ≡ false) bytes
