-- Blanks, of which a counter is opened.
use Rattle.std.specs.Prelude.{◌≡◌, ℕ, ◌<◌}
use Rattle.std.specs.declared.sync.ledger.Blank.{Blank}

-- the blank of the ledger with this name and as many parts, of which there are some
abbrev pub IsBlankOf : ℕ → ℕ → Blank → Type 0
IsBlankOf name parts blank = (blank.name ≡ name) × ((blank.parts ≡ parts) × (0 < blank.parts))
