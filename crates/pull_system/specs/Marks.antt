-- Marks, as lists of truth values.
use Rattle.std.specs.Prelude.{ℕ, Bool, List, if◌then◌else◌}
use Rattle.std.specs.List.{sum_by}

-- how many marks are set
abbrev pub marked : List Bool → ℕ
marked risen = sum_by (λ is_set. if is_set then 1 else 0) risen
