-- How far bytes go that pass a test.
use Rattle.std.specs.Prelude.{ℕ, ◌+◌, Bool, List, [], ◌∷◌, if◌then◌else◌}

-- how many bytes at the front pass the test
abbrev pub run_of : (ℕ → Bool) → List ℕ → ℕ
run_of passes [] = 0
run_of passes (b ∷ bs) = if passes b then run_of passes bs + 1 else 0
