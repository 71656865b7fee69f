-- The words that are drawn: the generator PCG XSH RR of 64 bits of state (O'Neill), on its stream
-- 54.
use Rattle.std.specs.Prelude.{ℕ, ◌+◌, ◌*◌, ◌/◌, ◌%◌, ◌^◌, bit_xor}
use Rattle.std.specs.Int.{w32, rotate_right}

abbrev pub multiplier : ℕ
multiplier = 6364136223846793005

-- the state that a seed begins with
abbrev pub first_state : ℕ → ℕ
first_state seed = ((seed + 109) * multiplier + 109) % 2 ^ 64

-- the state after this one
abbrev pub next_state : ℕ → ℕ
next_state s = (s * multiplier + 109) % 2 ^ 64

abbrev pub mixed : ℕ → ℕ
mixed s = bit_xor (s / 2 ^ 18) s / 2 ^ 27 % 2 ^ 32

-- the word that is drawn at a state
abbrev pub word : ℕ → ℕ
word s = rotate_right w32 (mixed s) (s / 2 ^ 59)
