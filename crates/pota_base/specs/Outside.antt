-- What reading from a source and writing to a sink tell.
use Rattle.std.specs.Prelude.{◌≡◌, ℕ, ◌+◌, ◌-◌, ◌^◌, ◌<◌, ◌≤◌, min, List, ◌++◌, length, take}
use Rattle.std.specs.Prelude.{Option, Result, OnErr, MatchResult}
use Rattle.std.specs.Io.KnownBytes.{Appends, Keeps}

-- a count of faults of 64 bits rose, or stands at its last value, from which it can't rise
abbrev pub Rose : ℕ → ℕ → Type 0
Rose before now = min (before + 1) (2 ^ 64 - 1) ≤ now

-- the count didn't fall, and a failure has its cause in a rise
pub record HasCause {T E : Type 0} (before now : ℕ) (result : Result T E) : Type 0 where
  pub later : before ≤ now
  pub failed : OnErr result (Rose before now)

-- At `Ok(n)` the sink has taken the first n bytes of the piece, and took none of some only where
-- its count rose; at `Err` it has taken nothing.
abbrev pub WriteHolds : {E : Type 0} → Option (List ℕ) → Option (List ℕ) → ℕ → ℕ → Result ℕ E
    → List ℕ → Type 0
WriteHolds held held' before now result piece = MatchResult result
    (λ n. (n ≤ length piece) × Appends held held' (take n piece)
    × (n ≡ 0 → 0 < length piece → Rose before now))
    (λ _. Keeps held held')

-- the first list is the front of the second
abbrev pub IsPrefix : List ℕ → List ℕ → Type 0
IsPrefix front all = (rest : List ℕ) × (all ≡ front ++ rest)

-- known bytes grow by some front of the text
abbrev pub AppendsPrefix : Option (List ℕ) → Option (List ℕ) → List ℕ → Type 0
AppendsPrefix old new text = (front : List ℕ) × IsPrefix front text × Appends old new front
