-- What an outcome says of the source's count of faults.
use Rattle.std.specs.Prelude.{◌≡◌, ℕ, Option, Some, None}
use Rattle.one_log.specs.declared.fault.Fault.{Fault}
use Rattle.one_log.specs.declared.fault.Fault.TheVariants as fault

-- The count is as it was: no read failed. A failed read may stand behind a fault of the input's
-- bytes, and behind a want of memory where these are judged.
abbrev pub IsCalm : (lf lf' : ℕ) → Option Fault → Type 0
IsCalm lf lf' None = lf' ≡ lf
IsCalm lf lf' (Some fault.Usage) = lf' ≡ lf
IsCalm lf lf' (Some (fault.Refused r)) = Unit {0}
IsCalm lf lf' (Some (fault.Unknown place)) = lf' ≡ lf
IsCalm lf lf' (Some fault.TooLong) = lf' ≡ lf
IsCalm lf lf' (Some fault.Read) = Unit {0}
IsCalm lf lf' (Some fault.Write) = lf' ≡ lf
IsCalm lf lf' (Some fault.Memory) = Unit {0}
