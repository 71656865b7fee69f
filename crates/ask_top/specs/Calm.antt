-- What an answer says of the source's count of faults.
use Rattle.std.specs.Prelude.{◌≡◌, ℕ}
use Rattle.ask_top.specs.declared.answer.Answer.{Answer}
use Rattle.ask_top.specs.declared.answer.Answer.TheVariants as answer
use Rattle.ask_faults.specs.declared.fault.Fault.TheVariants as fault

-- The count is as it was: no read failed. A failed read may stand behind a fault of the log's
-- bytes, and behind a want of memory where these are judged.
abbrev pub IsCalm : (lf lf' : ℕ) → Answer → Type 0
IsCalm lf lf' answer.Holds = lf' ≡ lf
IsCalm lf lf' answer.Fails = lf' ≡ lf
IsCalm lf lf' (answer.Without fault.Usage) = lf' ≡ lf
IsCalm lf lf' (answer.Without (fault.Question f)) = lf' ≡ lf
IsCalm lf lf' (answer.Without (fault.Unknown u)) = lf' ≡ lf
IsCalm lf lf' (answer.Without (fault.Over f)) = lf' ≡ lf
IsCalm lf lf' (answer.Without (fault.Refused r line)) = Unit {0}
IsCalm lf lf' (answer.Without fault.Read) = Unit {0}
IsCalm lf lf' (answer.Without fault.Write) = lf' ≡ lf
IsCalm lf lf' (answer.Without fault.Memory) = Unit {0}
