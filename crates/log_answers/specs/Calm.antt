-- What a verdict or a stop says of the source that was read.
use Rattle.std.specs.Prelude.{◌≡◌, ◌≢◌, ℕ, Result, Ok, Err}
use Rattle.log_answers.specs.declared.stop.StopCause.TheVariants as causes
use Rattle.log_answers.specs.declared.stop.Stop.{Stop}

-- unless a failed read is why there is no verdict, the count of faults is as it was
abbrev pub IsCalmUnlessRead : {T : Type 0} → (lf lf' : ℕ) → Result T Stop → Type 0
IsCalmUnlessRead lf lf' (Ok x) = lf' ≡ lf
IsCalmUnlessRead lf lf' (Err stop) = stop.cause ≢ causes.Read → lf' ≡ lf
