-- Inside: what bytes are gathered to where the input ends with them.
use Rattle.std.specs.Prelude.{◌≡◌, ℕ, true, List, Some}
use Rattle.log_sources.specs.declared.gathering.Gathered.{Gathered}
use Rattle.log_sources.specs.declared.gathering.Gathered.TheVariants.{Logs, Fault, Failed}
use Rattle.log_sources.specs.Gathering.{AreGathered, sources_fault}

-- what these bytes are where the input has ended with them
abbrev pub IsGathered : List ℕ → Gathered → Type 0
IsGathered bytes (Logs logs) = AreGathered bytes logs
IsGathered bytes (Fault f) = sources_fault true bytes ≡ Some f
IsGathered bytes Failed = ⊥
