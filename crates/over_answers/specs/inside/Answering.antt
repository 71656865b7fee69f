-- Refusals of one question.
use Rattle.std.specs.Prelude.{ℕ, ◌+◌}
use Rattle.pota_base.specs.declared.fault.Refused.{Refused}
use Rattle.pota_base.specs.declared.fault.Refused.TheVariants as refused
use Rattle.instance_outcomes.specs.declared.over.OverStop.{OverStop}
use Rattle.over_answers.specs.declared.answering.NumberedStop.{NumberedStop}

-- a refusal is such; nothing is said where memory runs out
abbrev pub RefusesOne : Refused OverStop → (OverStop → Type 0) → Type 0
RefusesOne (refused.Fault f) Is = Is f
RefusesOne refused.NoMemory Is = Unit {0}

-- the question at this index, from 0, has no answer
abbrev pub numbered_stop : ℕ → Refused OverStop → Refused NumberedStop
numbered_stop index (refused.Fault stop) =
    refused.Fault (record { question = index + 1; stop = stop })
numbered_stop index refused.NoMemory = refused.NoMemory
