-- Of which answer is told.
use Rattle.std.specs.Prelude.{◌≡◌}
use Rattle.ask_faults.specs.Telling.{IsToldAs}
use Rattle.ask_faults.specs.declared.fault.Fault.{Fault}
use Rattle.ask_top.specs.declared.answer.Answer.{Answer}
use Rattle.ask_top.specs.declared.answer.Answer.TheVariants as answer

-- of which answer is told
abbrev pub IsAnswerTold : Answer → Answer → Type 0
IsAnswerTold answer.Holds told = told ≡ answer.Holds
IsAnswerTold answer.Fails told = told ≡ answer.Fails
IsAnswerTold (answer.Without f) told =
    (g : Fault) × (told ≡ answer.Without g) × IsToldAs f g
