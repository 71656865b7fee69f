-- What a step that puts numbers for names answers.
use Rattle.std.specs.Prelude.{◌≡◌, Result, Ok, Err}
use Rattle.pota_base.specs.declared.fault.Refused.{Refused}
use Rattle.pota_base.specs.declared.fault.Refused.TheVariants as refused
use Rattle.event_log.specs.declared.item.LogCode.{LogCode}

-- what a function that may run out of memory returned is this
abbrev pub Agrees : {A : Type 0} → Result A (Refused LogCode) → Result A LogCode → Type 0
Agrees (Ok x) judged = judged ≡ Ok x
Agrees (Err (refused.Fault c)) judged = judged ≡ Err c
Agrees (Err refused.NoMemory) judged = Unit {0}
