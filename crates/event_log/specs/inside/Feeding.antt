-- What the steps of the reader of a log in pieces give.
use Rattle.std.specs.Prelude.{◌≡◌, ℕ, ◌+◌, List, ◌∷◌, ◌++◌, length, Option, None}
use Rattle.event_log.specs.declared.item.LogCode.{LogCode}
use Rattle.event_log.specs.declared.item.LogFault.{LogFault}
use Rattle.event_log.specs.declared.item.Item.{Item}
use Rattle.event_log.specs.declared.item.Fed.{Fed}
use Rattle.event_log.specs.declared.feeder.Feeder.{Feeder}
use Rattle.event_log.specs.LogText.{onto}
use Rattle.event_log.specs.Moments.{line_now}
use Rattle.event_log.specs.LogEnd.{log_upto, behind_log}
use Rattle.event_log.specs.Faults.{first_fault, items, FedIs}
use Rattle.event_log.specs.Feeding.{Past, CountsLines, HasFed}

-- these bytes more of the unfinished line
pub record Gains (old new : Feeder) (bytes : Past) : Type 0 where
  pub total_is : new.total ≡ old.total + length bytes
  pub reader_is : new.reader ≡ old.reader
  pub line_is : new.line.items ≡ old.line.items ++ bytes

abbrev pub placed_at : ℕ → LogCode → LogFault
placed_at line fault = record { code = fault; line = line }

-- what bytes without a line feed gave
pub record PlainTaken (bytes past : Past) (fault : Option LogFault) (new : Feeder) : Type 0 where
  pub fault_is : fault ≡ first_fault (onto bytes past)
  pub items_are : items (onto bytes past) ≡ items past
  pub feeds : fault ≡ None → HasFed new (onto bytes past)

abbrev pub TakesPlain : Feeder → Past → Option LogFault → Feeder → Type 0
TakesPlain old bytes fault new = (past : Past) → HasFed old past → PlainTaken bytes past fault new

-- what a line and its line feed gave, which stands behind the items before
pub record LineGives (before : List Item) (fault : Option LogFault) (after : List Item)
    (past now : Past) : Type 0 where
  pub items_are : (front : List Item) → items past ≡ front ++ before → items now ≡ front ++ after
  pub fault_is : fault ≡ first_fault now

abbrev pub ClosesLine : Feeder → Past → List Item → Option LogFault → List Item → Feeder → Type 0
ClosesLine old line before fault after new =
    (past : Past) → CountsLines old past → line ≡ line_now past
    → LineGives before fault after past (10 ∷ past)
    × (fault ≡ None → CountsLines new (10 ∷ past))

abbrev pub TakesFedLine : Feeder → Past → List Item → Option LogFault → List Item → Feeder → Type 0
TakesFedLine old line before fault after new =
    (past : Past) → HasFed old past
    → LineGives before fault after past (10 ∷ onto line past)
    × (fault ≡ None → HasFed new (10 ∷ onto line past))

-- what those bytes of a piece gave that are of the log
pub record LogTaken (piece past : Past) (fed : Fed) (rest : Past) (new : Feeder) : Type 0 where
  pub fed_is : FedIs fed past (log_upto past piece)
  pub feeds : fed.fault ≡ None → HasFed new (log_upto past piece)
  pub rest_is : fed.fault ≡ None → rest ≡ behind_log past piece

abbrev pub TakesLog : Feeder → Past → Fed → Past → Feeder → Type 0
TakesLog old piece fed rest new =
    (past : Past) → HasFed old past → LogTaken piece past fed rest new

-- the fault that all these bytes have, of which only those of the log were read
abbrev pub JudgesRest : Feeder → Past → Option LogFault → Type 0
JudgesRest f rest fault =
    (past bytes : Past) → HasFed f (log_upto past bytes) → rest ≡ behind_log past bytes
    → fault ≡ first_fault (onto bytes past)
