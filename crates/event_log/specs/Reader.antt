-- What callers know of a reader: the bytes that it has read.
use Rattle.std.specs.Prelude.{◌≡◌, ℕ, true, false, List, None}
use Rattle.event_log.specs.declared.item.Fed.{Fed}
use Rattle.event_log.specs.declared.reader.Reader.{Reader}
use Rattle.event_log.specs.LogEnd.{log_upto, behind_log}
use Rattle.event_log.specs.Faults.{first_fault, FedIs}
use Rattle.event_log.specs.Feeding.{Past, HasFed}

-- the reader met want of memory
abbrev pub IsSpent : Reader → Type 0
IsSpent r = r.spent ≡ true

-- the reader has read these bytes, the newest first
pub record HasRead (r : Reader) (past : Past) : Type 0 where
  pub not_spent : r.spent ≡ false
  pub fault_is : r.fault ≡ first_fault past
  pub feeds : r.fault ≡ None → HasFed r.feeder past

-- The reader has read the bytes of the piece that are of the log. Without a fault the rest is what
-- stands behind the log.
pub record ReadsLog (new : Reader) (piece : List ℕ) (fed : Fed) (rest : List ℕ) (past : Past)
    : Type 0 where
  pub fed_is : FedIs fed past (log_upto past piece)
  pub reads : HasRead new (log_upto past piece)
  pub rest_is : fed.fault ≡ None → rest ≡ behind_log past piece
