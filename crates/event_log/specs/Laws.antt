-- What the first fault and the items have to do with the grammar.
use Rattle.std.specs.Prelude.{◌≡◌, ℕ, ◌≤◌, List, [], length, None}
use Rattle.pota_base.specs.Limits.{longest_log}
use Rattle.event_log.specs.declared.log.Log.{Log}
use Rattle.event_log.specs.LogText.{onto, log_text, log_items, LogFits, HasVarLines}
use Rattle.event_log.specs.Faults.{items_in, end_fault}

-- a log that has a text of at most 64 MiB
pub record IsLog (log : Log) : Type 0 where
  pub fits : LogFits log
  pub small : length (log_text log) ≤ longest_log

-- the bytes have no fault where the input ends behind them
abbrev pub IsWellFormed : List ℕ → Type 0
IsWellFormed bytes = end_fault (onto bytes []) ≡ None

-- the bytes are the text of the log, and give its items
pub record IsTextOf (bytes : List ℕ) (log : Log) : Type 0 where
  pub log_is : IsLog log
  pub lines_are : HasVarLines log.header
  pub text_is : bytes ≡ log_text log
  pub items_are : items_in bytes ≡ log_items log
