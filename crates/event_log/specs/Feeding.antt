-- What the reader of a log in pieces keeps of the bytes that it has read, their past.
use Rattle.std.specs.Prelude.{◌≡◌, ℕ, List, length, None}
use Rattle.event_log.specs.declared.feeder.Feeder.{Feeder}
use Rattle.event_log.specs.Lines.{HasReadLines}
use Rattle.event_log.specs.Moments.{line_now, lines}
use Rattle.event_log.specs.Faults.{first_fault, items}

abbrev pub Past : Type 0
Past = List ℕ

-- no fault so far, and the whole lines were read
pub record CountsLines (f : Feeder) (past : Past) : Type 0 where
  pub fault_is : first_fault past ≡ None
  pub total_is : f.total ≡ length past
  pub knows : HasReadLines f.reader (lines past)

-- and the bytes since the last line feed are kept
pub record HasFed (f : Feeder) (past : Past) : Type 0 where
  pub counts : CountsLines f past
  pub line_is : f.line.items ≡ line_now past
