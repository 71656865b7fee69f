-- What was expected where a log has a fault, and an example: a line that is in order there, or what
-- helps. The lines are those of a log of `client`, `relay` and `store`.
use Rattle.std.specs.Prelude.{ℕ, List, codes}
use Rattle.event_log.specs.declared.item.LogCode.{LogCode}
use Rattle.event_log.specs.declared.item.LogCode.TheVariants as log
use Rattle.fault_kinds.specs.declared.import.ImportCode.{ImportCode}
use Rattle.fault_kinds.specs.declared.import.ImportCode.TheVariants as importing
use Rattle.fault_kinds.specs.declared.merge.MergeCode.{MergeCode}
use Rattle.fault_kinds.specs.declared.merge.MergeCode.TheVariants as merging

-- ---- a log

-- what is expected
abbrev pub log_expected : LogCode → List ℕ
log_expected log.BadHeader = codes "`pota-log 1` or `pota-log 2` as the first bytes"
log_expected log.BadProcs = codes "`procs` and 1 to 32 different names, one space between them"
log_expected log.BadLine =
    codes "`vars`, `ev`, `batch` or `end` at its place, single spaces, whole numbers"
log_expected log.UnknownProcess = codes "a name from line 2"
log_expected log.UnknownVariable = codes "a variable of the process's own `vars` line"
log_expected log.ClockWidth = codes "one number for each process"
log_expected log.ClockOwn = codes "1 for the process's first event, then 2, 3, .."
log_expected log.ClockBack = codes "numbers that never fall along a process"
log_expected log.ClockDangling = codes "numbers of events that the log has by the end of this batch"
log_expected log.ClockOpen = codes "at each receipt the greater of both numbers, for every process"
log_expected log.ClockLoop = codes "the clock as it was at the event, and not later"
log_expected log.MessageTwice =
    codes "one send and at most one receipt for each sender, receiver and number"
log_expected log.ReceiveUnsent = codes "the send in the same batch or an earlier one"
log_expected log.ReceiveEarly =
    codes "the clock that came with the message, merged before the receipt is logged"
log_expected log.SelfMessage = codes "another process as partner, or an `int` event"
log_expected log.Truncated = codes "`end` and a newline behind the last event"
log_expected log.Trailing = codes "nothing behind the `end` line"
log_expected log.TooManyEvents = codes "at most 50,000 events"
log_expected log.LineTooLong = codes "at most 4,096 bytes, and a newline after each event"
log_expected log.LogTooLong = codes "at most 67,108,864 bytes"
log_expected log.CounterFalls = codes "a variable that never falls, in each difference of a formula"

-- an example
abbrev pub log_example : LogCode → List ℕ
log_example log.BadHeader = codes "pota-log 1"
log_example log.BadProcs = codes "procs client relay store"
log_example log.BadLine = codes "ev client 2,0,0 int sent=2"
log_example log.UnknownProcess = codes "ev client 2,0,0 int"
log_example log.UnknownVariable = codes "ev client 1,0,0 send relay 7 sent=1"
log_example log.ClockWidth = codes "ev client 1,0,0 send relay 7"
log_example log.ClockOwn = codes "ev client 2,0,0 int"
log_example log.ClockBack = codes "ev store 1,2,2 int kept=0"
log_example log.ClockDangling = codes "ev client 1,0,0 send relay 7"
log_example log.ClockOpen = codes "ev store 1,2,1 recv relay 8 kept=1"
log_example log.ClockLoop = codes "ev client 1,0,0 send relay 7"
log_example log.MessageTwice = codes "ev client 2,0,0 send relay 9"
log_example log.ReceiveUnsent = codes "ev store 1,2,1 recv relay 8 kept=1"
log_example log.ReceiveEarly = codes "ev relay 1,1,0 recv client 7"
log_example log.SelfMessage = codes "ev store 1,2,2 int"
log_example log.Truncated = codes "end"
log_example log.Trailing = codes "end"
log_example log.TooManyEvents = codes "a shorter run, or no heartbeats and polls"
log_example log.LineTooLong = codes "ev client 2,0,0 int"
log_example log.LogTooLong = codes "in each event only the variables that change"
log_example log.CounterFalls = codes "two counters that only rise, one up and one down"

-- ---- a text of two-line records

-- what is expected
abbrev pub import_expected : ImportCode → List ℕ
import_expected importing.BadHostLine = codes "a host, one space and its clock"
import_expected importing.BadClock = codes "a JSON object that has a whole number for each host"
import_expected importing.TooManyHosts = codes "at most 32 hosts, one for each process"
import_expected importing.TooManyEvents = codes "at most 50,000 records"
import_expected importing.Truncated = codes "two lines for each event, the second its description"
import_expected importing.TooLong = codes "at most 67,108,864 bytes"
import_expected importing.HostClash = codes "hosts that differ in their letters and digits"
import_expected importing.UnknownHost = codes "hosts that have records, or the count 0"

-- an example
abbrev pub import_example : ImportCode → List ℕ
import_example importing.BadHostLine = codes "client {\"client\":1}"
import_example importing.BadClock = codes "server {\"server\":1,\"client\":1}"
import_example importing.TooManyHosts = codes "one host for all connections of a process"
import_example importing.TooManyEvents = codes "a shorter run, or no heartbeats and polls"
import_example importing.Truncated = codes "client {\"client\":2} and, in the next line, up"
import_example importing.TooLong = codes "short descriptions"
import_example importing.HostClash = codes "node_2 {\"node_2\":1}"
import_example importing.UnknownHost = codes "server {\"server\":1,\"client\":1}"

-- ---- logs that are merged

-- what is expected
abbrev pub merge_expected : MergeCode → List ℕ
merge_expected (merging.Log c) = log_expected c
merge_expected merging.HeaderDiffers = codes "one version and one `procs` line in all logs"
merge_expected merging.TwoProcesses = codes "the `vars` and `ev` lines of one process"
merge_expected merging.ProcessTwice = codes "one log for each process"
merge_expected merging.TooManySources = codes "at most one log for each of 32 processes"
merge_expected merging.TooManyEvents = codes "at most 50,000 events in all logs together"
merge_expected merging.TooLong = codes "at most 67,108,864 bytes in all logs together"

-- an example
abbrev pub merge_example : MergeCode → List ℕ
merge_example (merging.Log c) = log_example c
merge_example merging.HeaderDiffers = codes "procs client relay store"
merge_example merging.TwoProcesses = codes "ev client 2,0,0 int"
merge_example merging.ProcessTwice = codes "cat client.log relay.log store.log"
merge_example merging.TooManySources = codes "cat client.log relay.log store.log"
merge_example merging.TooManyEvents = codes "shorter runs, or no heartbeats and polls"
merge_example merging.TooLong = codes "in each event only the variables that change"
