-- What is wrong with a formula, a log, or a text that is read as one, in words.
use Rattle.std.specs.Prelude.{ℕ, List, codes}
use Rattle.event_log.specs.declared.item.LogCode.{LogCode}
use Rattle.event_log.specs.declared.item.LogCode.TheVariants as log
use Rattle.fault_kinds.specs.declared.merge.MergeCode.{MergeCode}
use Rattle.fault_kinds.specs.declared.merge.MergeCode.TheVariants as merging
use Rattle.fault_kinds.specs.declared.import.ImportCode.{ImportCode}
use Rattle.fault_kinds.specs.declared.import.ImportCode.TheVariants as importing
use Rattle.rctl_grammar.specs.declared.fault.FormulaCode.{FormulaCode}
use Rattle.rctl_grammar.specs.declared.fault.FormulaCode.TheVariants as formula
use Rattle.rctl_grammar.specs.declared.fault.Outside.{Outside}
use Rattle.rctl_grammar.specs.declared.fault.Outside.TheVariants as outside

abbrev pub outside_text : Outside → List ℕ
outside_text outside.Af = codes "F9 outside the class: AF"
outside_text outside.Ax = codes "F9 outside the class: AX"
outside_text outside.Eu = codes "F9 outside the class: EU"
outside_text outside.Au = codes "F9 outside the class: AU"

abbrev pub formula_code_text : FormulaCode → List ℕ
formula_code_text formula.Token = codes "F1 bad token"
formula_code_text formula.Syntax = codes "F2 syntax"
formula_code_text formula.Number = codes "F3 number out of range"
formula_code_text formula.TooLong = codes "F4 formula too long"
formula_code_text formula.TooDeep = codes "F5 formula too deep"
formula_code_text formula.TooManyNodes = codes "F6 too many nodes"
formula_code_text formula.NotRegular = codes "F7 not regular"
formula_code_text formula.DisjunctionInside = codes "F8 disjunction inside"
formula_code_text (formula.OutsideClass o) = outside_text o
formula_code_text formula.UnknownProcess = codes "F10 unknown process"
formula_code_text formula.UnknownVariable = codes "F11 unknown variable"
formula_code_text formula.UnknownWatch = codes "F12 unknown watch"
formula_code_text formula.WatchTwice = codes "F13 watch on two processes"

abbrev pub log_code_text : LogCode → List ℕ
log_code_text log.BadHeader = codes "L1 bad header"
log_code_text log.BadProcs = codes "L2 bad procs line"
log_code_text log.BadLine = codes "L3 bad line"
log_code_text log.UnknownProcess = codes "L4 unknown process"
log_code_text log.UnknownVariable = codes "L5 unknown variable"
log_code_text log.ClockWidth = codes "L6 clock width"
log_code_text log.ClockOwn = codes "L7 own clock component is not the position"
log_code_text log.ClockBack = codes "L8 clock goes back"
log_code_text log.ClockDangling = codes "L9 clock names an event that is not there"
log_code_text log.ClockOpen = codes "L10 clock lacks a predecessor's predecessor"
log_code_text log.ClockLoop = codes "L11 clock loop"
log_code_text log.MessageTwice = codes "L12 message twice"
log_code_text log.ReceiveUnsent = codes "L13 receipt of an unsent message"
log_code_text log.ReceiveEarly = codes "L14 receipt before its send"
log_code_text log.SelfMessage = codes "L15 message to itself"
log_code_text log.Truncated = codes "L16 truncated"
log_code_text log.Trailing = codes "L17 bytes after the end"
log_code_text log.TooManyEvents = codes "L18 too many events"
log_code_text log.LineTooLong = codes "L19 line too long"
log_code_text log.LogTooLong = codes "L20 log too long"
log_code_text log.CounterFalls = codes "L21 counter falls"

abbrev pub import_code_text : ImportCode → List ℕ
import_code_text importing.BadHostLine = codes "I1 bad host line"
import_code_text importing.BadClock = codes "I2 bad clock"
import_code_text importing.TooManyHosts = codes "I3 too many hosts"
import_code_text importing.TooManyEvents = codes "I4 too many events"
import_code_text importing.Truncated = codes "I5 truncated"
import_code_text importing.TooLong = codes "I6 log too long"
import_code_text importing.HostClash = codes "I7 host names clash"
import_code_text importing.UnknownHost = codes "I8 unknown host"

abbrev pub merge_code_text : MergeCode → List ℕ
merge_code_text (merging.Log c) = log_code_text c
merge_code_text merging.HeaderDiffers = codes "M1 header differs"
merge_code_text merging.TwoProcesses = codes "M2 two processes in one source"
merge_code_text merging.ProcessTwice = codes "M3 process in two sources"
merge_code_text merging.TooManySources = codes "M4 too many sources"
merge_code_text merging.TooManyEvents = codes "M5 too many events"
merge_code_text merging.TooLong = codes "M6 logs too long"
