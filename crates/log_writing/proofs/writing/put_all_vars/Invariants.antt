use Rattle.std.proofs.Common.{◌≡◌, ◌++◌, drop}
use Rattle.event_log.specs.LogText.{vars_lines, text_of}
use Rattle.log_writing.proofs.writing.put_all_vars.Given as goal

abbrev pub invariant-processes : goal.invariant-processes
invariant-processes l = l.out ++ text_of (vars_lines (drop l.i l.procs) (drop l.i l.vars)) ≡ l.fn.out ++ text_of (vars_lines l.procs l.vars)
