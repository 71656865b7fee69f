use Rattle.std.proofs.Common.{◌≡◌, Some, sym, refl}
use Rattle.report_lines.proofs.Formulas.{fault_is_not, read_is}
use Rattle.report_lines.proofs.head.canonical_of.Goals as goal

pub returns-in-Err-Fault : goal.returns-in-Err-Fault
returns-in-Err-Fault c = rw (fault_is_not c.args.text.now c.in-Err-Fault.field-0-0 (rw c.in-Err-Fault.field-0-is at c.in-Err-Fault.ensures.fault)) refl

pub returns-in-Ok : goal.returns-in-Ok
returns-in-Ok c = rw (read_is c.args.text.now c.in-Ok.formula.tree c.in-Ok.ensures.read) c.text_of-found.ensures
