use Rattle.std.proofs.Common.{sym, subst}
use Rattle.kept_log.specs.Keeping.{CanBeKept}
use Rattle.kept_log.specs.Named.{names_of}
use Rattle.kept_log.proofs.Again.{again}
use Rattle.kept_log.proofs.Whole.{log_made}
use Rattle.kept_log.proofs.keeping.keep.Goals as goal

pub returns-clause-is : goal.returns-clause-is
returns-clause-is c =
    log_made c.args.log.now c.args.names.now c.requires _ c.in_ok-numbers.ensures _ c.as_slice-batches.ensures _ c.len-processes.ensures _ c.in_ok-counts.ensures _ c.as_slice.ensures _
    c.in_ok-events.ensures _ c.in_ok-header.ensures _ c.new-batches.ensures _ c.in_ok-push.ensures.ok

pub returns-clause-again : goal.returns-clause-again
returns-clause-again c = subst CanBeKept (sym (returns-clause-is c)) (again c.args.log.now (names_of c.args.names.now) c.requires)
