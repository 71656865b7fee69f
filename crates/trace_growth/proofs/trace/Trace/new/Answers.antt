use Rattle.std.proofs.Common.{subst}
use Rattle.std.specs.Prelude.{ℕ}
use Rattle.vector_clock.specs.Events.{no_events}
use Rattle.vector_clock.specs.Admitted.{HasAdmitted}
use Rattle.trace_growth.proofs.Taken.{taken_none}
use Rattle.trace_growth.proofs.trace.Trace.new.Goals as goal

pub invariant_of-result : goal.invariant_of-result
invariant_of-result c = λ live. taken_none c.in_ok-new.field-0 c.in_ok-new-2.field-0 c.args.header c.requires c.in_ok-new.ensures
    (subst (λ (n : ℕ). HasAdmitted c.in_ok-new-2.field-0 (no_events n)) c.len-procs.ensures c.in_ok-new-2.ensures)
