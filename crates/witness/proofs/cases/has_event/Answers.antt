use Rattle.std.proofs.Common.{◌<◌, ◌≡◌, ap, arith}
use Rattle.std.specs.Prelude.{length}
use Rattle.run_model.specs.Cut.{count, lengths}
use Rattle.run_model.proofs.Counts.{length-lengths}
use Rattle.witness.proofs.cases.has_event.Goals as goal

pub returns-then-process-procs : goal.returns-then-process-procs
returns-then-process-procs c =
    let there : c.args.process < length c.args.order.now = omega (arith, c.if-process-procs.true, c.procs.ensures.count, ap length c.shape-shape.ensures.lens, length-lengths c.args.order.now) in
    (λ more. (there, grind (arith, more)), λ h. grind (arith, h.1))
