use Rattle.std.proofs.Common.{refl}
use Rattle.asked_instances.specs.Instances.{pairs_asked}
use Rattle.instance_outcomes.specs.Over.{source_in}
use Rattle.instance_outcomes.proofs.Tallying.{few, known}
use Rattle.instance_outcomes.proofs.over.answer_over.Goals as goal

pub tally-requires-clause-few : goal.tally-requires-clause-few
tally-requires-clause-few g c κs within =
    few (source_in c.args.seen.now c.args.text.now c.args.over) c.in-Ok.found c.requires.procs c.in-Ok.ensures.instances

pub tally-requires-clause-known : goal.tally-requires-clause-known
tally-requires-clause-known g c κs within =
    let s = source_in c.args.seen.now c.args.text.now c.args.over in
    known s (pairs_asked s) c.in-Ok.found refl c.in-Ok.ensures.instances
