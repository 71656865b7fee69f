use Rattle.std.specs.Int.{w128}
use Rattle.std.proofs.lemmas.Int.{to_z-of_z}
use Rattle.rctl_class.proofs.Locals.{at_least_made}
use Rattle.rctl_class.proofs.difference.at_least.Goals as goal

pub returns : goal.returns
returns c = at_least_made c.in_ok-copy_place.ensures c.in_ok-copy_place-2.ensures c.in_ok-copy_place-3.ensures c.in_ok-copy_place-4.ensures (to_z-of_z w128 c.args.k c.ranges.k)
