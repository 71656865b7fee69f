use Rattle.std.specs.Int.{w128}
use Rattle.std.proofs.lemmas.Int.{to_z-of_z}
use Rattle.rctl_names.specs.inside.Seen.{header_names}
use Rattle.rctl_names.proofs.Made.{at_least_made}
use Rattle.rctl_names.proofs.difference.at_least.Goals as goal

pub returns : goal.returns
returns c =
    let a = c.in_ok-left.ensures in
    let b = c.in_ok-right.ensures in
    at_least_made (header_names c.args.scope.now) c.args.left_process.now c.args.left.now c.args.right_process.now c.args.right.now
    a.0 a.1 a.2 b.0 b.1 b.2 (to_z-of_z w128 c.args.k c.ranges.k)
