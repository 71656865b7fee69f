use Rattle.std.proofs.Common.{◌≡◌, ◌++◌}
use Rattle.view_parts.specs.Each.{own_places}
use Rattle.view_picture.proofs.choice.put_own.Given as goal

abbrev pub invariant-loop-before : goal.invariant-loop-before
invariant-loop-before l = l.events ≡ l.fn.events ++ own_places l.process l.before
