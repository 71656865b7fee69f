use Rattle.std.proofs.Common.{◌≡◌, drop}
use Rattle.view_parts.specs.Naming.{beginning, names}
use Rattle.view_parts.proofs.naming.names.Given as goal

abbrev pub invariant-loop-i : goal.invariant-loop-i
invariant-loop-i l = names (beginning l.sought) l.tokens ≡ names (beginning l.sought) (drop l.i l.tokens)
