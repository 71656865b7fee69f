use Rattle.std.proofs.Common.{◌≡◌, [], ◌++◌, take, drop}
use Rattle.view_text.specs.Claims.{told_once}
use Rattle.view_text.proofs.claims.put_once.Given as goal

abbrev pub invariant-loop-i : goal.invariant-loop-i
invariant-loop-i l = l.out ++ told_once (take l.i l.texts) (drop l.i l.texts) ≡ l.fn.out ++ told_once [] l.texts
