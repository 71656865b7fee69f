use Rattle.std.proofs.Common.{◌≡◌, length, take}
use Rattle.watch_feeding.proofs.rows.lengthen.Given as goal

abbrev pub invariant-loop : goal.invariant-loop
invariant-loop l = (take (length l.fn.row) l.row ≡ l.fn.row) × (length l.row ≡ l.counter)
