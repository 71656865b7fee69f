use Rattle.std.proofs.Common.{◌≡◌, take}
use Rattle.std.specs.List.{count_by}
use Rattle.view_picture.specs.Drawing.{receives}
use Rattle.view_picture.proofs.numbers.receipts_among.Given as goal

abbrev pub invariant-loop-k : goal.invariant-loop-k
invariant-loop-k l = l.count ≡ count_by (receives l.states) (take l.k l.shown)
