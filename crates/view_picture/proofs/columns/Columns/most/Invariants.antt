use Rattle.std.proofs.Common.{◌≡◌, ◌-◌, length, take, get_or}
use Rattle.std.specs.Prelude.{fold, max}
use Rattle.view_picture.proofs.columns.Columns.most.Given as goal

abbrev pub invariant-loop-row : goal.invariant-loop-row
invariant-loop-row l = l.most ≡ fold (λ n row. max n (get_or row (length row - 1) 0)) 0 (take l.row-index l.rows)
