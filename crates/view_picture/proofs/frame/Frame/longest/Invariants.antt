use Rattle.std.proofs.Common.{◌≡◌, length, take}
use Rattle.std.specs.Prelude.{fold, max}
use Rattle.view_picture.proofs.frame.Frame.longest.Given as goal

abbrev pub invariant-loop-name : goal.invariant-loop-name
invariant-loop-name l = l.most ≡ fold (λ n name. max n (length name)) 0 (take l.name-index l.names)
