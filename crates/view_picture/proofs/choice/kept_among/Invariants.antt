use Rattle.std.proofs.Common.{◌≡◌, take}
use Rattle.std.specs.List.{count_by}
use Rattle.view_picture.specs.Choice.{keeps}
use Rattle.view_picture.proofs.choice.kept_among.Given as goal

abbrev pub invariant-loop-k : goal.invariant-loop-k
invariant-loop-k l = l.kept ≡ count_by (keeps l.states l.tokens l.all) (take l.k l.events)
