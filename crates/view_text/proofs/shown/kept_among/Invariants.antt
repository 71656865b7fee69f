use Rattle.std.proofs.Common.{◌≡◌, take}
use Rattle.view_text.specs.Shown.{kept_among}
use Rattle.view_text.proofs.shown.kept_among.Given as goal

abbrev pub invariant-loop-k : goal.invariant-loop-k
invariant-loop-k l = l.kept ≡ kept_among l.told.states.now l.told.tokens.now (take l.k l.steps)
