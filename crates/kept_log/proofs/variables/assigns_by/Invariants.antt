use Rattle.std.proofs.Common.{◌≡◌, take}
use Rattle.kept_log.specs.inside.Numbered.{assigns_by}
use Rattle.kept_log.proofs.variables.assigns_by.Given as goal

abbrev pub invariant-loop-assign : goal.invariant-loop-assign
invariant-loop-assign l = l.kept ≡ assigns_by l.numbers l.process (take l.assign-index l.assigns)
