use Rattle.std.proofs.Common.{◌≡◌, take}
use Rattle.kept_log.specs.inside.Counted.{clock_by}
use Rattle.kept_log.proofs.keeping.clock_by.Given as goal

abbrev pub invariant-loop-j : goal.invariant-loop-j
invariant-loop-j l = l.kept ≡ clock_by l.counts 0 (take l.j l.clock)
