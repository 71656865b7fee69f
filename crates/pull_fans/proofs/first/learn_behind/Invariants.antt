use Rattle.pull_fans.specs.inside.First.{IsKnown}
use Rattle.pull_fans.proofs.first.learn_behind.Given as goal

abbrev pub invariant-loop-number : goal.invariant-loop-number
invariant-loop-number l = IsKnown l.shape l.fans l.number l.places l.by_source l.asks
