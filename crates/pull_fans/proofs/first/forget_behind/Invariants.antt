use Rattle.pull_fans.proofs.FirstFans.{AreForgotten}
use Rattle.pull_fans.proofs.first.forget_behind.Given as goal

abbrev pub invariant-loop-process : goal.invariant-loop-process
invariant-loop-process l = AreForgotten l.shape l.fans l.stay l.process l.by_source l.asks
