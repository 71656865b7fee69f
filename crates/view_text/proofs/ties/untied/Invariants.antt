use Rattle.std.proofs.Common.{◌≡◌}
use Rattle.std.specs.Prelude.{None}
use Rattle.view_text.specs.Ties.{untied_in, first_below}
use Rattle.view_text.proofs.ties.untied.Given as goal

abbrev pub invariant-loop-process : goal.invariant-loop-process
invariant-loop-process l = first_below l.process (untied_in l.states l.tokens l.cut l.ended) ≡ None
