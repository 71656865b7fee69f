use Rattle.std.proofs.Common.{◌≡◌, ◌+◌, drop}
use Rattle.rctl_lexer.specs.Runs.{run_of}
use Rattle.rctl_lexer.specs.inside.Runs.{is_of}
use Rattle.rctl_lexer.proofs.run.run_of.Given as goal

abbrev pub invariant-loop-i : goal.invariant-loop-i
invariant-loop-i l = run_of (is_of l.class) l.bytes ≡ run_of (is_of l.class) (drop l.i l.bytes) + l.i
