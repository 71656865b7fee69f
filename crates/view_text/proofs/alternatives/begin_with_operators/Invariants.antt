use Rattle.std.proofs.Common.{◌≡◌, ◌≤◌, drop}
use Rattle.view_text.specs.Alternatives.{begin_with_operators}
use Rattle.view_text.specs.Claims.{start}
use Rattle.view_text.proofs.alternatives.begin_with_operators.Given as goal

abbrev pub invariant-loop-i : goal.invariant-loop-i
invariant-loop-i l = record { so_far : begin_with_operators l.walk (drop l.i l.tokens) ≡ begin_with_operators start l.tokens; deep : l.walk.depth ≤ l.i }
