use Rattle.std.proofs.Common.{◌≡◌, ◌≤◌, ◌++◌, drop}
use Rattle.view_text.specs.Alternatives.{alternatives}
use Rattle.view_text.proofs.alternatives.alternatives.Given as goal

abbrev pub invariant-loop-i : goal.invariant-loop-i
invariant-loop-i l = record { so_far : l.texts ++ alternatives l.formula l.begin l.depth (drop l.i l.tokens) ≡ alternatives l.formula 0 0 l.tokens; deep : l.depth ≤ l.i }
