use Rattle.std.proofs.Common.{◌≡◌, ◌≤◌, [], ◌++◌, drop}
use Rattle.view_text.specs.Claims.{start, disjunct_claims}
use Rattle.view_text.proofs.claims.disjunct_claims.Given as goal

abbrev pub invariant-loop-i : goal.invariant-loop-i
invariant-loop-i l = record { so_far : l.texts ++ disjunct_claims l.walk l.text (drop l.i l.tokens) ≡ disjunct_claims start [] l.tokens; deep : l.walk.depth ≤ l.i }
