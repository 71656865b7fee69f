use Rattle.std.proofs.Common.{◌≡◌, drop}
use Rattle.log_merge.specs.declared.seen.Seen.TheVariants.{Nothing}
use Rattle.log_merge.specs.Sources.{own_vars_lines}
use Rattle.log_merge.specs.inside.Sources.{seen_after}
use Rattle.log_merge.proofs.seen.seen_in_header.Given as goal

abbrev pub invariant-loop-i : goal.invariant-loop-i
invariant-loop-i l = seen_after l.seen (own_vars_lines l.i (drop l.i l.lines)) ≡ seen_after Nothing (own_vars_lines 0 l.lines)
