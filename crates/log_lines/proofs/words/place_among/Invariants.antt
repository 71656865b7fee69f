use Rattle.std.proofs.Common.{◌≡◌, drop}
use Rattle.log_lines.specs.Names.{place_of, place_from}
use Rattle.log_lines.proofs.words.place_among.Given as goal

abbrev pub invariant-loop-i : goal.invariant-loop-i
invariant-loop-i l = place_of l.names l.name ≡ place_from l.i (drop l.i l.names) l.name
