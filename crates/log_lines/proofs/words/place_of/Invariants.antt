use Rattle.std.proofs.Common.{◌≡◌, drop, map}
use Rattle.log_lines.specs.Names.{place_of, place_from}
use Rattle.log_lines.proofs.words.place_of.Given as goal

abbrev pub invariant-loop-i : goal.invariant-loop-i
invariant-loop-i g l = place_of (map g.T.Named.name l.items) l.name ≡ place_from l.i (map g.T.Named.name (drop l.i l.items)) l.name
