-- Inside: what has been seen of a source, line by line.
use Rattle.std.specs.Prelude.{◌==◌, List, [], ◌∷◌}
use Rattle.std.specs.Prelude.{if◌then◌else◌}
use Rattle.log_merge.specs.declared.seen.Seen.{Seen}
use Rattle.log_merge.specs.declared.seen.Seen.TheVariants.{Nothing, One, Two}
use Rattle.log_merge.specs.Sources.{OwnLine}

-- the same with lines before them
abbrev pub seen_one : Seen → OwnLine → Seen
seen_one Nothing l = One l.process l.line
seen_one (One process line) l = if process == l.process then One process line else Two l.line
seen_one (Two line) l = Two line

abbrev pub seen_after : Seen → List OwnLine → Seen
seen_after seen [] = seen
seen_after seen (l ∷ ls) = seen_after (seen_one seen l) ls
