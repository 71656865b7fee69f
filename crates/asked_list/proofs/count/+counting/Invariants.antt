use Rattle.std.proofs.Common.{◌≡◌, take}
use Rattle.rctl_class.specs.NamedParts.{parts_count, pieces_of}
use Rattle.asked_list.specs.inside.Counts.{capped}
use Rattle.asked_list.proofs.count.+counting.Given as goal

abbrev pub invariant-parts_count-parts : goal.invariant-parts_count-parts
invariant-parts_count-parts l = l.count ≡ capped (parts_count (pieces_of (take l.part-index l.parts)))
