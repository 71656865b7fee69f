use Rattle.std.proofs.Common.{◌≡◌, ◌++◌, map, take}
use Rattle.rctl_print.specs.inside.Members.{each_behind}
use Rattle.rctl_print.specs.declared.joint.Joint.TheVariants.{Amp}
use Rattle.part_text.specs.inside.Members.{shape_of_part}
use Rattle.part_text.proofs.part.+part.Given as goal

abbrev pub invariant-put_parts-parts : goal.invariant-put_parts-parts
invariant-put_parts-parts l =
    l.out ≡ l.initial.out ++ each_behind Amp (map shape_of_part (take l.part-index l.rest))
