use Rattle.std.proofs.Common.{take}
use Rattle.rctl_class.specs.NamedParts.{disjuncts_of as named_disjuncts}
use Rattle.rctl_parts.specs.Pieces.{disjuncts_of}
use Rattle.rctl_names.specs.inside.Resolving.{AreDisjunctsIn}
use Rattle.rctl_names.proofs.parts.resolve_disjuncts.Given as goal

abbrev pub invariant-disjuncts : goal.invariant-disjuncts
invariant-disjuncts l =
    AreDisjunctsIn l.scope l.initial.watches l.watches (named_disjuncts (take l.disjunct-index l.disjuncts)) (disjuncts_of l.made)
