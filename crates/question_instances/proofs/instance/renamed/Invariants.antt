use Rattle.std.proofs.Common.{◌≡◌, drop, map}
use Rattle.question_instances.specs.Instances.{renamed, renaming_of}
use Rattle.question_instances.proofs.instance.renamed.Given as goal

abbrev pub invariant-loop-naming : goal.invariant-loop-naming
invariant-loop-naming l = renamed (map renaming_of l.names) l.word ≡ renamed (map renaming_of (drop l.naming-index l.names)) l.word
