use Rattle.std.proofs.Common.{◌≡◌, take}
use Rattle.asked_log.specs.Watches.{names_of}
use Rattle.asked_log.proofs.log.copy_names.Given as goal

abbrev pub invariant-loop-handed : goal.invariant-loop-handed
invariant-loop-handed g l = l.names ≡ names_of (take l.handed-index l.watches)
