use Rattle.std.proofs.Common.{◌≡◌, take}
use Rattle.log_lines.specs.Drafts.{values_of}
use Rattle.event_log.specs.Before.{bindings_of}
use Rattle.event_log.proofs.copies.bindings_of.Given as goal

abbrev pub invariant-loop-setting : goal.invariant-loop-setting
invariant-loop-setting l = l.bindings ≡ bindings_of (values_of (take l.setting-index l.settings))
