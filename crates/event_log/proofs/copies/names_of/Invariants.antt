use Rattle.std.proofs.Common.{◌≡◌, take}
use Rattle.log_lines.specs.Drafts.{texts_of}
use Rattle.event_log.proofs.copies.names_of.Given as goal

abbrev pub invariant-loop-text : goal.invariant-loop-text
invariant-loop-text l = l.names ≡ texts_of (take l.text-index l.texts)
