use Rattle.std.proofs.Common.{◌≡◌, ◌++◌, length}
use Rattle.event_log.specs.LogText.{text_of}
use Rattle.torn_text.specs.Mending.{whole_lines, mended_from, mended}
use Rattle.torn_text.proofs.mending.mended.Given as goal

abbrev pub invariant-lines : goal.invariant-lines
invariant-lines l = l.text ++ text_of (mended_from l.is_open (whole_lines l.rest)) ≡ mended l.bytes

abbrev pub decreases-lines : goal.decreases-lines
decreases-lines l = length l.rest
