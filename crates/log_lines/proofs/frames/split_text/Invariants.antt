use Rattle.std.proofs.Common.{◌≡◌, length, take}
use Rattle.log_lines.specs.inside.Frames.{clock_front}
use Rattle.log_lines.proofs.frames.split_text.Given as goal

abbrev pub invariant-loop-k : goal.invariant-loop-k
invariant-loop-k l = l.start ≡ length (clock_front (take l.k l.counts))
