use Rattle.std.proofs.Common.{◌≡◌, length, take}
use Rattle.report_lines.proofs.parts.cut_of.Given as goal

abbrev pub invariant-loop-i : goal.invariant-loop-i
invariant-loop-i l = record { width : length l.cut ≡ length l.counts; same : take l.i l.cut ≡ take l.i l.counts }
