use Rattle.std.proofs.Common.{◌≡◌, ◌*◌, ◌≤◌, sum, take}
use Rattle.report_lines.proofs.head.total.Given as goal

abbrev pub invariant-loop-count : goal.invariant-loop-count
invariant-loop-count l = record { whole : l.all ≡ sum (take l.count-index l.counts); small : l.all ≤ 4294967295 * l.count-index }
