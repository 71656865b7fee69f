use Rattle.std.proofs.Common.{◌≡◌, ◌-◌, ◌^◌, drop}
use Rattle.pota_base.specs.Number.{digits_from, number_at}
use Rattle.log_lines.proofs.counts.count_at.Given as goal

abbrev pub invariant-digits : goal.invariant-digits
invariant-digits l = number_at (2 ^ 32 - 1) l.bytes ≡ digits_from (2 ^ 32 - 1) l.count l.i (drop l.i l.bytes)
