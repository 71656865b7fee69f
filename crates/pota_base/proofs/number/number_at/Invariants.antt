use Rattle.std.proofs.Common.{◌≡◌, ◌≤◌, drop}
use Rattle.pota_base.specs.Number.{digits_from, number_at}
use Rattle.pota_base.proofs.number.number_at.Given as goal

abbrev pub invariant-digits : goal.invariant-digits
invariant-digits l = record { read : number_at l.most l.bytes ≡ digits_from l.most l.value l.i (drop l.i l.bytes); bound : l.value ≤ l.most }
