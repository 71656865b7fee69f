use Rattle.std.proofs.Common.{◌≡◌, ◌<◌, ◌^◌, take}
use Rattle.pota_names.specs.Keys.{with_digits}
use Rattle.pota_names.proofs.key_of.Given as goal

abbrev pub invariant-loop-i : goal.invariant-loop-i
invariant-loop-i l = record { same : l.key ≡ with_digits 0 (take l.i l.bytes); small : l.key < 256 ^ l.i }
