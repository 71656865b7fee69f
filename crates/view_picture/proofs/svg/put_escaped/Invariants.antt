use Rattle.std.proofs.Common.{◌≡◌, ◌++◌, take}
use Rattle.view_picture.specs.Svg.{escaped}
use Rattle.view_picture.proofs.svg.put_escaped.Given as goal

abbrev pub invariant-loop-byte : goal.invariant-loop-byte
invariant-loop-byte l = l.out ≡ l.fn.out ++ escaped (take l.byte-index l.bytes)
