use Rattle.std.proofs.Common.{◌≡◌, ◌++◌, map, take}
use Rattle.ask_faults.specs.Lines.{shown}
use Rattle.ask_faults.proofs.lines.put_shown.Given as goal

abbrev pub invariant-loop-byte : goal.invariant-loop-byte
invariant-loop-byte l = l.out ≡ l.fn.out ++ map shown (take l.byte-index l.bytes)
