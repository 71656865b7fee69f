use Rattle.std.proofs.Common.{◌≡◌, ◌++◌, map, drop}
use Rattle.vclog_import.specs.Hosts.{name_byte, name_of}
use Rattle.vclog_import.proofs.names.name_of.Given as goal

abbrev pub invariant-loop-byte : goal.invariant-loop-byte
invariant-loop-byte l = l.name.items ++ map name_byte (drop l.byte-index l.host) ≡ name_of l.host
