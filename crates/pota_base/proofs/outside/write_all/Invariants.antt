use Rattle.std.proofs.Common.{◌≡◌, length}
use Rattle.pota_base.proofs.Known.{WrittenSoFar}
use Rattle.pota_base.proofs.outside.write_all.Given as goal

abbrev pub invariant-loop-rest : goal.invariant-loop-rest
invariant-loop-rest g l =
    WrittenSoFar (g.S.Sink.held l.fn.out) (g.S.Sink.held l.out) (g.S.Sink.faults l.fn.out) (g.S.Sink.faults l.out) l.fn.text l.rest
    × (g.S.Sink.faults l.out ≡ g.S.Sink.faults l.fn.out)

abbrev pub decreases-loop-rest : goal.decreases-loop-rest
decreases-loop-rest g l = length l.rest
