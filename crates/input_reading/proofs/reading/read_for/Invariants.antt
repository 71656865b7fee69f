use Rattle.std.proofs.Common.{◌≡◌, ℕ, List, ◌<◌, length}
use Rattle.input_reading.proofs.ReadingLaws.{SoFar}
use Rattle.input_reading.proofs.reading.read_for.Given as goal

abbrev pub invariant-turns : goal.invariant-turns
invariant-turns g l = record {
  room : 0 < length l.room;
  calm : g.S.Source.faults l.source ≡ g.S.Source.faults l.fn.source;
  so_far : (aim : g.I.IntakeFor.For) (bytes : List ℕ) → g.I.IntakeFor.open_for aim l.fn.intake bytes
      → SoFar (g.S.Source.left l.fn.source) (g.S.Source.left l.source) (g.S.Source.faults l.fn.source) (g.S.Source.faults l.source) (g.I.IntakeFor.open_for aim l.intake) bytes;
}

abbrev pub decreases-turns : goal.decreases-turns
decreases-turns g l = g.I.IntakeFor.room_for l.intake
