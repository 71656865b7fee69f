-- Pulls of parts, put behind others.
use Rattle.std.specs.Prelude.{◌≡◌, ◌≤◌, ◌↔◌, List, ◌++◌, length, All}
use Rattle.run_model.specs.Cut.{Cut}
use Rattle.run_model.specs.Consistent.{IsConsistent}
use Rattle.run_model.specs.Meaning.{Sat}
use Rattle.pull_system.specs.declared.pull.Pull.{Pull}
use Rattle.pull_system.specs.System.{IsPull}
use Rattle.pull_system.specs.Pulls.{ClosedUnder}
use Rattle.rctl_parts.specs.Pieces.{Piece}
use Rattle.rctl_parts.specs.Spelled.{conjunction_of}
use Rattle.part_pulls.specs.declared.observed.Observed.{Observed}
use Rattle.part_pulls.specs.Observing.{Reading, AreAnswers, clocks_seen, lens_seen, run_seen}
use Rattle.part_pulls.specs.Observing.{names_seen}

-- the pulls of these parts stand behind those that were there: a consistent cut is closed under
-- them exactly where all parts are true
pub record AsksMore (seen : Observed) (old new : List Pull) (ps : List Piece) : Type 0 where
  pub added : List Pull
  pub is : new ≡ old ++ added
  pub fit : All (IsPull (lens_seen seen)) added
  pub few : length added ≤ length ps
  pub meaning : (reading : Reading) → AreAnswers seen reading → (c : Cut)
      → IsConsistent (clocks_seen seen) c
      → ClosedUnder added c ↔ Sat (run_seen seen reading)
      (conjunction_of (names_seen seen reading) ps) c
