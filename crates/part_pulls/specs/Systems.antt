-- The pulls of an atom, and the system of a conjunction of atoms: the pulls of the order, and then
-- those of each atom.
use Rattle.std.specs.Prelude.{◌≡◌, ℕ, ◌≤◌, ◌↔◌, Bool, true, false, Option, None, Some, List, []}
use Rattle.std.specs.Prelude.{◌++◌, length, flat_map, All, IsTrue}
use Rattle.run_model.specs.Cut.{Cut, initial}
use Rattle.run_model.specs.Consistent.{IsConsistent}
use Rattle.run_model.specs.Meaning.{Sat}
use Rattle.pull_system.specs.declared.pull.Pull.{Pull}
use Rattle.pull_system.specs.System.{SystemView, IsPull}
use Rattle.pull_system.specs.Pulls.{ClosedUnder}
use Rattle.temporal_slice.specs.PassedOn.{pulls_of_order}
use Rattle.rctl_parts.specs.Exprs.{Expr}
use Rattle.rctl_parts.specs.Pieces.{Atom, Piece, atom, temporal, local, at_most, at_least, never}
use Rattle.rctl_parts.specs.Pieces.{diff_at_most, diff_at_least}
use Rattle.local_preds.specs.LocalRuns.{local_pulls, constant_truth}
use Rattle.local_preds.specs.LocalPulls.{constant_pulls_of}
use Rattle.channel_preds.specs.Truth.{lens_of, at_most_pulls, at_least_pulls}
use Rattle.counter_preds.specs.Truth as counters
use Rattle.rctl_parts.specs.Spelled.{atom_formula}
use Rattle.part_pulls.specs.declared.observed.Observed.{Observed}
use Rattle.part_pulls.specs.Observing.{Reading, AreAnswers, clocks_seen, lens_seen, run_seen}
use Rattle.part_pulls.specs.Observing.{names_seen}
use Rattle.part_pulls.specs.Counters.{counter}

-- the part isn't temporal
abbrev pub is_atom : Piece → Bool
is_atom (atom a) = true
is_atom (temporal operator ps) = false

-- the pulls of a local part: of its truths along its process, or of a constant
abbrev pub pulls_of_local : Observed → Option ℕ → Expr → List Pull
pulls_of_local seen None e = constant_pulls_of (lens_of seen.trace.states) (constant_truth e)
pulls_of_local seen (Some p) e = local_pulls seen.trace.states p seen.watch_rows e

-- the pulls of an atom
abbrev pub pulls_of_atom : Observed → Atom → List Pull
pulls_of_atom seen (local process e) = pulls_of_local seen process e
pulls_of_atom seen (at_most p q k) = at_most_pulls seen.trace.states p q k
pulls_of_atom seen (at_least p q k) = at_least_pulls seen.trace.states p q k
pulls_of_atom seen never = constant_pulls_of (lens_of seen.trace.states) false
pulls_of_atom seen (diff_at_most p x q y k) =
    counters.at_most_pulls seen.trace.states (counter p x) (counter q y) k
pulls_of_atom seen (diff_at_least p x q y k) =
    counters.at_least_pulls seen.trace.states (counter p x) (counter q y) k

-- a temporal part has none of its own: they come from its operand's slice
abbrev pub pulls_of_part : Observed → Piece → List Pull
pulls_of_part seen (atom a) = pulls_of_atom seen a
pulls_of_part seen (temporal operator ps) = []

abbrev pub pulls_of_parts : Observed → List Piece → List Pull
pulls_of_parts seen ps = flat_map (pulls_of_part seen) ps

-- the pulls of the order, and then these
abbrev pub ordered_system : Observed → List Pull → SystemView
ordered_system seen added = record {
  lens = lens_seen seen;
  pulls = pulls_of_order (clocks_seen seen) ++ added;
}

-- the system of a conjunction of atoms
abbrev pub system_of : Observed → List Piece → SystemView
system_of seen ps = ordered_system seen (pulls_of_parts seen ps)

-- the pulls and the truth at the initial cut of an atom
pub record IsAtomOf (seen : Observed) (a : Atom) (pulls : List Pull) (truth : Bool) : Type 0 where
  pub own : pulls ≡ pulls_of_atom seen a
  pub fit : All (IsPull (lens_seen seen)) pulls
  pub few : length pulls ≤ 1
  pub meaning : (reading : Reading) → AreAnswers seen reading → (c : Cut)
      → IsConsistent (clocks_seen seen) c
      → ClosedUnder pulls c ↔ Sat (run_seen seen reading) (atom_formula (names_seen seen reading) a)
      c
  pub at_first : (reading : Reading) → AreAnswers seen reading
      → IsTrue truth ↔ Sat (run_seen seen reading) (atom_formula (names_seen seen reading) a)
      (initial (clocks_seen seen))
