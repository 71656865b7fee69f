-- What the parts of a conjunction ask of its cuts.
use Rattle.std.specs.Prelude.{◌≡◌, ◌*◌, ◌≤◌, ◌↔◌, Bool, true, false, List, [], ◌++◌, length, All}
use Rattle.run_model.specs.Cut.{Cut, Clocks, IsWithin, lengths}
use Rattle.run_model.specs.Consistent.{IsConsistent}
use Rattle.run_model.specs.Slice.{Cuts}
use Rattle.run_model.specs.Meaning.{Sat}
use Rattle.pull_system.specs.declared.pull.Pull.{Pull}
use Rattle.pull_system.specs.System.{IsPull}
use Rattle.pull_system.specs.Pulls.{ClosedUnder}
use Rattle.slice_graph.specs.Views.{SliceView, slice_of}
use Rattle.slice_graph.specs.PullLists.{pulls_of_order}
use Rattle.rctl_grammar.specs.declared.tree.Operator.{Operator}
use Rattle.rctl_parts.specs.Pieces.{Piece}
use Rattle.rctl_parts.specs.Spelled.{conjunction_of}
use Rattle.part_pulls.specs.declared.observed.Observed.{Observed}
use Rattle.part_pulls.specs.Observing.{Reading, AreAnswers, clocks_seen, lens_seen, run_seen}
use Rattle.part_pulls.specs.Observing.{names_seen}
use Rattle.part_pulls.specs.Operating.{Operated, operator_gives_order}
use Rattle.part_pulls.specs.Systems.{pulls_of_parts}
use Rattle.conjunctions.specs.Numbering.{all_atoms}
use Rattle.conjunctions.specs.inside.Numbering.{gives_order}
use Rattle.conjunctions.specs.Counting.{rooms_of}

-- the pulls that a conjunction begins with: none where a part gives the order, and else those of
-- the order
abbrev pub first_pulls : Clocks → Bool → List Pull
first_pulls o true = []
first_pulls o false = pulls_of_order o

-- the pulls of these parts stand behind those that were there: a consistent cut is closed under
-- them exactly where all parts are true, and where a part gives the order only consistent cuts are
-- closed under them
pub record AddsPulls (seen : Observed) (old new : List Pull) (ps : List Piece) : Type 0 where
  pub added : List Pull
  pub is : new ≡ old ++ added
  pub fit : All (IsPull (lens_seen seen)) added
  pub few : length added ≤ rooms_of (length (lens_seen seen)) ps
  pub meaning : (reading : Reading) → AreAnswers seen reading → (c : Cut)
      → IsConsistent (clocks_seen seen) c
      → ClosedUnder added c ↔ Sat (run_seen seen reading)
      (conjunction_of (names_seen seen reading) ps) c
  pub orders : gives_order ps ≡ true → (c : Cut) → length c ≡ length (clocks_seen seen)
      → IsWithin c (lens_seen seen) → ClosedUnder added c → IsConsistent (clocks_seen seen) c
  pub own : all_atoms ps ≡ true → added ≡ pulls_of_parts seen ps

-- the pulls of an operator over a slice stand behind those that were there: a consistent cut is
-- closed under them exactly where the operator over the slice's cuts is true, and where the
-- operator gives the order only consistent cuts are closed under them
pub record AddsOperator (o : Clocks) (operator : Operator) (operand : SliceView)
    (old new : List Pull) : Type 0 where
  pub added : List Pull
  pub is : new ≡ old ++ added
  pub fit : All (IsPull (lengths o)) added
  pub count : length added ≡ length (lengths o) * length (lengths o)
  pub closed : (c : Cut) → IsConsistent o c
      → ClosedUnder added c ↔ Operated operator o (Cuts o (slice_of operand)) c
  pub orders : operator_gives_order operator ≡ true → (c : Cut) → length c ≡ length o
      → IsWithin c (lengths o) → ClosedUnder added c → IsConsistent o c
