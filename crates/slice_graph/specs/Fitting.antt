-- What a slice, a system of pulls and its least vectors have to do with the order of a run.
use Rattle.std.specs.Prelude.{◌≡◌, ℕ, ◌+◌, List, length, sum, Option, Some, None}
use Rattle.run_model.specs.Cut.{Cut, Clocks, IsWithin, lengths}
use Rattle.run_model.specs.Consistent.{IsConsistent, IsEvent}
use Rattle.run_model.specs.Slice.{Slice, Fits}
use Rattle.pull_system.specs.System.{SystemView, IsClosed}
use Rattle.slice_graph.specs.Views.{SliceView, slice_of}

-- the slice has the order's shape, one row for each event, and is the slice of its own cuts
pub record FitsOrder (o : Clocks) (v : SliceView) : Type 0 where
  pub shape : v.lens ≡ lengths o
  pub count : length v.rows ≡ sum v.lens + 1
  pub stands : Fits o (slice_of v)

-- the system has the order's pulls: what is closed under it is consistent
abbrev pub HasOrder : Clocks → SystemView → Type 0
HasOrder o system =
    (c : Cut) → length c ≡ length o → IsWithin c (lengths o) → IsClosed system c → IsConsistent o c

-- the consistent cuts that are closed under the system
abbrev pub ClosedCuts : Clocks → SystemView → Cut → Type 0
ClosedCuts o system c = IsConsistent o c × IsClosed system c

-- of a vector the cut is kept, and none where a component is above its length
abbrev pub IsCutOfVector : List ℕ → List ℕ → Option Cut → Type 0
IsCutOfVector lens vector None = IsWithin vector lens → ⊥
IsCutOfVector lens vector (Some c) = (c ≡ vector) × IsWithin vector lens

-- the code's slice has the order's shape, and the bottom and the events' rows of the model's slice
pub record Agrees (o : Clocks) (s : Slice) (v : SliceView) : Type 0 where
  pub shape : v.lens ≡ lengths o
  pub count : length v.rows ≡ sum v.lens + 1
  pub bottom : s.bottom ≡ (slice_of v).bottom
  pub rows : (i a : ℕ) → IsEvent (lengths o) i a → s.row i a ≡ (slice_of v).row i a
