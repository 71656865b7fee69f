-- Events with one row.
use Rattle.std.specs.Prelude.{◌≡◌, ℕ, ◌<◌, ◌≤◌}
use Rattle.run_model.specs.Cut.{Cut, Clocks, count, lengths}
use Rattle.run_model.specs.Consistent.{IsOrder}
use Rattle.run_model.specs.Slice.{Slice, Cuts}
use Rattle.run_model.specs.Witness.{Place, IsPlace, IsBefore, row_at}
use Rattle.pota_base.specs.Shape.{IsShape}
use Rattle.slice_graph.specs.Views.{SliceView, slice_of}
use Rattle.slice_graph.specs.Words.{row_words}
use Rattle.slice_graph.specs.Fitting.{FitsOrder}

-- a later event has the same row
abbrev pub HasLaterTwin : Clocks → Slice → Place → Type 0
HasLaterTwin o s e = (f : Place) × IsPlace o f × IsBefore e f × (row_at s f ≡ row_at s e)

-- the row has an event of process j, and the row of the last such one has the event
abbrev pub LastHas : SliceView → Cut → ℕ → Place → Type 0
LastHas v r j e = (0 < count r j) × (e.position ≤ count (row_words v j (count r j)) e.process)

-- the clocks are those of a run's order
pub record IsRunOrder (o : Clocks) : Type 0 where
  pub order : IsOrder o
  pub shape : IsShape (lengths o)

-- the slice is one of the run
pub record IsOperand (o : Clocks) (v : SliceView) : Type 0 where
  pub run : IsRunOrder o
  pub fits : FitsOrder o v

-- and it has the final cut, so that each event has a row
pub record HasFinal (o : Clocks) (v : SliceView) : Type 0 where
  pub operand : IsOperand o v
  pub final : Cuts o (slice_of v) (lengths o)
