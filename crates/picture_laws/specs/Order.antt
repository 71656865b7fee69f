-- The order that a picture draws among the events that are shown.
use Rattle.std.specs.Prelude.{◌≡◌, ◌⊎◌, ◌↔◌, ℕ, ◌-◌, ◌<◌, ◌≤◌, true, List, length, Some}
use Rattle.std.specs.List.{AllByRecursion}
use Rattle.run_model.specs.Consistent.{HappenedBefore}
use Rattle.pota_base.specs.declared.shape.EventId.{EventId}
use Rattle.event_log.specs.States.{StatesView}
use Rattle.vector_clock.specs.Events.{clocks_of}
use Rattle.slice_graph.specs.declared.edges.Edge.{Edge}
use Rattle.report.specs.declared.report.Report.{Report}
use Rattle.view_parts.specs.declared.extent.Extent.{Extent}
use Rattle.view_picture.specs.Columns.{Rows}
use Rattle.view_picture.specs.Shown.{last_shown}
use Rattle.view_picture.specs.Ties.{shown_send, last_known, is_tied, ties_of}
use Rattle.picture_laws.specs.Lines.{times_listed}
use Rattle.picture_laws.specs.Laws.{IsDrawable, IsMarked}

-- the first event stands before the second one on the line of their process, and no shown event
-- stands between them
abbrev pub IsNext : Rows → EventId → EventId → Type 0
IsNext rows e g =
    (e.process ≡ g.process) × (e.position ≡ last_shown rows g.process (g.position - 1))

-- an arrow comes from the first event to the second one
abbrev pub IsArrow : StatesView → Rows → EventId → EventId → Type 0
IsArrow s rows e g = shown_send s rows g ≡ Some e

-- a tie joins the two
pub record IsTie (s : StatesView) (rows : Rows) (e g : EventId) : Type 0 where
  pub process : ℕ
  pub there : process < length s.events
  pub tied : is_tied s rows g process ≡ true
  pub from : e ≡ last_known (clocks_of s.events) rows g process

-- one line of the picture leads from the one to the other, to the right
abbrev pub IsStep : StatesView → Rows → EventId → EventId → Type 0
IsStep s rows e g = IsNext rows e g ⊎ (IsArrow s rows e g ⊎ IsTie s rows e g)

-- lines lead from the one shown event to the other by way of shown events
pub data LinesLead (s : StatesView) (rows : Rows) : EventId → EventId → Type 0 where
  line : (e g : EventId) → IsMarked s rows e → IsMarked s rows g → IsStep s rows e g
      → LinesLead s rows e g
  lines : (e f g : EventId) → LinesLead s rows e f → LinesLead s rows f g → LinesLead s rows e g

-- the first event happened before the second one
abbrev pub Before : StatesView → EventId → EventId → Type 0
Before s e g = HappenedBefore (clocks_of s.events) e.process e.position g.process g.position

-- among the shown events lines lead from the one to the other exactly where it happened before it
abbrev pub OrderIsDrawn : Type 0
OrderIsDrawn =
    (s : StatesView) (x : Extent) (r : Report) (rows : Rows) → IsDrawable s x r rows
    → (e g : EventId) → IsMarked s rows e → IsMarked s rows g
    → Before s e g ↔ LinesLead s rows e g

-- what no other line shows: both are shown and on lines of their own, the one happened before the
-- other, no arrow joins them, and no shown event stands between them
pub record IsNeeded (s : StatesView) (rows : Rows) (e g : EventId) : Type 0 where
  pub marked : IsMarked s rows e
  pub before : Before s e g
  pub other_line : e.process ≡ g.process → ⊥
  pub no_arrow : IsArrow s rows e g → ⊥
  pub nothing_between : (f : EventId) → IsMarked s rows f → Before s e f → Before s f g → ⊥

-- each tie is one that no other line shows
abbrev pub TiesAreNeeded : Type 0
TiesAreNeeded =
    (s : StatesView) (x : Extent) (r : Report) (rows : Rows) → IsDrawable s x r rows
    → (e g : EventId) → IsMarked s rows g → IsTie s rows e g → IsNeeded s rows e g

-- exactly the ties of shown events are drawn
pub record AreTies (s : StatesView) (rows : Rows) (ties : List Edge) : Type 0 where
  pub each : AllByRecursion (λ (t : Edge). IsMarked s rows t.effect × IsTie s rows t.cause t.effect)
      ties
  pub all : (e g : EventId) → IsMarked s rows g → IsTie s rows e g
      → 1 ≤ times_listed (record { cause = e; effect = g }) ties

abbrev pub TiesAreListed : Type 0
TiesAreListed = (s : StatesView) (rows : Rows) → AreTies s rows (ties_of s rows)
