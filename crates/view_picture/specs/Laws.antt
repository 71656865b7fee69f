-- What is said of the marks of the picture and of its texts.
use Rattle.std.specs.Prelude.{◌≡◌, ◌⊎◌, ℕ, ◌+◌, ◌<◌, ◌≤◌, Bool, true, false, List, [], ◌∷◌}
use Rattle.std.specs.Prelude.{if◌then◌else◌}
use Rattle.std.specs.List.{AllByRecursion}
use Rattle.run_model.specs.Cut.{Cut, Clocks, count, lengths}
use Rattle.run_model.specs.Consistent.{IsOrder}
use Rattle.pota_base.specs.declared.shape.EventId.{EventId}
use Rattle.pota_base.specs.Shape.{HasEvent}
use Rattle.event_log.specs.States.{StatesView}
use Rattle.report.specs.declared.report.Report.{Report}
use Rattle.view_parts.specs.Parts.{place}
use Rattle.view_picture.specs.declared.svg.Point.{Point}
use Rattle.view_picture.specs.declared.frame.Frame.{Frame}
use Rattle.view_picture.specs.Choice.{is_place}
use Rattle.view_picture.specs.Columns.{Rows, AreColumns}
use Rattle.view_picture.specs.Shown.{is_shown, shown_events, last_shown}
use Rattle.view_picture.specs.Svg.{escaped}
use Rattle.view_picture.specs.Frame.{at, frame_of}
use Rattle.view_picture.specs.Drawing.{crossing, least_shift, goal_shift, greatest_shift}

-- how often the event stands among these
abbrev pub times : EventId → List EventId → ℕ
times e [] = 0
times e (f ∷ fs) = if is_place e f then times e fs + 1 else times e fs

-- a shown event is once among those that get a mark, and another one is not
abbrev pub ShownEventsOnce : Type 0
ShownEventsOnce =
    (lens : List ℕ) (rows : Rows) (e : EventId) → HasEvent lens e
    → times e (shown_events lens rows) ≡ (if is_shown rows e then 1 else 0)

-- by its columns a run shows exactly the events that are to be shown
abbrev pub ChosenAreShown : Type 0
ChosenAreShown =
    (o : Clocks) (shown : EventId → Bool) (rows : Rows) → IsOrder o → AreColumns o shown rows
    → (e : EventId) → HasEvent (lengths o) e → is_shown rows e ≡ shown e

-- the last shown one of so many events of a process is one, if there is one, and none of those
-- behind it is shown
pub record IsLastShown (rows : Rows) (process events position : ℕ) : Type 0 where
  pub within : position ≤ events
  pub itself : 0 < position → is_shown rows (place process position) ≡ true
  pub behind : (a : ℕ) → position < a → a ≤ events → is_shown rows (place process a) ≡ false

abbrev pub LastIsShown : Type 0
LastIsShown =
    (rows : Rows) (process events : ℕ)
    → IsLastShown rows process events (last_shown rows process events)

-- a run has one assignment of columns to what is shown, so that there is one picture of a run and a
-- report of it
abbrev pub ColumnsAreOne : Type 0
ColumnsAreOne =
    (o : Clocks) (shown : EventId → Bool) (rows others : Rows) → AreColumns o shown rows
    → AreColumns o shown others → rows ≡ others

-- so far from each other that discs of radius 11 don't meet
abbrev pub AreApart : Point → Point → Type 0
AreApart p q =
    ((p.x + 48 ≤ q.x) ⊎ (q.x + 48 ≤ p.x)) ⊎ ((p.y + 96 ≤ q.y) ⊎ (q.y + 96 ≤ p.y))

-- the marks of two shown events are apart
abbrev pub MarksAreApart : Type 0
MarksAreApart =
    (o : Clocks) (shown : EventId → Bool) (f : Frame) (rows : Rows) → IsOrder o
    → AreColumns o shown rows → (e g : EventId) → HasEvent (lengths o) e → HasEvent (lengths o) g
    → shown e ≡ true → shown g ≡ true → (e ≡ g → ⊥) → AreApart (at f rows e) (at f rows g)

-- a disc of radius 11 lies within the picture
pub record IsInside (f : Frame) (p : Point) : Type 0 where
  pub left : 11 ≤ p.x
  pub right : p.x + 11 ≤ f.width
  pub top : 11 ≤ p.y
  pub bottom : p.y + 11 ≤ f.height

-- the marks of the shown events lie within the picture
abbrev pub MarksAreInside : Type 0
MarksAreInside =
    (o : Clocks) (shown : EventId → Bool) (s : StatesView) (r : Report) (rows : Rows) → IsOrder o
    → AreColumns o shown rows → (e : EventId) → HasEvent (lengths o) e → shown e ≡ true
    → IsInside (frame_of s rows r) (at (frame_of s rows r) rows e)

-- on the lane of a process the line of a goal runs right of that of the least cut where the goal
-- has all that the least cut has there
abbrev pub GoalsAreBehindTheLeast : Type 0
GoalsAreBehindTheLeast =
    (o : Clocks) (shown : EventId → Bool) (f : Frame) (rows : Rows) → IsOrder o
    → AreColumns o shown rows → (low goal : Cut) (p : ℕ) → count low p ≤ count goal p
    → count goal p ≤ count (lengths o) p
    → crossing f rows low least_shift p < crossing f rows goal goal_shift p

-- and left of that of the greatest cut where the greatest cut has all that the goal has there
abbrev pub GoalsAreBeforeTheGreatest : Type 0
GoalsAreBeforeTheGreatest =
    (o : Clocks) (shown : EventId → Bool) (f : Frame) (rows : Rows) → IsOrder o
    → AreColumns o shown rows → (goal high : Cut) (p : ℕ) → count goal p ≤ count high p
    → count high p ≤ count (lengths o) p
    → crossing f rows goal goal_shift p < crossing f rows high greatest_shift p

-- and right of it where the goal has a shown event more
abbrev pub GoalsBeyondAreBeyond : Type 0
GoalsBeyondAreBeyond =
    (o : Clocks) (shown : EventId → Bool) (f : Frame) (rows : Rows) → IsOrder o
    → AreColumns o shown rows → (goal high : Cut) (p a : ℕ) → count high p < a
    → a ≤ count goal p → shown (place p a) ≡ true → count goal p ≤ count (lengths o) p
    → crossing f rows high greatest_shift p < crossing f rows goal goal_shift p

-- a byte that begins no tag and ends none
abbrev pub IsNoBracket : ℕ → Type 0
IsNoBracket b = (b ≡ 60 → ⊥) × (b ≡ 62 → ⊥)

-- no tag begins or ends in an escaped text
abbrev pub EscapedHasNoTag : Type 0
EscapedHasNoTag = (bytes : List ℕ) → AllByRecursion IsNoBracket (escaped bytes)
