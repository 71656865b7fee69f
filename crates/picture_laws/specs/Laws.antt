-- Laws of the picture, as statements.
use Rattle.std.specs.Prelude.{◌≡◌, ◌↔◌, ℕ, map, length, Some, Bool, true, if◌then◌else◌}
use Rattle.std.specs.List.{flat_map, AllByRecursion}
use Rattle.run_model.specs.Run.{Run}
use Rattle.run_model.specs.Formula.{Formula}
use Rattle.pota_base.specs.declared.shape.EventId.{EventId}
use Rattle.pota_base.specs.Shape.{HasEvent}
use Rattle.event_log.specs.States.{StatesView}
use Rattle.vector_clock.specs.declared.message.Message.{Message}
use Rattle.vector_clock.specs.Events.{clocks_of}
use Rattle.vector_clock.specs.Messages.{message_sent, message_received}
use Rattle.vector_clock.specs.Faultless.{AreFaultless}
use Rattle.slice_graph.specs.declared.edges.Edge.{Edge}
use Rattle.report.specs.declared.report.Report.{Report}
use Rattle.report.specs.Spelling.{IsWellFormed}
use Rattle.run_report.specs.Reports.{IsSliceShown}
use Rattle.view_parts.specs.Parts.{event_at, IsReportOf}
use Rattle.view_parts.specs.declared.extent.Extent.{Extent}
use Rattle.view_picture.specs.declared.frame.Frame.{Frame}
use Rattle.view_picture.specs.Choice.{is_wanted}
use Rattle.view_picture.specs.Columns.{Rows, AreColumns}
use Rattle.view_picture.specs.Laws.{times}
use Rattle.view_picture.specs.Shown.{is_shown, shown_events}
use Rattle.view_picture.specs.Drawing.{arrow_to, lost_of, edge_drawn}
use Rattle.picture_laws.specs.Lines.{Ends, between, times_drawn, message_lines, arrow_along}
use Rattle.picture_laws.specs.Lines.{first_edges, edge_line, edge_lines, dashed_along, times_listed}

-- the events of a run, which came without a fault, and the columns of as many of them as a picture
-- by the report shows
pub record IsDrawable (s : StatesView) (x : Extent) (r : Report) (rows : Rows) : Type 0 where
  pub faultless : AreFaultless (length s.header.procs) s.events
  pub columns : AreColumns (clocks_of s.events) (is_wanted s x r) rows

-- the event is there and is shown
pub record IsMarked (s : StatesView) (rows : Rows) (e : EventId) : Type 0 where
  pub there : HasEvent (map length s.events) e
  pub shown : is_shown rows e ≡ true

-- exactly the events that are asked for have a mark, and one
abbrev pub MarksAreOfWanted : Type 0
MarksAreOfWanted =
    (s : StatesView) (x : Extent) (r : Report) (rows : Rows) → IsDrawable s x r rows
    → (e : EventId) → HasEvent (map length s.events) e
    → times e (shown_events (map length s.events) rows) ≡ (if is_wanted s x r e then 1 else 0)

-- ---- messages

-- the event is there and sends the message
pub record IsSend (s : StatesView) (m : Message) (e : EventId) : Type 0 where
  pub there : HasEvent (map length s.events) e
  pub sends : message_sent e.process (event_at s e).kind ≡ Some m

-- the event is there and receives the message
pub record IsReceipt (s : StatesView) (m : Message) (e : EventId) : Type 0 where
  pub there : HasEvent (map length s.events) e
  pub receives : message_received e.process (event_at s e).kind ≡ Some m

-- what is drawn of the messages is an arrow along each of these lines
abbrev pub ArrowsAreDrawn : Type 0
ArrowsAreDrawn =
    (s : StatesView) (f : Frame) (rows : Rows)
    → flat_map (arrow_to s f rows) (shown_events (map length s.events) rows)
    ≡ flat_map arrow_along (message_lines s f rows)

-- where send and receipt of a message are shown, one of them runs from mark to mark
abbrev pub MessagesHaveOneArrow : Type 0
MessagesHaveOneArrow =
    (s : StatesView) (f : Frame) (x : Extent) (r : Report) (rows : Rows) → IsDrawable s x r rows
    → (m : Message) (send receipt : EventId) → IsSend s m send → IsReceipt s m receipt
    → is_shown rows send ≡ true → is_shown rows receipt ≡ true
    → times_drawn (between f rows send receipt) (message_lines s f rows) ≡ 1

-- the line runs from the mark of the send of a message to that of its receipt; both are shown
pub record IsOfMessage (s : StatesView) (f : Frame) (rows : Rows) (l : Ends) : Type 0 where
  pub message : Message
  pub send : EventId
  pub receipt : EventId
  pub sent : IsSend s message send
  pub received : IsReceipt s message receipt
  pub send_shown : is_shown rows send ≡ true
  pub receipt_shown : is_shown rows receipt ≡ true
  pub line_is : l ≡ between f rows send receipt

-- each of them is one of a message
abbrev pub ArrowsAreOfMessages : Type 0
ArrowsAreOfMessages =
    (s : StatesView) (f : Frame) (x : Extent) (r : Report) (rows : Rows) → IsDrawable s x r rows
    → AllByRecursion (IsOfMessage s f rows) (message_lines s f rows)

-- ---- messages that nothing receives

-- the event sends a message to this process, and no event receives it
pub record IsLostTo (s : StatesView) (send : EventId) (receiver : ℕ) : Type 0 where
  pub message : Message
  pub sent : IsSend s message send
  pub receiver_is : message.receiver ≡ receiver
  pub lost : (receipt : EventId) → IsReceipt s message receipt → ⊥

-- an event has a short arrow to the lane of a process exactly where it does
abbrev pub ShortArrowsAreOfLost : Type 0
ShortArrowsAreOfLost =
    (s : StatesView) (send : EventId) (receiver : ℕ) → HasEvent (map length s.events) send
    → (lost_of s send ≡ Some receiver) ↔ IsLostTo s send receiver

-- ---- edges

-- what is drawn of the edges is a dashed line along each of these
abbrev pub EdgeLinesAreDrawn : Type 0
EdgeLinesAreDrawn =
    (f : Frame) (rows : Rows) (r : Report)
    → flat_map (edge_drawn f rows) (first_edges r) ≡ flat_map dashed_along (edge_lines f rows r)

-- as many of them run from the mark of the cause of an edge to that of its effect as the edge
-- stands among the first 40 of the report: one where it stands there once
abbrev pub FirstEdgesHaveTheirLines : Type 0
FirstEdgesHaveTheirLines =
    (s : StatesView) (f : Frame) (x : Extent) (r : Report) (rows : Rows) → IsDrawable s x r rows
    → IsWellFormed r → IsReportOf s r → (e : Edge) → IsMarked s rows e.cause
    → IsMarked s rows e.effect → times_drawn (between f rows e.cause e.effect) (edge_lines f rows r)
    ≡ times_listed e (first_edges r)

-- so each of the first 40 edges has one, where the slice that the report tells of is shown of a run
abbrev pub EachFirstEdgeHasOneLine : Type 0
EachFirstEdgeHasOneLine =
    (s : StatesView) (f : Frame) (x : Extent) (r : Report) (rows : Rows) → IsDrawable s x r rows
    → IsWellFormed r → IsReportOf s r → (asked : Bool) (run : Run) (formula : Formula)
    → IsSliceShown asked run formula r.slice
    → AllByRecursion (λ e. times_drawn (edge_line f rows e) (edge_lines f rows r) ≡ 1)
    (first_edges r)
