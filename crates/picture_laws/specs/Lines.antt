-- The lines of the picture that stand for messages and for edges.
use Rattle.std.specs.Prelude.{ℕ, ◌+◌, ◌&&◌, ◌==◌, Bool, List, [], ◌∷◌, ◌++◌, codes, map, take}
use Rattle.std.specs.Prelude.{length, Option, None, Some, if◌then◌else◌}
use Rattle.std.specs.List.{flat_map}
use Rattle.pota_base.specs.declared.shape.EventId.{EventId}
use Rattle.event_log.specs.States.{StatesView}
use Rattle.slice_graph.specs.declared.edges.Edge.{Edge}
use Rattle.report.specs.declared.report.Report.{Report}
use Rattle.view_picture.specs.declared.svg.Point.{Point}
use Rattle.view_picture.specs.declared.frame.Frame.{Frame}
use Rattle.view_picture.specs.Columns.{Rows}
use Rattle.view_picture.specs.Svg.{line}
use Rattle.view_picture.specs.Frame.{at}
use Rattle.view_picture.specs.Drawing.{spot, bow}
use Rattle.view_picture.specs.Told.{most_edges, edges_of}
use Rattle.view_picture.specs.Choice.{is_place}
use Rattle.view_picture.specs.Shown.{shown_events}
use Rattle.view_picture.specs.Ties.{shown_send}

-- where a line begins and where it ends
pub record Ends : Type 0 where
  pub begin : Point
  pub finish : Point

-- from the mark of an event to the mark of another
abbrev pub between : Frame → Rows → EventId → EventId → Ends
between f rows first other = record { begin = at f rows first; finish = at f rows other }

abbrev pub is_point : Point → Point → Bool
is_point p q = p.x == q.x && p.y == q.y

abbrev pub has_ends : Ends → Ends → Bool
has_ends l m = is_point l.begin m.begin && is_point l.finish m.finish

-- how many of these lines begin and end as this one
abbrev pub times_drawn : Ends → List Ends → ℕ
times_drawn l [] = 0
times_drawn l (m ∷ ms) = if has_ends l m then times_drawn l ms + 1 else times_drawn l ms

-- ---- messages

-- to the mark of a receipt, from that of its send
abbrev pub line_from : Frame → Rows → EventId → Option EventId → List Ends
line_from f rows receipt None = []
line_from f rows receipt (Some send) = between f rows send receipt ∷ []

abbrev pub line_to : StatesView → Frame → Rows → EventId → List Ends
line_to s f rows receipt = line_from f rows receipt (shown_send s rows receipt)

-- for each shown event in turn, that of what it receives
abbrev pub message_lines : StatesView → Frame → Rows → List Ends
message_lines s f rows = flat_map (line_to s f rows) (shown_events (map length s.events) rows)

-- a straight line with the head of an arrow
abbrev pub arrow_along : Ends → List ℕ
arrow_along l =
    line l.begin l.finish
    (codes " stroke='#555555' stroke-width='1.5' marker-end='url(#message)'")

-- ---- edges

abbrev pub first_edges : Report → List Edge
first_edges r = take most_edges (edges_of r.slice)

-- from the mark of the cause to the mark of the effect
abbrev pub edge_line : Frame → Rows → Edge → Ends
edge_line f rows e = between f rows e.cause e.effect

abbrev pub edge_lines : Frame → Rows → Report → List Ends
edge_lines f rows r = map (edge_line f rows) (first_edges r)

-- a dashed line that is bent upwards, with the head of an arrow
abbrev pub dashed_along : Ends → List ℕ
dashed_along l =
    codes "<path d='M" ++ spot l.begin ++ codes " Q" ++ spot (bow l.begin l.finish)
    ++ spot l.finish
    ++ (codes "' fill='none' stroke='#7a3db8' stroke-dasharray='5 4' marker-end='url(#edge)'/>"
    ++ 10 ∷ [])

abbrev pub is_edge : Edge → Edge → Bool
is_edge e g = is_place e.cause g.cause && is_place e.effect g.effect

-- how often the edge stands among these
abbrev pub times_listed : Edge → List Edge → ℕ
times_listed e [] = 0
times_listed e (g ∷ gs) = if is_edge e g then times_listed e gs + 1 else times_listed e gs
