-- What is drawn of each event, message, edge and cut.
use Rattle.std.specs.Prelude.{ℕ, pos, ◌+◌, ◌-◌, ◌*◌, ◌/◌, min, max, Bool, true, false, nat_lt}
use Rattle.std.specs.Prelude.{nat_le, List}
use Rattle.std.specs.Prelude.{[], ◌∷◌, ◌++◌, length, take, get_or, codes, Option, None, Some}
use Rattle.std.specs.Prelude.{◌&&◌, ◌==◌, map, if◌then◌else◌}
use Rattle.std.specs.List.{count_by, flat_map, list_any}
use Rattle.std.specs.Fmt.{decimal, signed_decimal}
use Rattle.run_model.specs.Cut.{Cut, count}
use Rattle.pota_base.specs.declared.shape.EventId.{EventId}
use Rattle.log_lines.specs.Spelling.{clock_text}
use Rattle.event_log.specs.declared.log.Kind.{Kind}
use Rattle.event_log.specs.declared.log.Kind.TheVariants as kind
use Rattle.event_log.specs.declared.log.Assign.{Assign}
use Rattle.event_log.specs.LogText.{name_at}
use Rattle.event_log.specs.States.{StatesView}
use Rattle.witness_kinds.specs.declared.Witness.{Witness}
use Rattle.witness_kinds.specs.declared.Witness.TheVariants as witness
use Rattle.slice_graph.specs.declared.edges.Edge.{Edge}
use Rattle.view_parts.specs.Each.{each_below, own_places}
use Rattle.view_parts.specs.Parts.{event_at, variable_name, place_text, line_text, kind_text}
use Rattle.view_parts.specs.Parts.{assigns_text}
use Rattle.view_picture.specs.declared.svg.Point.{Point}
use Rattle.view_picture.specs.declared.frame.Frame.{Frame}
use Rattle.view_picture.specs.Columns.{Rows}
use Rattle.view_picture.specs.Shown.{is_shown, shown_events, left_out, has_shown}
use Rattle.view_picture.specs.Ties.{shown_send}
use Rattle.view_picture.specs.Svg.{line, circle, text}
use Rattle.view_picture.specs.Frame.{lane, behind, at}

abbrev pub point : ℕ → ℕ → Point
point x y = record { x = x; y = y }

-- ---- lanes

abbrev pub lane_line : Frame → Rows → ℕ → List ℕ
lane_line f rows process =
    line (point f.left (lane rows process)) (point (f.width - 20) (lane rows process))
    (codes " stroke='#bbbbbb' stroke-width='2'")

abbrev pub lane_name : StatesView → Rows → ℕ → List ℕ
lane_name s rows process =
    text (point 20 (lane rows process + 5)) (codes " font-size='15' font-weight='bold'")
    (name_at s.header.procs process)

-- a process without a shown event has no lane
abbrev pub lane_drawn : StatesView → Frame → Rows → ℕ → List ℕ
lane_drawn s f rows process =
    if has_shown (get_or rows process [])
    then lane_line f rows process ++ lane_name s rows process else []

-- ---- events that are left out

-- with a rim of white round the letters, since arrows run behind them
abbrev pub left_out_look : List ℕ
left_out_look =
    codes " font-size='10' text-anchor='middle' fill='#777777' stroke='#ffffff' stroke-width='3'"

-- `.. N ..` above a lane, where some are left out
abbrev pub left_out_text : Point → ℕ → List ℕ
left_out_text p n =
    if n == 0 then []
    else text (point p.x (p.y - 15)) left_out_look
    (codes ".. " ++ decimal n ++ codes " ..")

abbrev pub halfway : Point → Point → Point
halfway from to = point (from.x / 2 + to.x / 2) to.y

-- how many events stand between a shown one and the shown one before it
abbrev pub left_out_before : Frame → Rows → EventId → List ℕ
left_out_before f rows e =
    left_out_text (halfway (behind f rows e.process (e.position - 1)) (at f rows e))
    (left_out rows e.process (e.position - 1))

abbrev pub right_of : Point → Point
right_of p = point (p.x + 34) p.y

-- how many stand behind the last shown one of so many of a process
abbrev pub left_out_behind : Frame → Rows → ℕ → ℕ → List ℕ
left_out_behind f rows process events =
    if has_shown (get_or rows process [])
    then left_out_text (right_of (behind f rows process events)) (left_out rows process events)
    else []

-- the numbers of all that is left out on the lanes
abbrev pub left_out_drawn : StatesView → Frame → Rows → List ℕ
left_out_drawn s f rows =
    flat_map (left_out_before f rows) (shown_events (map length s.events) rows)
    ++ each_below (length s.events)
    (λ process. left_out_behind f rows process (get_or (map length s.events) process 0))

-- ---- ties

abbrev pub tie_look : List ℕ
tie_look = codes " stroke='#999999' stroke-width='1'"

-- a thin line from what happened before
abbrev pub tie_drawn : Frame → Rows → Edge → List ℕ
tie_drawn f rows tie = line (at f rows tie.cause) (at f rows tie.effect) tie_look

-- ---- messages

-- an arrow from a send to a receipt
abbrev pub arrow : Frame → Rows → EventId → EventId → List ℕ
arrow f rows send receipt =
    line (at f rows send) (at f rows receipt)
    (codes " stroke='#555555' stroke-width='1.5' marker-end='url(#message)'")

abbrev pub arrow_from : Frame → Rows → EventId → Option EventId → List ℕ
arrow_from f rows receipt None = []
arrow_from f rows receipt (Some send) = arrow f rows send receipt

-- the arrow of what an event receives, if it receives something whose send is shown
abbrev pub arrow_to : StatesView → Frame → Rows → EventId → List ℕ
arrow_to s f rows receipt = arrow_from f rows receipt (shown_send s rows receipt)

-- ---- the numbers of messages

abbrev pub is_receive : Kind → Bool
is_receive kind.Internal = false
is_receive (kind.Send to id) = false
is_receive (kind.Receive sender id) = true

-- whether the event receives something
abbrev pub receives : StatesView → EventId → Bool
receives s e = is_receive (event_at s e).kind

abbrev pub number_of : Kind → ℕ
number_of kind.Internal = 0
number_of (kind.Send to id) = id
number_of (kind.Receive sender id) = id

-- how many lanes further, at least one
abbrev pub lanes_apart : ℕ → ℕ → ℕ
lanes_apart from to = max (from - to + (to - from)) 1

-- on an arrow that goes so many lanes further, halfway to the next one
abbrev pub on_arrow : Point → Point → ℕ → Point
on_arrow from to lanes =
    point (from.x + (to.x - from.x) / (2 * lanes))
    (if nat_lt from.y to.y then from.y + 52 else from.y - 44)

-- with a rim of white round the digits, since the arrow runs behind them
abbrev pub message_number_look : List ℕ
message_number_look =
    codes " font-size='10' text-anchor='middle' fill='#555555' stroke='#ffffff' stroke-width='3'"

-- a number on the arrow from a send to a receipt
abbrev pub arrow_number : Frame → Rows → EventId → EventId → ℕ → List ℕ
arrow_number f rows send receipt number =
    text
    (on_arrow (at f rows send) (at f rows receipt) (lanes_apart send.process receipt.process))
    message_number_look (decimal number)

abbrev pub number_from : Frame → Rows → EventId → ℕ → Option EventId → List ℕ
number_from f rows receipt number None = []
number_from f rows receipt number (Some send) = arrow_number f rows send receipt number

-- the number at the arrow to an event, as the log has it
abbrev pub number_to : StatesView → Frame → Rows → EventId → List ℕ
number_to s f rows receipt =
    number_from f rows receipt (number_of (event_at s receipt).kind) (shown_send s rows receipt)

-- up to so many arrows have numbers
abbrev pub most_numbers : ℕ
most_numbers = 30

-- the numbers at all arrows, where not too many of the shown events receive something
abbrev pub numbers_drawn : StatesView → Frame → Rows → List ℕ
numbers_drawn s f rows =
    let events = shown_events (map length s.events) rows in
    if nat_le (count_by (receives s) events) most_numbers
    then flat_map (number_to s f rows) events else []

-- ---- messages that nothing receives

-- whether an event of this kind receives the message of this number from this process
abbrev pub is_receipt : ℕ → ℕ → Kind → Bool
is_receipt sender id kind.Internal = false
is_receipt sender id (kind.Send to number) = false
is_receipt sender id (kind.Receive from number) = from == sender && number == id

-- whether an event of the receiver does
abbrev pub is_received : StatesView → ℕ → ℕ → ℕ → Bool
is_received s sender receiver id =
    list_any (λ e. is_receipt sender id (event_at s e).kind)
    (own_places receiver (get_or (map length s.events) receiver 0))

-- to which process an event of this kind of a process sends what is not received
abbrev pub lost_for : StatesView → ℕ → Kind → Option ℕ
lost_for s sender kind.Internal = None
lost_for s sender (kind.Send to id) = if is_received s sender to id then None else Some to
lost_for s sender (kind.Receive from id) = None

-- to which process the event sends what is not received, if it does
abbrev pub lost_of : StatesView → EventId → Option ℕ
lost_of s send = lost_for s send.process (event_at s send).kind

-- where a short arrow from here ends, which points down or up
abbrev pub short_of : Point → Bool → Point
short_of p true = point (p.x + 28) (p.y + 18)
short_of p false = point (p.x + 28) (p.y - 18)

abbrev pub lost_look : List ℕ
lost_look = codes " stroke='#555555' stroke-width='1.5' marker-end='url(#lost)'"

-- a short arrow with an open end and a cross
abbrev pub lost_arrow : Point → Bool → List ℕ
lost_arrow p down = line p (short_of p down) lost_look

-- it points to the lane of the receiver
abbrev pub lost_to : Point → ℕ → Option ℕ → List ℕ
lost_to p sender None = []
lost_to p sender (Some receiver) = lost_arrow p (nat_lt sender receiver)

-- the short arrow of what an event sends, if it is not received
abbrev pub lost_from : StatesView → Frame → Rows → EventId → List ℕ
lost_from s f rows send = lost_to (at f rows send) send.process (lost_of s send)

-- ---- edges

-- ` X Y`
abbrev pub spot : Point → List ℕ
spot p = 32 ∷ (decimal p.x ++ 32 ∷ decimal p.y)

-- what draws a bow between two points upwards
abbrev pub bow : Point → Point → Point
bow from to = point (from.x / 2 + to.x / 2) (from.y / 2 + to.y / 2 - 36)

-- from the cause to the effect
abbrev pub edge_drawn : Frame → Rows → Edge → List ℕ
edge_drawn f rows e =
    codes "<path d='M" ++ spot (at f rows e.cause) ++ codes " Q"
    ++ spot (bow (at f rows e.cause) (at f rows e.effect)) ++ spot (at f rows e.effect)
    ++ (codes "' fill='none' stroke='#7a3db8' stroke-dasharray='5 4' marker-end='url(#edge)'/>"
    ++ 10 ∷ [])

-- ---- events

-- what a browser shows under the pointer
abbrev pub title : StatesView → EventId → List ℕ
title s e =
    codes "<title>" ++ line_text s e ++ codes ": " ++ place_text s.header.procs e ++ codes " "
    ++ kind_text s e ++ assigns_text s e ++ codes " clock " ++ clock_text (event_at s e).clock
    ++ (codes "</title>" ++ 10 ∷ [])

-- whether the event is beyond the greatest cut of the slice
abbrev pub is_beyond : Option Cut → EventId → Bool
is_beyond None e = false
is_beyond (Some top) e = nat_lt (count top e.process) e.position

-- with a white ring, so that an arrow which passes behind the mark has a gap there
abbrev pub mark_look : Bool → List ℕ
mark_look true = codes " fill='#c9c9c9' stroke='#ffffff' stroke-width='6'"
mark_look false = codes " fill='#2b6cb0' stroke='#ffffff' stroke-width='6'"

abbrev pub number_look : Bool → Bool → List ℕ
number_look true true = codes " font-size='11' text-anchor='middle' fill='#333333'"
number_look true false = codes " font-size='8' text-anchor='middle' fill='#333333'"
number_look false true = codes " font-size='11' text-anchor='middle' fill='#ffffff'"
number_look false false = codes " font-size='8' text-anchor='middle' fill='#ffffff'"

-- a disc at a point, with a number in it
abbrev pub disc : Point → Bool → ℕ → List ℕ
disc p beyond number =
    circle p 11 (mark_look beyond)
    ++ text (point p.x (p.y + 4)) (number_look beyond (nat_lt number 1000)) (decimal number)

-- a name that is longer is cut
abbrev pub name_within : ℕ → List ℕ → List ℕ
name_within most name =
    if nat_le (length name) most then name else take (most - 2) name ++ codes ".."

abbrev pub no_assign : Assign
no_assign = record { variable = 0; value = pos 0 }

-- `=VALUE`
abbrev pub value_text : Assign → List ℕ
value_text a = 61 ∷ signed_decimal a.value

-- so many bytes of an assignment have room in a column
abbrev pub room_for : Bool → ℕ
room_for true = 11
room_for false = 9

-- `NAME=VALUE`, of which the name is cut where there is no room for it
abbrev pub assigned : StatesView → Bool → ℕ → Assign → List ℕ
assigned s wide process a =
    name_within (room_for wide - length (value_text a)) (variable_name s process a.variable)
    ++ value_text a

-- the same of an assignment of an event
abbrev pub assign_text : StatesView → Bool → EventId → ℕ → List ℕ
assign_text s wide e k = assigned s wide e.process (get_or (event_at s e).assigns k no_assign)

-- with a thin rim of white round the letters, since arrows and cuts run behind them
abbrev pub under_look : Bool → List ℕ
under_look true = codes " text-anchor='middle' fill='#333333' stroke='#ffffff' stroke-width='3'"
under_look false =
    codes " font-size='9' text-anchor='middle' fill='#333333' stroke='#ffffff' stroke-width='3'"

-- a row under the mark of an event
abbrev pub under : Bool → Point → ℕ → List ℕ → List ℕ
under wide p row shown = text (point p.x (p.y + 33 + 12 * row)) (under_look wide) shown

-- that there are more assignments than are shown
abbrev pub more_under : Bool → Point → ℕ → List ℕ
more_under wide p count = if nat_lt 3 count then under wide p 3 (codes "..") else []

-- the first three assignments, and that there are more
abbrev pub assigns_under : StatesView → Bool → Point → EventId → List ℕ
assigns_under s wide p e =
    each_below (min (length (event_at s e).assigns) 3)
    (λ k. under wide p k (assign_text s wide e k))
    ++ more_under wide p (length (event_at s e).assigns)

-- the mark of an event: its title, its disc and its assignments
abbrev pub mark : StatesView → Frame → Rows → Option Cut → EventId → List ℕ
mark s f rows top e =
    codes "<g>" ++ title s e ++ disc (at f rows e) (is_beyond top e) e.position
    ++ assigns_under s f.wide (at f rows e) e ++ (codes "</g>" ++ 10 ∷ [])

-- ---- cuts

-- Lines run so far behind the last shown event that is in. Where cuts are the same on a lane, the
-- goal is between the least and the greatest one.
abbrev pub least_shift : ℕ
least_shift = 18

abbrev pub goal_shift : ℕ
goal_shift = 25

abbrev pub greatest_shift : ℕ
greatest_shift = 32

-- where the line of a cut crosses the lane of a process
abbrev pub crossing : Frame → Rows → Cut → ℕ → ℕ → ℕ
crossing f rows cut shift process = (behind f rows process (count cut process)).x + shift

-- ` X,Y`
abbrev pub corner : ℕ → ℕ → List ℕ
corner x y = 32 ∷ (decimal x ++ 44 ∷ decimal y)

abbrev pub corners : Frame → Rows → Cut → ℕ → ℕ → List ℕ
corners f rows cut shift process =
    corner (crossing f rows cut shift process) (lane rows process - 32)
    ++ corner (crossing f rows cut shift process) (lane rows process + 32)

-- the corners on a lane that is drawn
abbrev pub shown_corners : Frame → Rows → Cut → ℕ → ℕ → List ℕ
shown_corners f rows cut shift process =
    if has_shown (get_or rows process []) then corners f rows cut shift process else []

-- the line of a cut
abbrev pub cut_drawn : Frame → Rows → Cut → ℕ → List ℕ → List ℕ
cut_drawn f rows cut shift look =
    codes "<polyline points='" ++ each_below (length cut) (shown_corners f rows cut shift)
    ++ codes "' fill='none'" ++ look ++ (codes "/>" ++ 10 ∷ [])

abbrev pub least_look : List ℕ
least_look = codes " stroke='#7a3db8' stroke-width='2' stroke-dasharray='8 4'"

abbrev pub greatest_look : List ℕ
greatest_look = codes " stroke='#7a3db8' stroke-width='2' stroke-dasharray='2 3'"

abbrev pub goal_look : List ℕ
goal_look = codes " stroke='#b35900' stroke-width='2.5'"

-- ---- witnesses

-- with a rim of white round the digits, since a lane runs behind them
abbrev pub step_look : List ℕ
step_look =
    codes " font-weight='bold' text-anchor='end' fill='#b35900' stroke='#ffffff' stroke-width='4'"

-- the number of a step, at the left of its mark
abbrev pub numbered : Point → ℕ → List ℕ
numbered p number = text (point (p.x - 14) (p.y + 4)) step_look (decimal number)

abbrev pub no_place : EventId
no_place = record { process = 0; position = 0 }

-- the number of a step, where its event is shown
abbrev pub step_drawn : Frame → Rows → EventId → ℕ → List ℕ
step_drawn f rows e number =
    if is_shown rows e then numbered (at f rows e) number else []

abbrev pub steps_drawn : Frame → Rows → List EventId → List ℕ
steps_drawn f rows steps =
    each_below (length steps) (λ k. step_drawn f rows (get_or steps k no_place) (k + 1))

abbrev pub ring : Frame → Rows → EventId → List ℕ
ring f rows e = circle (at f rows e) 16 (codes " fill='none' stroke='#b35900' stroke-width='2.5'")

abbrev pub path_drawn : Frame → Rows → List EventId → Cut → List ℕ
path_drawn f rows steps goal =
    steps_drawn f rows steps ++ cut_drawn f rows goal goal_shift goal_look

-- a witness: its steps and its goal, or rings round a pair
abbrev pub witness_drawn : Frame → Rows → Witness → List ℕ
witness_drawn f rows witness.Nothing = []
witness_drawn f rows (witness.Reach path) = path_drawn f rows path.steps path.goal
witness_drawn f rows (witness.Against path) = path_drawn f rows path.steps path.goal
witness_drawn f rows (witness.Always path) = path_drawn f rows path.steps path.goal
witness_drawn f rows witness.StuckStart = []
witness_drawn f rows witness.StuckFinish = []
witness_drawn f rows (witness.StuckPair first other) = ring f rows first ++ ring f rows other
