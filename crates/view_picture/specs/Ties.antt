-- The ties of a picture: what happened before, and no arrow shows it.
use Rattle.std.specs.Prelude.{ℕ, zero, suc, ◌-◌, ◌==◌, ◌&&◌, ◌||◌, not, Bool, false, nat_lt}
use Rattle.std.specs.Prelude.{nat_le, List, [], ◌∷◌, length, map, Option, None, Some}
use Rattle.std.specs.Prelude.{if◌then◌else◌}
use Rattle.std.specs.List.{flat_map}
use Rattle.run_model.specs.Cut.{Clocks, count}
use Rattle.run_model.specs.Consistent.{clock}
use Rattle.pota_base.specs.declared.shape.EventId.{EventId}
use Rattle.event_log.specs.declared.log.Kind.{Kind}
use Rattle.event_log.specs.declared.log.Kind.TheVariants as kind
use Rattle.event_log.specs.States.{StatesView}
use Rattle.vector_clock.specs.Events.{clocks_of}
use Rattle.vector_clock.specs.Messages.{first_send}
use Rattle.slice_graph.specs.declared.edges.Edge.{Edge}
use Rattle.view_parts.specs.Each.{each_below}
use Rattle.view_parts.specs.Parts.{event_at, place}
use Rattle.view_picture.specs.Columns.{Rows}
use Rattle.view_picture.specs.Choice.{is_place}
use Rattle.view_picture.specs.Shown.{is_shown, last_shown, shown_events}

-- ---- messages

-- an event of a process at a position that may be known
abbrev pub placed : ℕ → Option ℕ → Option EventId
placed process None = None
placed process (Some position) = Some (place process position)

-- the event that sends what an event of this kind of a process receives
abbrev pub send_for : StatesView → ℕ → Kind → Option EventId
send_for s receiver kind.Internal = None
send_for s receiver (kind.Send to id) = None
send_for s receiver (kind.Receive sender id) =
    placed sender
    (first_send s.events (record { sender = sender; receiver = receiver; id = id }))

-- the event that sends what the event receives, if it receives something
abbrev pub send_of : StatesView → EventId → Option EventId
send_of s receipt = send_for s receipt.process (event_at s receipt).kind

abbrev pub if_shown : Rows → Option EventId → Option EventId
if_shown rows None = None
if_shown rows (Some e) = if is_shown rows e then Some e else None

-- the same where it is shown: then an arrow comes from there
abbrev pub shown_send : StatesView → Rows → EventId → Option EventId
shown_send s rows receipt = if_shown rows (send_of s receipt)

-- ---- what happened before an event

-- how many events of a process happened before an event
abbrev pub known : Clocks → EventId → ℕ → ℕ
known o e process =
    if process == e.process then e.position - 1
    else count (clock o e.process e.position) process

-- the last shown one of them, with position 0 where none is
abbrev pub last_known : Clocks → Rows → EventId → ℕ → EventId
last_known o rows e process = place process (last_shown rows process (known o e process))

-- whether the first event happened before the second one, which has position 0 where it isn't there
abbrev pub is_before : Clocks → EventId → EventId → Bool
is_before o e g = nat_lt 0 g.position && nat_le e.position (known o g e.process)

-- whether one of the numbers below n passes
unfoldable pub any_below : (ℕ → Bool) → ℕ → Bool
any_below passes zero = false
any_below passes (suc n) = any_below passes n || passes n

-- whether another shown event stands between the two
abbrev pub is_between : Clocks → Rows → EventId → EventId → Bool
is_between o rows e g =
    any_below (λ process. is_before o e (last_known o rows g process)) (length o)

abbrev pub is_some_place : EventId → Option EventId → Bool
is_some_place e None = false
is_some_place e (Some f) = is_place e f

-- Whether the last shown event of a process that happened before an event has a tie to it: it is on
-- another line, no arrow joins the two, and no other shown event stands between them.
abbrev pub is_tied : StatesView → Rows → EventId → ℕ → Bool
is_tied s rows e process =
    let o = clocks_of s.events in
    let last = last_known o rows e process in
    not (process == e.process)
    && (nat_lt 0 last.position
    && (not (is_some_place last (shown_send s rows e)) && not (is_between o rows last e)))

abbrev pub tie_from : StatesView → Rows → EventId → ℕ → List Edge
tie_from s rows e process =
    if is_tied s rows e process
    then record { cause = last_known (clocks_of s.events) rows e process; effect = e } ∷ []
    else []

-- the ties to an event
abbrev pub ties_to : StatesView → Rows → EventId → List Edge
ties_to s rows e = each_below (length s.events) (tie_from s rows e)

-- the ties to all events that are shown
abbrev pub ties_of : StatesView → Rows → List Edge
ties_of s rows = flat_map (ties_to s rows) (shown_events (map length s.events) rows)
