-- The events of a batch as the nodes of a graph, known by their places in the batch, counted from
-- 0, and what those without a clock look back on.
use Rattle.std.specs.Prelude.{◌≡◌, ℕ, ◌+◌, ◌<◌, ◌⊎◌, Bool, true, ◌&&◌, ◌==◌, nat_lt, nat_le}
use Rattle.std.specs.Prelude.{List, [], ◌∷◌, ◌++◌, length, map, take, set, get_or, Option, None}
use Rattle.std.specs.Prelude.{Some}
use Rattle.std.specs.Prelude.{if◌then◌else◌}
use Rattle.std.specs.Option.{option_map}
use Rattle.event_log.specs.PassedOn.{choose}
use Rattle.run_model.specs.Cut.{Cut, Clocks, count}
use Rattle.run_model.specs.Consistent.{clock}
use Rattle.pota_base.specs.Shape.{HasEvent}
use Rattle.event_log.specs.declared.log.Event.{Event}
use Rattle.event_log.specs.States.{with_batch}
use Rattle.greatest_reach.specs.declared.reach.Start.{Start}
use Rattle.greatest_reach.specs.Back.{IsGreatest}
use Rattle.greatest_reach.specs.Graph.{Reads, Starts}
use Rattle.vector_clock.specs.declared.message.Message.{Message}
use Rattle.vector_clock.specs.declared.places.Places.{Places}
use Rattle.vector_clock.specs.declared.nodes.Target.{Target}
use Rattle.vector_clock.specs.declared.nodes.Target.TheVariants.{Admitted, InBatch}
use Rattle.vector_clock.specs.declared.nodes.Node.{Node}
use Rattle.vector_clock.specs.Events.{Events, place}
use Rattle.vector_clock.specs.Messages.{message_received, first_send, sends}
use Rattle.vector_clock.specs.Met.{met_at}
use Rattle.vector_clock.specs.Fill.{Place, IsBefore, no_event}
use Rattle.vector_clock.specs.Filled.{is_left_out}

-- ---- one event

-- the event at this place of the batch
abbrev pub event_in : List Event → ℕ → Event
event_in batch k = get_or batch k no_event

-- its place among all events
abbrev pub node_place : Events → List Event → ℕ → Place
node_place events batch k = record {
  process = (event_in batch k).process;
  position = place (with_batch events (take k batch)) (event_in batch k);
}

abbrev pub target_place : Events → List Event → Target → Place
target_place events batch (Admitted id) =
    record { process = id.process; position = id.position }
target_place events batch (InBatch k) = node_place events batch k

-- it is an event that was admitted, or one of the first ones of the batch
abbrev pub IsTarget : List ℕ → ℕ → Option Target → Type 0
IsTarget lens n None = Unit {0}
IsTarget lens n (Some (Admitted id)) = HasEvent lens id
IsTarget lens n (Some (InBatch k)) = k < n

-- if it is one of the batch, it is one of the first ones
abbrev pub IsBeforeInBatch : ℕ → Option Target → Type 0
IsBeforeInBatch n None = Unit {0}
IsBeforeInBatch n (Some (Admitted id)) = Unit {0}
IsBeforeInBatch n (Some (InBatch k)) = k < n

-- the target is the one place of which the fact holds, and there is none where it holds of none
abbrev pub Finds : Events → List Event → (Place → Type 0) → Option Target → Type 0
Finds events batch P None = (y : Place) → P y → ⊥
Finds events batch P (Some t) =
    P (target_place events batch t) × ((y : Place) → P y → y ≡ target_place events batch t)

-- ---- where messages are sent first

-- the place of the first event that passes the test, counted from 0
unfoldable pub first_index : (Event → Bool) → List Event → Option ℕ
first_index test [] = None
first_index test (e ∷ es) = if test e then Some 0 else option_map (λ k. k + 1) (first_index test es)

-- the first send of each message in the batch is kept
abbrev pub AreSends : Places → List Event → Type 0
AreSends places batch =
    (m : Message) → (met_at places m).sent ≡ first_index (sends m) batch

-- the event of a process, if it was admitted
abbrev pub admitted_at : List ℕ → ℕ → ℕ → Option Target
admitted_at lens p a =
    if nat_lt 0 a && nat_le a (get_or lens p 0)
    then Some (Admitted (record { process = p; position = a })) else None

-- the first send of a message, whether it was admitted or is in the batch
abbrev pub sent_at : List ℕ → Option ℕ → Option ℕ → Message → Option Target
sent_at lens before within m =
    choose before (λ a. admitted_at lens m.sender a) (option_map (λ k. InBatch k) within)

-- the first send of what the event receives
abbrev pub send_of : List ℕ → Events → List Event → Event → Option Target
send_of lens events batch e =
    choose (message_received e.process e.kind)
    (λ m. sent_at lens (first_send events m) (first_index (sends m) batch) m) None

-- ---- all events

abbrev pub no_node : Node
no_node = record { position = 0; before = None; sent = None }

abbrev pub node_at : List Node → ℕ → Node
node_at nodes k = get_or nodes k no_node

-- the node has its place, and what it looks back on
pub record IsNode (events : Events) (batch : List Event) (k : ℕ) (node : Node) : Type 0 where
  pub position : node.position ≡ (node_place events batch k).position
  pub before : Finds events batch (IsBefore (node_place events batch k)) node.before
  pub sent : node.sent ≡ send_of (map length events) events batch (event_in batch k)

-- these are the nodes of the first events of the batch
abbrev pub AreNodes : Events → List Event → ℕ → List Node → Type 0
AreNodes events batch n nodes = (k : ℕ) → k < n → IsNode events batch k (node_at nodes k)

-- each target is there
pub record HaveTargets (lens : List ℕ) (n : ℕ) (nodes : List Node) : Type 0 where
  pub before : (k : ℕ) → IsTarget lens n (node_at nodes k).before
  pub sent : (k : ℕ) → IsTarget lens n (node_at nodes k).sent

-- the same of those in the batch alone
abbrev pub AreWithin : ℕ → List Node → Type 0
AreWithin n nodes =
    (k : ℕ) → IsBeforeInBatch n (node_at nodes k).before × IsBeforeInBatch n (node_at nodes k).sent

-- the last event of each process
abbrev pub AreLasts : List ℕ → List (Option Target) → Type 0
AreLasts lens lasts =
    (length lasts ≡ length lens)
    × ((p : ℕ) → p < length lens
    → get_or lasts p None ≡ admitted_at lens p (get_or lens p 0))

-- ---- the graph

-- the event x leaves its clock out and looks back on the event y of the batch
pub record LooksTo (batch : List Event) (nodes : List Node) (x y : ℕ) : Type 0 where
  pub left_out : is_left_out (event_in batch x) ≡ true
  pub target : ((node_at nodes x).before ≡ Some (InBatch y))
      ⊎ ((node_at nodes x).sent ≡ Some (InBatch y))

-- of each node those among the first ones that look back on it
pub record AreReaders (batch : List Event) (nodes : List Node) (i : ℕ)
    (readers : List (List ℕ)) : Type 0 where
  pub nodes_are : length readers ≡ length batch
  pub sound : (x y : ℕ) → Reads readers x y → (x < i) × LooksTo batch nodes x y
  pub all : (x y : ℕ) → x < i → LooksTo batch nodes x y → Reads readers x y

abbrev pub with_reader : List (List ℕ) → ℕ → Option Target → List (List ℕ)
with_reader readers x None = readers
with_reader readers x (Some (Admitted id)) = readers
with_reader readers x (Some (InBatch k)) = set readers k (get_or readers k [] ++ x ∷ [])

-- ---- the numbers of one process

-- the count of an admitted event starts at the node that looks back on it
abbrev pub admitted_start : Clocks → ℕ → ℕ → Option Target → List Start
admitted_start o j x None = []
admitted_start o j x (Some (InBatch k)) = []
admitted_start o j x (Some (Admitted id)) =
    record { value = count (clock o id.process id.position) j; node = x } ∷ []

-- a written clock starts with its count, and an event without one with its position on its own
-- process, and with the counts of the admitted events that it looks back on
abbrev pub starts_of : Clocks → ℕ → ℕ → Event → Node → List Start
starts_of o j x e node =
    if is_left_out e
    then (if e.process == j then record { value = node.position; node = x } ∷ [] else [])
    ++ (admitted_start o j x node.before ++ admitted_start o j x node.sent)
    else record { value = count e.clock j; node = x } ∷ []

-- these are the numbers that start at the first nodes
pub record AreStarts (o : Clocks) (j : ℕ) (batch : List Event) (nodes : List Node) (i : ℕ)
    (starts : List Start) : Type 0 where
  pub sound : (x n : ℕ) → Starts starts x n
      → (x < i) × Starts (starts_of o j x (event_in batch x) (node_at nodes x)) x n
  pub all : (x n : ℕ) → x < i
      → Starts (starts_of o j x (event_in batch x) (node_at nodes x)) x n → Starts starts x n

-- the number starts at this node
abbrev pub StartsAt : Clocks → List Event → List Node → ℕ → ℕ → ℕ → Type 0
StartsAt o batch nodes j x n =
    (x < length batch) × Starts (starts_of o j x (event_in batch x) (node_at nodes x)) x n

-- each node has the greatest number of this process that reaches it
pub record AreCounts (o : Clocks) (batch : List Event) (nodes : List Node)
    (readers : List (List ℕ)) (j : ℕ) (values : List ℕ) : Type 0 where
  pub width : length values ≡ length batch
  pub each : (k : ℕ) → k < length batch
      → IsGreatest (Reads readers) (StartsAt o batch nodes j) k (get_or values k 0)

-- each node has its counts of the first processes
pub record HaveCounts (o : Clocks) (batch : List Event) (nodes : List Node)
    (readers : List (List ℕ)) (j : ℕ) (clocks : List Cut) : Type 0 where
  pub nodes_are : length clocks ≡ length batch
  pub width : (k : ℕ) → k < length batch → length (get_or clocks k []) ≡ j
  pub counts : (k i : ℕ) → k < length batch → i < j
      → IsGreatest (Reads readers) (StartsAt o batch nodes i) k (count (get_or clocks k []) i)

-- each clock has one count more
pub record HaveMore (old new : List Cut) (values : List ℕ) : Type 0 where
  pub nodes_are : length new ≡ length old
  pub each : (k : ℕ) → k < length old
      → get_or new k [] ≡ get_or old k [] ++ get_or values k 0 ∷ []

-- the event with this clock, if it leaves its own out
abbrev pub with_clock : Event → Cut → Event
with_clock e c = if is_left_out e then record e { clock = c } else e

-- each event of the batch, with its clock of these where it leaves its own out
pub record AreFilled (batch : List Event) (clocks : List Cut) (filled : List Event) : Type 0 where
  pub size : length filled ≡ length batch
  pub each : (k : ℕ) → k < length batch
      → event_in filled k ≡ with_clock (event_in batch k) (get_or clocks k [])
