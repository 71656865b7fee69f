-- Small logs with one fault each.
use Rattle.std.specs.Prelude.{ℕ, List, [], ◌∷◌}
use Rattle.event_log.specs.declared.log.Kind.{Kind}
use Rattle.event_log.specs.declared.log.Kind.TheVariants as kind
use Rattle.event_log.specs.declared.log.Event.{Event}

-- an event of a process at a line, without assignments
abbrev pub event : ℕ → ℕ → List ℕ → Kind → Event
event process line clock kind =
    record { process = process; line = line; clock = clock; kind = kind; assigns = [] }

-- ev P 1 int / ev P 3 int
abbrev pub skips_its_place : List Event
skips_its_place = event 0 3 (1 ∷ []) kind.Internal ∷ event 0 4 (3 ∷ []) kind.Internal ∷ []

-- ev P 1,0 int / ev Q 1,1 int / ev Q 0,2 int
abbrev pub forgets_an_event : List Event
forgets_an_event =
    event 0 3 (1 ∷ 0 ∷ []) kind.Internal ∷ event 1 4 (1 ∷ 1 ∷ []) kind.Internal
    ∷ event 1 5 (0 ∷ 2 ∷ []) kind.Internal ∷ []

-- ev P 1,1 int
abbrev pub names_no_event : List Event
names_no_event = event 0 3 (1 ∷ 1 ∷ []) kind.Internal ∷ []

-- ev P 1,0,0 int / ev Q 1,1,0 int / ev R 0,1,1 int
abbrev pub leaves_a_past_out : List Event
leaves_a_past_out =
    event 0 3 (1 ∷ 0 ∷ 0 ∷ []) kind.Internal ∷ event 1 4 (1 ∷ 1 ∷ 0 ∷ []) kind.Internal
    ∷ event 2 5 (0 ∷ 1 ∷ 1 ∷ []) kind.Internal ∷ []

-- ev P 1,1 int / ev Q 1,1 int
abbrev pub name_each_other : List Event
name_each_other = event 0 3 (1 ∷ 1 ∷ []) kind.Internal ∷ event 1 4 (1 ∷ 1 ∷ []) kind.Internal ∷ []

-- ev P 1,0 send Q 1 / ev P 2,0 send Q 1
abbrev pub sends_again : List Event
sends_again = event 0 3 (1 ∷ 0 ∷ []) (kind.Send 1 1) ∷ event 0 4 (2 ∷ 0 ∷ []) (kind.Send 1 1) ∷ []

-- ev Q 0,1 recv P 9
abbrev pub receives_no_message : List Event
receives_no_message = event 1 3 (0 ∷ 1 ∷ []) (kind.Receive 0 9) ∷ []

-- ev P 1,0 send Q 1 / ev Q 0,1 recv P 1
abbrev pub receives_before_the_send : List Event
receives_before_the_send =
    event 0 3 (1 ∷ 0 ∷ []) (kind.Send 1 1) ∷ event 1 4 (0 ∷ 1 ∷ []) (kind.Receive 0 1) ∷ []

-- ---- longer logs, of two processes P and Q

-- ev P 1,0 send Q 1 / ev P 2,0 int / ev Q 1,1 recv P 1 / ev Q 1,2 send P 2 / ev P 3,2 recv Q 2
abbrev pub two_messages : List Event
two_messages =
    event 0 5 (1 ∷ 0 ∷ []) (kind.Send 1 1) ∷ event 0 6 (2 ∷ 0 ∷ []) kind.Internal
    ∷ event 1 7 (1 ∷ 1 ∷ []) (kind.Receive 0 1)
    ∷ event 1 8 (1 ∷ 2 ∷ []) (kind.Send 0 2) ∷ event 0 9 (3 ∷ 2 ∷ []) (kind.Receive 1 2) ∷ []

-- its first two events, a batch, its events Q 1 and P 3, a batch, its event Q 2: P 3 names an event
-- that comes in the next batch
abbrev pub names_the_next_batch : List (List Event)
names_the_next_batch =
    (event 0 5 (1 ∷ 0 ∷ []) (kind.Send 1 1) ∷ event 0 6 (2 ∷ 0 ∷ []) kind.Internal ∷ [])
    ∷ (event 1 8 (1 ∷ 1 ∷ []) (kind.Receive 0 1) ∷ event 0 9 (3 ∷ 2 ∷ []) (kind.Receive 1 2) ∷ [])
    ∷ (event 1 11 (1 ∷ 2 ∷ []) (kind.Send 0 2) ∷ []) ∷ []
