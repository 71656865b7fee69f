-- The names of an event line as numbers, with the first thing that is wrong with them.
use Rattle.std.specs.Prelude.{ℕ, Bool, true, false, not, ◌||◌, ◌==◌, nat_lt, List, [], ◌∷◌, ◌++◌}
use Rattle.std.specs.Prelude.{length, map, slice_index_or, Option, None, Some, Result, Ok, Err}
use Rattle.pota_base.specs.Limits.{most_events}
use Rattle.log_lines.specs.Names.{Name, place_of}
use Rattle.log_lines.specs.Spelling.{NamedValue, Action, Internal, Send, Receive, EventLine}
use Rattle.event_log.specs.declared.item.LogCode.{LogCode}
use Rattle.event_log.specs.declared.item.LogCode.TheVariants as code
use Rattle.event_log.specs.declared.log.Binding.{Binding}
use Rattle.event_log.specs.declared.log.Kind.{Kind}
use Rattle.event_log.specs.declared.log.Kind.TheVariants as kind
use Rattle.event_log.specs.declared.log.Assign.{Assign}
use Rattle.event_log.specs.declared.log.Event.{Event}

infixl 10 ◌>>=◌
abbrev pub ◌>>=◌ : {A B : Type 0} → Result A LogCode → (A → Result B LogCode) → Result B LogCode
(Ok x) >>= f = f x
(Err e) >>= f = Err e

-- the value, or this fault where there is none
abbrev pub known : {A : Type 0} → LogCode → Option A → Result A LogCode
known fault None = Err fault
known fault (Some x) = Ok x

-- this fault where the test fails
abbrev pub guarded : {A : Type 0} → LogCode → Bool → Result A LogCode → Result A LogCode
guarded fault true next = next
guarded fault false next = Err fault

-- the names of variables
abbrev pub binding_names : List Binding → List Name
binding_names bindings = map (λ (b : Binding). b.name) bindings

-- the variables of a process, none where no list is kept for it
abbrev pub variables_at : List (List Binding) → ℕ → List Binding
variables_at variables process = slice_index_or variables process []

abbrev pub kind_in : List Name → Action → Result Kind LogCode
kind_in procs Internal = Ok kind.Internal
kind_in procs (Send to id) =
    known code.UnknownProcess (place_of procs to) >>= λ p. Ok (kind.Send p id)
kind_in procs (Receive sender id) =
    known code.UnknownProcess (place_of procs sender) >>= λ p. Ok (kind.Receive p id)

-- whether a message is one from the process to itself
abbrev pub is_to_itself : ℕ → Kind → Bool
is_to_itself process kind.Internal = false
is_to_itself process (kind.Send to id) = to == process
is_to_itself process (kind.Receive sender id) = sender == process

-- an assignment with its variable by number
abbrev pub assign_in : List Name → NamedValue → Result Assign LogCode
assign_in variables v =
    known code.UnknownVariable (place_of variables v.name)
    >>= λ i. Ok (record { variable = i; value = v.value })

-- the assignments, after those in front
unfoldable pub assigns_in : List Name → List Assign → List NamedValue → Result (List Assign) LogCode
assigns_in variables front [] = Ok front
assigns_in variables front (v ∷ vs) =
    assign_in variables v >>= λ a. assigns_in variables (front ++ a ∷ []) vs

-- a clock may be left out in version 2 alone
abbrev pub may_stand : ℕ → List ℕ → Bool
may_stand version clock = not (length clock == 0) || version == 2

-- a clock that isn't left out has a count for each process
abbrev pub has_width : ℕ → List ℕ → Bool
has_width procs clock = length clock == procs || length clock == 0

-- The event of this line, after so many events of the log. The acting process is looked up first,
-- then the peer of a message.
unfoldable pub event_named : ℕ → List Name → List (List Binding) → ℕ → ℕ → EventLine
    → Result Event LogCode
event_named version procs variables line events e =
    guarded code.BadLine (may_stand version e.clock)
    (known code.UnknownProcess (place_of procs e.actor) >>= λ process.
    kind_in procs e.action >>= λ kind.
    guarded code.ClockWidth (has_width (length procs) e.clock)
    (guarded code.SelfMessage (not (is_to_itself process kind))
    (assigns_in (binding_names (variables_at variables process)) [] e.assigns >>= λ assigns.
    guarded code.TooManyEvents (nat_lt events most_events)
    (Ok (record { process = process; line = line; clock = e.clock; kind = kind; assigns = assigns }
    )))))
