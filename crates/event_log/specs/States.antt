-- The data of a trace: the header, and the events of each process in their order.
use Rattle.std.specs.Prelude.{◌≡◌, ℕ, ℤ, ◌+◌, ◌<◌, ◌≤◌, true, List, [], ◌∷◌, ◌++◌, length, map}
use Rattle.std.specs.Prelude.{take, set, sum, get_or, replicate}
use Rattle.std.specs.List.{AllByRecursion}
use Rattle.log_lines.specs.Names.{are_distinct}
use Rattle.event_log.specs.declared.log.Binding.{Binding}
use Rattle.event_log.specs.declared.log.Header.{Header}
use Rattle.event_log.specs.declared.log.Kind.{Kind}
use Rattle.event_log.specs.declared.log.Kind.TheVariants as kind
use Rattle.event_log.specs.declared.log.Assign.{Assign}
use Rattle.event_log.specs.declared.log.Event.{Event}
use Rattle.event_log.specs.declared.log.Log.{Log}
use Rattle.event_log.specs.Numbers.{binding_names}
use Rattle.run_model.specs.Run as run
use Rattle.pota_base.specs.Limits.{most_events, most_processes}

-- ---- logged values as the run model has them, without their lines

abbrev pub assignment_of : Assign → run.Assignment
assignment_of a = record { variable = a.variable; value = a.value }

abbrev pub kind_of : Kind → run.Kind
kind_of kind.Internal = run.Internal
kind_of (kind.Send to id) = run.Send to id
kind_of (kind.Receive sender id) = run.Receive sender id

abbrev pub event_of : Event → run.Event
event_of e =
    record { clock = e.clock; kind = kind_of e.kind; assigns = map assignment_of e.assigns }

abbrev pub variable_of : Binding → run.Variable
variable_of b = record { name = b.name; value = b.value }

-- ---- one process

-- its opening state and its events
pub record HistoryView : Type 0 where
  pub opening : List ℤ
  pub events : List Event

-- all states of the process, the opening state first
abbrev pub states_in : HistoryView → List (List ℤ)
states_in h = run.states_from h.opening (map event_of h.events)

-- one row after the other
abbrev pub joined : List (List ℤ) → List ℤ
joined [] = []
joined (row ∷ rows) = row ++ joined rows

-- these values are the rows of the states, of this width, the opening state first
pub record IsHistory (width : ℕ) (values : List ℤ) (events : List Event) : Type 0 where
  pub wide : length (take width values) ≡ width
  pub rows : values ≡ joined (states_in (record { opening = take width values; events = events }))

-- the event assigns variables that are there
abbrev pub AssignsWithin : ℕ → Event → Type 0
AssignsWithin width e = AllByRecursion (λ (a : Assign). a.variable < width) e.assigns

-- ---- all processes

-- a header and the events of each process
pub record StatesView : Type 0 where
  pub header : Header
  pub events : List (List Event)

-- the opening values of each process
abbrev pub openings_of : List (List Binding) → List (List ℤ)
openings_of vars = map (map (λ (b : Binding). b.value)) vars

-- the run that is logged so
abbrev pub processes_of : List (List ℕ) → List (List Binding) → List (List Event) → run.Trace
processes_of [] vars events = []
processes_of (n ∷ ns) [] events = []
processes_of (n ∷ ns) (v ∷ vs) [] = []
processes_of (n ∷ ns) (v ∷ vs) (es ∷ ess) =
    record { name = n; variables = map variable_of v; events = map event_of es }
    ∷ processes_of ns vs ess

abbrev pub trace_of : StatesView → run.Trace
trace_of s = processes_of s.header.procs s.header.vars s.events

-- the event behind those of its process
abbrev pub with_event : List (List Event) → Event → List (List Event)
with_event events e = set events e.process (get_or events e.process [] ++ e ∷ [])

-- each event of the batch, in order, behind those of its process
unfoldable pub with_batch : List (List Event) → List Event → List (List Event)
with_batch events [] = events
with_batch events (e ∷ rest) = with_batch (with_event events e) rest

-- no two variables have one name
abbrev pub AreNamedApart : List Binding → Type 0
AreNamedApart bindings = are_distinct (binding_names bindings) ≡ true

-- 1 to 32 processes and a list of variables for each. No two processes have one name, nor have two
-- variables of one process
pub record IsHeader (header : Header) : Type 0 where
  pub some : 1 ≤ length header.procs
  pub few : length header.procs ≤ most_processes
  pub vars : length header.vars ≡ length header.procs
  pub distinct : are_distinct header.procs ≡ true
  pub variables : AllByRecursion AreNamedApart header.vars

-- a header, and a list of events for each of its processes
pub record AreWhole (s : StatesView) : Type 0 where
  pub header : IsHeader s.header
  pub events : length s.events ≡ length s.header.procs

-- the process of the event is there, and so are the variables that it assigns
pub record IsKnown (header : Header) (e : Event) : Type 0 where
  pub process : e.process < length header.procs
  pub assigns : AssignsWithin (length (get_or header.vars e.process [])) e

-- the batch may follow these events
pub record MayFollow (header : Header) (events : List (List Event)) (batch : List Event)
    : Type 0 where
  pub known : AllByRecursion (IsKnown header) batch
  pub few : sum (map length events) + length batch ≤ most_events

-- ---- what the code keeps

-- the fields fit each other: one history for each process, with its opening values, and the shape
-- is that of the events
pub record AreStates (header : Header) (shape : List ℕ) (histories : List HistoryView)
    : Type 0 where
  pub fits : IsHeader header
  pub openings : map (λ (h : HistoryView). h.opening) histories ≡ openings_of header.vars
  pub lens : shape ≡ map (λ (h : HistoryView). length h.events) histories

-- ---- the trace of a log

-- the events of each batch in turn, behind those of their processes
abbrev pub with_batches : List (List Event) → List (List Event) → List (List Event)
with_batches events [] = events
with_batches events (batch ∷ rest) = with_batches (with_batch events batch) rest

-- a header without events
abbrev pub opened : Header → StatesView
opened header = record { header = header; events = replicate (length header.procs) [] }

-- the data of a log after all of its batches
abbrev pub states_of : Log → StatesView
states_of log = record {
  header = log.header;
  events = with_batches (replicate (length log.header.procs) []) log.batches;
}

abbrev pub trace_of_log : Log → run.Trace
trace_of_log log = trace_of (states_of log)
