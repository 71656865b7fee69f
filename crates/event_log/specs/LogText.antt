-- The grammar of a log: which logs have a text, the one text of each, and what reading it gives.
use Rattle.std.specs.Prelude.{◌≡◌, ◌≢◌, ◌⊎◌, ℕ, ◌+◌, ◌^◌, ◌<◌, ◌≤◌, true, List, [], ◌∷◌, ◌++◌}
use Rattle.std.specs.Prelude.{length, map, slice_index_or, FitsSigned}
use Rattle.std.specs.Int.{w64}
use Rattle.std.specs.List.{AllByRecursion}
use Rattle.pota_base.specs.Limits.{most_events, most_variables}
use Rattle.log_lines.specs.Names.{Name, is_name, are_distinct}
use Rattle.log_lines.specs.Spelling.{NamedValue, Action, Internal, Send, Receive, EventLine}
use Rattle.log_lines.specs.Spelling.{ProcsFit, names_of, procs_line, vars_line, event_line}
use Rattle.log_lines.specs.Spelling.{batch_line, end_line}
use Rattle.event_log.specs.declared.item.Item.{Item}
use Rattle.event_log.specs.declared.item.Item.TheVariants as item
use Rattle.event_log.specs.declared.log.Binding.{Binding}
use Rattle.event_log.specs.declared.log.Header.{Header}
use Rattle.event_log.specs.declared.log.Kind.{Kind}
use Rattle.event_log.specs.declared.log.Kind.TheVariants as kind
use Rattle.event_log.specs.declared.log.Assign.{Assign}
use Rattle.event_log.specs.declared.log.Event.{Event}
use Rattle.event_log.specs.declared.log.Log.{Log}
use Rattle.event_log.specs.Numbers.{binding_names, variables_at}
use Rattle.event_log.specs.Before.{Line, heading_of, IsVersion, var_lines_of, headed}

-- ---- the lines

-- the name at this place
abbrev pub name_at : List Name → ℕ → Name
name_at names place = slice_index_or names place []

abbrev pub values_of : List Binding → List NamedValue
values_of bindings = map (λ (b : Binding). record { name = b.name; value = b.value }) bindings

abbrev pub named : List Binding → Assign → NamedValue
named variables a = record { name = name_at (binding_names variables) a.variable; value = a.value }

abbrev pub named_values : List Binding → List Assign → List NamedValue
named_values variables assigns = map (named variables) assigns

abbrev pub action_of : List Name → Kind → Action
action_of procs kind.Internal = Internal
action_of procs (kind.Send to id) = Send (name_at procs to) id
action_of procs (kind.Receive sender id) = Receive (name_at procs sender) id

-- an event by its names
abbrev pub line_of : Header → Event → EventLine
line_of h e = record {
  actor = name_at h.procs e.process;
  clock = e.clock;
  action = action_of h.procs e.kind;
  assigns = map (named (variables_at h.vars e.process)) e.assigns;
}

-- a process without variables has no `vars` line
abbrev pub vars_lines : List Name → List (List Binding) → List Line
vars_lines procs [] = []
vars_lines [] (bindings ∷ others) = []
vars_lines (p ∷ procs) ([] ∷ others) = vars_lines procs others
vars_lines (p ∷ procs) ((b ∷ bindings) ∷ others) =
    vars_line (record { process = p; variables = values_of (b ∷ bindings) })
    ∷ vars_lines procs others

abbrev pub header_lines : Header → List Line
header_lines h = heading_of h.version ∷ procs_line h.procs ∷ vars_lines h.procs h.vars

abbrev pub event_lines : Header → List Event → List Line
event_lines h es = map (λ (e : Event). event_line (line_of h e)) es

-- the line behind a batch, by the batches that follow
abbrev pub closing_line : List (List Event) → Line
closing_line [] = end_line
closing_line (b ∷ rest) = batch_line

abbrev pub batch_lines : Header → List (List Event) → List Line
batch_lines h [] = []
batch_lines h (b ∷ rest) = event_lines h b ++ closing_line rest ∷ batch_lines h rest

abbrev pub lines_of : Log → List Line
lines_of log = header_lines log.header ++ batch_lines log.header log.batches

-- each line and its line feed
abbrev pub text_of : List Line → List ℕ
text_of [] = []
text_of (line ∷ lines) = line ++ 10 ∷ text_of lines

abbrev pub log_text : Log → List ℕ
log_text log = text_of (lines_of log)

-- ---- what reading gives

abbrev pub event_items : List Event → List Item
event_items es = map (λ (e : Event). item.Event e) es

abbrev pub closing_item : List (List Event) → Item
closing_item [] = item.End
closing_item (b ∷ rest) = item.BatchEnd

abbrev pub batch_items : List (List Event) → List Item
batch_items [] = []
batch_items (b ∷ rest) = event_items b ++ closing_item rest ∷ batch_items rest

abbrev pub log_items : Log → List Item
log_items log = item.Header log.header ∷ batch_items log.batches

-- ---- what has a text

pub record BindingFits (b : Binding) : Type 0 where
  pub name : is_name b.name ≡ true
  pub value : FitsSigned w64 b.value

-- at most 16 variables, each once
pub record BindingsFit (bindings : List Binding) : Type 0 where
  pub few : length bindings ≤ most_variables
  pub each : AllByRecursion BindingFits bindings
  pub distinct : are_distinct (binding_names bindings) ≡ true

-- 1 to 32 processes, each with a list of its variables
pub record HeaderFits (h : Header) : Type 0 where
  pub version : IsVersion h.version
  pub procs : ProcsFit h.procs
  pub all : length h.vars ≡ length h.procs
  pub vars : AllByRecursion BindingsFit h.vars

-- the peer of a message is there
abbrev pub KindWithin : ℕ → Kind → Type 0
KindWithin procs kind.Internal = Unit {0}
KindWithin procs (kind.Send to id) = to < procs
KindWithin procs (kind.Receive sender id) = sender < procs

-- a message goes to or comes from another process of the log
abbrev pub KindFits : ℕ → ℕ → Kind → Type 0
KindFits procs process kind.Internal = Unit {0}
KindFits procs process (kind.Send to id) = (to < procs) × (to ≢ process) × (id < 2 ^ 64)
KindFits procs process (kind.Receive sender id) =
    (sender < procs) × (sender ≢ process) × (id < 2 ^ 64)

pub record AssignFits (variables : List Binding) (a : Assign) : Type 0 where
  pub variable : a.variable < length variables
  pub value : FitsSigned w64 a.value

-- a clock has a count for each process; in version 2 it may be left out
abbrev pub ClockStands : ℕ → ℕ → List ℕ → Type 0
ClockStands version procs clock = (length clock ≡ procs) ⊎ ((version ≡ 2) × (clock ≡ []))

-- at most 16 assignments to variables of the process, each one once
pub record EventFits (h : Header) (e : Event) : Type 0 where
  pub process : e.process < length h.procs
  pub width : ClockStands h.version (length h.procs) e.clock
  pub clock : AllByRecursion (λ n. n < 2 ^ 32) e.clock
  pub kind : KindFits (length h.procs) e.process e.kind
  pub few : length e.assigns ≤ most_variables
  pub assigns : AllByRecursion (AssignFits (variables_at h.vars e.process)) e.assigns
  pub distinct : are_distinct (names_of (map (named (variables_at h.vars e.process)) e.assigns))
      ≡ true

-- the events stand on the lines from this one on
abbrev pub EventsFit : Header → ℕ → List Event → Type 0
EventsFit h line [] = Unit {0}
EventsFit h line (e ∷ es) = (EventFits h e × (e.line ≡ line)) × EventsFit h (line + 1) es

abbrev pub BatchesFit : Header → ℕ → List (List Event) → Type 0
BatchesFit h line [] = Unit {0}
BatchesFit h line (b ∷ rest) = EventsFit h line b × BatchesFit h (line + length b + 1) rest

abbrev pub event_count : List (List Event) → ℕ
event_count [] = 0
event_count (b ∷ rest) = length b + event_count rest

pub record LogFits (log : Log) : Type 0 where
  pub header : HeaderFits log.header
  pub some : 0 < length log.batches
  pub batches : BatchesFit log.header (length (header_lines log.header) + 1) log.batches
  pub few : event_count log.batches ≤ most_events

-- ---- the lines of the header

-- the header says on which lines of the text the variables of its processes stand
abbrev pub HasVarLines : Header → Type 0
HasVarLines h = h.var_lines ≡ var_lines_of h.vars

-- the log with these lines
abbrev pub lined : Log → Log
lined log = record {
  header = headed log.header.version log.header.procs log.header.vars;
  batches = log.batches;
}

-- ---- lists turned round

-- the newest first: the items of a list in front of those before them
abbrev pub onto : {A : Type 0} → List A → List A → List A
onto [] past = past
onto (x ∷ xs) past = onto xs (x ∷ past)
