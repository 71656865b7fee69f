-- Which events of a run a formula is about.
use Rattle.std.specs.Prelude.{ℕ, Bool, false, ◌||◌, List}
use Rattle.std.specs.List.{list_any}
use Rattle.log_lines.specs.Names.{Name}
use Rattle.pota_base.specs.declared.shape.EventId.{EventId}
use Rattle.event_log.specs.declared.log.Assign.{Assign}
use Rattle.event_log.specs.declared.log.Kind.{Kind}
use Rattle.event_log.specs.declared.log.Kind.TheVariants as kind
use Rattle.event_log.specs.LogText.{name_at}
use Rattle.event_log.specs.States.{StatesView}
use Rattle.rctl_grammar.specs.declared.token.Token.{Token}
use Rattle.view_parts.specs.Parts.{event_at, variable_name}
use Rattle.view_parts.specs.Naming.{begin_with_variable, begin_with_channel, begin_with_watch}
use Rattle.view_parts.specs.Naming.{names}

-- an event of the process is on a channel that the formula names
abbrev pub is_on_named : List Name → List Token → ℕ → Kind → Bool
is_on_named procs tokens process kind.Internal = false
is_on_named procs tokens process (kind.Send to id) =
    names (begin_with_channel (name_at procs process) (name_at procs to)) tokens
is_on_named procs tokens process (kind.Receive sender id) =
    names (begin_with_channel (name_at procs sender) (name_at procs process)) tokens

-- the assignment is one of a variable that the formula names
abbrev pub sets_named : StatesView → List Token → ℕ → Assign → Bool
sets_named s tokens process a =
    names (begin_with_variable (name_at s.header.procs process)
    (variable_name s process a.variable)) tokens

-- the event sets a variable that the formula names
abbrev pub sets_some : StatesView → List Token → EventId → Bool
sets_some s tokens e = list_any (sets_named s tokens e.process) (event_at s e).assigns

-- the event sets a named variable, is on a named channel, or of a process with a watch
abbrev pub is_about : StatesView → List Token → EventId → Bool
is_about s tokens e =
    sets_some s tokens e
    || (is_on_named s.header.procs tokens e.process (event_at s e).kind
    || names (begin_with_watch (name_at s.header.procs e.process)) tokens)
