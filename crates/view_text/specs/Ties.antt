-- Which event of another process doesn't wait for the one that ends a value.
use Rattle.std.specs.Prelude.{ℕ, zero, suc, Bool, ◌||◌, ◌==◌, nat_le, List, length, Option, None}
use Rattle.std.specs.Prelude.{Some, if◌then◌else◌}
use Rattle.run_model.specs.Cut.{Cut, count}
use Rattle.pota_base.specs.declared.shape.EventId.{EventId}
use Rattle.event_log.specs.LogText.{name_at}
use Rattle.event_log.specs.States.{StatesView}
use Rattle.rctl_grammar.specs.declared.token.Token.{Token}
use Rattle.view_parts.specs.Parts.{event_at, place}
use Rattle.view_parts.specs.About.{sets_some}
use Rattle.view_parts.specs.Naming.{begin_with_owner, names}

-- the position of the last of the first n events of a process that sets a variable which the
-- formula names, where there is one
unfoldable pub last_named : StatesView → List Token → ℕ → ℕ → Option ℕ
last_named s tokens process zero = None
last_named s tokens process (suc n) =
    if sets_some s tokens (place process (suc n)) then Some (suc n)
    else last_named s tokens process n

-- the vector clock of the event counts the other one: that one happened before it, or is the same
abbrev pub counts : StatesView → EventId → EventId → Bool
counts s e other = nat_le other.position (count (event_at s e).clock other.process)

-- the event of the process at this position, where there is one: only if its process is another one
-- than that of the event which ends a value, and its clock doesn't count that event
abbrev pub unless_tied : StatesView → EventId → ℕ → Option ℕ → Option EventId
unless_tied s ended process None = None
unless_tied s ended process (Some position) =
    if process == ended.process || counts s (place process position) ended then None
    else Some (place process position)

-- the same of the event that last set a named variable of the process within the cut, where the
-- formula names a variable of the process
abbrev pub untied_in : StatesView → List Token → Cut → EventId → ℕ → Option EventId
untied_in s tokens cut ended process =
    if names (begin_with_owner (name_at s.header.procs process)) tokens
    then unless_tied s ended process (last_named s tokens process (count cut process))
    else None

abbrev pub or_else : Option EventId → Option EventId → Option EventId
or_else None other = other
or_else (Some e) other = Some e

-- what there is for the first number below n for which there is something
unfoldable pub first_below : ℕ → (ℕ → Option EventId) → Option EventId
first_below zero made = None
first_below (suc n) made = or_else (first_below n made) (made n)

-- the event of the first process with such an event, where there is one
abbrev pub untied : StatesView → List Token → Cut → EventId → Option EventId
untied s tokens cut ended = first_below (length s.header.procs) (untied_in s tokens cut ended)
