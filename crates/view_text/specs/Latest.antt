-- The event that last set a variable, and the one that sets it next.
use Rattle.std.specs.Prelude.{ℕ, zero, suc, Bool, ◌+◌, ◌==◌, List, [], ◌∷◌, drop, get_or, Option}
use Rattle.std.specs.Prelude.{None, Some, if◌then◌else◌}
use Rattle.std.specs.List.{list_any}
use Rattle.event_log.specs.declared.log.Assign.{Assign}
use Rattle.event_log.specs.declared.log.Event.{Event}
use Rattle.view_parts.specs.Parts.{no_event}

-- whether the event assigns the variable
abbrev pub sets : ℕ → Event → Bool
sets variable e = list_any (λ (a : Assign). a.variable == variable) e.assigns

-- the position of the last of the first events that sets the variable, where there is one
unfoldable pub last_setting : List Event → ℕ → ℕ → Option ℕ
last_setting events variable zero = None
last_setting events variable (suc n) =
    if sets variable (get_or events n no_event) then Some (suc n)
    else last_setting events variable n

-- the position of the first event that sets the variable, where the first one has this position
unfoldable pub first_setting : ℕ → ℕ → List Event → Option ℕ
first_setting variable position [] = None
first_setting variable position (e ∷ es) =
    if sets variable e then Some position else first_setting variable (position + 1) es

-- the position of the first event behind the first n that sets the variable, where there is one
abbrev pub next_setting : List Event → ℕ → ℕ → Option ℕ
next_setting events variable n = first_setting variable (n + 1) (drop n events)
