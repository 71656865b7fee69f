-- Inside: where an event of a batch leaves a counter lower than it was.
use Rattle.std.specs.Prelude.{ℕ, ℤ, ◌+◌, ◌==◌, Bool, int_lt, List, take, fold}
use Rattle.std.specs.Prelude.{if◌then◌else◌}
use Rattle.event_log.specs.declared.item.LogCode.TheVariants as code
use Rattle.event_log.specs.declared.log.Assign.{Assign}
use Rattle.event_log.specs.declared.log.Event.{Event}
use Rattle.event_log.specs.States.{StatesView}
use Rattle.counter_preds.specs.declared.values.Variable.{Variable}
use Rattle.counter_preds.specs.Falls.{behind_batch, value_now}

-- event number k of the batch, counted from 0, leaves the variable lower than it was
abbrev pub falls_at : StatesView → List Event → Variable → ℕ → Bool
falls_at states batch x k =
    int_lt (value_now (behind_batch states (take (k + 1) batch)) x)
    (value_now (behind_batch states (take k batch)) x)

-- the value that assignments leave the variable of a number, where it was z before
abbrev pub assigned_value : ℕ → ℤ → List Assign → ℤ
assigned_value number z assigns =
    fold (λ value (a : Assign). if a.variable == number then a.value else value) z assigns

-- the value that an event leaves a variable, where it was z before
abbrev pub left_by : Event → Variable → ℤ → ℤ
left_by e x z = if e.process == x.process then assigned_value x.number z e.assigns else z
