-- Inside: where an event stands among all.
use Rattle.std.specs.Prelude.{◌≡◌, ℕ, List, ◌∷◌, ◌++◌}
use Rattle.event_log.specs.declared.log.Event.{Event}
use Rattle.vector_clock.specs.Events.{Events, own_events, place}

-- the event stands at this place among all events, behind those before it
pub record StandsIn (before all : Events) (e : Event) (a : ℕ) : Type 0 where
  pub place_is : a ≡ place before e
  pub rest : List Event
  pub split : own_events all e.process ≡ own_events before e.process ++ e ∷ rest
