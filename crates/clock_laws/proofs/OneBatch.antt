-- With a filled batch behind filled events, all events have their clocks again.
use Rattle.std.proofs.Common.{◌≡◌, ℕ, List, length, sym, ap, ◌∙◌, subst, inl, inr}
use Rattle.std.specs.List.{AllByRecursion}
use Rattle.event_log.specs.declared.log.Event.{Event}
use Rattle.event_log.specs.States.{with_batch}
use Rattle.vector_clock.specs.declared.message.Message.{Message}
use Rattle.vector_clock.specs.Events.{Events, EventStands}
use Rattle.vector_clock.specs.Messages.{first_send}
use Rattle.vector_clock.specs.Fill.{Place, IsThere, event_at, HasClockOf}
use Rattle.vector_clock.specs.Filled.{filled_batch}
use Rattle.clock_laws.specs.Clocked.{without_clock, without_clocks}
use Rattle.clock_laws.proofs.Own.{is_decided}
use Rattle.clock_laws.proofs.Same.{same_count, same_there}
use Rattle.clock_laws.proofs.Staying.{KeepsSends}
use Rattle.clock_laws.proofs.Behind.{AreClocked, still_same, old_stays, behind_is_in}
use Rattle.clock_laws.proofs.Filling.{whole_same, old_filled, new_clock}

pub clocked_more : (raw filled : Events) (batch : List Event) (among now : Place → Events) → AreClocked raw filled among → KeepsSends raw among now
    → ((x : Place) (m : Message) → IsThere (with_batch raw batch) x → (IsThere raw x → ⊥) → first_send (now x) m ≡ first_send (with_batch raw batch) m)
    → AllByRecursion (EventStands (length raw)) batch → AreClocked (with_batch raw batch) (with_batch filled (filled_batch filled batch)) now
clocked_more raw filled batch among now are keeps new_sends stands = record { events = whole_same filled batch each ∙ same; clocks = clocked }
  where
    same : without_clocks (with_batch filled batch) ≡ without_clocks (with_batch raw batch)
    same = still_same raw filled batch among now are keeps new_sends

    each : AllByRecursion (EventStands (length filled)) batch
    each = subst (λ (n : ℕ). AllByRecursion (EventStands n) batch) (sym (same_count without_clock filled raw are.events)) stands

    clocked : (x : Place) → IsThere (with_batch raw batch) x → HasClockOf (with_batch raw batch) now x (event_at (with_batch filled (filled_batch filled batch)) x).clock
    clocked x there = elim (is_decided raw x) [
      | inl before ↦
          subst (HasClockOf (with_batch raw batch) now x) (sym (ap (λ (e : Event). e.clock) (old_filled filled batch each x (same_there without_clock raw filled (sym are.events) x before))))
          (old_stays raw filled batch among now are keeps new_sends x before)
      | inr not ↦
          behind_is_in raw filled batch among now are keeps new_sends x (event_at (with_batch filled (filled_batch filled batch)) x).clock
          (new_clock filled batch each x (same_there without_clock (with_batch raw batch) (with_batch filled batch) (sym same) x there) (λ t. not (same_there without_clock filled raw are.events x t)))
    ]
