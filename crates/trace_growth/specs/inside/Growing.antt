-- Inside: how the states and the clocks of a growing trace fit each other.
use Rattle.std.specs.Prelude.{◌≡◌, ◌-◌, Bool, false, length}
use Rattle.event_log.specs.States.{StatesView, IsHeader}
use Rattle.run_model.specs.Run as run
use Rattle.vector_clock.specs.declared.clocks.Clocks.{Clocks}
use Rattle.vector_clock.specs.Faultless.{AreFaultless}
use Rattle.vector_clock.specs.Admitted.{HasAdmitted}

-- the fields fit each other: the clocks are those of the states' events, which came without a fault
pub record HasTaken (states : StatesView) (clocks : Clocks) : Type 0 where
  pub header : IsHeader states.header
  pub admitted : HasAdmitted clocks states.events
  pub faultless : AreFaultless (length states.header.procs) states.events

-- unless memory was wanted
abbrev pub KeepsTrace : StatesView → Clocks → Bool → Type 0
KeepsTrace states clocks spent = spent ≡ false → HasTaken states clocks
