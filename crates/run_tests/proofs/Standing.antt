-- Events with their clocks stand among those whose clocks may be left out.
use Rattle.std.proofs.Common.{ℕ, List, [], ◌∷◌, inl}
use Rattle.std.specs.List.{AllByRecursion}
use Rattle.event_log.specs.declared.log.Event.{Event}
use Rattle.vector_clock.specs.Events.{EventFits, EventStands}

pub fits_stand : (procs : ℕ) (batch : List Event) → AllByRecursion (EventFits procs) batch → AllByRecursion (EventStands procs) batch
fits_stand procs [] fits = tt
fits_stand procs (e ∷ es) fits = (record { process = fits.0.clock.process; width = inl fits.0.clock.width; peer = fits.0.peer }, fits_stand procs es fits.1)
