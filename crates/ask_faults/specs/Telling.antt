-- Of which fault is told.
use Rattle.std.specs.Prelude.{◌≡◌, ◌⊎◌, true}
use Rattle.ask_faults.specs.declared.fault.Fault.{Fault}
use Rattle.ask_faults.specs.declared.fault.Fault.TheVariants as fault
use Rattle.ask_faults.specs.Faults.{is_long}

-- of this one, or, where its lines take memory that isn't there, of the want of it
abbrev pub IsToldAs : Fault → Fault → Type 0
IsToldAs f told = (told ≡ f) ⊎ ((is_long f ≡ true) × (told ≡ fault.Memory))
