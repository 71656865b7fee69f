-- What is said of a fault where memory may run out.
use Rattle.pota_base.specs.declared.fault.Refused.{Refused}
use Rattle.pota_base.specs.declared.fault.Refused.TheVariants as refused
use Rattle.rctl_grammar.specs.declared.fault.FormulaFault.{FormulaFault}

-- a fault of the text is such; nothing is said where memory runs out
abbrev pub Faults : Refused FormulaFault → (FormulaFault → Type 0) → Type 0
Faults (refused.Fault f) Is = Is f
Faults refused.NoMemory Is = Unit {0}
