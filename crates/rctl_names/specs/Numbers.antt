-- The numbers of a formula's names, and the first name that has none or stands where it may not.
-- ---- numbers
use Rattle.std.specs.Prelude.{ℕ, List, [], get_or, Option}
use Rattle.std.specs.Prelude.{None, Some, is_some}
use Rattle.run_model.specs.Run.{Name}
use Rattle.log_lines.specs.Names.{place_of}
use Rattle.rctl_grammar.specs.declared.fault.FormulaCode.TheVariants as code
use Rattle.rctl_parts.specs.Spelled.{Names}
use Rattle.rctl_class.specs.declared.named.NamedSide.TheVariants as side
use Rattle.rctl_class.specs.Uses.{KnownNames}
use Rattle.rctl_class.specs.NamedParts as named

-- a number that was found, else 0
abbrev pub or_zero : Option ℕ → ℕ
or_zero None = 0
or_zero (Some n) = n

-- the number of a name, and 0 where it has none
abbrev pub number : List Name → Name → ℕ
number names name = or_zero (place_of names name)

-- the variables of the process of a number that was found
abbrev pub variables_at : List (List Name) → Option ℕ → List Name
variables_at variables None = []
variables_at variables (Some p) = get_or variables p []

-- the variables of the process of a name
abbrev pub variables_of : Names → Name → List Name
variables_of names p = variables_at names.variables (place_of names.processes p)

-- which names are known: those of the header and of the watches
abbrev pub known_in : Names → KnownNames
known_in names = record {
  is_process = λ p. is_some (place_of names.processes p);
  is_variable = λ p v. is_some (place_of (variables_of names p) v);
  is_watch = λ w. is_some (place_of names.watches w);
}

-- ---- faults

-- ---- the names of an expression, whose process is known

-- ---- the names of a formula, part by part
