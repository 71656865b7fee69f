-- Inside: what is wrong with each name of a formula, and which process a watch is on.
use Rattle.std.specs.Prelude.{ℕ, Bool, false, not, ◌==◌, List, [], ◌∷◌, ◌++◌, get_or, set, Option}
use Rattle.std.specs.Prelude.{None, Some, if◌then◌else◌}
use Rattle.run_model.specs.Run.{Name}
use Rattle.log_lines.specs.Names.{place_of}
use Rattle.rctl_grammar.specs.declared.fault.FormulaCode.TheVariants as code
use Rattle.rctl_grammar.specs.declared.fault.FormulaCode.{FormulaCode}
use Rattle.rctl_grammar.specs.declared.fault.FormulaFault.{FormulaFault}
use Rattle.rctl_grammar.specs.declared.tree.Place.{Place}
use Rattle.rctl_parts.specs.Spelled.{Names}
use Rattle.rctl_class.specs.declared.named.NamedSide.{NamedSide}
use Rattle.rctl_class.specs.declared.named.NamedSide.TheVariants as side
use Rattle.rctl_class.specs.Uses.{earlier, fault_at}
use Rattle.rctl_class.specs.NamedParts as named
use Rattle.rctl_class.specs.NamedParts.{Expr, Exprs, NamedPiece, Pieces}
use Rattle.rctl_names.specs.Numbers.{number, variables_of}

-- a name without a number is such a fault
abbrev pub unless_known : FormulaCode → Place → Option ℕ → Option FormulaFault
unless_known c place None = fault_at c place.at
unless_known c place (Some n) = None

-- what is wrong with the name of a process
abbrev pub process_fault : List Name → Place → Option FormulaFault
process_fault processes place =
    unless_known code.UnknownProcess place (place_of processes place.name)

-- what is wrong with the name of a variable
abbrev pub variable_fault : List Name → Place → Option FormulaFault
variable_fault variables place =
    unless_known code.UnknownVariable place (place_of variables place.name)

-- what is wrong with a variable of a process: the name of the process, or that of the variable
abbrev pub counter_fault : Names → Place → Place → Option FormulaFault
counter_fault names p x =
    earlier (process_fault names.processes p) (variable_fault (variables_of names p.name) x)

-- that of a difference: of its left side, else of its right one
abbrev pub difference_fault : Names → Place → Place → Place → Place → Option FormulaFault
difference_fault names p x q y = earlier (counter_fault names p x) (counter_fault names q y)

-- the watches, and the process that each is on so far
pub record Watched : Type 0 where
  pub names : List Name
  pub on : List (Option ℕ)

-- the watch is on another process
abbrev pub is_other : Option ℕ → ℕ → Bool
is_other None p = false
is_other (Some q) p = not (q == p)

-- what is wrong with a watch on a process, where the watch has this number
abbrev pub watch_fault_at : Watched → ℕ → Place → Option ℕ → Option FormulaFault
watch_fault_at s p place None = fault_at code.UnknownWatch place.at
watch_fault_at s p place (Some w) =
    if is_other (get_or s.on w None) p then fault_at code.WatchTwice place.at else None

-- what is wrong with a watch on a process
abbrev pub watch_fault : Watched → ℕ → Place → Option FormulaFault
watch_fault s p place = watch_fault_at s p place (place_of s.names place.name)

-- the watch of this number is on the process from now on
abbrev pub put_at : Watched → ℕ → Option ℕ → Watched
put_at s p None = s
put_at s p (Some w) = record { names = s.names; on = set s.on w (Some p) }

-- the watch is on the process from now on
abbrev pub put : Watched → ℕ → Place → Watched
put s p place = put_at s p (place_of s.names place.name)

-- a variable or a watch of an expression
pub data LocalName : Type 0 where
  a_variable : (place : Place) → LocalName
  a_watch : (place : Place) → LocalName

-- the variable on the right of a comparison
abbrev pub side_names : NamedSide → List LocalName
side_names (side.Number value) = []
side_names (side.Variable v) = a_variable v ∷ []

-- what is wrong with the right side of a comparison
abbrev pub side_fault : List Name → NamedSide → Option FormulaFault
side_fault variables (side.Number value) = None
side_fault variables (side.Variable v) = variable_fault variables v

abbrev mutual
  -- the variables and watches of an expression, from left to right
  pub local_names : Expr → List LocalName
  local_names (named.truth value) = []
  local_names (named.comparison left compare right) = a_variable left ∷ side_names right
  local_names (named.watched name) = a_watch name ∷ []
  local_names (named.negation e) = local_names e
  local_names (named.conjunction es) = all_local_names es
  local_names (named.disjunction es) = all_local_names es

  -- those of its members
  pub all_local_names : Exprs → List LocalName
  all_local_names named.no_expr = []
  all_local_names (named.and_expr e es) = local_names e ++ all_local_names es

-- the first fault of such names, where the process has these variables and this number
abbrev pub local_fault : List Name → ℕ → Watched → List LocalName → Option FormulaFault
local_fault variables p s [] = None
local_fault variables p s (a_variable v ∷ rest) =
    earlier (variable_fault variables v) (local_fault variables p s rest)
local_fault variables p s (a_watch w ∷ rest) =
    earlier (watch_fault s p w) (local_fault variables p (put s p w) rest)

-- the watches behind such names
abbrev pub local_after : ℕ → Watched → List LocalName → Watched
local_after p s [] = s
local_after p s (a_variable v ∷ rest) = local_after p s rest
local_after p s (a_watch w ∷ rest) = local_after p (put s p w) rest

abbrev mutual
  -- the first fault of the names of a part
  pub part_fault : Names → Watched → NamedPiece → Option FormulaFault
  part_fault names s (named.local None e) = local_fault [] 0 s (local_names e)
  part_fault names s (named.local (Some p) e) =
      earlier (process_fault names.processes p)
      (local_fault (variables_of names p.name) (number names.processes p.name) s
      (local_names e))
  part_fault names s (named.at_most p q k) =
      earlier (process_fault names.processes p) (process_fault names.processes q)
  part_fault names s (named.at_least p q k) =
      earlier (process_fault names.processes p) (process_fault names.processes q)
  part_fault names s (named.never p q) =
      earlier (process_fault names.processes p) (process_fault names.processes q)
  part_fault names s (named.diff_at_most p x q y k) = difference_fault names p x q y
  part_fault names s (named.diff_at_least p x q y k) = difference_fault names p x q y
  part_fault names s (named.temporal operator ps) = operand_fault names s ps
  part_fault names s (named.next p ps) =
      earlier (process_fault names.processes p) (operand_fault names s ps)

  -- that of the parts of an operand
  pub operand_fault : Names → Watched → Pieces → Option FormulaFault
  operand_fault names s named.no_piece = None
  operand_fault names s (named.and_piece p ps) =
      earlier (part_fault names s p) (operand_fault names (part_after names s p) ps)

  -- the watches behind a part
  pub part_after : Names → Watched → NamedPiece → Watched
  part_after names s (named.local None e) = local_after 0 s (local_names e)
  part_after names s (named.local (Some p) e) =
      local_after (number names.processes p.name) s (local_names e)
  part_after names s (named.at_most p q k) = s
  part_after names s (named.at_least p q k) = s
  part_after names s (named.never p q) = s
  part_after names s (named.diff_at_most p x q y k) = s
  part_after names s (named.diff_at_least p x q y k) = s
  part_after names s (named.temporal operator ps) = operand_after names s ps
  part_after names s (named.next p ps) = operand_after names s ps

  -- those behind an operand
  pub operand_after : Names → Watched → Pieces → Watched
  operand_after names s named.no_piece = s
  operand_after names s (named.and_piece p ps) = operand_after names (part_after names s p) ps

-- the first fault of the names of disjuncts
abbrev pub disjuncts_fault : Names → Watched → List (List NamedPiece) → Option FormulaFault
disjuncts_fault names s [] = None
disjuncts_fault names s (d ∷ ds) =
    earlier (operand_fault names s (named.pieces d))
    (disjuncts_fault names (operand_after names s (named.pieces d)) ds)

-- the watches behind disjuncts
abbrev pub disjuncts_after : Names → Watched → List (List NamedPiece) → Watched
disjuncts_after names s [] = s
disjuncts_after names s (d ∷ ds) = disjuncts_after names (operand_after names s (named.pieces d)) ds
