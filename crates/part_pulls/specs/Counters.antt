-- The counters of formulas by numbers: the variables of their differences.
use Rattle.std.specs.Prelude.{ℕ, List, [], ◌∷◌, ◌++◌, flat_map, All}
use Rattle.rctl_parts.specs.Pieces.{Atom, Piece, Pieces, atom, temporal, none, more}
use Rattle.rctl_parts.specs.Pieces.{local, at_most, at_least, never, diff_at_most, diff_at_least}
use Rattle.counter_preds.specs.declared.values.Variable.{Variable}
use Rattle.counter_preds.specs.Counters.{IsCounter}
use Rattle.part_pulls.specs.declared.observed.Observed.{Observed}

-- a variable of a process, by their numbers
abbrev pub counter : ℕ → ℕ → Variable
counter p x = record { process = p; number = x }

-- the counters of an atom: both sides of a difference, the left one first
abbrev pub counters_of_atom : Atom → List Variable
counters_of_atom (local process e) = []
counters_of_atom (at_most p q k) = []
counters_of_atom (at_least p q k) = []
counters_of_atom never = []
counters_of_atom (diff_at_most p x q y k) = counter p x ∷ counter q y ∷ []
counters_of_atom (diff_at_least p x q y k) = counter p x ∷ counter q y ∷ []

abbrev mutual
  -- those of a part: of an atom, or of all parts of an operand
  pub counters_of_part : Piece → List Variable
  counters_of_part (atom a) = counters_of_atom a
  counters_of_part (temporal operator ps) = counters_of_operand ps

  pub counters_of_operand : Pieces → List Variable
  counters_of_operand none = []
  counters_of_operand (more p ps) = counters_of_part p ++ counters_of_operand ps

-- those of a conjunction, in the order of its parts
abbrev pub counters_of_parts : List Piece → List Variable
counters_of_parts ps = flat_map counters_of_part ps

-- those of all disjuncts
abbrev pub counters_of : List (List Piece) → List Variable
counters_of ds = flat_map counters_of_parts ds

-- none of these variables ever falls along its process
abbrev pub AllRise : Observed → List Variable → Type 0
AllRise seen variables = All (IsCounter seen.trace.states) variables

-- no counter of the disjuncts ever falls in what was observed; without differences there is none
abbrev pub CountersRise : Observed → List (List Piece) → Type 0
CountersRise seen ds = AllRise seen (counters_of ds)
