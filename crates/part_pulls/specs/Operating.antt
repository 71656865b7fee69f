-- What an operator makes of a set of cuts.
use Rattle.std.specs.Prelude.{ℕ, ◌<◌, Bool, true, false, ⊤}
use Rattle.run_model.specs.Cut.{Cut, Clocks}
use Rattle.run_model.specs.Operators.{EfHolds, AgHolds, EgHolds, ExHolds}
use Rattle.rctl_grammar.specs.declared.tree.Operator.{Operator}
use Rattle.rctl_grammar.specs.declared.tree.Operator.TheVariants as operator

-- the cuts at which the operator over the set is true; AF and AX are not analysed
abbrev pub Operated : Operator → Clocks → (Cut → Type 0) → Cut → Type 0
Operated operator.Ef o A = EfHolds o A
Operated operator.Ag o A = AgHolds o A
Operated operator.Eg o A = EgHolds o A
Operated (operator.Ex process) o A = ExHolds o process A
Operated operator.Af o A = λ c. ⊥
Operated operator.Ax o A = λ c. ⊥

-- the operator is analysed, and the process of EX is one of so many
abbrev pub FitsProcesses : ℕ → Operator → Type 0
FitsProcesses n operator.Ef = ⊤
FitsProcesses n operator.Ag = ⊤
FitsProcesses n operator.Eg = ⊤
FitsProcesses n (operator.Ex process) = process < n
FitsProcesses n operator.Af = ⊥
FitsProcesses n operator.Ax = ⊥

-- EF, AG and EG give the order: only consistent cuts are closed under the pulls of their slices. A
-- cut that is closed under those of EX need not be consistent, though the cut with the next event
-- is
abbrev pub operator_gives_order : Operator → Bool
operator_gives_order operator.Ef = true
operator_gives_order operator.Ag = true
operator_gives_order operator.Eg = true
operator_gives_order (operator.Ex process) = false
operator_gives_order operator.Af = false
operator_gives_order operator.Ax = false
