-- The slice that a node gives once its rows are the least.
use Rattle.std.specs.Prelude.{◌≡◌, ◌↔◌, ℕ, ◌<◌, ◌≤◌, List, [], ◌∷◌, ◌++◌, length, Option}
use Rattle.std.specs.Prelude.{None, Some}
use Rattle.run_model.specs.Cut.{Cut, Clocks, initial}
use Rattle.run_model.specs.Consistent.{IsConsistent}
use Rattle.run_model.specs.Operators.{EfHolds, AgHolds, EgHolds}
use Rattle.run_model.specs.Slice.{Cuts}
use Rattle.pull_system.specs.System.{SystemView, IsClosed}
use Rattle.slice_graph.specs.Views.{SliceView, HasAllRows, slice_of}
use Rattle.slice_graph.specs.Fitting.{FitsOrder, ClosedCuts}
use Rattle.rctl_grammar.specs.declared.tree.Operator.{Operator}
use Rattle.rctl_grammar.specs.declared.tree.Operator.TheVariants as operator
use Rattle.certificate_table.specs.Begun.{BegunView, IsWhole}
use Rattle.certificate_nodes.specs.declared.plan.Plan.{Plan}
use Rattle.certificate_nodes.specs.Plans.{node_at, slice_at, system_of, system_at, disjunct_at}

-- The cuts whose slice a node has, where its parts hold at the cuts of a set: those at which the
-- operator over the set is true. EX asks by the slice of its operand, so its node has that one.
abbrev pub SlicedBy : Operator → Clocks → (Cut → Type 0) → Cut → Type 0
SlicedBy operator.Ef o A = EfHolds o A
SlicedBy operator.Ag o A = AgHolds o A
SlicedBy operator.Eg o A = EgHolds o A
SlicedBy (operator.Ex process) o A = A
SlicedBy operator.Af o A = λ c. ⊥
SlicedBy operator.Ax o A = λ c. ⊥

-- the slice of these cuts, where the set is that of the cuts closed under the system
pub record IsGiven (o : Clocks) (operator : Operator) (system : SystemView)
    (slice : SliceView) : Type 0 where
  pub rows : HasAllRows slice
  pub fits : FitsOrder o slice
  pub cuts : (c : Cut) → IsConsistent o c
      → Cuts o (slice_of slice) c ↔ SlicedBy operator o (ClosedCuts o system) c

-- the first nodes of the plan gave these slices, each by its own system
pub record AreGiven (o : Clocks) (plan : Plan) (slices : List SliceView) : Type 0 where
  pub few : length slices ≤ length plan.nodes
  pub each : (n : ℕ) → n < length slices
      → IsGiven o (node_at plan n).operator (system_at o plan slices n) (slice_at slices n)

-- the present rows, if there are any, are all begun, and the last is closed
abbrev pub IsEnded : Option BegunView → Type 0
IsEnded None = Unit {0}
IsEnded (Some rows) = IsWhole rows

-- the slices after the present node, if there is one, has given its own
abbrev pub Gives : Clocks → Plan → List SliceView → Option BegunView → List SliceView → Type 0
Gives o plan slices None after = after ≡ slices
Gives o plan slices (Some rows) after = (slice : SliceView)
    × IsGiven o (node_at plan (length slices)).operator rows.system slice
    × (after ≡ slices ++ slice ∷ [])

-- the initial cut is closed under the system of one of the disjuncts
pub record SomeCloses (o : Clocks) (plan : Plan) (slices : List SliceView) : Type 0 where
  pub number : ℕ
  pub there : number < length plan.disjuncts
  pub closed : IsClosed (system_of o plan slices (disjunct_at plan number)) (initial o)
