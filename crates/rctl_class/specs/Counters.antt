-- The counters of a formula: the variables of its differences, which may never fall.
use Rattle.std.specs.Prelude.{◌↔◌, List, [], ◌∷◌, ◌++◌, All, Contains}
use Rattle.run_model.specs.Run.{Name, Run}
use Rattle.run_model.specs.Formula as model
use Rattle.run_model.specs.Formula.{Formula, Formulas}
use Rattle.run_model.specs.Class.{NeverFalls}

-- a variable of a process, by their names
pub record Counter : Type 0 where
  pub process : Name
  pub variable : Name

abbrev mutual
  -- the counters of a formula, from left to right
  pub counters_of : Formula → List Counter
  counters_of (model.Truth b) = []
  counters_of (model.Comparison process variable relation side) = []
  counters_of (model.Watched process watch) = []
  counters_of (model.InTransit sender receiver relation k) = []
  counters_of (model.Empty sender receiver) = []
  counters_of (model.Difference p x q y relation k) =
      record { process = p; variable = x } ∷ record { process = q; variable = y } ∷ []
  counters_of (model.Not f) = counters_of f
  counters_of (model.And fs) = all_counters fs
  counters_of (model.Or fs) = all_counters fs
  counters_of (model.Temporal operator f) = counters_of f
  counters_of (model.Next process f) = counters_of f
  counters_of (model.Until all left right) = counters_of left ++ counters_of right

  -- those of members
  pub all_counters : Formulas → List Counter
  all_counters model.Nil = []
  all_counters (model.Cons f fs) = counters_of f ++ all_counters fs

-- those of the parts of a conjunction
abbrev pub parts_counters : List Formula → List Counter
parts_counters [] = []
parts_counters (f ∷ fs) = counters_of f ++ parts_counters fs

-- those of disjuncts
abbrev pub disjuncts_counters : List (List Formula) → List Counter
disjuncts_counters [] = []
disjuncts_counters (d ∷ ds) = parts_counters d ++ disjuncts_counters ds

-- two lists have the same counters, each as often as it likes
pub record HaveSameMembers (xs ys : List Counter) : Type 0 where
  pub same : (c : Counter) → Contains xs c ↔ Contains ys c

-- none of the counters ever falls in a run
abbrev pub NoneFalls : Run → List Counter → Type 0
NoneFalls r counters = All (λ (c : Counter). NeverFalls r c.process c.variable) counters
