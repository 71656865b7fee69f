-- What the disjuncts of a formula of the class are.
use Rattle.std.specs.Prelude.{◌≡◌, ◌↔◌, true, false, List, [], ◌∷◌, map, None, ⊤}
use Rattle.run_model.specs.Cut.{Cut}
use Rattle.run_model.specs.Run.{Name, Run}
use Rattle.run_model.specs.Formula as model
use Rattle.run_model.specs.Formula.{Formula}
use Rattle.run_model.specs.Consistent.{IsOrder, IsConsistent}
use Rattle.run_model.specs.Meaning.{Sat}
use Rattle.run_model.specs.Class.{disjuncts}
use Rattle.rctl_class.specs.Nodes.{Node, formula_of}
use Rattle.rctl_class.specs.Uses.{Agree, uses_of}
use Rattle.rctl_class.specs.Counters.{counters_of, disjuncts_counters, HaveSameMembers}
use Rattle.rctl_class.specs.Faults.{first_fault}
use Rattle.rctl_class.specs.NamedParts.{NamedPiece, part_formula, disjuncts_uses, AreDisjuncts}
use Rattle.rctl_class.specs.Walk.{disjuncts_from}

-- two formulas are true at the same consistent cuts of every run
abbrev pub MeanTheSame : Formula → Formula → Type 0
MeanTheSame f g =
    (r : Run) → IsOrder r.clocks → (c : Cut) → IsConsistent r.clocks c → Sat r f c ↔ Sat r g c

-- what stands at the head of a formula, over its operand: an operator, the next event of a process,
-- or neither
pub data Head : Type 0 where
  bare : Head
  operated : (operator : model.Operator) (f : Formula) → Head
  stepped : (process : Name) (f : Formula) → Head

abbrev pub head_of : Formula → Head
head_of (model.Truth b) = bare
head_of (model.Comparison process variable relation side) = bare
head_of (model.Watched process watch) = bare
head_of (model.InTransit sender receiver relation k) = bare
head_of (model.Empty sender receiver) = bare
head_of (model.Difference left_process left right_process right relation k) = bare
head_of (model.Not f) = bare
head_of (model.And fs) = bare
head_of (model.Or fs) = bare
head_of (model.Temporal operator f) = operated operator f
head_of (model.Next process f) = stepped process f
head_of (model.Until all left right) = bare

-- the same head over operands that mean the same
abbrev pub HaveOneHead : Head → Head → Type 0
HaveOneHead bare bare = ⊤
HaveOneHead (operated o f) (operated p g) = (o ≡ p) × MeanTheSame f g
HaveOneHead (stepped p f) (stepped q g) = (p ≡ q) × MeanTheSame f g
HaveOneHead h k = ⊥

-- a part stands for another
pub record Alike (f g : Formula) : Type 0 where
  pub head : HaveOneHead (head_of f) (head_of g)
  pub meaning : MeanTheSame f g

-- part by part
abbrev pub PartsAlike : List Formula → List Formula → Type 0
PartsAlike [] [] = ⊤
PartsAlike [] (g ∷ gs) = ⊥
PartsAlike (f ∷ fs) [] = ⊥
PartsAlike (f ∷ fs) (g ∷ gs) = Alike f g × PartsAlike fs gs

-- disjunct by disjunct
abbrev pub EachAlike : List (List Formula) → List (List Formula) → Type 0
EachAlike [] [] = ⊤
EachAlike [] (g ∷ gs) = ⊥
EachAlike (f ∷ fs) [] = ⊥
EachAlike (f ∷ fs) (g ∷ gs) = PartsAlike f g × EachAlike fs gs

-- the formulas of the parts of disjuncts
abbrev pub disjunct_formulas : List (List NamedPiece) → List (List Formula)
disjunct_formulas ds = map (map part_formula) ds

-- the disjuncts are those of the formula, which is of the class
pub record IsClassed (n : Node) (ds : List (List NamedPiece)) : Type 0 where
  pub free : first_fault false true n ≡ None
  -- they are these, in the order of the text
  pub split : ds ≡ disjuncts_from true n
  -- part by part they mean what the formula's disjuncts do
  pub meaning : EachAlike (disjunct_formulas ds) (disjuncts true (formula_of n))
  -- they have the counters of the formula
  pub counters : HaveSameMembers (disjuncts_counters (disjunct_formulas ds))
      (counters_of (formula_of n))
  -- their names have the first fault that the names of the text have
  pub names : Agree (disjuncts_uses ds) (uses_of n)
  pub sized : AreDisjuncts ds
