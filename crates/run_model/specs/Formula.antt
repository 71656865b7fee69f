-- Formulas over the consistent cuts of a run: RCTL's forms (Sen and Garg) over this project's
-- atoms, which name processes, variables and watches. The code's tree is seen as this, without its
-- places in the text.
use Rattle.std.specs.Prelude.{ℕ, Bool, ℤ}
use Rattle.run_model.specs.Run.{Name}

pub data Relation : Type 0 where
  Equal : Relation
  Unequal : Relation
  Less : Relation
  LessOrEqual : Relation
  Greater : Relation
  GreaterOrEqual : Relation

-- the right side of a comparison
pub data Side : Type 0 where
  Number : (k : ℤ) → Side
  Variable : (process variable : Name) → Side

pub data Operator : Type 0 where
  Ef : Operator
  Ag : Operator
  Eg : Operator
  Af : Operator
  Ax : Operator

mutual
  pub data Formula : Type 0 where
    Truth : (b : Bool) → Formula
    -- a variable of a process against a number or a variable
    Comparison : (process variable : Name) (relation : Relation) (side : Side) → Formula
    -- the watch of this name, over the states of the process
    Watched : (process watch : Name) → Formula
    -- the number of messages under way from the sender to the receiver, against k
    InTransit : (sender receiver : Name) (relation : Relation) (k : ℕ) → Formula
    -- that number is 0
    Empty : (sender receiver : Name) → Formula
    -- a variable of the left process less one of the right process, against k
    Difference : (left_process left right_process right : Name) (relation : Relation) (k : ℤ)
        → Formula
    Not : (f : Formula) → Formula
    And : (fs : Formulas) → Formula
    Or : (fs : Formulas) → Formula
    Temporal : (operator : Operator) (f : Formula) → Formula
    -- f at the cut with the next event of the process
    Next : (process : Name) (f : Formula) → Formula
    -- on all paths, or on some path
    Until : (all : Bool) (left right : Formula) → Formula

  pub data Formulas : Type 0 where
    Nil : Formulas
    Cons : (f : Formula) (fs : Formulas) → Formulas
