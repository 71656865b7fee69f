-- When two runs agree on what a formula names: its processes by their numbers, variables and
-- watches by their values along the events of their process, channels by their counts.
use Rattle.std.specs.Prelude.{◌≡◌, ℕ, ⊤}
use Rattle.run_model.specs.Run.{Name, Run}
use Rattle.run_model.specs.Formula.{Side, Number, Variable, Formula, Truth, Comparison, Watched}
use Rattle.run_model.specs.Formula.{InTransit, Empty, Difference, Not, And, Or, Temporal, Next}
use Rattle.run_model.specs.Formula.{Until, Formulas, Nil, Cons}

-- the variable of a process
pub record AgreeOnVariable (r s : Run) (process variable : Name) : Type 0 where
  pub number : r.process process ≡ s.process process
  pub values : (a : ℕ)
      → r.value (r.process process) variable a ≡ s.value (s.process process) variable a

-- the watch over a process
pub record AgreeOnWatch (r s : Run) (process watch : Name) : Type 0 where
  pub number : r.process process ≡ s.process process
  pub answers : (a : ℕ)
      → r.watched (r.process process) watch a ≡ s.watched (s.process process) watch a

-- the channel between two processes
pub record AgreeOnChannel (r s : Run) (p q : Name) : Type 0 where
  pub sender : r.process p ≡ s.process p
  pub receiver : r.process q ≡ s.process q
  pub sends : (a : ℕ)
      → r.sent (r.process p) (r.process q) a ≡ s.sent (s.process p) (s.process q) a
  pub receipts : (b : ℕ)
      → r.received (r.process p) (r.process q) b ≡ s.received (s.process p) (s.process q) b

-- the right side of a comparison
abbrev pub AgreeOnSide : Run → Run → Side → Type 0
AgreeOnSide r s (Number k) = ⊤
AgreeOnSide r s (Variable process variable) = AgreeOnVariable r s process variable

abbrev mutual
  -- everything that a formula names
  pub AgreeOn : Run → Run → Formula → Type 0
  AgreeOn r s (Truth b) = ⊤
  AgreeOn r s (Comparison process variable relation side) =
      AgreeOnVariable r s process variable × AgreeOnSide r s side
  AgreeOn r s (Watched process watch) = AgreeOnWatch r s process watch
  AgreeOn r s (InTransit sender receiver relation k) =
      AgreeOnChannel r s sender receiver
  AgreeOn r s (Empty sender receiver) = AgreeOnChannel r s sender receiver
  AgreeOn r s (Difference left_process left right_process right relation k) =
      AgreeOnVariable r s left_process left × AgreeOnVariable r s right_process right
  AgreeOn r s (Not f) = AgreeOn r s f
  AgreeOn r s (And fs) = AgreeOnAll r s fs
  AgreeOn r s (Or fs) = AgreeOnAll r s fs
  AgreeOn r s (Temporal operator f) = AgreeOn r s f
  AgreeOn r s (Next process f) = (r.process process ≡ s.process process) × AgreeOn r s f
  AgreeOn r s (Until all left right) = AgreeOn r s left × AgreeOn r s right

  pub AgreeOnAll : Run → Run → Formulas → Type 0
  AgreeOnAll r s Nil = ⊤
  AgreeOnAll r s (Cons f fs) = AgreeOn r s f × AgreeOnAll r s fs
