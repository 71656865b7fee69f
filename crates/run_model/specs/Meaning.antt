-- Truth of a formula at a consistent cut of a run (Sen and Garg, on finite runs: every path can be
-- taken to the final cut).
use Rattle.std.specs.Prelude.{◌≡◌, ℕ, ◌-◌, ◌≤◌, ◌⊎◌, Bool, not, ◌==◌, if◌then◌else◌, IsTrue, ℤ, pos}
use Rattle.std.specs.Prelude.{◌-ℤ◌, int_lt, int_le, ⊤}
use Rattle.std.specs.Ordering.{int_eq}
use Rattle.run_model.specs.Cut.{Cut, count}
use Rattle.run_model.specs.Run.{Name, Run}
use Rattle.run_model.specs.Consistent.{IsOrder, IsConsistent}
use Rattle.run_model.specs.Operators.{EfHolds, AgHolds, EgHolds, ExHolds}
use Rattle.run_model.specs.Formula.{Relation, Equal, Unequal, Less, LessOrEqual, Greater}
use Rattle.run_model.specs.Formula.{GreaterOrEqual, Side, Number, Variable, Ef, Ag, Eg, Af, Ax}
use Rattle.run_model.specs.Formula.{Formula, Truth, Comparison, Watched, InTransit, Empty}
use Rattle.run_model.specs.Formula.{Difference, Not, And, Or, Temporal, Next, Until, Formulas, Nil}
use Rattle.run_model.specs.Formula.{Cons}

abbrev pub compares : Relation → ℤ → ℤ → Bool
compares Equal x y = int_eq x y
compares Unequal x y = not (int_eq x y)
compares Less x y = int_lt x y
compares LessOrEqual x y = int_le x y
compares Greater x y = int_lt y x
compares GreaterOrEqual x y = int_le y x

-- a variable of a process in the state after the events that the cut has of it
abbrev pub value_at : Run → Name → Name → Cut → ℤ
value_at r process variable c = r.value (r.process process) variable (count c (r.process process))

abbrev pub side_at : Run → Side → Cut → ℤ
side_at r (Number k) c = k
side_at r (Variable process variable) c = value_at r process variable c

-- the messages under way from p to q: sent within the cut and not received within it; none from a
-- process to itself
unfoldable pub in_transit : Run → ℕ → ℕ → Cut → ℕ
in_transit r p q c = if p == q then 0 else (r.sent p q (count c p) - r.received p q (count c q))

-- the clocks are an order, and the numbers of sends and receipts never fall along a process
pub record IsRun (r : Run) : Type 0 where
  pub order : IsOrder r.clocks
  pub sent_rises : (p q a b : ℕ) → a ≤ b → r.sent p q a ≤ r.sent p q b
  pub received_rises : (p q a b : ℕ) → a ≤ b → r.received p q a ≤ r.received p q b

-- at a consistent cut no channel has more receipts than sends, as in every log whose messages have
-- no fault
abbrev pub ReceiptsHaveSends : Run → Type 0
ReceiptsHaveSends r =
    (p q : ℕ) → (p ≡ q → ⊥) → (c : Cut) → IsConsistent r.clocks c
    → r.received p q (count c q) ≤ r.sent p q (count c p)

-- AF, AX and until are outside the fragment that is analysed. They are refused before any truth
-- is asked, so no meaning is given to them and no promise speaks of them
abbrev mutual
  pub Sat : Run → Formula → Cut → Type 0
  Sat r (Truth b) c = IsTrue b
  Sat r (Comparison process variable relation side) c =
      IsTrue (compares relation (value_at r process variable c) (side_at r side c))
  Sat r (Watched process watch) c =
      IsTrue (r.watched (r.process process) watch (count c (r.process process)))
  Sat r (InTransit sender receiver relation k) c =
      IsTrue (compares relation (pos (in_transit r (r.process sender) (r.process receiver) c))
      (pos k))
  Sat r (Empty sender receiver) c = in_transit r (r.process sender) (r.process receiver) c ≡ 0
  Sat r (Difference left_process left right_process right relation k) c =
      IsTrue (compares relation
      (value_at r left_process left c -ℤ value_at r right_process right c) k)
  Sat r (Not f) c = Sat r f c → ⊥
  Sat r (And fs) c = SatAll r fs c
  Sat r (Or fs) c = SatSome r fs c
  Sat r (Temporal Ef f) c = EfHolds r.clocks (Sat r f) c
  Sat r (Temporal Ag f) c = AgHolds r.clocks (Sat r f) c
  Sat r (Temporal Eg f) c = EgHolds r.clocks (Sat r f) c
  Sat r (Temporal Af f) c = ⊥
  Sat r (Temporal Ax f) c = ⊥
  Sat r (Next process f) c = ExHolds r.clocks (r.process process) (Sat r f) c
  Sat r (Until all left right) c = ⊥

  -- each formula is true
  pub SatAll : Run → Formulas → Cut → Type 0
  SatAll r Nil c = ⊤
  SatAll r (Cons f fs) c = Sat r f c × SatAll r fs c

  -- some formula is true
  pub SatSome : Run → Formulas → Cut → Type 0
  SatSome r Nil c = ⊥
  SatSome r (Cons f fs) c = Sat r f c ⊎ SatSome r fs c

-- the consistent cuts where the formula is true
abbrev pub Family : Run → Formula → Cut → Type 0
Family r f c = IsConsistent r.clocks c × Sat r f c
