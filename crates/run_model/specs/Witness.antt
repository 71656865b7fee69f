-- Witnesses of a temporal formula at the initial cut: the kinds, when a witness is of its kind, and
-- the canonical one (both ours).
use Rattle.std.specs.Prelude.{◌≡◌, ℕ, ◌+◌, ◌<◌, ◌≤◌, ◌⊎◌, ◌↔◌, Bool, true, false, IsFalse, List, []}
use Rattle.std.specs.Prelude.{◌∷◌, length, Option, Some, None, MatchOption}
use Rattle.run_model.specs.Cut.{Cut, Clocks, count, IsWithin, with_next, lengths, initial}
use Rattle.run_model.specs.Run.{Name, Run}
use Rattle.run_model.specs.Consistent.{clock, IsEvent, IsConsistent}
use Rattle.run_model.specs.Sublattice.{IsLeast}
use Rattle.run_model.specs.Slice.{Slice, Cuts, StandsFor}
use Rattle.run_model.specs.Formula.{Ef, Ag, Eg, Af, Ax, Formula, Truth, Comparison, Watched}
use Rattle.run_model.specs.Formula.{InTransit, Empty, Difference, Not, And, Or, Temporal, Next}
use Rattle.run_model.specs.Formula.{Until}
use Rattle.run_model.specs.Operators.{ExHolds}
use Rattle.run_model.specs.Meaning.{Sat, Family}

-- an event by its process, from 0, and its position there, from 1
pub record Place : Type 0 where
  pub process : ℕ
  pub position : ℕ

-- the events that lead from the initial cut to the goal, one after the other
pub record PathTo : Type 0 where
  pub goal : Cut
  pub steps : List Place

pub data Witness : Type 0 where
  Nothing : Witness
  Reach : (path : PathTo) → Witness
  Against : (path : PathTo) → Witness
  Always : (path : PathTo) → Witness
  StuckStart : Witness
  StuckFinish : Witness
  StuckPair : (first other : Place) → Witness

-- the steps are a path from c to d within a set
abbrev pub StepsIn : (Cut → Type 0) → Cut → List Place → Cut → Type 0
StepsIn A c [] d = A c × (c ≡ d)
StepsIn A c (e ∷ es) d =
    A c × (e.process < length c) × (e.position ≡ count c e.process + 1)
    × StepsIn A (with_next c e.process) es d

abbrev pub is_temporal : Formula → Bool
is_temporal (Truth b) = false
is_temporal (Comparison process variable relation side) = false
is_temporal (Watched process watch) = false
is_temporal (InTransit sender receiver relation k) = false
is_temporal (Empty sender receiver) = false
is_temporal (Difference left_process left right_process right relation k) = false
is_temporal (Not f) = false
is_temporal (And fs) = false
is_temporal (Or fs) = false
is_temporal (Temporal operator f) = true
is_temporal (Next process f) = true
is_temporal (Until all left right) = false

-- two events differ
abbrev pub AreTwo : Place → Place → Type 0
AreTwo e f = (e.process ≡ f.process) × (e.position ≡ f.position) → ⊥

abbrev pub HasPlace : Cut → Place → Type 0
HasPlace c e = e.position ≤ count c e.process

abbrev pub IsPlace : Clocks → Place → Type 0
IsPlace o e = IsEvent (lengths o) e.process e.position

-- the path of one step, the first event of process i
abbrev pub first_event_of : Clocks → ℕ → PathTo
first_event_of o i =
    record {
      goal = with_next (initial o) i;
      steps = record { process = i; position = 1 } ∷ [];
    }

-- what a witness of a part says of the part at the initial cut
pub data IsOfKind (r : Run) : Formula → Witness → Type 0 where
  -- the steps lead to the least cut where f is true
  reaches : {f : Formula} {path : PathTo}
      → StepsIn (IsConsistent r.clocks) (initial r.clocks) path.steps path.goal
      → IsLeast (Family r f) path.goal → IsOfKind r (Temporal Ef f) (Reach path)
  -- the steps lead to a cut where f is false
  refutes : {f : Formula} {path : PathTo}
      → StepsIn (IsConsistent r.clocks) (initial r.clocks) path.steps path.goal
      → (Sat r f path.goal → ⊥) → IsOfKind r (Temporal Ag f) (Against path)
  -- the steps lead to the final cut, and f is true at each of their cuts
  stays : {f : Formula} {path : PathTo}
      → StepsIn (Family r f) (initial r.clocks) path.steps path.goal → path.goal ≡ lengths r.clocks
      → IsOfKind r (Temporal Eg f) (Always path)
  false_at_start : {f : Formula} → (Sat r f (initial r.clocks) → ⊥)
      → IsOfKind r (Temporal Eg f) StuckStart
  false_at_finish : {f : Formula} → (Sat r f (lengths r.clocks) → ⊥)
      → IsOfKind r (Temporal Eg f) StuckFinish
  -- two events of which each consistent cut where f is true has both or neither
  come_together : {f : Formula} {first other : Place} → IsPlace r.clocks first
      → IsPlace r.clocks other → AreTwo first other
      → ((c : Cut) → Family r f c → HasPlace c first ↔ HasPlace c other)
      → IsOfKind r (Temporal Eg f) (StuckPair first other)
  -- the step leads to a cut where f is true
  reaches_next : {process : Name} {f : Formula}
      → ExHolds r.clocks (r.process process) (Sat r f) (initial r.clocks)
      → IsOfKind r (Next process f) (Reach (first_event_of r.clocks (r.process process)))
  not_temporal : {f : Formula} → IsFalse (is_temporal f) → IsOfKind r f Nothing
  never : {f : Formula} → (Sat r (Temporal Ef f) (initial r.clocks) → ⊥)
      → IsOfKind r (Temporal Ef f) Nothing
  each_time : {f : Formula} → Sat r (Temporal Ag f) (initial r.clocks)
      → IsOfKind r (Temporal Ag f) Nothing
  never_next : {process : Name} {f : Formula}
      → (Sat r (Next process f) (initial r.clocks) → ⊥) → IsOfKind r (Next process f) Nothing

-- a path within a set that takes at each cut the next event of the first process whose next event
-- leads to a cut of the set
abbrev pub FirstSteps : (Cut → Type 0) → Cut → List Place → Cut → Type 0
FirstSteps A c [] d = A c × (c ≡ d)
FirstSteps A c (e ∷ es) d =
    A c × (e.process < length c) × (e.position ≡ count c e.process + 1)
    × ((j : ℕ) → j < e.process → A (with_next c j) → ⊥)
    × FirstSteps A (with_next c e.process) es d

-- to a goal, through consistent cuts within it
abbrev pub FirstStepsTo : Clocks → PathTo → Type 0
FirstStepsTo o path =
    FirstSteps (λ c. IsConsistent o c × IsWithin c path.goal) (initial o) path.steps path.goal

-- events in the order of their processes, and of one process in their order
abbrev pub IsBefore : Place → Place → Type 0
IsBefore e f = (e.process < f.process) ⊎ ((e.process ≡ f.process) × (e.position < f.position))

-- the first event in that order that has a property
pub record IsFirst (o : Clocks) (P : Place → Type 0) (e : Place) : Type 0 where
  pub there : IsPlace o e
  pub has : P e
  pub first : (f : Place) → IsPlace o f → IsBefore f e → P f → ⊥

abbrev pub row_at : Slice → Place → Option Cut
row_at s e = s.row e.process e.position

-- the row of the event is absent, or is not its past
abbrev pub Departs : Clocks → Slice → Place → Type 0
Departs o s e = row_at s e ≡ Some (clock o e.process e.position) → ⊥

-- the other event has the same row
abbrev pub Shares : Slice → Place → Place → Type 0
Shares s e f = AreTwo e f × (row_at s f ≡ row_at s e)

-- the operators whose parts get a witness: EF, AG, EG and EX of a process by the words that they
-- stand for
pub data WitnessOperator : Type 0 where
  ForEf : WitnessOperator
  ForAg : WitnessOperator
  ForEg : WitnessOperator
  ExistsNext : (process : ℕ) → WitnessOperator

-- the part is what the operator makes of the operand. EX names its process in the formula, and has
-- its number in the witness
abbrev pub IsPartOf : Run → WitnessOperator → Formula → Formula → Type 0
IsPartOf r ForEf f part = part ≡ Temporal Ef f
IsPartOf r ForAg f part = part ≡ Temporal Ag f
IsPartOf r ForEg f part = part ≡ Temporal Eg f
IsPartOf r (ExistsNext i) f part =
    (process : Name) × (r.process process ≡ i) × (part ≡ Next process f)

-- the first event of process i is there, and the cut with it alone is in the slice
abbrev pub HasFirst : Clocks → Slice → ℕ → Type 0
HasFirst o s i = (i < length o) × Cuts o s (with_next (initial o) i)

-- the witness that is given for an operator over an operand with this slice
pub data IsCanonical (o : Clocks) (s : Slice) : WitnessOperator → Witness → Type 0 where
  -- EF: to the least cut, if there is one
  reaches : {path : PathTo} → s.bottom ≡ Some path.goal → FirstStepsTo o path
      → IsCanonical o s ForEf (Reach path)
  never : s.bottom ≡ None → IsCanonical o s ForEf Nothing
  -- AG: against the initial cut, else against the past of the first event whose row is not its past
  refuted_at_start : (Cuts o s (initial o) → ⊥)
      → IsCanonical o s ForAg (Against (record { goal = initial o; steps = [] }))
  refuted : {path : PathTo} {e : Place} → Cuts o s (initial o) → IsFirst o (Departs o s) e
      → path.goal ≡ clock o e.process e.position → FirstStepsTo o path
      → IsCanonical o s ForAg (Against path)
  each_time : Cuts o s (initial o)
      → ((e : Place) → IsPlace o e → row_at s e ≡ Some (clock o e.process e.position))
      → IsCanonical o s ForAg Nothing
  -- EG: a path through the slice, else what stands against it: the initial cut, the final cut, or
  -- the first two events that share a row
  stays : {path : PathTo} → path.goal ≡ lengths o
      → FirstSteps (Cuts o s) (initial o) path.steps path.goal
      → IsCanonical o s ForEg (Always path)
  false_at_start : (Cuts o s (initial o) → ⊥) → IsCanonical o s ForEg StuckStart
  false_at_finish : Cuts o s (initial o) → (Cuts o s (lengths o) → ⊥)
      → IsCanonical o s ForEg StuckFinish
  come_together : {first other : Place} → Cuts o s (initial o) → Cuts o s (lengths o)
      → IsFirst o (λ e. (f : Place) × IsPlace o f × Shares s e f) first
      → IsFirst o (Shares s first) other → IsCanonical o s ForEg (StuckPair first other)
  -- EX: the one step, if it leads to a cut of the slice
  reaches_next : {process : ℕ} → HasFirst o s process
      → IsCanonical o s (ExistsNext process) (Reach (first_event_of o process))
  never_next : {process : ℕ} → (HasFirst o s process → ⊥)
      → IsCanonical o s (ExistsNext process) Nothing

-- the operator and the operand of a part that gets a witness
abbrev pub explained : Run → Formula → Option (WitnessOperator × Formula)
explained r (Truth b) = None
explained r (Comparison process variable relation side) = None
explained r (Watched process watch) = None
explained r (InTransit sender receiver relation k) = None
explained r (Empty sender receiver) = None
explained r (Difference left_process left right_process right relation k) = None
explained r (Not f) = None
explained r (And fs) = None
explained r (Or fs) = None
explained r (Temporal Ef f) = Some (ForEf, f)
explained r (Temporal Ag f) = Some (ForAg, f)
explained r (Temporal Eg f) = Some (ForEg, f)
explained r (Temporal Af f) = None
explained r (Temporal Ax f) = None
explained r (Next process f) = Some (ExistsNext (r.process process), f)
explained r (Until all left right) = None

-- the witness of a part in a run: the canonical one by the slice of its operand's family, and none
-- where the part has no such operand
abbrev pub IsWitnessOf : Run → Formula → Witness → Type 0
IsWitnessOf r f w = MatchOption (explained r f) (w ≡ Nothing)
    (λ part. (s : Slice) × StandsFor r.clocks s (Family r part.1) × IsCanonical r.clocks s part.0 w)
