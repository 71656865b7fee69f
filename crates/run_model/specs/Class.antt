-- The formulas that are analysed: local and regular ones, and the disjunctions of regular ones
-- (regular predicates: Garg and Mittal; their closure under the temporal operators: Sen and Garg).
-- A sign says whether a formula stands under an even number of negations.
use Rattle.std.specs.Prelude.{ℕ, zero, suc, ◌+◌, ◌≤◌, ◌⊎◌, Bool, true, false, not, ◌&&◌, ◌||◌}
use Rattle.std.specs.Prelude.{if◌then◌else◌, IsTrue, MatchBool, ⊤, List, [], ◌∷◌, ◌++◌, bytes_eq}
use Rattle.std.specs.Prelude.{ℤ, pos, ◌+ℤ◌, ◌-ℤ◌, ◌≤ℤ◌}
use Rattle.std.specs.List.{list_all}
use Rattle.run_model.specs.Cut.{Cut}
use Rattle.run_model.specs.Run.{Name, Run}
use Rattle.run_model.specs.Formula.{Relation, Equal, Unequal, Less, LessOrEqual, Greater}
use Rattle.run_model.specs.Formula.{GreaterOrEqual, Side, Number, Variable, Operator, Ef, Ag, Eg}
use Rattle.run_model.specs.Formula.{Af, Ax, Formula, Truth, Comparison, Watched, InTransit, Empty}
use Rattle.run_model.specs.Formula.{Difference, Not, And, Or, Temporal, Next, Until, Formulas, Nil}
use Rattle.run_model.specs.Formula.{Cons}
use Rattle.run_model.specs.Meaning.{Sat, Family}
use Rattle.run_model.specs.Consistent.{IsConsistent}
use Rattle.run_model.specs.Sublattice.{Smallest}
use Rattle.run_model.specs.Slice.{Slice, StandsFor}

abbrev pub side_processes : Side → List Name
side_processes (Number k) = []
side_processes (Variable process variable) = process ∷ []

-- the processes that a formula's atoms name, in the order of the text
unfoldable mutual
  pub processes : Formula → List Name
  processes (Truth b) = []
  processes (Comparison process variable relation side) = process ∷ side_processes side
  processes (Watched process watch) = process ∷ []
  processes (InTransit sender receiver relation k) = sender ∷ receiver ∷ []
  processes (Empty sender receiver) = sender ∷ receiver ∷ []
  processes (Difference left_process left right_process right relation k) =
      left_process ∷ right_process ∷ []
  processes (Not f) = processes f
  processes (And fs) = all_processes fs
  processes (Or fs) = all_processes fs
  processes (Temporal operator f) = processes f
  processes (Next process f) = process ∷ processes f
  processes (Until all left right) = processes left ++ processes right

  pub all_processes : Formulas → List Name
  all_processes Nil = []
  all_processes (Cons f fs) = processes f ++ all_processes fs

-- only constants, comparisons, watches, not, and, or
unfoldable mutual
  pub is_plain : Formula → Bool
  is_plain (Truth b) = true
  is_plain (Comparison process variable relation side) = true
  is_plain (Watched process watch) = true
  is_plain (InTransit sender receiver relation k) = false
  is_plain (Empty sender receiver) = false
  is_plain (Difference left_process left right_process right relation k) = false
  is_plain (Not f) = is_plain f
  is_plain (And fs) = all_plain fs
  is_plain (Or fs) = all_plain fs
  is_plain (Temporal operator f) = false
  is_plain (Next process f) = false
  is_plain (Until all left right) = false

  pub all_plain : Formulas → Bool
  all_plain Nil = true
  all_plain (Cons f fs) = is_plain f && all_plain fs

-- one name at most, however often
abbrev pub is_one_name : List Name → Bool
is_one_name [] = true
is_one_name (name ∷ names) = list_all (bytes_eq name) names

-- local to one process: such a formula names at most one
abbrev pub is_local : Formula → Bool
is_local f = is_plain f && is_one_name (processes f)

-- the relation that holds exactly where this one does not
abbrev pub turned : Relation → Relation
turned Equal = Unequal
turned Unequal = Equal
turned Less = GreaterOrEqual
turned LessOrEqual = Greater
turned Greater = LessOrEqual
turned GreaterOrEqual = Less

abbrev pub after_sign : Bool → Relation → Relation
after_sign true relation = relation
after_sign false relation = turned relation

abbrev pub is_unequal : Relation → Bool
is_unequal Equal = false
is_unequal Unequal = true
is_unequal Less = false
is_unequal LessOrEqual = false
is_unequal Greater = false
is_unequal GreaterOrEqual = false

-- a difference of variables of two processes, under a sign that leaves it no `!=`
abbrev pub are_bounded : Bool → Name → Name → Relation → Bool
are_bounded sign left_process right_process relation =
    not (bytes_eq left_process right_process) && not (is_unequal (after_sign sign relation))

abbrev pub is_analysed : Operator → Bool
is_analysed Ef = true
is_analysed Ag = true
is_analysed Eg = true
is_analysed Af = false
is_analysed Ax = false

abbrev pub has_two : Formulas → Bool
has_two Nil = false
has_two (Cons f Nil) = false
has_two (Cons f (Cons g fs)) = true

-- each `and` and each `or` has two members or more, as in every formula that is read
unfoldable mutual
  pub is_wide : Formula → Bool
  is_wide (Truth b) = true
  is_wide (Comparison process variable relation side) = true
  is_wide (Watched process watch) = true
  is_wide (InTransit sender receiver relation k) = true
  is_wide (Empty sender receiver) = true
  is_wide (Difference left_process left right_process right relation k) = true
  is_wide (Not f) = is_wide f
  is_wide (And fs) = has_two fs && all_wide fs
  is_wide (Or fs) = has_two fs && all_wide fs
  is_wide (Temporal operator f) = is_wide f
  is_wide (Next process f) = is_wide f
  is_wide (Until all left right) = is_wide left && is_wide right

  pub all_wide : Formulas → Bool
  all_wide Nil = true
  all_wide (Cons f fs) = is_wide f && all_wide fs

-- the formula with this sign is a conjunction of regular parts
unfoldable mutual
  pub is_conjunctive : Bool → Formula → Bool
  is_conjunctive sign (Truth b) = true
  is_conjunctive sign (Comparison process variable relation side) =
      is_local (Comparison process variable relation side)
  is_conjunctive sign (Watched process watch) = true
  is_conjunctive sign (InTransit sender receiver relation k) =
      not (is_unequal (after_sign sign relation))
  is_conjunctive sign (Empty sender receiver) = true
  is_conjunctive sign (Difference left_process left right_process right relation k) =
      are_bounded sign left_process right_process relation
  is_conjunctive sign (Not f) = is_local (Not f) || is_conjunctive (not sign) f
  is_conjunctive true (And fs) = is_local (And fs) || all_conjunctive true fs
  is_conjunctive false (And fs) = is_local (And fs)
  is_conjunctive true (Or fs) = is_local (Or fs)
  is_conjunctive false (Or fs) = is_local (Or fs) || all_conjunctive false fs
  is_conjunctive true (Temporal operator f) = is_analysed operator && is_conjunctive true f
  is_conjunctive false (Temporal operator f) = false
  is_conjunctive true (Next process f) = is_conjunctive true f
  is_conjunctive false (Next process f) = false
  is_conjunctive sign (Until all left right) = false

  pub all_conjunctive : Bool → Formulas → Bool
  all_conjunctive sign Nil = true
  all_conjunctive sign (Cons f fs) = is_conjunctive sign f && all_conjunctive sign fs

-- the formula with this sign is a disjunction of such conjunctions
unfoldable mutual
  pub is_disjunctive : Bool → Formula → Bool
  is_disjunctive sign (Truth b) = true
  is_disjunctive sign (Comparison process variable relation side) =
      is_local (Comparison process variable relation side)
  is_disjunctive sign (Watched process watch) = true
  is_disjunctive sign (InTransit sender receiver relation k) =
      not (is_unequal (after_sign sign relation))
  is_disjunctive sign (Empty sender receiver) = true
  is_disjunctive sign (Difference left_process left right_process right relation k) =
      are_bounded sign left_process right_process relation
  is_disjunctive sign (Not f) = is_conjunctive sign (Not f) || is_disjunctive (not sign) f
  is_disjunctive true (And fs) = is_conjunctive true (And fs)
  is_disjunctive false (And fs) = is_local (And fs) || all_disjunctive false fs
  is_disjunctive true (Or fs) = is_local (Or fs) || all_disjunctive true fs
  is_disjunctive false (Or fs) = is_conjunctive false (Or fs)
  is_disjunctive sign (Temporal operator f) = is_conjunctive sign (Temporal operator f)
  is_disjunctive sign (Next process f) = is_conjunctive sign (Next process f)
  is_disjunctive sign (Until all left right) = false

  pub all_disjunctive : Bool → Formulas → Bool
  all_disjunctive sign Nil = true
  all_disjunctive sign (Cons f fs) = is_disjunctive sign f && all_disjunctive sign fs

-- a regular formula: its family is closed under minimum and maximum
abbrev pub IsRegular : Formula → Type 0
IsRegular f = IsTrue (is_conjunctive true f)

-- the variable is a counter: its value never falls along its process
abbrev pub NeverFalls : Run → Name → Name → Type 0
NeverFalls r process variable =
    (a b : ℕ) → a ≤ b
    → r.value (r.process process) variable a ≤ℤ r.value (r.process process) variable b

-- what a run has to keep for a formula to be regular in it: the variables of its differences never
-- fall
abbrev mutual
  pub IsKeptFor : Run → Formula → Type 0
  IsKeptFor r (Truth b) = ⊤
  IsKeptFor r (Comparison process variable relation side) = ⊤
  IsKeptFor r (Watched process watch) = ⊤
  IsKeptFor r (InTransit sender receiver relation k) = ⊤
  IsKeptFor r (Empty sender receiver) = ⊤
  IsKeptFor r (Difference left_process left right_process right relation k) =
      NeverFalls r left_process left × NeverFalls r right_process right
  IsKeptFor r (Not f) = IsKeptFor r f
  IsKeptFor r (And fs) = AreKeptFor r fs
  IsKeptFor r (Or fs) = AreKeptFor r fs
  IsKeptFor r (Temporal operator f) = IsKeptFor r f
  IsKeptFor r (Next process f) = IsKeptFor r f
  IsKeptFor r (Until all left right) = IsKeptFor r left × IsKeptFor r right

  pub AreKeptFor : Run → Formulas → Type 0
  AreKeptFor r Nil = ⊤
  AreKeptFor r (Cons f fs) = IsKeptFor r f × AreKeptFor r fs

-- a formula is regular in a run by its form, and by what the run keeps for it
pub record IsRegularIn (r : Run) (f : Formula) : Type 0 where
  pub form : IsRegular f
  pub kept : IsKeptFor r f

-- a formula of the class that is analysed
abbrev pub IsOfClass : Formula → Type 0
IsOfClass f = IsTrue (is_disjunctive true f)

abbrev pub signed : Bool → Formula → Formula
signed true f = f
signed false f = Not f

-- a channel comparison as parts with one bound each
abbrev pub channel_parts : Name → Name → Relation → ℕ → List Formula
channel_parts p q Equal k = InTransit p q LessOrEqual k ∷ InTransit p q GreaterOrEqual k ∷ []
channel_parts p q Unequal k = InTransit p q Unequal k ∷ []
channel_parts p q Less zero = Truth false ∷ []
channel_parts p q Less (suc k) = InTransit p q LessOrEqual k ∷ []
channel_parts p q LessOrEqual k = InTransit p q LessOrEqual k ∷ []
channel_parts p q Greater k = InTransit p q GreaterOrEqual (k + 1) ∷ []
channel_parts p q GreaterOrEqual k = InTransit p q GreaterOrEqual k ∷ []

abbrev pub empty_parts : Bool → Name → Name → List Formula
empty_parts true p q = InTransit p q LessOrEqual 0 ∷ []
empty_parts false p q = InTransit p q GreaterOrEqual 1 ∷ []

-- the comparison of a difference as parts with one bound each
abbrev pub difference_parts : Name → Name → Name → Name → Relation → ℤ → List Formula
difference_parts p x q y Equal k =
    Difference p x q y LessOrEqual k ∷ Difference p x q y GreaterOrEqual k ∷ []
difference_parts p x q y Unequal k = Difference p x q y Unequal k ∷ []
difference_parts p x q y Less k = Difference p x q y LessOrEqual (k -ℤ pos 1) ∷ []
difference_parts p x q y LessOrEqual k = Difference p x q y LessOrEqual k ∷ []
difference_parts p x q y Greater k = Difference p x q y GreaterOrEqual (k +ℤ pos 1) ∷ []
difference_parts p x q y GreaterOrEqual k = Difference p x q y GreaterOrEqual k ∷ []

-- the parts of the conjunction that the formula with this sign is: a local formula is one part, and
-- what is no conjunction too
unfoldable mutual
  pub parts : Bool → Formula → List Formula
  parts sign (Truth b) = signed sign (Truth b) ∷ []
  parts sign (Comparison process variable relation side) =
      signed sign (Comparison process variable relation side) ∷ []
  parts sign (Watched process watch) = signed sign (Watched process watch) ∷ []
  parts sign (InTransit sender receiver relation k) =
      channel_parts sender receiver (after_sign sign relation) k
  parts sign (Empty sender receiver) = empty_parts sign sender receiver
  parts sign (Difference left_process left right_process right relation k) =
      difference_parts left_process left right_process right (after_sign sign relation) k
  parts sign (Not f) = if is_local (Not f) then signed sign (Not f) ∷ [] else parts (not sign) f
  parts true (And fs) = if is_local (And fs) then And fs ∷ [] else all_parts true fs
  parts false (And fs) = Not (And fs) ∷ []
  parts true (Or fs) = Or fs ∷ []
  parts false (Or fs) = if is_local (Or fs) then Not (Or fs) ∷ [] else all_parts false fs
  parts sign (Temporal operator f) = signed sign (Temporal operator f) ∷ []
  parts sign (Next process f) = signed sign (Next process f) ∷ []
  parts sign (Until all left right) = signed sign (Until all left right) ∷ []

  pub all_parts : Bool → Formulas → List Formula
  all_parts sign Nil = []
  all_parts sign (Cons f fs) = parts sign f ++ all_parts sign fs

-- the disjuncts of the formula with this sign, each by its parts
unfoldable mutual
  pub disjuncts : Bool → Formula → List (List Formula)
  disjuncts sign (Truth b) = parts sign (Truth b) ∷ []
  disjuncts sign (Comparison process variable relation side) =
      parts sign (Comparison process variable relation side) ∷ []
  disjuncts sign (Watched process watch) = parts sign (Watched process watch) ∷ []
  disjuncts sign (InTransit sender receiver relation k) =
      parts sign (InTransit sender receiver relation k) ∷ []
  disjuncts sign (Empty sender receiver) = parts sign (Empty sender receiver) ∷ []
  disjuncts sign (Difference left_process left right_process right relation k) =
      parts sign (Difference left_process left right_process right relation k) ∷ []
  disjuncts sign (Not f) =
      if is_local (Not f) then parts sign (Not f) ∷ [] else disjuncts (not sign) f
  disjuncts true (And fs) = parts true (And fs) ∷ []
  disjuncts false (And fs) =
      if is_local (And fs) then parts false (And fs) ∷ [] else all_disjuncts false fs
  disjuncts true (Or fs) =
      if is_local (Or fs) then parts true (Or fs) ∷ [] else all_disjuncts true fs
  disjuncts false (Or fs) = parts false (Or fs) ∷ []
  disjuncts sign (Temporal operator f) = parts sign (Temporal operator f) ∷ []
  disjuncts sign (Next process f) = parts sign (Next process f) ∷ []
  disjuncts sign (Until all left right) = parts sign (Until all left right) ∷ []

  pub all_disjuncts : Bool → Formulas → List (List Formula)
  all_disjuncts sign Nil = []
  all_disjuncts sign (Cons f fs) = disjuncts sign f ++ all_disjuncts sign fs

-- all parts of a disjunct are true
abbrev pub SatParts : Run → List Formula → Cut → Type 0
SatParts r [] c = ⊤
SatParts r (f ∷ fs) c = Sat r f c × SatParts r fs c

-- some disjunct has all its parts true
abbrev pub SatDisjuncts : Run → List (List Formula) → Cut → Type 0
SatDisjuncts r [] c = ⊥
SatDisjuncts r (d ∷ ds) c = SatParts r d c ⊎ SatDisjuncts r ds c

-- the consistent cuts where all parts of a disjunct are true
abbrev pub DisjunctFamily : Run → List Formula → Cut → Type 0
DisjunctFamily r d c = IsConsistent r.clocks c × SatParts r d c

-- one slice per disjunct, which is that of the disjunct's family
abbrev pub StandForDisjuncts : Run → List Slice → List (List Formula) → Type 0
StandForDisjuncts r [] [] = ⊤
StandForDisjuncts r [] (d ∷ ds) = ⊥
StandForDisjuncts r (s ∷ ss) [] = ⊥
StandForDisjuncts r (s ∷ ss) (d ∷ ds) =
    StandsFor r.clocks s (DisjunctFamily r d) × StandForDisjuncts r ss ds

abbrev pub AreRegular : List Formula → Type 0
AreRegular [] = ⊤
AreRegular (f ∷ fs) = IsRegular f × AreRegular fs

-- every disjunct is made of regular parts
abbrev pub HaveRegularParts : List (List Formula) → Type 0
HaveRegularParts [] = ⊤
HaveRegularParts (d ∷ ds) = AreRegular d × HaveRegularParts ds

-- the run keeps what each part asks for
abbrev pub PartsKeptFor : Run → List Formula → Type 0
PartsKeptFor r [] = ⊤
PartsKeptFor r (f ∷ fs) = IsKeptFor r f × PartsKeptFor r fs

-- the run keeps what the parts of every disjunct ask for
abbrev pub DisjunctsKeptFor : Run → List (List Formula) → Type 0
DisjunctsKeptFor r [] = ⊤
DisjunctsKeptFor r (d ∷ ds) = PartsKeptFor r d × DisjunctsKeptFor r ds

-- the cuts that a report of the formula shows: its family where it is regular, and else the
-- smallest sublattice round its family
abbrev pub Shown : Run → Formula → Cut → Type 0
Shown r f c = MatchBool (is_conjunctive true f) (Family r f c) (Smallest (Family r f) c)
