-- Worked examples: small logs, and words to write formulas over them and what comes out.
use Rattle.std.specs.Prelude.{ℕ, Bool, true, MatchBool, List, [], ◌∷◌, ℤ, pos}
use Rattle.run_model.specs.Cut.{Cut, initial}
use Rattle.run_model.specs.Run.{Name, Kind, Internal, Send, Receive, Event, Process, Trace, Run}
use Rattle.run_model.specs.Run.{run_of}
use Rattle.run_model.specs.Formula.{Relation, Equal, Unequal, LessOrEqual, Number, Formula}
use Rattle.run_model.specs.Formula.{Comparison, Difference, And, Or, Nil, Cons}
use Rattle.run_model.specs.Meaning.{Sat, Family}
use Rattle.run_model.specs.Class.{Shown}
use Rattle.run_model.specs.Slice.{Slice, StandsFor, Edge, IsPrintedAs}
use Rattle.run_model.specs.Witness.{WitnessOperator, Place, PathTo, Witness, IsCanonical}
use Rattle.std.specs.Ordering.{int_eq}
use Rattle.std.specs.Cmp.Lexicographic.{pointwise}

-- P and Q, x and y
abbrev pub p : Name
p = 80 ∷ []

abbrev pub q : Name
q = 81 ∷ []

abbrev pub x : Name
x = 120 ∷ []

abbrev pub y : Name
y = 121 ∷ []

-- a cut of two processes
abbrev pub cut : ℕ → ℕ → Cut
cut a b = a ∷ b ∷ []

-- an event that sets the first variable, and one that sets none
abbrev pub sets : Cut → Kind → ℕ → Event
sets clock kind value =
    record { clock = clock; kind = kind; assigns = record { variable = 0; value = pos value } ∷ [] }

abbrev pub sets_nothing : Cut → Kind → Event
sets_nothing clock kind = record { clock = clock; kind = kind; assigns = [] }

abbrev pub starting_at_zero : Name → Name → List Event → Process
starting_at_zero name variable events =
    record {
      name = name;
      variables = record { name = variable; value = pos 0 }
          ∷ [];
      events = events;
    }

-- P sends to Q, works on, and receives the answer; Q receives and answers
abbrev pub five_events : Trace
five_events =
    starting_at_zero p x (sets (cut 1 0) (Send 1 1) 1 ∷ sets (cut 2 0) Internal 2
    ∷ sets_nothing (cut 3 2) (Receive 1 2) ∷ [])
    ∷ starting_at_zero q y (sets (cut 1 1) (Receive 0 1) 1 ∷ sets (cut 1 2) (Send 0 2) 2 ∷ [])
    ∷ []

-- the first two events of P alone
abbrev pub first_two_events : Trace
first_two_events =
    starting_at_zero p x (sets (cut 1 0) (Send 1 1) 1 ∷ sets (cut 2 0) Internal 2 ∷ [])
    ∷ starting_at_zero q y []
    ∷ []

-- two processes that do not meet
abbrev pub two_events : Trace
two_events =
    starting_at_zero p x (sets (cut 1 0) Internal 1 ∷ [])
    ∷ starting_at_zero q y (sets (cut 0 1) Internal 1 ∷ [])
    ∷ []

-- one process without events
abbrev pub no_events : Trace
no_events = record { name = p; variables = []; events = [] } ∷ []

-- whether each state equals the one before it
abbrev pub repeats : List ℤ → List (List ℤ) → List Bool
repeats before [] = []
repeats before (state ∷ rest) = pointwise int_eq before state ∷ repeats state rest

-- a watch that is true at the first state and at each one that equals the state before it
abbrev pub stable : List (List ℤ) → List Bool
stable [] = []
stable (state ∷ rest) = true ∷ repeats state rest

-- the run of a log, with this watch under every name
abbrev pub run_with_watch : Trace → Run
run_with_watch trace = run_of trace (λ name states. stable states)

abbrev pub x_is : ℕ → Formula
x_is k = Comparison p x Equal (Number (pos k))

abbrev pub x_is_not : ℕ → Formula
x_is_not k = Comparison p x Unequal (Number (pos k))

abbrev pub x_at_most : ℕ → Formula
x_at_most k = Comparison p x LessOrEqual (Number (pos k))

abbrev pub y_is : ℕ → Formula
y_is k = Comparison q y Equal (Number (pos k))

-- P.x - Q.y against k
abbrev pub x_less_y : Relation → ℕ → Formula
x_less_y relation k = Difference p x q y relation (pos k)

abbrev pub both : Formula → Formula → Formula
both f g = And (Cons f (Cons g Nil))

abbrev pub one_of : Formula → Formula → Formula
one_of f g = Or (Cons f (Cons g Nil))

-- the verdict is the truth at the initial cut
abbrev pub HasVerdict : Trace → Formula → Bool → Type 0
HasVerdict trace f verdict =
    MatchBool verdict (Sat (run_with_watch trace) f (initial (run_with_watch trace).clocks))
    (Sat (run_with_watch trace) f (initial (run_with_watch trace).clocks) → ⊥)

-- the slice of the cuts that are shown of the formula has this text
abbrev pub HasSlice : Trace → Formula → Cut → Cut → List Edge → Type 0
HasSlice trace f low high edges =
    IsPrintedAs (run_with_watch trace).clocks (Shown (run_with_watch trace) f) low high edges

-- no cut is shown
abbrev pub HasNoSlice : Trace → Formula → Type 0
HasNoSlice trace f = (c : Cut) → Shown (run_with_watch trace) f c → ⊥

abbrev pub at : ℕ → ℕ → Place
at process position = record { process = process; position = position }

abbrev pub path_to : Cut → List Place → PathTo
path_to goal steps = record { goal = goal; steps = steps }

-- the canonical witness for the operator over this operand, by whichever slice of the operand's
-- family
abbrev pub HasWitness : Trace → WitnessOperator → Formula → Witness → Type 0
HasWitness trace operator operand witness =
    (s : Slice) → StandsFor (run_with_watch trace).clocks s (Family (run_with_watch trace) operand)
    → IsCanonical (run_with_watch trace).clocks s operator witness

abbrev pub edge : ℕ → ℕ → ℕ → ℕ → Edge
edge cause b effect a =
    record { cause = cause; cause_position = b; effect = effect; effect_position = a }
