-- The answer of a formula: its truth, its slice, and the truth and the operand's slice of each
-- part.
use Rattle.std.specs.Prelude.{◌≡◌, ℕ, ◌+◌, ◌↔◌, Bool, List, [], ◌∷◌, ◌++◌, Option, None, Some}
use Rattle.std.specs.Prelude.{IsTrue}
use Rattle.run_model.specs.Cut.{Cut, initial}
use Rattle.run_model.specs.Sublattice.{Smallest}
use Rattle.run_model.specs.Slice.{StandsFor, Cuts}
use Rattle.run_model.specs.Meaning.{Sat, Family}
use Rattle.rctl_grammar.specs.declared.tree.Operator.{Operator}
use Rattle.slice_graph.specs.Views.{SliceView, slice_of}
use Rattle.slice_graph.specs.Fitting.{FitsOrder}
use Rattle.rctl_parts.specs.Pieces.{Piece, atom, temporal, listed}
use Rattle.rctl_parts.specs.Spelled.{formula_of, disjunction_of}
use Rattle.part_pulls.specs.declared.observed.Observed.{Observed}
use Rattle.conjunctions.specs.declared.answer.PartAnswer.{PartAnswer}
use Rattle.conjunctions.specs.declared.answer.Answer.{Answer}
use Rattle.part_pulls.specs.Observing.{Reading, AreAnswers, Satisfying, clocks_seen, run_seen}
use Rattle.part_pulls.specs.Observing.{names_seen}

-- the slice is that of the consistent cuts at which all of the parts are true
pub record IsSliceOf (seen : Observed) (slice : SliceView) (ps : List Piece) : Type 0 where
  pub fits : FitsOrder (clocks_seen seen) slice
  pub cuts : (reading : Reading) → AreAnswers seen reading
      → (c : Cut) → Cuts (clocks_seen seen) (slice_of slice) c ↔ Satisfying seen reading ps c
  pub stands : (reading : Reading) → AreAnswers seen reading
      → StandsFor (clocks_seen seen) (slice_of slice) (Satisfying seen reading ps)

-- a part of a disjunct, with the numbers of both, from 1
pub record Place : Type 0 where
  pub disjunct : ℕ
  pub part : ℕ
  pub piece : Piece

abbrev pub place : ℕ → ℕ → Piece → Place
place d k p = record { disjunct = d; part = k; piece = p }

-- the parts of one disjunct, numbered from a number on
abbrev pub places_from : ℕ → ℕ → List Piece → List Place
places_from d k [] = []
places_from d k (p ∷ ps) = place d k p ∷ places_from d (k + 1) ps

-- the parts of disjuncts, which are numbered from a number on
abbrev pub all_places : ℕ → List (List Piece) → List Place
all_places d [] = []
all_places d (ps ∷ ds) = places_from d 1 ps ++ all_places (d + 1) ds

-- a temporal part has its operator and the slice of its operand, another part has neither
abbrev pub IsOperand : Observed → Piece → Option Operator → Option SliceView → Type 0
IsOperand seen (atom a) operator operand = (operator ≡ None) × (operand ≡ None)
IsOperand seen (temporal o ps) operator None = ⊥
IsOperand seen (temporal o ps) operator (Some slice) =
    (operator ≡ Some o) × IsSliceOf seen slice (listed ps)

-- the truth of a part at the initial cut
abbrev pub HoldsAtFirst : Observed → Piece → Bool → Type 0
HoldsAtFirst seen p truth =
    (reading : Reading) → AreAnswers seen reading
    → IsTrue truth ↔ Sat (run_seen seen reading) (formula_of (names_seen seen reading) p)
    (initial (clocks_seen seen))

pub record IsPartAnswer (seen : Observed) (of : Place) (answer : PartAnswer) : Type 0 where
  pub of_disjunct : answer.disjunct ≡ of.disjunct
  pub of_part : answer.part ≡ of.part
  pub truth : HoldsAtFirst seen of.piece answer.truth
  pub operand : IsOperand seen of.piece answer.operator answer.operand

-- one answer for each part, in their order
abbrev pub ArePartAnswers : Observed → List Place → List PartAnswer → Type 0
ArePartAnswers seen [] [] = Unit {0}
ArePartAnswers seen [] (a ∷ answers) = ⊥
ArePartAnswers seen (p ∷ places) [] = ⊥
ArePartAnswers seen (p ∷ places) (a ∷ answers) =
    IsPartAnswer seen p a × ArePartAnswers seen places answers

-- what is said of a formula of these disjuncts: its truth at the initial cut, the slice of the
-- smallest sublattice that holds the consistent cuts at which it is true, and the answer of each
-- part
pub record IsAnswer (seen : Observed) (ds : List (List Piece)) (answer : Answer) : Type 0 where
  pub of_batch : answer.batch ≡ seen.trace.batches
  pub truth : (reading : Reading) → AreAnswers seen reading
      → IsTrue answer.truth ↔ Sat (run_seen seen reading)
      (disjunction_of (names_seen seen reading) ds) (initial (clocks_seen seen))
  pub fits : FitsOrder (clocks_seen seen) answer.slice
  pub stands : (reading : Reading) → AreAnswers seen reading
      → StandsFor (clocks_seen seen) (slice_of answer.slice)
      (Smallest (Family (run_seen seen reading) (disjunction_of (names_seen seen reading) ds)))
  pub parts : ArePartAnswers seen (all_places 1 ds) answer.parts
