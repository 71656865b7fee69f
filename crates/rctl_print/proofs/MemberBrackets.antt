-- Which brackets stand round a formula that is given by the list of its members.
use Rattle.std.proofs.Common.{◌≡◌, ◌≤◌, true, List, [], ◌∷◌, map, length, refl, sym, arith}
use Rattle.rctl_grammar.specs.Shape.{Shape, Shapes, one, more, conjunction_on, disjunction_on}
use Rattle.rctl_print.specs.Canonical.{is_amp, encloses, needs_brackets}
use Rattle.rctl_print.specs.inside.Members.{joined_of}
use Rattle.rctl_print.specs.declared.joint.Joint.{Joint}
use Rattle.rctl_print.specs.declared.joint.Joint.TheVariants.{Amp, Bar}

conjunction_brackets : (outer : Joint) (front : Shapes) (s : Shape) (rest : List Shape) → needs_brackets outer (conjunction_on front s rest) ≡ is_amp outer
conjunction_brackets outer front s [] = refl
conjunction_brackets outer front s (next ∷ rest) = conjunction_brackets outer (more front s) next rest

disjunction_brackets : (outer : Joint) (front : Shapes) (s : Shape) (rest : List Shape) → needs_brackets outer (disjunction_on front s rest) ≡ true
disjunction_brackets outer front s [] = refl
disjunction_brackets outer front s (next ∷ rest) = disjunction_brackets outer (more front s) next rest

module _ {T : Type 0} (shape : T → Shape) (outer : Joint) where
  pub more_joined : (inner : Joint) (ms : List T) → 2 ≤ length ms → encloses outer inner ≡ needs_brackets outer (joined_of inner (map shape ms))
  more_joined inner [] h = absurd (omega arith)
  more_joined inner (m ∷ []) h = absurd (omega arith)
  more_joined Amp (m ∷ n ∷ ms) h = sym (conjunction_brackets outer (one (shape m)) (shape n) (map shape ms))
  more_joined Bar (m ∷ n ∷ ms) h = sym (disjunction_brackets outer (one (shape m)) (shape n) (map shape ms))
