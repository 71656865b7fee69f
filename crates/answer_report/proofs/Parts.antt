-- What is answered of the parts of disjuncts: which numbers they have, and the witness of each.
use Rattle.std.proofs.Common.{◌≡◌, ℕ, ◌+◌, true, false, List, [], ◌∷◌, ◌++◌, length, Option, Some, None, refl, sym, ◌∙◌, ap, subst, arith}
use Rattle.std.specs.Prelude.{◌↔◌, IfSome}
use Rattle.std.specs.List.{AllByRecursion}
use Rattle.std.proofs.lemmas.Bool.{false≢true}
use Rattle.run_model.specs.Cut.{Cut, initial}
use Rattle.run_model.specs.Run.{Name, Run}
use Rattle.run_model.specs.Formula as model
use Rattle.run_model.specs.Formula.{Formula}
use Rattle.run_model.specs.Consistent.{IsOrder}
use Rattle.run_model.specs.Slice.{StandsFor}
use Rattle.run_model.specs.Meaning.{Sat, Family}
use Rattle.run_model.specs.Witness as witness
use Rattle.run_model.specs.Witness.{IsWitnessOf}
use Rattle.run_model.proofs.Orders.{initial_consistent}
use Rattle.run_model.proofs.SliceLemmas.{stands_same}
use Rattle.rctl_grammar.specs.declared.tree.Operator.{Operator}
use Rattle.rctl_grammar.specs.declared.tree.Operator.TheVariants as operator
use Rattle.rctl_parts.specs.Exprs as expr
use Rattle.rctl_parts.specs.Exprs.{Expr}
use Rattle.rctl_parts.specs.Pieces as piece
use Rattle.rctl_parts.specs.Pieces.{Atom, Piece, Pieces, atom, temporal, pieces, listed}
use Rattle.rctl_parts.specs.Spelled.{Names, numbered_name, formula_in, atom_formula, operated, formula_of, formulas_of}
use Rattle.rctl_parts.proofs.Spelling.{pieces-listed}
use Rattle.rctl_class.specs.Classed as class
use Rattle.rctl_class.specs.Classed.{MeanTheSame, Head, head_of, HaveOneHead, Alike}
use Rattle.slice_graph.specs.Views.{SliceView, slice_of}
use Rattle.slice_graph.specs.Fitting.{FitsOrder}
use Rattle.part_pulls.specs.declared.observed.Observed.{Observed}
use Rattle.conjunctions.specs.declared.answer.PartAnswer.{PartAnswer}
use Rattle.part_pulls.specs.Observing.{Reading, AreAnswers, Satisfying, clocks_seen, run_seen, names_seen}
use Rattle.conjunctions.specs.Answering.{IsSliceOf, Place, places_from, all_places, IsOperand}
use Rattle.conjunctions.specs.Answering.{IsPartAnswer, ArePartAnswers}
use Rattle.answer_report.specs.inside.Showing.{HasOperand, IsGivenFor}
use Rattle.answer_report.proofs.Named.{AreOfOneProcess, same_next}
use Rattle.answer_report.proofs.Choices.{AreOf, AreFrom, of_from, from_from, from_joined}

-- ---- numbers

pub record Parted (seen : Observed) (first rest : List Place) (parts : List PartAnswer) : Type 0 where
  pub mine : List PartAnswer
  pub later : List PartAnswer
  pub is : parts ≡ mine ++ later
  pub of_first : ArePartAnswers seen first mine
  pub of_rest : ArePartAnswers seen rest later

pub part_answers : (seen : Observed) (first rest : List Place) (parts : List PartAnswer) → ArePartAnswers seen (first ++ rest) parts → Parted seen first rest parts
part_answers seen [] rest parts h = record { mine = []; later = parts; is = refl; of_first = tt; of_rest = h }
part_answers seen (p ∷ first) rest [] h = absurd h
part_answers seen (p ∷ first) rest (a ∷ parts) h =
    let split = part_answers seen first rest parts h.1 in
    record { mine = a ∷ split.mine; later = split.later; is = ap (λ (ps : List PartAnswer). a ∷ ps) split.is; of_first = (h.0, split.of_first); of_rest = split.of_rest }

pub are_of : (seen : Observed) (n k : ℕ) (ps : List Piece) (parts : List PartAnswer) → ArePartAnswers seen (places_from n k ps) parts → AreOf n parts
are_of seen n k [] [] h = tt
are_of seen n k [] (a ∷ parts) h = absurd h
are_of seen n k (p ∷ ps) [] h = absurd h
are_of seen n k (p ∷ ps) (a ∷ parts) h = (h.0.of_disjunct, are_of seen n (k + 1) ps parts h.1)

pub are_from : (seen : Observed) (n : ℕ) (ds : List (List Piece)) (parts : List PartAnswer) → ArePartAnswers seen (all_places n ds) parts → AreFrom n parts
are_from seen n [] [] h = tt
are_from seen n [] (a ∷ parts) h = absurd h
are_from seen n (ps ∷ ds) parts h =
    let split = part_answers seen (places_from n 1 ps) (all_places (n + 1) ds) parts h in
    subst (AreFrom n) (sym split.is) (
    from_joined n split.mine split.later (of_from n n split.mine (omega arith) (are_of seen n 1 ps split.mine split.of_first))
    (from_from n (n + 1) split.later (omega arith) (are_from seen (n + 1) ds split.later split.of_rest))
    )

-- ---- operands

operand_fits : (seen : Observed) (p : Piece) (o : Option Operator) (s : Option SliceView) → IsOperand seen p o s → IfSome s (FitsOrder (clocks_seen seen))
operand_fits seen (atom a) o s h = subst (λ (t : Option SliceView). IfSome t (FitsOrder (clocks_seen seen))) (sym h.1) tt
operand_fits seen (temporal op ps) o None h = absurd h
operand_fits seen (temporal op ps) o (Some s) h = h.1.fits

pub operands_fit : (seen : Observed) (places : List Place) (parts : List PartAnswer) → ArePartAnswers seen places parts → AllByRecursion (HasOperand (clocks_seen seen)) parts
operands_fit seen [] [] h = tt
operands_fit seen [] (a ∷ parts) h = absurd h
operands_fit seen (p ∷ places) [] h = absurd h
operands_fit seen (p ∷ places) (a ∷ parts) h = (operand_fits seen p.piece a.operator a.operand h.0.operand, operands_fit seen places parts h.1)

-- ---- the witness of a part

-- what was observed has an order, the reading answers what stands in the rows, and the name of a
-- process's number stands for the process
pub record IsReadIn (seen : Observed) (reading : Reading) : Type 0 where
  pub order : IsOrder (clocks_seen seen)
  pub are : AreAnswers seen reading
  pub named : (p : ℕ) → AreOfOneProcess (length (clocks_seen seen)) p ((run_seen seen reading).process (numbered_name (names_seen seen reading).processes p))

no_operator_in : (variables watches : List Name) (process : Name) (e : Expr) → head_of (formula_in variables watches process e) ≡ class.bare
no_operator_in variables watches process (expr.truth value) = refl
no_operator_in variables watches process (expr.comparison left compare right) = refl
no_operator_in variables watches process (expr.watch number) = refl
no_operator_in variables watches process (expr.negation e) = refl
no_operator_in variables watches process (expr.conjunction es) = refl
no_operator_in variables watches process (expr.disjunction es) = refl

no_operator_at : (names : Names) (a : Atom) → head_of (atom_formula names a) ≡ class.bare
no_operator_at names (piece.local None e) = no_operator_in [] [] [] e
no_operator_at names (piece.local (Some p) e) = no_operator_in _ _ _ e
no_operator_at names (piece.at_most p q k) = refl
no_operator_at names (piece.at_least p q k) = refl
no_operator_at names piece.never = refl
no_operator_at names (piece.diff_at_most p x q y k) = refl
no_operator_at names (piece.diff_at_least p x q y k) = refl

-- the witness of each formula with this head over an operand that means the same
abbrev WitnessBy : Run → Head → witness.Witness → Type 0
WitnessBy r class.bare w = w ≡ witness.Nothing
WitnessBy r (class.operated op g) w = (f : Formula) → MeanTheSame g f → IsWitnessOf r (model.Temporal op f) w
WitnessBy r (class.stepped process g) w = (f : Formula) → MeanTheSame g f → IsWitnessOf r (model.Next process f) w

by_bare : (r : Run) (h : Head) (w : witness.Witness) → HaveOneHead h class.bare → WitnessBy r h w → w ≡ witness.Nothing
by_bare r class.bare w same is = is
by_bare r (class.operated op g) w same is = absurd same
by_bare r (class.stepped process g) w same is = absurd same

by_operated : (r : Run) (h : Head) (op : model.Operator) (f : Formula) (w : witness.Witness) → HaveOneHead h (class.operated op f) → WitnessBy r h w → IsWitnessOf r (model.Temporal op f) w
by_operated r class.bare op f w same is = absurd same
by_operated r (class.operated o g) op f w same is = subst (λ (m : model.Operator). IsWitnessOf r (model.Temporal m f) w) same.0 (is f same.1)
by_operated r (class.stepped process g) op f w same is = absurd same

by_stepped : (r : Run) (h : Head) (process : Name) (f : Formula) (w : witness.Witness) → HaveOneHead h (class.stepped process f) → WitnessBy r h w → IsWitnessOf r (model.Next process f) w
by_stepped r class.bare process f w same is = absurd same
by_stepped r (class.operated op g) process f w same is = absurd same
by_stepped r (class.stepped name g) process f w same is = subst (λ (n : Name). IsWitnessOf r (model.Next n f) w) same.0 (is f same.1)

by_head : (r : Run) (h : Head) (f : Formula) (w : witness.Witness) → HaveOneHead h (head_of f) → WitnessBy r h w → IsWitnessOf r f w
by_head r h (model.Truth b) w same is = by_bare r h w same is
by_head r h (model.Comparison process variable relation side) w same is = by_bare r h w same is
by_head r h (model.Watched process watch) w same is = by_bare r h w same is
by_head r h (model.InTransit sender receiver relation k) w same is = by_bare r h w same is
by_head r h (model.Empty sender receiver) w same is = by_bare r h w same is
by_head r h (model.Difference left_process left right_process right relation k) w same is = by_bare r h w same is
by_head r h (model.Not f) w same is = by_bare r h w same is
by_head r h (model.And fs) w same is = by_bare r h w same is
by_head r h (model.Or fs) w same is = by_bare r h w same is
by_head r h (model.Temporal op f) w same is = by_operated r h op f w same is
by_head r h (model.Next process f) w same is = by_stepped r h process f w same is
by_head r h (model.Until all left right) w same is = by_bare r h w same is

-- the witness by a slice that stands for the family of what means the same as the operand
by_slice : (r : Run) (names : Names) (op : Operator) (s : SliceView) (g : Formula) → ((f : Formula) → MeanTheSame g f → StandsFor r.clocks (slice_of s) (Family r f))
    → ((p : ℕ) → AreOfOneProcess (length r.clocks) p (r.process (numbered_name names.processes p)))
    → (w : witness.Witness) → IsGivenFor r.clocks (Some op) (Some s) w → WitnessBy r (head_of (operated names op g)) w
by_slice r names operator.Ef s g stands named w h = λ f same. (slice_of s, stands f same, h)
by_slice r names operator.Ag s g stands named w h = λ f same. (slice_of s, stands f same, h)
by_slice r names operator.Eg s g stands named w h = λ f same. (slice_of s, stands f same, h)
by_slice r names (operator.Ex p) s g stands named w h = λ f same. (slice_of s, stands f same, same_next r.clocks (slice_of s) p (r.process (numbered_name names.processes p)) (named p) w h)
by_slice r names operator.Af s g stands named w h = λ f same. h
by_slice r names operator.Ax s g stands named w h = λ f same. h

-- the operand's slice stands for the family of what means the same
operand_stands : (seen : Observed) (reading : Reading) → IsOrder (clocks_seen seen) → AreAnswers seen reading → (s : SliceView) (ps : Pieces) → IsSliceOf seen s (listed ps) → (f : Formula)
    → MeanTheSame (model.And (formulas_of (names_seen seen reading) ps)) f → StandsFor (clocks_seen seen) (slice_of s) (Family (run_seen seen reading) f)
operand_stands seen reading order are s ps is f means =
    stands_same (clocks_seen seen) (slice_of s) (Satisfying seen reading (listed ps)) (Family (run_seen seen reading) f) same (is.stands reading are)
  where
    spelled : (c : Cut) → Satisfying seen reading (listed ps) c ↔ Family (run_seen seen reading) (model.And (formulas_of (names_seen seen reading) ps)) c
    spelled c =
        let P : Pieces → Type 0 = λ qs. Family (run_seen seen reading) (model.And (formulas_of (names_seen seen reading) qs)) c in
        (λ h. subst P (pieces-listed ps) h, λ h. subst P (sym (pieces-listed ps)) h)

    same : (c : Cut) → Satisfying seen reading (listed ps) c ↔ Family (run_seen seen reading) f c
    same c = (
      λ h. let k = (spelled c).0 h in (k.0, (means (run_seen seen reading) order c k.0).0 k.1),
      λ h. (spelled c).1 (h.0, (means (run_seen seen reading) order c h.0).1 h.1),
    )

-- the witness that is given for a part is that of each formula that the part stands for
pub given_is : (seen : Observed) (reading : Reading) → IsReadIn seen reading → (p : Piece) (o : Option Operator) (s : Option SliceView) → IsOperand seen p o s
    → (f : Formula) → Alike (formula_of (names_seen seen reading) p) f
    → (w : witness.Witness) → IsGivenFor (clocks_seen seen) o s w → IsWitnessOf (run_seen seen reading) f w
given_is seen reading known (atom a) o s h f alike w k =
    let nothing : w ≡ witness.Nothing = subst (λ (op : Option Operator). IsGivenFor (clocks_seen seen) op s w) h.0 k in
    by_head (run_seen seen reading) class.bare f w (subst (λ (h : Head). HaveOneHead h (head_of f)) (no_operator_at (names_seen seen reading) a) alike.head) nothing
given_is seen reading known (temporal op ps) o None h f alike w k = absurd h
given_is seen reading known (temporal op ps) o (Some s) h f alike w k =
    let names = names_seen seen reading in
    let operand : Formula = model.And (formulas_of names ps) in
    by_head (run_seen seen reading) (head_of (operated names op operand)) f w alike.head
    (by_slice (run_seen seen reading) names op s operand (operand_stands seen reading known.order known.are s ps h.1) known.named w
    (subst (λ (op : Option Operator). IsGivenFor (clocks_seen seen) op (Some s) w) h.0 k))

-- ---- the truth of a part

pub true_part : (seen : Observed) (reading : Reading) → IsOrder (clocks_seen seen) → AreAnswers seen reading → (of : Place) (a : PartAnswer) → IsPartAnswer seen of a
    → (f : Formula) → Alike (formula_of (names_seen seen reading) of.piece) f → a.truth ≡ true → Sat (run_seen seen reading) f (initial (clocks_seen seen))
true_part seen reading order are of a is f alike t =
    (alike.meaning (run_seen seen reading) order (initial (clocks_seen seen)) (initial_consistent (clocks_seen seen))).0 ((is.truth reading are).0 t)

pub false_part : (seen : Observed) (reading : Reading) → IsOrder (clocks_seen seen) → AreAnswers seen reading → (of : Place) (a : PartAnswer) → IsPartAnswer seen of a
    → (f : Formula) → Alike (formula_of (names_seen seen reading) of.piece) f → a.truth ≡ false → Sat (run_seen seen reading) f (initial (clocks_seen seen)) → ⊥
false_part seen reading order are of a is f alike t sat =
    let holds : a.truth ≡ true = (is.truth reading are).1 ((alike.meaning (run_seen seen reading) order (initial (clocks_seen seen)) (initial_consistent (clocks_seen seen))).1 sat) in
    absurd (false≢true (sym t ∙ holds))
