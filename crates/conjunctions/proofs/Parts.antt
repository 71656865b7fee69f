-- What one part adds to the pulls of a conjunction.
use Rattle.std.proofs.Common.{◌≡◌, ℕ, ◌+◌, ◌≤◌, Bool, true, false, List, [], ◌∷◌, ◌++◌, length, flat_map, All, Option, Some, None, refl, sym, ◌∙◌, ap, subst, arith, append-nil}
use Rattle.std.specs.Prelude.{◌↔◌, IsTrue, ◌&&◌, ◌||◌}
use Rattle.run_model.specs.Cut.{Cut, initial, IsWithin}
use Rattle.run_model.specs.Consistent.{IsConsistent}
use Rattle.run_model.specs.Slice.{Cuts}
use Rattle.run_model.specs.Meaning.{Sat}
use Rattle.pota_base.specs.Limits.{most_parts}
use Rattle.trace_growth.specs.Growing.{IsTrace}
use Rattle.rctl_grammar.specs.declared.tree.Operator.{Operator}
use Rattle.pull_system.specs.declared.pull.Pull.{Pull}
use Rattle.pull_system.specs.System.{IsPull}
use Rattle.pull_system.specs.Pulls.{ClosedUnder}
use Rattle.slice_graph.specs.Views.{SliceView, slice_of}
use Rattle.rctl_parts.specs.Pieces.{Atom, Piece, atom, temporal, pieces, listed}
use Rattle.rctl_parts.specs.MadeFor.{PieceFits, OperatorFits, PiecesFit, EachFits, Scope, part_count, operand_count, parts_count}
use Rattle.rctl_parts.specs.Spelled.{formula_of, conjunction_of}
use Rattle.rctl_parts.proofs.Spelling.{listed-pieces}
use Rattle.part_pulls.specs.declared.observed.Observed.{Observed}
use Rattle.conjunctions.specs.declared.answer.PartAnswer.{PartAnswer}
use Rattle.part_pulls.specs.Observing.{Reading, AreAnswers, clocks_seen, lens_seen, run_seen, names_seen, scope_seen}
use Rattle.part_pulls.specs.Systems.{is_atom, IsAtomOf, pulls_of_part}
use Rattle.conjunctions.specs.Numbering.{within, within_operand, conjunctions_in}
use Rattle.conjunctions.specs.inside.Numbering.{part_gives_order}
use Rattle.conjunctions.specs.Counting.{room_of}
use Rattle.slice_workers.specs.Spent.{spent_of}
use Rattle.slice_workers.specs.Views.{SettledView}
use Rattle.conjunctions.specs.Rounds.{RoundView, HasOrderSystem}
use Rattle.conjunctions.specs.Settling.{AreFloors, Settles}
use Rattle.part_pulls.specs.Operating.{Operated}
use Rattle.conjunctions.specs.inside.Gathering.{AddsOperator, AddsPulls}
use Rattle.conjunctions.specs.Answering.{IsSliceOf, HoldsAtFirst, IsPartAnswer, IsOperand, place}
use Rattle.conjunctions.proofs.InTurn.{settles_none}
use Rattle.part_pulls.proofs.Operators.{operated_means}

-- ---- operands

pub within_pieces : (ps : List Piece) → within_operand (pieces ps) ≡ flat_map within ps
within_pieces [] = refl
within_pieces (p ∷ ps) = ap (λ cs. within p ++ cs) (within_pieces ps)

-- the conjunctions within a temporal part are those of its operand
pub within_temporal : (o : Operator) (ps : List Piece) → within (temporal o (pieces ps)) ≡ conjunctions_in ps
within_temporal o ps = ap (λ cs. cs ++ listed (pieces ps) ∷ []) (within_pieces ps) ∙ ap (λ qs. flat_map within ps ++ qs ∷ []) (listed-pieces ps)

pub operand_fits : (scope : Scope) (ps : List Piece) → PiecesFit scope (pieces ps) → EachFits scope ps
operand_fits scope [] h = h
operand_fits scope (p ∷ ps) h = (h.0, operand_fits scope ps h.1)

pub count_pieces : (ps : List Piece) → operand_count (pieces ps) ≡ parts_count ps
count_pieces [] = refl
count_pieces (p ∷ ps) = ap (λ n. part_count p + n) (count_pieces ps)

-- ---- pulls

-- the pulls of one part are closed at a consistent cut exactly where it is true
pub one_adds : (seen : Observed) (old new added : List Pull) (p : Piece) → new ≡ old ++ added → All (IsPull (lens_seen seen)) added
    → length added ≤ room_of (length (lens_seen seen)) p
    → ((reading : Reading) → AreAnswers seen reading → (c : Cut) → IsConsistent (clocks_seen seen) c → ClosedUnder added c ↔ Sat (run_seen seen reading) (formula_of (names_seen seen reading) p) c)
    → (part_gives_order p ≡ true → (c : Cut) → length c ≡ length (clocks_seen seen) → IsWithin c (lens_seen seen) → ClosedUnder added c → IsConsistent (clocks_seen seen) c)
    → (is_atom p ≡ true → added ≡ pulls_of_part seen p) → AddsPulls seen old new (p ∷ [])
one_adds seen old new added p is fit few meaning orders own = record {
  added = added;
  is = is;
  fit = fit;
  few = omega arith;
  meaning = λ reading are c consistent. let part = meaning reading are c consistent in (λ h. (part.0 h, tt), λ h. part.1 h.0);
  orders = λ gives. orders (other (part_gives_order p) gives);
  own = λ atoms. own (first (is_atom p) atoms) ∙ sym (append-nil (pulls_of_part seen p));
}
  where
    other : (b : Bool) → (b || false) ≡ true → b ≡ true
    other true h = refl
    other false h = h

    first : (b : Bool) → (b && true) ≡ true → b ≡ true
    first true h = refl
    first false h = h

pub atom_adds : (seen : Observed) (old new added : List Pull) (truth : Bool) (a : Atom) → new ≡ old ++ added → IsAtomOf seen a added truth → AddsPulls seen old new (atom a ∷ [])
atom_adds seen old new added truth a is atom_is = one_adds seen old new added (atom a) is atom_is.fit atom_is.few atom_is.meaning (λ h. absurd (cc)) (λ h. atom_is.own)

-- the operator over the operand's slice is true exactly where the part is
pub operator_means : (seen : Observed) → IsTrace seen.trace.states → (o : Operator) (ps : List Piece) (operand : SliceView) → OperatorFits (scope_seen seen) o → IsSliceOf seen operand ps
    → (reading : Reading) → AreAnswers seen reading → (c : Cut)
    → Operated o (clocks_seen seen) (Cuts (clocks_seen seen) (slice_of operand)) c ↔ Sat (run_seen seen reading) (formula_of (names_seen seen reading) (temporal o (pieces ps))) c
operator_means seen trace o ps operand fits is reading are c =
    operated_means seen trace o (conjunction_of (names_seen seen reading) ps) (Cuts (clocks_seen seen) (slice_of operand)) fits reading same c
  where
    same : (d : Cut) → IsConsistent (clocks_seen seen) d → Cuts (clocks_seen seen) (slice_of operand) d ↔ Sat (run_seen seen reading) (conjunction_of (names_seen seen reading) ps) d
    same d consistent = let both = is.cuts reading are d in (λ h. (both.0 h).1, λ h. both.1 (consistent, h))

-- an operator over an operand adds what the part asks
pub temporal_adds : (seen : Observed) → IsTrace seen.trace.states → (o : Operator) (ps : List Piece) (operand : SliceView) (old new : List Pull) → OperatorFits (scope_seen seen) o → IsSliceOf seen operand ps
    → AddsOperator (clocks_seen seen) o operand old new → AddsPulls seen old new (temporal o (pieces ps) ∷ [])
temporal_adds seen trace o ps operand old new fits is adds =
    one_adds seen old new adds.added (temporal o (pieces ps)) adds.is adds.fit (let n = adds.count in omega arith)
    (λ reading are c consistent.
    let means = operator_means seen trace o ps operand fits is reading are c in
    let closed = adds.closed c consistent in
    (λ h. means.0 (closed.0 h), λ h. closed.1 (means.1 h)))
    adds.orders (λ h. absurd (cc))

pub temporal_answer : (seen : Observed) → IsTrace seen.trace.states → (o : Operator) (ps : List Piece) (operand : SliceView) (d k : ℕ) (answer : PartAnswer) → OperatorFits (scope_seen seen) o
    → IsSliceOf seen operand ps → answer.disjunct ≡ d → answer.part ≡ k → answer.operator ≡ Some o → answer.operand ≡ Some operand
    → IsTrue answer.truth ↔ Operated o (clocks_seen seen) (Cuts (clocks_seen seen) (slice_of operand)) (initial (clocks_seen seen)) → IsPartAnswer seen (place d k (temporal o (pieces ps))) answer
temporal_answer seen trace o ps operand d k answer fits is of_disjunct of_part operator_is operand_is truth = record {
  of_disjunct = of_disjunct;
  of_part = of_part;
  truth = λ reading are.
      let means = operator_means seen trace o ps operand fits is reading are (initial (clocks_seen seen)) in
      (λ h. means.0 (truth.0 h), λ h. truth.1 (means.1 h));
  operand =
      subst (λ (found : Option SliceView). IsOperand seen (temporal o (pieces ps)) answer.operator found) (sym operand_is)
      (operator_is, subst (IsSliceOf seen operand) (sym (listed-pieces ps)) is);
}

pub atom_answer : (seen : Observed) (p : Piece) (d k : ℕ) (answer : PartAnswer) → is_atom p ≡ true → answer.disjunct ≡ d → answer.part ≡ k → answer.operator ≡ None
    → answer.operand ≡ None → HoldsAtFirst seen p answer.truth → IsPartAnswer seen (place d k p) answer
atom_answer seen (atom a) d k answer h of_disjunct of_part operator_is operand_is truth =
    record { of_disjunct = of_disjunct; of_part = of_part; truth = truth; operand = (operator_is, operand_is) }
atom_answer seen (temporal o ps) d k answer h of_disjunct of_part operator_is operand_is truth = absurd (cc)

-- ---- a part that is temporal, by what it is

pub temporal_fits : (scope : Scope) (p : Piece) (o : Operator) (ps : List Piece) → p ≡ temporal o (pieces ps) → PieceFits scope p → OperatorFits scope o × EachFits scope ps
temporal_fits scope p o ps is fits = let both = subst (PieceFits scope) is fits in (both.0, operand_fits scope ps both.1)

pub temporal_count : (p : Piece) (o : Operator) (ps : List Piece) → p ≡ temporal o (pieces ps) → part_count p ≤ most_parts → parts_count ps ≤ most_parts
temporal_count p o ps is few = omega (arith, ap part_count is, count_pieces ps)

pub temporal_floors : (seen : Observed) (before : List SettledView) (p : Piece) (o : Operator) (ps : List Piece) → p ≡ temporal o (pieces ps) → AreFloors seen before (within p)
    → AreFloors seen before (conjunctions_in ps)
temporal_floors seen before p o ps is floors = subst (AreFloors seen before) (ap within is ∙ within_temporal o ps) floors

pub temporal_settles : (seen : Observed) (workers : ℕ) (old new : RoundView) (s t : ℕ) (p : Piece) (o : Operator) (ps : List Piece) → p ≡ temporal o (pieces ps)
    → Settles seen workers old new (spent_of s t) (conjunctions_in ps) → Settles seen workers old new (spent_of s t) (within p)
temporal_settles seen workers old new s t p o ps is settles = subst (Settles seen workers old new (spent_of s t)) (sym (ap within is ∙ within_temporal o ps)) settles

pub none_within : (p : Piece) → is_atom p ≡ true → within p ≡ []
none_within (atom a) h = refl
none_within (temporal o ps) h = absurd (cc)

pub atom_settles : (seen : Observed) (workers : ℕ) (round : RoundView) (s : ℕ) (p : Piece) → is_atom p ≡ true → HasOrderSystem (clocks_seen seen) round → Settles seen workers round round (spent_of s s) (within p)
atom_settles seen workers round s p h order = subst (Settles seen workers round round (spent_of s s)) (sym (none_within p h)) (settles_none seen workers round s order)
