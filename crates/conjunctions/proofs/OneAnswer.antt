-- What was observed has one answer.
use Rattle.std.proofs.Common.{◌≡◌, Bool, true, false, List, [], ◌∷◌, Option, Some, None, refl, sym, ◌∙◌, ap}
use Rattle.std.specs.Prelude.{IsTrue}
use Rattle.run_model.specs.Sublattice.{Smallest}
use Rattle.run_model.specs.Meaning.{Family}
use Rattle.meaning_laws.proofs.JoinLemmas.{smallest_closed}
use Rattle.trace_growth.specs.Growing.{IsTrace}
use Rattle.rctl_grammar.specs.declared.tree.Operator.{Operator}
use Rattle.slice_graph.specs.Views.{SliceView}
use Rattle.rctl_parts.specs.Pieces.{Piece, atom, temporal, listed}
use Rattle.rctl_parts.specs.Spelled.{disjunction_of}
use Rattle.part_pulls.specs.declared.observed.Observed.{Observed}
use Rattle.conjunctions.specs.declared.answer.PartAnswer.{PartAnswer}
use Rattle.conjunctions.specs.declared.answer.Answer.{Answer}
use Rattle.part_pulls.specs.Observing.{Satisfying, clocks_seen, run_seen, names_seen}
use Rattle.conjunctions.specs.Answering.{IsOperand, Place, IsPartAnswer, ArePartAnswers, all_places}
use Rattle.conjunctions.specs.Answering.{IsAnswer}
use Rattle.part_pulls.proofs.Readings.{is_order, reading_of, reading_answers}
use Rattle.part_pulls.proofs.Slices.{one_slice}

same_truth : (a b : Bool) → (IsTrue a → IsTrue b) → (IsTrue b → IsTrue a) → a ≡ b
same_truth true true f g = refl
same_truth true false f g = sym (f refl)
same_truth false true f g = g refl
same_truth false false f g = refl

one_operand : (seen : Observed) → (p : Piece) (o o' : Option Operator) (s s' : Option SliceView) → IsOperand seen p o s → IsOperand seen p o' s' → (o ≡ o') × (s ≡ s')
one_operand seen (atom a) o o' s s' h k = (h.0 ∙ sym k.0, h.1 ∙ sym k.1)
one_operand seen (temporal op ps) o o' None s' h k = absurd h
one_operand seen (temporal op ps) o o' (Some s) None h k = absurd k
one_operand seen (temporal op ps) o o' (Some s) (Some s') h k =
    let reading = reading_of seen in
    let are = reading_answers seen in (
      h.0 ∙ sym k.0,
      ap Some (one_slice (clocks_seen seen) (Satisfying seen reading (listed ps)) (λ c m. m.0) s s' h.1.fits k.1.fits (h.1.stands reading are) (k.1.stands reading are)),
    )

one_part : (seen : Observed) → (of : Place) (a b : PartAnswer) → IsPartAnswer seen of a → IsPartAnswer seen of b → a ≡ b
one_part seen of a b h k =
    let reading = reading_of seen in
    let are = reading_answers seen in
    let operands = one_operand seen of.piece a.operator b.operator a.operand b.operand h.operand k.operand in
    let first = h.truth reading are in
    let second = k.truth reading are in
    made (h.of_disjunct ∙ sym k.of_disjunct) (h.of_part ∙ sym k.of_part) operands.0 (same_truth a.truth b.truth (λ t. second.1 (first.0 t)) (λ t. first.1 (second.0 t))) operands.1
  where
    made : a.disjunct ≡ b.disjunct → a.part ≡ b.part → a.operator ≡ b.operator → a.truth ≡ b.truth → a.operand ≡ b.operand → a ≡ b
    made d k o t s = λ j. record { disjunct = d j; part = k j; operator = o j; truth = t j; operand = s j }

one_list : (seen : Observed) → (places : List Place) (xs ys : List PartAnswer) → ArePartAnswers seen places xs → ArePartAnswers seen places ys → xs ≡ ys
one_list seen [] [] [] h k = refl
one_list seen [] (a ∷ xs) ys h k = absurd h
one_list seen [] [] (b ∷ ys) h k = absurd k
one_list seen (p ∷ places) [] ys h k = absurd h
one_list seen (p ∷ places) (a ∷ xs) [] h k = absurd k
one_list seen (p ∷ places) (a ∷ xs) (b ∷ ys) h k =
    ap (λ c. c ∷ xs) (one_part seen p a b h.0 k.0) ∙ ap (λ list. b ∷ list) (one_list seen places xs ys h.1 k.1)

-- two answers of one formula on what was observed are equal
pub one_answer : (seen : Observed) → IsTrace seen.trace.states → (ds : List (List Piece)) (a b : Answer) → IsAnswer seen ds a → IsAnswer seen ds b → a ≡ b
one_answer seen trace ds a b h k =
    let reading = reading_of seen in
    let are = reading_answers seen in
    let r = run_seen seen reading in
    let closed = smallest_closed (clocks_seen seen) (is_order seen trace) (Family r (disjunction_of (names_seen seen reading) ds)) (λ c m. m.0) in
    let first = h.truth reading are in
    let second = k.truth reading are in
    made (h.of_batch ∙ sym k.of_batch) (same_truth a.truth b.truth (λ t. second.1 (first.0 t)) (λ t. first.1 (second.0 t)))
    (one_slice (clocks_seen seen) (Smallest (Family r (disjunction_of (names_seen seen reading) ds))) closed.consistent a.slice b.slice h.fits k.fits (h.stands reading are) (k.stands reading are))
    (one_list seen (all_places 1 ds) a.parts b.parts h.parts k.parts)
  where
    made : a.batch ≡ b.batch → a.truth ≡ b.truth → a.slice ≡ b.slice → a.parts ≡ b.parts → a ≡ b
    made d t s p = λ j. record { batch = d j; truth = t j; slice = s j; parts = p j }
