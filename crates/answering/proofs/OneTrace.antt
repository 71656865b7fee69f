-- One answer for one trace.
use Rattle.std.proofs.Common.{◌≡◌, ℕ, ◌+◌, ℤ, Bool, List, [], ◌∷◌, ◌++◌, length, take, get_or, Option, Some, None, refl, sym, ◌∙◌, ap, subst, arith}
use Rattle.std.proofs.lemmas.List.{ext_get_or}
use Rattle.std.proofs.Math.Seq.{take-append_seam}
use Rattle.run_model.specs.Run.{process_at, states_of}
use Rattle.event_log.specs.States.{StatesView, trace_of}
use Rattle.trace_growth.specs.Growing.{IsTrace}
use Rattle.local_preds.specs.Rows.{len_at}
use Rattle.rctl_grammar.specs.declared.tree.Operator.{Operator}
use Rattle.rctl_parts.specs.Pieces.{Piece, atom, temporal, listed}
use Rattle.slice_graph.specs.Views.{SliceView}
use Rattle.part_pulls.specs.declared.observed.Observed.{Observed}
use Rattle.conjunctions.specs.declared.answer.Answer.{Answer}
use Rattle.conjunctions.specs.declared.answer.PartAnswer.{PartAnswer}
use Rattle.part_pulls.specs.Observing.{states_seen}
use Rattle.conjunctions.specs.Answering.{IsSliceOf, Place, IsOperand, IsPartAnswer, ArePartAnswers}
use Rattle.conjunctions.specs.Answering.{IsAnswer, all_places}
use Rattle.observation.specs.Fed.{watch_row}
use Rattle.answering.specs.OneTrace.{IsOneTrace}
use Rattle.observation.proofs.Feeding.{is_there, box_at, there_too}

-- two lists with the same front
same_front : {X : Type 0} (xs ys us vs : List X) → length xs ≡ length ys → xs ++ us ≡ ys ++ vs → xs ≡ ys
same_front xs ys us vs size same = sym (take-append_seam xs us) ∙ ap (take (length xs)) same ∙ ap (λ (n : ℕ). take n (ys ++ vs)) size ∙ take-append_seam ys vs

same_row : {B : Type 0} (says : B → List (List ℤ) → List Bool) (handed here there : List B) (one other : Observed) → IsOneTrace says handed here there one other → (w : ℕ) (o : Option ℕ)
    → get_or one.watch_process w None ≡ o → length handed ≡ length one.watch_process → watch_row one w ≡ watch_row other w
same_row says handed here there one other is w None off paired =
    let off_other : get_or other.watch_process w None ≡ None = ap (λ (ps : List (Option ℕ)). get_or ps w None) is.watches ∙ off in
    (is.fed.others w off).1 ∙ sym (is.fed_other.others w off_other).1
same_row says handed here there one other is w (Some p) on paired =
    let on_other : get_or other.watch_process w None ≡ Some p = ap (λ (ps : List (Option ℕ)). get_or ps w None) is.watches ∙ on in
    let at = is_there one.watch_process w p on in
    let first = box_at handed w (omega (arith, paired, at)) in
    let a = there_too here handed w first.0 (sym is.fed.count) first.1 in
    let b = there_too there handed w first.0 (sym is.fed_other.count) first.1 in
    let lens : len_at other.trace.states p ≡ len_at one.trace.states p = ap (λ (s : StatesView). len_at s p) is.states in
    let size : length (watch_row one w) ≡ length (watch_row other w) = (is.full.each p w on).1 ∙ ap (λ (n : ℕ). n + 1) (sym lens) ∙ sym (is.full_other.each p w on_other).1 in
    let states : states_seen other p ≡ states_seen one p = ap (λ (s : StatesView). states_of (process_at (trace_of s) p)) is.states in
    let told : says first.0 (take (length (watch_row one w)) (states_seen one p) ++ []) ≡ says first.0 (take (length (watch_row other w)) (states_seen other p) ++ []) =
    ap (λ (n : ℕ). says first.0 (take n (states_seen one p) ++ [])) size ∙ ap (λ (ss : List (List ℤ)). says first.0 (take (length (watch_row other w)) ss ++ [])) (sym states) in
    same_front (watch_row one w) (watch_row other w) (says a.0 []) (says b.0 []) size
    (sym (is.fed.fed w p first.0 a.0 on first.1 a.1 []) ∙ told ∙ is.fed_other.fed w p first.0 b.0 on_other first.1 b.1 [])

pub same_rows : {B : Type 0} (says : B → List (List ℤ) → List Bool) (handed here there : List B) (one other : Observed) → IsOneTrace says handed here there one other → length handed ≡ length one.watch_process
    → other.watch_rows ≡ one.watch_rows
same_rows says handed here there one other is paired =
    ext_get_or [] other.watch_rows one.watch_rows (is.fed_other.rows ∙ ap length is.watches ∙ sym is.fed.rows)
    (λ w below. sym (same_row says handed here there one other is w (get_or one.watch_process w None) refl paired))

-- the number of batches alone tells them apart
abbrev observed_as : StatesView → ℕ → Bool → List (Option ℕ) → List (List Bool) → Observed
observed_as states batches spent on rows = record { trace = record { states = states; batches = batches; spent = spent }; watch_process = on; watch_rows = rows }

-- what is said of a trace isn't said of the number of its batches
module _ (states : StatesView) (on : List (Option ℕ)) (rows : List (List Bool)) (n m : ℕ) (s t : Bool) where
  abbrev former : Observed
  former = observed_as states n s on rows

  abbrev renewed : Observed
  renewed = observed_as states m t on rows

  slice_again : (slice : SliceView) (ps : List Piece) → IsSliceOf former slice ps → IsSliceOf renewed slice ps
  slice_again slice ps is = record {
    fits = is.fits;
    cuts = λ reading are. is.cuts reading (record { each = are.each });
    stands = λ reading are. is.stands reading (record { each = are.each });
  }

  operand_again : (p : Piece) (operator : Option Operator) (operand : Option SliceView) → IsOperand former p operator operand → IsOperand renewed p operator operand
  operand_again (atom a) operator operand is = is
  operand_again (temporal o ps) operator None is = is
  operand_again (temporal o ps) operator (Some slice) is = (is.0, slice_again slice (listed ps) is.1)

  part_again : (place : Place) (a : PartAnswer) → IsPartAnswer former place a → IsPartAnswer renewed place a
  part_again place a is = record {
    of_disjunct = is.of_disjunct;
    of_part = is.of_part;
    truth = λ reading are. is.truth reading (record { each = are.each });
    operand = operand_again place.piece a.operator a.operand is.operand;
  }

  parts_again : (places : List Place) (answers : List PartAnswer) → ArePartAnswers former places answers → ArePartAnswers renewed places answers
  parts_again [] [] is = tt
  parts_again [] (a ∷ answers) is = is
  parts_again (p ∷ places) [] is = is
  parts_again (p ∷ places) (a ∷ answers) is = (part_again p a is.0, parts_again places answers is.1)

  pub answer_again : (ds : List (List Piece)) (a : Answer) → IsAnswer former ds a → IsAnswer renewed ds (record a { batch = m })
  answer_again ds a is = record {
    of_batch = refl;
    truth = λ reading are. is.truth reading (record { each = are.each });
    fits = is.fits;
    stands = λ reading are. is.stands reading (record { each = are.each });
    parts = parts_again (all_places 1 ds) a.parts is.parts;
  }

-- the law that what was observed has one answer
abbrev pub HasOneAnswer : Type 0
HasOneAnswer = (seen : Observed) → IsTrace seen.trace.states → (ds : List (List Piece)) (a b : Answer) → IsAnswer seen ds a → IsAnswer seen ds b → a ≡ b

pub same_answer : HasOneAnswer → {B : Type 0} (says : B → List (List ℤ) → List Bool) (handed here there : List B) (one other : Observed) → IsOneTrace says handed here there one other → length handed ≡ length one.watch_process
    → IsTrace one.trace.states → (ds : List (List Piece)) (a b : Answer) → IsAnswer one ds a → IsAnswer other ds b → record a { batch = b.batch } ≡ b
same_answer law says handed here there one other is paired trace ds a b left right =
    let rows = same_rows says handed here there one other is paired in
    let n = other.trace.batches in
    let t = other.trace.spent in
    let moved : IsAnswer (observed_as one.trace.states n t one.watch_process one.watch_rows) ds (record a { batch = n }) =
    answer_again one.trace.states one.watch_process one.watch_rows one.trace.batches n one.trace.spent t ds a left in
    let by_states : IsAnswer (observed_as other.trace.states n t one.watch_process one.watch_rows) ds (record a { batch = n }) =
    subst (λ (s : StatesView). IsAnswer (observed_as s n t one.watch_process one.watch_rows) ds (record a { batch = n })) (sym is.states) moved in
    let by_watches : IsAnswer (observed_as other.trace.states n t other.watch_process one.watch_rows) ds (record a { batch = n }) =
    subst (λ (ps : List (Option ℕ)). IsAnswer (observed_as other.trace.states n t ps one.watch_rows) ds (record a { batch = n })) (sym is.watches) by_states in
    let by_rows : IsAnswer other ds (record a { batch = n }) =
    subst (λ (rs : List (List Bool)). IsAnswer (observed_as other.trace.states n t other.watch_process rs) ds (record a { batch = n })) (sym rows) by_watches in
    ap (λ (k : ℕ). record a { batch = k }) right.of_batch
    ∙ law other (subst IsTrace (sym is.states) trace) ds (record a { batch = n }) b by_rows right
