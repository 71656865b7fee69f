-- What a question comes to that has neither watches nor counters.
use Rattle.std.proofs.Common.{◌≡◌, ◌↔◌, ℕ, IsTrue, List, [], ◌∷◌, ◌++◌, length, map, get_or, replicate, Option, None, Some, refl, sym, ap, ◌∙◌, subst, arith}
use Rattle.std.specs.Prelude.{Result, Ok, Err, IfOk}
use Rattle.std.proofs.lemmas.List.{length-map}
use Rattle.std.proofs.lemmas.List.Concat.{flat_map-cons}
use Rattle.run_model.specs.Run.{Watches}
use Rattle.event_log.specs.declared.log.Header.{Header}
use Rattle.counter_preds.specs.declared.values.Variable.{Variable}
use Rattle.question_meaning.specs.Asking.{AreFor, MeanAt, asked_formula, question}
use Rattle.question_meaning.specs.Question.{Holds}
use Rattle.question_meaning.specs.declared.form.Form.{Form}
use Rattle.question_meaning.specs.declared.form.Form.TheVariants as form
use Rattle.question_text.specs.declared.head.Head.{Head}
use Rattle.question_forms.specs.Questions.{IsQuestion}
use Rattle.question_forms.specs.declared.question.Question.{Question}
use Rattle.question_forms.proofs.Answered.{question_means, question_is_for}
use Rattle.over_questions.specs.Barred.{barred_disjuncts, barred_operand, barred_part, barred_parts, first}
use Rattle.over_questions.specs.declared.barred.Barred.{Barred}
use Rattle.rctl_grammar.specs.declared.tree.Operator.TheVariants as op
use Rattle.rctl_grammar.specs.declared.tree.Tree.{Tree}
use Rattle.rctl_grammar.specs.Shape.{meaning}
use Rattle.rctl_class.specs.NamedParts as named
use Rattle.rctl_class.specs.NamedParts.{NamedPiece}
use Rattle.rctl_names.specs.Resolving.{IsResolved, numbered_in, piece_in, pieces_in, scope_of}
use Rattle.rctl_names.specs.Seen.{names_of}
use Rattle.rctl_parts.specs.Pieces as piece
use Rattle.rctl_parts.specs.Pieces.{Piece}
use Rattle.rctl_parts.specs.Spelled.{Names, part_formulas}
use Rattle.rctl_parts.specs.MadeFor.{AreMadeFor}
use Rattle.rctl_parts.specs.declared.part.Part.{Part}
use Rattle.rctl_parts.specs.declared.part.Resolved.{Resolved}
use Rattle.rctl_parts.proofs.Spelling.{disjuncts_spelled, spelled_disjuncts}
use Rattle.part_pulls.specs.Counters.{AllRise, CountersRise, counters_of, counters_of_operand, counters_of_part, counters_of_parts}
use Rattle.part_pulls.specs.Observing.{AreAnswers, Reading}
use Rattle.part_pulls.specs.declared.observed.Observed.{Observed}
use Rattle.part_pulls.proofs.Readings.{is_order}
use Rattle.part_pulls.proofs.Rising.{counters_pieces, none_rise}
use Rattle.asked_parts.specs.Asked.{SpellAt, asked_disjuncts, asked_pieces, over}
use Rattle.asked_parts.proofs.Spelling.{answered_by_parts}
use Rattle.asked_list.specs.Lists.{IsAskedList, asked_each, disjuncts_in}
use Rattle.asked_list.specs.declared.list.AskedList.{AskedList}
use Rattle.asked_answers.proofs.Listed.{made}
use Rattle.asked_instances.specs.declared.asking.Instance.{Instance}
use Rattle.question_outcome.specs.declared.outcome.Outcome.{Outcome}
use Rattle.question_outcomes.specs.Telling.{IsOutcomeOf}
use Rattle.instance_outcomes.specs.Answers.{HoldsFor, IsAnswered, IsBare, IsKnownIn, IsOutcomeFor, header_of, run_by}
use Rattle.instance_outcomes.specs.declared.tallied.Answered.{Answered}
use Rattle.instance_outcomes.specs.inside.Lists.{IsAskable, IsAskedOf, IsListOf, IsSpelled}

-- ---- one form for all

pub each_of_one : (own : Form) (ds : List (List Piece)) → asked_each (replicate (length ds) own) ds ≡ asked_disjuncts own ds
each_of_one own [] = refl
each_of_one own (d ∷ ds) = ap (λ l. asked_pieces own d ∷ l) (each_of_one own ds)

-- ---- without differences there are no counters

none_left : (a b : Option Barred) → first a b ≡ None → a ≡ None
none_left None b e = refl
none_left (Some x) b e = absurd cc

none_right : (a b : Option Barred) → first a b ≡ None → b ≡ None
none_right None b e = e
none_right (Some x) b e = absurd cc

none_joined : (vs ws : List Variable) → vs ≡ [] → ws ≡ [] → vs ++ ws ≡ []
none_joined vs ws e h = ap (λ l. l ++ ws) e ∙ h

mutual
  part_free : (names : Names) (p : NamedPiece) → barred_part p ≡ None → counters_of_part (piece_in names p) ≡ []
  part_free names (named.local None e) h = refl
  part_free names (named.local (Some p) e) h = refl
  part_free names (named.at_most p q k) h = refl
  part_free names (named.at_least p q k) h = refl
  part_free names (named.never p q) h = refl
  part_free names (named.diff_at_most p x q y k) h = absurd cc
  part_free names (named.diff_at_least p x q y k) h = absurd cc
  part_free names (named.temporal operator ps) h = operand_free names ps h
  part_free names (named.next p ps) h = operand_free names ps h

  operand_free : (names : Names) (ps : named.Pieces) → barred_operand ps ≡ None → counters_of_operand (pieces_in names ps) ≡ []
  operand_free names named.no_piece h = refl
  operand_free names (named.and_piece p ps) h =
      none_joined _ _ (part_free names p (none_left (barred_part p) (barred_operand ps) h)) (operand_free names ps (none_right (barred_part p) (barred_operand ps) h))

parts_free : (names : Names) (ps : List NamedPiece) → barred_parts ps ≡ None → counters_of_parts (map (piece_in names) ps) ≡ []
parts_free names [] h = refl
parts_free names (p ∷ ps) h =
    flat_map-cons counters_of_part (piece_in names p) (map (piece_in names) ps)
    ∙ none_joined _ _ (part_free names p (none_left (barred_part p) (barred_parts ps) h)) (parts_free names ps (none_right (barred_part p) (barred_parts ps) h))

-- nor of what a form asks of them
one_free : (ps : List Piece) → counters_of_parts ps ≡ [] → (p : Piece) → counters_of_part p ≡ counters_of_operand (piece.pieces ps) → counters_of_parts (p ∷ []) ≡ []
one_free ps h p is = flat_map-cons counters_of_part p [] ∙ none_joined _ _ (is ∙ counters_pieces ps ∙ h) refl

asked_free : (own : Form) (ps : List Piece) → counters_of_parts ps ≡ [] → counters_of_parts (asked_pieces own ps) ≡ []
asked_free form.Never ps h = one_free ps h (over op.Ef ps) refl
asked_free form.Can ps h = one_free ps h (over op.Ef ps) refl
asked_free form.Always ps h = one_free ps h (over op.Ag ps) refl
asked_free form.AlwaysByNegation ps h = one_free ps h (over op.Ef ps) refl
asked_free form.Surely ps h = one_free ps h (over op.Eg ps) refl
asked_free form.AtEnd ps h = one_free (over op.Ef ps ∷ []) (one_free ps h (over op.Ef ps) refl) (over op.Ag (over op.Ef ps ∷ [])) refl
asked_free form.Plain ps h = h

all_free : (names : Names) (own : Form) (ds : List (List NamedPiece)) → barred_disjuncts ds ≡ None → counters_of (asked_disjuncts own (map (map (piece_in names)) ds)) ≡ []
all_free names own [] h = refl
all_free names own (d ∷ ds) h =
    flat_map-cons counters_of_parts (asked_pieces own (map (piece_in names) d)) (asked_disjuncts own (map (map (piece_in names)) ds))
    ∙ none_joined _ _ (asked_free own (map (piece_in names) d) (parts_free names d (none_left (barred_parts d) (barred_disjuncts ds) h)))
    (all_free names own ds (none_right (barred_parts d) (barred_disjuncts ds) h))

-- ---- what the list asks

no_items : {A : Type 0} (xs : List A) → length xs ≡ 0 → xs ≡ []
no_items [] e = refl
no_items (x ∷ xs) e = absurd (omega (arith, e))

pub asked_of : (header : Header) (list : AskedList) (resolved : Resolved) (asked : List (List Part)) → IsAskedList list → IsResolved header [] (disjuncts_in list) resolved
    → piece.disjuncts_of asked ≡ asked_each list.forms (piece.disjuncts_of resolved.disjuncts) → IsAskedOf header list asked
asked_of header list resolved asked is there so =
    let none : resolved.watch_process ≡ [] = no_items resolved.watch_process there.paired in
    record {
      made = subst (AreMadeFor (scope_of header [])) (sym so)
          (subst (λ on. AreMadeFor (scope_of header on) (asked_each list.forms (piece.disjuncts_of resolved.disjuncts))) none (made list is header [] resolved there));
      asked_is = so ∙ ap (asked_each list.forms) there.numbered;
      spelled = sym (ap (part_formulas (names_of header [])) there.numbered) ∙ there.spelled;
    }

as_many : (header : Header) (list : AskedList) → length (numbered_in header [] (disjuncts_in list)) ≡ length list.classed.disjuncts
as_many header list = length-map (disjuncts_in list) (map (piece_in (names_of header []))) ∙ length-map list.classed.disjuncts named.pieces_of

pub asked_by_form : (header : Header) (own : Form) (list : AskedList) (asked : List (List Part)) → IsAskable header own list → IsAskedOf header list asked
    → piece.disjuncts_of asked ≡ asked_disjuncts own (numbered_in header [] (disjuncts_in list))
asked_by_form header own list asked can are =
    let ds = numbered_in header [] (disjuncts_in list) in
    are.asked_is ∙ ap (λ fs. asked_each fs ds) (can.forms ∙ ap (λ k. replicate k own) (sym (as_many header list))) ∙ each_of_one own ds

-- ---- what was observed

nothing_there : (w p : ℕ) (on : List (Option ℕ)) → on ≡ [] → get_or on w None ≡ Some p → ⊥
nothing_there w p on none e = not_there (sym (ap (λ (l : List (Option ℕ)). get_or l w None) none) ∙ e)
  where
    not_there : None ≡ Some p → ⊥
    not_there e = absurd cc

answers_nothing : (seen : Observed) → IsBare seen → (reading : Reading) → AreAnswers seen reading
answers_nothing seen bare reading = record { each = λ p w on. absurd (nothing_there w p seen.watch_process bare.watches on) }

pub none_falls : (seen : Observed) (own : Form) (list : AskedList) (asked : List (List Part)) → IsAskable (header_of seen) own list → IsAskedOf (header_of seen) list asked
    → CountersRise seen (piece.disjuncts_of asked)
none_falls seen own list asked can are =
    let none : counters_of (piece.disjuncts_of asked) ≡ [] =
    ap counters_of (asked_by_form (header_of seen) own list asked can are) ∙ all_free (names_of (header_of seen) []) own (disjuncts_in list) can.free in
    subst (AllRise seen) (sym none) (none_rise seen)

pub outcome_is : (seen : Observed) (own : Form) (list : AskedList) (asked : List (List Part)) (o : Outcome) → IsBare seen → IsAskable (header_of seen) own list → IsAskedOf (header_of seen) list asked
    → IsOutcomeOf seen (piece.disjuncts_of asked) own o → IsOutcomeFor seen own (disjuncts_in list) o
outcome_is seen own list asked o bare can are is = λ watches.
    let reading : Reading = record { watch_names = []; watches = watches } in
    is reading (answers_nothing seen bare reading) (numbered_in (header_of seen) [] (disjuncts_in list)) (asked_by_form (header_of seen) own list asked can are)

-- ---- whether it holds

pub holds_so : (seen : Observed) (text : List ℕ) (q : Question) (o : Outcome) → IsBare seen → IsOutcomeFor seen q.form (named.disjuncts_of q.classed.disjuncts) o
    → IsSpelled (header_of seen) (named.disjuncts_of q.classed.disjuncts) → (watches : Watches) (head : Head) (t : Tree) → IsQuestion text head t q
    → IsTrue o.holds ↔ Holds (run_by seen watches) (question q.form (meaning t))
holds_so seen text q o bare out spelled watches head t asks =
    let r = run_by seen watches in
    let order = is_order seen bare.trace in
    let names = names_of (header_of seen) [] in
    let own = numbered_in (header_of seen) [] (named.disjuncts_of q.classed.disjuncts) in
    let mean : MeanAt r (part_formulas names own) (asked_formula q.form (meaning t)) =
    subst (λ fs. MeanAt r fs (asked_formula q.form (meaning t))) (sym spelled) (question_means text head t q asks r order) in
    let spell : SpellAt r names own (asked_formula q.form (meaning t)) =
    λ c k. (λ h. (mean c k).0 (spelled_disjuncts r names own c h), λ h. disjuncts_spelled r names own c ((mean c k).1 h)) in
    let for : AreFor q.form (part_formulas names own) = subst (AreFor q.form) (sym spelled) (question_is_for text head t q asks) in
    let by = answered_by_parts r order names q.form (meaning t) own spell for in
    let says = (out watches).holds in
    (λ h. by.1 (says.0 h), λ h. says.1 (by.0 h))

-- ---- an instance

pub holds_for : (seen : Observed) (i : Instance) (o : Outcome) → IsBare seen → IsKnownIn (header_of seen) i → IsOutcomeFor seen i.question.form (named.disjuncts_of i.question.classed.disjuncts) o
    → IsSpelled (header_of seen) (named.disjuncts_of i.question.classed.disjuncts) → (watches : Watches) → IsTrue o.holds ↔ HoldsFor seen watches i
holds_for seen i o bare known out spelled watches =
    let so = holds_so seen i.text i.question o bare out spelled watches in
    (λ h head t asks. (so head t asks).0 h, λ h. (so known.read.0 known.read.1 known.read.2).1 (h known.read.0 known.read.1 known.read.2))

-- what was found of the list is so of the instance
pub answered_is : (seen : Observed) (i : Instance) (list : AskedList) (a : Answered) → IsBare seen → IsKnownIn (header_of seen) i → IsListOf i.question list
    → IsOutcomeFor seen i.question.form (disjuncts_in list) a.outcome → IsSpelled (header_of seen) (disjuncts_in list)
    → a.pair ≡ i.pair → a.text ≡ i.text → a.formula ≡ i.question.formula → a.form ≡ i.question.form → a.disjuncts ≡ list.classed.disjuncts → IsAnswered seen i a
answered_is seen i list a bare known is out spelled pair text formula own items =
    let out_so : IsOutcomeFor seen i.question.form (named.disjuncts_of i.question.classed.disjuncts) a.outcome =
    subst (λ ds. IsOutcomeFor seen i.question.form (named.disjuncts_of ds) a.outcome) is.disjuncts out in
    let spelled_so : IsSpelled (header_of seen) (named.disjuncts_of i.question.classed.disjuncts) =
    subst (λ ds. IsSpelled (header_of seen) (named.disjuncts_of ds)) is.disjuncts spelled in
    record {
      pair = pair;
      text = text;
      formula = formula;
      form = own;
      disjuncts = items ∙ is.disjuncts;
      can = is.can;
      outcome = out_so;
      holds = holds_for seen i a.outcome bare known out_so spelled_so;
    }

-- ---- results

pub ok_more : {A E : Type 0} (r : Result A E) (P Q : A → Type 0) → ((a : A) → P a → Q a) → IfOk r P → IfOk r Q
ok_more (Ok a) P Q more h = more a h
ok_more (Err e) P Q more h = _

pub ok_always : {A E : Type 0} (r : Result A E) (P : Type 0) → P → IfOk r (λ a. P)
ok_always (Ok a) P h = h
ok_always (Err e) P h = _
