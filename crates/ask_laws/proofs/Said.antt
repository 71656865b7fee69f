-- What a call says that was answered.
use Rattle.std.proofs.Common.{◌≡◌, ◌↔◌, ◌⊎◌, ℕ, suc, ◌+◌, ◌==◌, ◌≤◌, Bool, true, false, IsTrue, List, [], ◌∷◌, length, drop, Option, None, Some, Result, Ok, refl, sym, ap, subst, ◌∙◌, arith, inl, inr}
use Rattle.std.specs.Prelude.{slice_get}
use Rattle.std.specs.List.{AllByRecursion, AllZip}
use Rattle.std.proofs.lemmas.Bool.{eqb-true}
use Rattle.std.proofs.lemmas.Option.{same_Some}
use Rattle.run_model.specs.Run.{Run}
use Rattle.run_model.specs.Formula.{Formula}
use Rattle.question_meaning.specs.Asking.{question}
use Rattle.question_meaning.specs.Question as questions
use Rattle.question_meaning.specs.Question.{Holds}
use Rattle.question_meaning.specs.declared.form.Form.{Form}
use Rattle.pota_base.specs.Limits.{most_questions}
use Rattle.pota_base.specs.Changes.{behind_of}
use Rattle.event_log.specs.declared.log.Header.{Header}
use Rattle.rctl_grammar.specs.Shape.{meaning}
use Rattle.rctl_class.specs.Nodes.{node_of}
use Rattle.question_text.specs.declared.front.Asking.{Asking}
use Rattle.question_text.specs.declared.front.Asking.TheVariants as asking
use Rattle.question_text.specs.declared.head.Head.{Head}
use Rattle.question_instances.specs.Over.{over_of}
use Rattle.question_instances.specs.declared.over.Over.{Over}
use Rattle.question_instances.specs.declared.over.OverFault.{OverFault}
use Rattle.question_forms.specs.Taking.{form_of}
use Rattle.question_lines.specs.Lines.{IsOneLine}
use Rattle.question_lines.proofs.QuestionLines.{question-free}
use Rattle.asked_instances.specs.Instances.{Source, pairs_asked}
use Rattle.part_pulls.specs.Observing.{Reading}
use Rattle.log_rules.specs.Judgement.{Prefix, states_of}
use Rattle.log_input.specs.Readings.{HasLog}
use Rattle.ask_questions.specs.Listing.{IsAt}
use Rattle.ask_words.specs.declared.asking.Asked.{Asked}
use Rattle.ask_text.specs.Documents.{EntryView, one, over, text_of}
use Rattle.ask_text.specs.OverText.{OverView}
use Rattle.ask_text.specs.Text.{QuestionView}
use Rattle.ask_top.specs.Asking.{IsAnswer, Says}
use Rattle.ask_top.specs.Documents.{IsEntryTold, IsOverTold, IsTold, run_on, view_holds}
use Rattle.ask_top.specs.declared.answer.Answer.{Answer}
use Rattle.ask_top.specs.declared.answer.Answer.TheVariants as answer
use Rattle.ask_laws.specs.Instances.{HoldsWhereKnown, question_by}
use Rattle.ask_laws.specs.Lines.{HasLines, SaysNotOk, SaysOk, not_ok_line, ok_line, seen_lines}
use Rattle.ask_laws.specs.Laws.{AreLogOf, Asks, EachQuestionHasItsLine, HasWritten, IsAsked, IsGiven, ItSaysNotBoth, ItSaysOkOrNotOk, OverHoldsWhereItHoldsForEach, questions_by, questions_of}
use Rattle.ask_laws.specs.Laws.{AlwaysHoldsWhereEachCutSatisfies, AtEndHoldsWhereTheFinalCutSatisfies, CanHoldsWhereSomeCutSatisfies, NeverHoldsWhereNoCutSatisfies, PlainHoldsWhereTheInitialCutSatisfies, SurelyHoldsWhereEachPathMeets}
use Rattle.ask_laws.proofs.Asked.{question_is}
use Rattle.ask_laws.proofs.Few.{few_questions}
use Rattle.ask_laws.proofs.Instances.{HoldsIn, none_fails, over_line, where_held, where_known}
use Rattle.ask_laws.proofs.Read.{one_asking}
use Rattle.ask_laws.proofs.Seen.{as_many_lines, are_lines, are_results, at_place, holds_ok, line_of, line_with, lines_of, not_both, ok_holds, ok_or_not, plan, seen, version}

-- ---- an answer

is_zero : (n : ℕ) → IsTrue (n == 0) ↔ (n ≡ 0)
is_zero n = (λ h. eqb-true n 0 h, λ h. subst (λ (k : ℕ). IsTrue (k == 0)) (sym h) refl)

one_over : {t u : Over} {o : Result (Option Over) OverFault} → o ≡ Ok (Some t) → o ≡ Ok (Some u) → t ≡ u
one_over a b = cc

answer_is : (watches : Reading) (left : Option (List ℕ)) (lf lf' of of' : ℕ) (words : List (List ℕ)) (read written : List ℕ) (a : Answer) → IsGiven a
    → Says a watches (behind_of left lf lf' of of') words read written → (holds : Bool) × IsAnswer watches left words holds read written
answer_is watches left lf lf' of of' words read written answer.Holds given says = (true, says)
answer_is watches left lf lf' of of' words read written answer.Fails given says = (false, says)
answer_is watches left lf lf' of of' words read written (answer.Without f) given says = absurd given

-- an answer with this document
record IsAnswered (watches : Reading) (words : List (List ℕ)) (read text : List ℕ) : Type 0 where
  left : Option (List ℕ)
  holds : Bool
  is : IsAnswer watches left words holds read text

answered : (watches : Reading) (words : List (List ℕ)) (read text : List ℕ) → HasWritten watches words read text → IsAnswered watches words read text
answered watches words read text w =
    let found = answer_is watches w.left_after w.read_faults_before w.read_faults_after w.write_faults_before w.write_faults_after words w.said.read w.said.written w.answer w.given w.said.says in
    subst (IsAnswered watches words read) w.document_is (subst (λ (bytes : List ℕ). IsAnswered watches words bytes w.said.written) w.read_is (record { left = w.left_after; holds = found.0; is = found.1 }))

module _ (watches : Reading) (left : Option (List ℕ)) (words : List (List ℕ)) (holds : Bool) (read text : List ℕ) (a : IsAnswer watches left words holds read text) where
  abbrev qs : List (List ℕ)
  qs = drop a.asked.questions_from words

  abbrev vs : List EntryView
  vs = a.document.views

  questions_are : questions_of words ≡ drop a.asked.questions_from words
  questions_are = ap (λ (o : Option Asked). questions_by o words) a.asks

  -- what is told of a question
  abbrev T : List ℕ → EntryView → Type 0
  T q v = IsEntryTold watches a.log q v

  each_told : AllZip T qs vs
  each_told = a.document.each

  as_many : length qs ≡ length vs
  as_many = as_many_lines T qs vs each_told

  text_as : (q : List ℕ) (v : EntryView) → T q v → text_of v ≡ q
  text_as q (one v) told = told.1.as_asked
  text_as q (over o) told = ap (λ (x : OverView). x.text) told.view_is

  -- a question over processes with the names of the log
  abbrev source : List ℕ → Over → Source
  source q o = record { text = q; over = o; header = a.log.header; watches = [] }

  told_line : (q : List ℕ) (v : EntryView) → T q v → IsOneLine q
  told_line q (one v) told = question-free q told.1.read.0 told.1.read.1 told.1.q told.1.read.2
  told_line q (over o) told =
      let by = told.tally.tally in over_line (source q told.tallied.over) (pairs_asked (source q told.tallied.over)) by.instances told.tally.names by.are by.some

  told_free : (q : List ℕ) (v : EntryView) → T q v → IsOneLine (text_of v)
  told_free q v told = subst IsOneLine (sym (text_as q v told)) (told_line q v told)

  all_seen : seen_lines text ≡ version ∷ plan (length vs) ∷ lines_of 1 vs
  all_seen =
      let few : length vs ≤ most_questions = omega (arith, as_many, few_questions words a.asked a.asks) in
      ap seen_lines a.document.text_is ∙ seen (states_of a.log) a.asked.steps vs few (are_lines T told_free qs vs each_told)

  has_lines : HasLines text (questions_of words)
  has_lines = subst (HasLines text) (sym questions_are) (record {
    results = lines_of 1 vs;
    seen = all_seen ∙ ap (λ (n : ℕ). version ∷ plan n ∷ lines_of 1 vs) (sym as_many);
    each = are_results T text_as 1 qs vs each_told;
  })

  module _ (number : ℕ) (before : List (List ℕ)) (q : List ℕ) (at : IsAt number (questions_of words) before q) where
    told_at : (v : EntryView) × T q v × (slice_get (lines_of 1 vs) (length before) ≡ Some (line_of (1 + length before) v))
    told_at = at_place T before q at.behind vs 1 (subst (λ (l : List (List ℕ)). AllZip T l vs) (sym questions_are ∙ at.among) each_told)

    abbrev view : EntryView
    view = told_at.0

    -- a question that is asked of the log is told as one
    one_of : (v : EntryView) → T q v → over_of q ≡ Ok None → (u : QuestionView) × (v ≡ one u) × IsTold watches a.log q u
    one_of (one u) told of_log = (u, refl, told.1)
    one_of (over o) told of_log = let names = told.tally.names in absurd cc

    line_is : slice_get (seen_lines text) (number + 1) ≡ Some (line_with (view_holds view) number q)
    line_is =
        let place : number + 1 ≡ suc (suc (length before)) = omega (arith, at.numbered) in
        let same : 1 + length before ≡ number = omega (arith, at.numbered) in
        ap (λ (ls : List (List ℕ)). slice_get ls (number + 1)) all_seen ∙ ap (slice_get (version ∷ plan (length vs) ∷ lines_of 1 vs)) place
        ∙ told_at.2 ∙ ap (λ (n : ℕ). Some (line_of n view)) same ∙ ap (λ (l : List ℕ). Some (line_with (view_holds view) number l)) (text_as q view told_at.1)

    says_so : SaysOk text number q ↔ IsTrue (view_holds view)
    says_so = (
      λ h. ok_holds (view_holds view) number q (same_Some (line_with (view_holds view) number q) (ok_line number q) (sym line_is ∙ h)),
      λ h. line_is ∙ ap (λ (l : List ℕ). Some l) (holds_ok (view_holds view) number q h),
    )

    says_either : SaysOk text number q ⊎ SaysNotOk text number q
    says_either = elim (ok_or_not (view_holds view) number q) [
      | inl so ↦ inl (line_is ∙ ap (λ (l : List ℕ). Some l) so)
      | inr isnt ↦ inr (line_is ∙ ap (λ (l : List ℕ). Some l) isnt)
    ]

    says_where : (words_are : Asking) (f : Formula) → Asks q words_are f → SaysOk text number q ↔ Holds (run_on watches a.log) (question_by words_are f)
    says_where words_are f asks =
        let of = one_of view told_at.1 asks.of_log in
        let told = of.2 in
        let head = told.read.0 in
        let tree = told.read.1 in
        let same = one_asking q head asks.head tree asks.tree told.read.2.asking asks.is in
        let words_same : head.asking ≡ words_are = ap (λ (h : Head). h.asking) same.0 ∙ asks.words_are in
        let formula_same : meaning tree ≡ f = ap meaning same.1 ∙ asks.formula_is in
        let form_same : told.q.form ≡ form_of words_are (node_of tree) = told.read.2.form ∙ ap (λ (w : Asking). form_of w (node_of tree)) words_same in
        let question_same : question told.q.form (meaning tree) ≡ question_by words_are f =
        ap (λ (g : Formula). question told.q.form g) formula_same ∙ ap (λ (x : Form). question x f) form_same ∙ question_is words_are (node_of tree) f in
        let by = told.holds head tree told.read.2 in
        let same_view : view_holds view ≡ of.0.outcome.holds = ap view_holds of.1 in
        let to : SaysOk text number q ↔ Holds (run_on watches a.log) (question told.q.form (meaning tree)) =
        (λ h. by.0 (subst IsTrue same_view (says_so.0 h)), λ h. says_so.1 (subst IsTrue (sym same_view) (by.1 h))) in
        subst (λ (x : questions.Question). SaysOk text number q ↔ Holds (run_on watches a.log) x) question_same to

    -- a question over processes is told as one
    over_of_view : (v : EntryView) → T q v → (o : Over) → over_of q ≡ Ok (Some o) → (u : OverView) × (v ≡ over u) × IsOverTold a.log q u
    over_of_view (one u) told o names = let of_log = told.0 in absurd cc
    over_of_view (over u) told o names = (u, refl, told)

    says_over : (o : Over) → over_of q ≡ Ok (Some o) → SaysOk text number q ↔ AllByRecursion (HoldsWhereKnown (run_on watches a.log) (source q o)) (pairs_asked (source q o))
    says_over o names =
        let of = over_of_view view told_at.1 o names in
        let told = of.2 in
        let by = told.tally.tally in
        let s = source q told.tallied.over in
        let holds_in = HoldsIn (run_on watches a.log) s in
        let none : (told.tallied.tally.fails ≡ 0) ↔ AllByRecursion holds_in by.instances = (
          λ h. (none_fails by.instances by.tally.answers by.tally.each (λ x. x.outcome.holds) holds_in (λ i x so. so.holds watches.watches)).0 (sym by.tally.counted.failing ∙ h),
          λ h. by.tally.counted.failing ∙ (none_fails by.instances by.tally.answers by.tally.each (λ x. x.outcome.holds) holds_in (λ i x so. so.holds watches.watches)).1 h,
        ) in
        let same_view : view_holds view ≡ (told.tallied.tally.fails == 0) = ap view_holds of.1 ∙ ap (λ (x : OverView). x.fails == 0) told.view_is in
        let zero_so = is_zero told.tallied.tally.fails in
        let to : SaysOk text number q ↔ AllByRecursion (HoldsWhereKnown (run_on watches a.log) s) (pairs_asked s) = (
          λ h. where_known (run_on watches a.log) s (pairs_asked s) by.instances by.are (none.0 (zero_so.0 (subst IsTrue same_view (says_so.0 h)))),
          λ h. says_so.1 (subst IsTrue (sym same_view) (zero_so.1 (none.1 (where_held (run_on watches a.log) s (pairs_asked s) by.instances by.are h)))),
        ) in
        let same_over : told.tallied.over ≡ o = one_over told.tally.names names in
        subst (λ (x : Over). SaysOk text number q ↔ AllByRecursion (HoldsWhereKnown (run_on watches a.log) (source q x)) (pairs_asked (source q x))) same_over to

  -- the log that was read is one, and so is its run
  log_is : (r : Run) (is : AreLogOf watches words read r) → a.log ≡ is.log
  log_is r is =
      let asked_same : is.asked ≡ a.asked = same_Some is.asked a.asked (sym is.asks ∙ a.asks) in
      let has : HasLog a.asked.form read is.log = subst (λ (x : Asked). HasLog x.form read is.log) asked_same is.has in
      same_Some a.log is.log (sym a.has.whole ∙ has.whole)

  run_is : (r : Run) → AreLogOf watches words read r → run_on watches a.log ≡ r
  run_is r is = ap (run_on watches) (log_is r is) ∙ is.run_is

-- ---- the laws

holds_where : (r : Run) (text : List ℕ) (number : ℕ) (q : List ℕ) (words_are : Asking) (f : Formula) → IsAsked r text number q words_are f → SaysOk text number q ↔ Holds r (question_by words_are f)
holds_where r text number q words_are f k =
    let c = k.call in
    let is = answered c.watches c.words c.read text c.wrote in
    subst (λ (x : Run). SaysOk text number q ↔ Holds x (question_by words_are f)) (run_is c.watches is.left c.words is.holds c.read text is.is r c.run)
    (says_where c.watches is.left c.words is.holds c.read text is.is number c.before q c.at words_are f k.asks)

pub never_holds : NeverHoldsWhereNoCutSatisfies
never_holds r text number q f k = holds_where r text number q asking.Never f k

pub can_holds : CanHoldsWhereSomeCutSatisfies
can_holds r text number q f k = holds_where r text number q asking.Can f k

pub always_holds : AlwaysHoldsWhereEachCutSatisfies
always_holds r text number q f k = holds_where r text number q asking.Always f k

pub surely_holds : SurelyHoldsWhereEachPathMeets
surely_holds r text number q f k = holds_where r text number q asking.Surely f k

pub at_end_holds : AtEndHoldsWhereTheFinalCutSatisfies
at_end_holds r text number q f k = holds_where r text number q asking.AtEnd f k

pub plain_holds : PlainHoldsWhereTheInitialCutSatisfies
plain_holds r text number q f k = holds_where r text number q asking.Plain f k

pub over_holds : OverHoldsWhereItHoldsForEach
over_holds r text number q s k =
    let c = k.call in
    let is = answered c.watches c.words c.read text c.wrote in
    let log_same = log_is c.watches is.left c.words is.holds c.read text is.is r c.run in
    let run_same = run_is c.watches is.left c.words is.holds c.read text is.is r c.run in
    let on : Header → Source = λ h. record { text = q; over = k.over; header = h; watches = [] } in
    let source_same : on is.is.log.header ≡ s = ap (λ (l : Prefix). on l.header) log_same ∙ sym k.source_is in
    subst (λ (x : Source). SaysOk text number q ↔ AllByRecursion (HoldsWhereKnown r x) (pairs_asked x)) source_same
    (subst (λ (x : Run). SaysOk text number q ↔ AllByRecursion (HoldsWhereKnown x (on is.is.log.header)) (pairs_asked (on is.is.log.header))) run_same
    (says_over c.watches is.left c.words is.holds c.read text is.is number c.before q c.at k.over k.names))

pub each_has_its_line : EachQuestionHasItsLine
each_has_its_line watches words read text wrote =
    let is = answered watches words read text wrote in
    has_lines watches is.left words is.holds read text is.is

pub ok_or_not_ok : ItSaysOkOrNotOk
ok_or_not_ok r text number q k =
    let is = answered k.watches k.words k.read text k.wrote in
    says_either k.watches is.left k.words is.holds k.read text is.is number k.before q k.at

pub not_ok_and_ok : ItSaysNotBoth
not_ok_and_ok text number q says denies = not_both number q (same_Some (ok_line number q) (not_ok_line number q) (sym says ∙ denies))
