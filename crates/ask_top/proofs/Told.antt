-- What is told of the questions of a list, by what they come to on what was observed for it.
use Rattle.std.proofs.Common.{◌≡◌, ◌↔◌, ℕ, ◌≤◌, Bool, true, false, nat_lt, IsTrue, List, [], ◌∷◌, ◌++◌, length, map, Option, None, Some, refl, sym, ap, subst, ◌∙◌, arith}
use Rattle.std.specs.List.{AllByRecursion, AllZip}
use Rattle.std.specs.Prelude.{Result, Ok, Err, if◌then◌else◌}
use Rattle.run_model.specs.Cut.{Cut, lengths}
use Rattle.run_model.specs.Run.{Run, run_of, clocks_of}
use Rattle.vector_clock.proofs.Growth.{lengths_of}
use Rattle.question_text.specs.declared.head.HeadFault.{HeadFault}
use Rattle.question_text.specs.Heads.{head_of}
use Rattle.event_log.specs.States.{trace_of}
use Rattle.event_log.specs.declared.log.Header.{Header}
use Rattle.event_log.specs.declared.log.Log.{Log}
use Rattle.question_meaning.specs.Asking.{AreFor, asked_formula, question}
use Rattle.question_meaning.specs.Question.{Holds}
use Rattle.question_meaning.specs.declared.form.Form.{Form}
use Rattle.pota_base.specs.Limits.{longest_lexed, longest_question}
use Rattle.question_text.specs.declared.head.Head.{Head}
use Rattle.question_forms.specs.Questions.{IsQuestion}
use Rattle.question_forms.specs.declared.question.Question.{Question}
use Rattle.rctl_grammar.specs.declared.tree.Tree.{Tree}
use Rattle.rctl_grammar.specs.Shape.{meaning}
use Rattle.rctl_class.specs.NamedParts as named
use Rattle.rctl_class.specs.NamedParts.{NamedPiece, pieces_of}
use Rattle.rctl_names.specs.Resolving.{numbered_in, piece_in}
use Rattle.rctl_names.specs.Seen.{names_of}
use Rattle.rctl_parts.specs.Pieces.{Piece, disjuncts_of}
use Rattle.rctl_parts.specs.Spelled.{Names, part_formulas}
use Rattle.rctl_parts.specs.declared.part.Resolved.{Resolved}
use Rattle.trace_growth.specs.Growing.{TraceView, IsTrace}
use Rattle.part_pulls.specs.Observing.{AreAnswers, Reading, names_seen, run_seen}
use Rattle.part_pulls.specs.declared.observed.Observed.{Observed}
use Rattle.part_pulls.proofs.Readings.{is_order}
use Rattle.log_rules.specs.WholeLogs.{all_of}
use Rattle.asked_parts.specs.Asked.{SpellAt}
use Rattle.asked_parts.proofs.Spelling.{answered_by_parts}
use Rattle.asked_list.specs.Lists.{IsAskedIn, disjuncts_in, range_of}
use Rattle.asked_list.specs.declared.list.AskedList.{AskedList}
use Rattle.asked_list.specs.declared.list.Listed.{Listed}
use Rattle.asked_answers.specs.Holding.{own_of}
use Rattle.asked_answers.proofs.Listed.{asked, one, range_map, spelled}
use Rattle.asked_observation.specs.Observed.{IsObservedList}
use Rattle.observation.specs.Growing.{GrowingView}
use Rattle.log_intake.specs.Taking.{trace_after}
use Rattle.ask_questions.specs.Entries.{AreEach}
use Rattle.ask_questions.specs.Listing.{IsEntry, IsReadAs}
use Rattle.over_answers.specs.PassedOn.{Answered, run_by}
use Rattle.over_answers.specs.Tallies.{AreTallies, IsTalliedAs, bare_of}
use Rattle.over_answers.specs.declared.answering.Tallied.{Tallied}
use Rattle.over_answers.proofs.Shown.{IsOf, shown_of}
use Rattle.question_instances.specs.Over.{over_of}
use Rattle.question_instances.specs.declared.over.Over.{Over}
use Rattle.question_document.specs.Views.{CanPut, CanShow, CanTellFrom, all_hold, instance_view, over_entries, over_view, view_at, views_from}
use Rattle.question_outcome.specs.Outcomes.{IsOutcome}
use Rattle.question_outcome.specs.declared.outcome.Outcome.{Outcome}
use Rattle.question_outcomes.specs.Telling.{AreOutcomes, IsOutcomeIn}
use Rattle.ask_text.specs.Documents.{EntryView, document, over}
use Rattle.ask_text.specs.Text.{IsOfRun, IsOnRun}
use Rattle.ask_top.specs.Documents.{IsDocument, IsEntryTold, IsTold, names_on, run_on}
use Rattle.ask_top.proofs.Fits.{outcome_fits}

-- a question has few bytes
few_bytes : (n : ℕ) (b : Bool) → nat_lt longest_question n ≡ b → (f : HeadFault) (other : Result Head HeadFault) (head : Head) → (if b then Err f else other) ≡ Ok head → n ≤ longest_lexed
few_bytes n true is f other head e = absurd cc
few_bytes n false is f other head e = grind (arith, is)

short_so : (text : List ℕ) (q : Question) → IsReadAs text q → length text ≤ longest_lexed
unfolding head_of
short_so text q read = few_bytes (length text) (nat_lt longest_question (length text)) refl _ _ read.0 read.2.asking.of_text

module _ (list : AskedList) (watches : Reading) (log : Log) (growing : GrowingView) (observed : IsObservedList list watches.watch_names growing) (trace_is : growing.seen.trace ≡ trace_after (all_of log))
    (whole : IsTrace growing.seen.trace.states) (answers : AreAnswers growing.seen watches) where
  abbrev seen : Observed
  seen = growing.seen

  abbrev resolved : Resolved
  resolved = observed.resolved

  abbrev header : Header
  header = seen.trace.states.header

  run_is : run_seen seen watches ≡ run_on watches (all_of log)
  run_is = ap (λ (t : TraceView). run_of (trace_of t.states) watches.watches) trace_is

  names_are : names_seen seen watches ≡ names_on watches (all_of log)
  names_are = ap (λ (t : TraceView). names_of t.states.header watches.watch_names) trace_is

  module _ (text : List ℕ) (entry : Listed) (q : Question) (read : IsReadAs text q) (is : IsEntry list q entry) (o : Outcome) (out : IsOutcomeIn seen (disjuncts_of growing.disjuncts) entry.range o) where
    abbrev own : List (List Piece)
    own = own_of entry.range resolved

    abbrev ds : List (List NamedPiece)
    ds = named.disjuncts_of q.classed.disjuncts

    asked_so : IsAskedIn (disjuncts_of growing.disjuncts) entry.range own
    asked_so =
        subst (λ (all : List (List Piece)). IsAskedIn all entry.range own) (sym observed.asked)
        (asked header watches.watch_names (disjuncts_in list) resolved observed.known entry.range list.forms ds is.has)

    came : IsOutcome (run_seen seen watches) (names_seen seen watches) entry.range.form own o
    came = out watches answers own asked_so

    own_is : own ≡ numbered_in log.header watches.watch_names ds
    own_is =
        ap (range_of entry.range.from entry.range.to) observed.known.numbered
        ∙ range_map (map (piece_in (names_of header watches.watch_names))) entry.range.from entry.range.to (disjuncts_in list)
        ∙ ap (map (map (piece_in (names_of header watches.watch_names)))) is.has.items
        ∙ ap (λ (t : TraceView). numbered_in t.states.header watches.watch_names ds) trace_is

    outcome_so : IsOutcome (run_on watches (all_of log)) (names_on watches (all_of log)) q.form (numbered_in log.header watches.watch_names ds) o
    outcome_so =
        subst (λ (f : Form). IsOutcome (run_on watches (all_of log)) (names_on watches (all_of log)) f (numbered_in log.header watches.watch_names ds) o) is.form
        (subst (λ (ps : List (List Piece)). IsOutcome (run_on watches (all_of log)) (names_on watches (all_of log)) entry.range.form ps o) own_is
        (subst (λ (ns : Names). IsOutcome (run_on watches (all_of log)) ns entry.range.form own o) names_are
        (subst (λ (r : Run). IsOutcome r (names_seen seen watches) entry.range.form own o) run_is came)))

    holds_so : (head : Head) (t : Tree) → IsQuestion text head t q → IsTrue o.holds ↔ Holds (run_on watches (all_of log)) (question q.form (meaning t))
    holds_so head t asks =
        let r = run_seen seen watches in
        let names = names_seen seen watches in
        let order = is_order seen whole in
        let spell : SpellAt r names own (asked_formula entry.range.form (meaning t)) =
        subst (λ (f : Form). SpellAt r names own (asked_formula f (meaning t))) (sym is.form)
        (spelled text head t q asks header watches.watch_names (disjuncts_in list) resolved observed.known entry.range list.forms is.has r order) in
        let for : AreFor entry.range.form (part_formulas names own) =
        subst (λ (f : Form). AreFor f (part_formulas names own)) (sym is.form)
        (one text head t q asks header watches.watch_names (disjuncts_in list) resolved observed.known entry.range list.forms is.has) in
        let by = answered_by_parts r order names entry.range.form (meaning t) own spell for in
        let says : IsTrue o.holds ↔ Holds r (question entry.range.form (meaning t)) = (λ h. by.1 (came.holds.0 h), λ h. came.holds.1 (by.0 h)) in
        subst (λ (x : Run). IsTrue o.holds ↔ Holds x (question q.form (meaning t))) run_is
        (subst (λ (f : Form). IsTrue o.holds ↔ Holds r (question f (meaning t))) is.form says)

    one_told : IsTold watches (all_of log) text (view_at (disjuncts_in list) text entry o)
    one_told = record {
      q = q;
      read = read;
      as_asked = refl;
      formula = is.formula;
      form = is.form;
      disjuncts = is.has.items;
      outcome = outcome_so;
      holds = holds_so;
    }

  -- ---- questions over processes

  abbrev bare : Observed
  bare = bare_of growing.seen.trace

  abbrev IsShown : Answered → Type 0
  IsShown a = IsOf bare a

  over_told : (text : List ℕ) (t : Tallied) (a : Answered) → t.tally.shown ≡ Some a → IsTalliedAs bare text t → IsEntryTold watches (all_of log) text (over (over_view text header t a))
  over_told text t a is tallied = record {
    tallied = t;
    tally = subst (λ (tr : TraceView). IsTalliedAs (bare_of tr) text t) trace_is tallied;
    shown = a;
    is = is;
    view_is = ap (λ (tr : TraceView). over_view text tr.states.header t a) trace_is;
  }

  -- ---- all of them

  abbrev ds_all : List (List NamedPiece)
  ds_all = disjuncts_in list

  abbrev views : List (List ℕ) → List (Option Tallied) → List Listed → List Outcome → List EntryView
  views texts ts es os = views_from ds_all header texts ts es os

  one_not_over : (text : List ℕ) (t : Over) → over_of text ≡ Ok None → over_of text ≡ Ok (Some t) → ⊥
  one_not_over text t one_is over_is = cc

  pub all_told : (texts : List (List ℕ)) (overs : List (Option Over)) (ts : List (Option Tallied)) (es : List Listed) (os : List Outcome) → AreEach list texts overs es → AreTallies bare texts ts
      → AreOutcomes seen (disjuncts_of growing.disjuncts) es os → AllZip (IsEntryTold watches (all_of log)) texts (views texts ts es os)
  all_told [] overs ts es os each tallied came = tt
  all_told (text ∷ texts) [] ts es os each tallied came = absurd each
  all_told (text ∷ texts) (o ∷ overs) [] es os each tallied came = absurd tallied
  all_told (text ∷ texts) (None ∷ overs) (None ∷ ts) [] os each tallied came = absurd each
  all_told (text ∷ texts) (None ∷ overs) (None ∷ ts) (e ∷ es) [] each tallied came = absurd came
  all_told (text ∷ texts) (None ∷ overs) (None ∷ ts) (e ∷ es) (o ∷ os) each tallied came = (
    (each.0.names, one_told text e each.0.listed.0 each.0.listed.1 each.0.listed.2 o came.0),
    all_told texts overs ts es os each.1 tallied.1 came.1,
  )
  all_told (text ∷ texts) (None ∷ overs) (Some t ∷ ts) [] os each tallied came = absurd each
  all_told (text ∷ texts) (None ∷ overs) (Some t ∷ ts) (e ∷ es) os each tallied came = absurd (one_not_over text t.over each.0.names tallied.0.names)
  all_told (text ∷ texts) (Some names ∷ overs) (None ∷ ts) es os each tallied came = absurd (one_not_over text names tallied.0 each.0.names)
  all_told (text ∷ texts) (Some names ∷ overs) (Some t ∷ ts) es os each tallied came =
      let shown = shown_of bare text t.over t.tally tallied.0.tally in
      subst (λ (s : Option Answered). AllZip (IsEntryTold watches (all_of log)) (text ∷ texts) (over_entries text header t s ++ views texts ts es os)) (sym shown.1)
      (over_told text t shown.0 shown.1 tallied.0, all_told texts overs ts es os each.1 tallied.1 came)

  -- ---- what may be told

  lens_are : (lengths (clocks_of (trace_of seen.trace.states))) ≡ map length seen.trace.states.events
  lens_are = ap lengths whole.clocks ∙ lengths_of seen.trace.states.events

  one_on_run : (text : List ℕ) (entry : Listed) (q : Question) → IsReadAs text q → IsEntry list q entry → (o : Outcome) → IsOutcomeIn seen (disjuncts_of growing.disjuncts) entry.range o
      → IsOnRun seen.trace.states (view_at (disjuncts_in list) text entry o)
  one_on_run text entry q read is o out = record {
    short = short_so text q read;
    fits =
        subst (λ (lens : Cut). AllByRecursion (IsOfRun lens) o.witnesses) lens_are
        (outcome_fits (run_seen seen watches) (names_seen seen watches) entry.range.form (own_of entry.range resolved) o (came text entry q read is o out));
  }

  can_put : (text : List ℕ) (entry : Listed) (q : Question) → IsReadAs text q → IsEntry list q entry → (o : Outcome) → IsOutcomeIn seen (disjuncts_of growing.disjuncts) entry.range o
      → CanPut seen.trace.states ds_all text entry o
  can_put text entry q read is o out =
      record { there = record { up = is.has.up; within = is.has.within }; on_run = one_on_run text entry q read is o out }

  instance_on_run : (a : Answered) → IsShown a → IsOnRun seen.trace.states (instance_view a)
  instance_on_run a is =
      let i = is.0 in
      let answered = is.1 in record {
        short = subst (λ (text : List ℕ). length text ≤ longest_lexed) (sym answered.text) (short_so i.text i.question is.2.read);
        fits =
            subst (λ (lens : Cut). AllByRecursion (IsOfRun lens) a.outcome.witnesses) lens_are
            (outcome_fits (run_by bare watches.watches) (names_of header []) i.question.form (numbered_in header [] (named.disjuncts_of i.question.classed.disjuncts)) a.outcome (answered.outcome watches.watches));
      }

  can_show : (text : List ℕ) (t : Tallied) → IsTalliedAs bare text t → CanShow seen.trace.states text t
  can_show text t tallied =
      let shown = shown_of bare text t.over t.tally tallied.tally in
      record { over = tallied.within; shown = shown.0; is = shown.1; on_run = instance_on_run shown.0 shown.2 }

  pub can_tell : (texts : List (List ℕ)) (overs : List (Option Over)) (ts : List (Option Tallied)) (es : List Listed) (os : List Outcome) → AreEach list texts overs es → AreTallies bare texts ts
      → AreOutcomes seen (disjuncts_of growing.disjuncts) es os → CanTellFrom seen.trace.states ds_all texts ts es os
  can_tell [] overs ts es os each tallied came = tt
  can_tell (text ∷ texts) [] ts es os each tallied came = absurd each
  can_tell (text ∷ texts) (o ∷ overs) [] es os each tallied came = absurd tallied
  can_tell (text ∷ texts) (None ∷ overs) (None ∷ ts) [] os each tallied came = absurd each
  can_tell (text ∷ texts) (None ∷ overs) (None ∷ ts) (e ∷ es) [] each tallied came = absurd came
  can_tell (text ∷ texts) (None ∷ overs) (None ∷ ts) (e ∷ es) (o ∷ os) each tallied came =
      (can_put text e each.0.listed.0 each.0.listed.1 each.0.listed.2 o came.0, can_tell texts overs ts es os each.1 tallied.1 came.1)
  can_tell (text ∷ texts) (None ∷ overs) (Some t ∷ ts) [] os each tallied came = absurd each
  can_tell (text ∷ texts) (None ∷ overs) (Some t ∷ ts) (e ∷ es) os each tallied came = absurd (one_not_over text t.over each.0.names tallied.0.names)
  can_tell (text ∷ texts) (Some names ∷ overs) (None ∷ ts) es os each tallied came = absurd (one_not_over text names tallied.0 each.0.names)
  can_tell (text ∷ texts) (Some names ∷ overs) (Some t ∷ ts) es os each tallied came = (can_show text t tallied.0, can_tell texts overs ts es os each.1 tallied.1 came)

  pub document_told : (texts : List (List ℕ)) (overs : List (Option Over)) (ts : List (Option Tallied)) (os : List Outcome) → AreEach list texts overs list.listed → AreTallies bare texts ts
      → AreOutcomes seen (disjuncts_of growing.disjuncts) list.listed os
      → (steps : ℕ) (text : List ℕ) → text ≡ document seen.trace.states steps (views texts ts list.listed os) → (holds : Bool) → holds ≡ all_hold (views texts ts list.listed os) → IsDocument watches steps texts (all_of log) holds text
  document_told texts overs ts os each tallied came steps text text_is holds holds_is = record {
    views = views texts ts list.listed os;
    each = all_told texts overs ts list.listed os each tallied came;
    text_is = text_is ∙ ap (λ (t : TraceView). document t.states steps (views texts ts list.listed os)) trace_is;
    hold = sym holds_is;
  }
