-- What is told of questions that were observed on a log.
use Rattle.std.proofs.Common.{◌≡◌, ℕ, Bool, true, false, List, [], ◌∷◌, Option, None, Some, refl, sym, ap, subst, ◌∙◌, arith}
use Rattle.asked_list.specs.Lists.{disjuncts_in}
use Rattle.event_log.specs.States.{StatesView}
use Rattle.event_log.specs.declared.log.Header.{Header}
use Rattle.event_log.specs.declared.log.Log.{Log}
use Rattle.rctl_grammar.specs.declared.tree.Atom.TheVariants as atom
use Rattle.rctl_class.specs.Nodes.{leaf}
use Rattle.rctl_names.specs.Resolving.{CanResolve}
use Rattle.rctl_parts.specs.Pieces.{disjuncts_of}
use Rattle.trace_growth.specs.Growing.{IsTrace, TraceView}
use Rattle.part_pulls.specs.Observing.{AreAnswers, Reading}
use Rattle.part_pulls.specs.declared.observed.Observed.{Observed}
use Rattle.observation.specs.Fed.{AreFedFrom, AnswersAs}
use Rattle.observation.specs.Growing.{HasTaken}
use Rattle.log_rules.specs.WholeLogs.{all_of}
use Rattle.log_check.specs.Aims.{watches_of}
use Rattle.log_check.proofs.Steps.{answers_named, can_resolve}
use Rattle.watch.specs.declared.predicate.Handed.{Handed}
use Rattle.asked_list.specs.declared.list.AskedList.{AskedList}
use Rattle.asked_list.specs.declared.list.Listed.{Listed}
use Rattle.asked_observation.specs.declared.observing.ObservedList.{ObservedList}
use Rattle.asked_log.specs.Logs.{CanObserve, IsObservedOn}
use Rattle.asked_log.specs.Watches.{AreWatches, Says, handed_watches, names_of}
use Rattle.ask_questions.specs.Entries.{AreEach, CanBeObserved}
use Rattle.ask_questions.specs.declared.reading.AskedQuestions.{AskedQuestions}
use Rattle.over_answers.specs.PassedOn.{IsBare}
use Rattle.over_answers.specs.Tallies.{AreNamedBy, AreTallies, IsFirstStop, bare_of}
use Rattle.over_answers.specs.declared.answering.NumberedStop.{NumberedStop}
use Rattle.over_answers.specs.declared.answering.Tallied.{Tallied}
use Rattle.question_document.specs.Views.{CanTellFrom, all_hold, views_from}
use Rattle.question_instances.specs.declared.over.Over.{Over}
use Rattle.question_outcome.specs.declared.outcome.Outcome.{Outcome}
use Rattle.question_outcomes.specs.Telling.{AreOutcomes}
use Rattle.ask_text.specs.Documents.{document}
use Rattle.ask_top.specs.Asking.{AreKnownIn}
use Rattle.ask_top.specs.Documents.{IsDocument, bare_on}
use Rattle.ask_top.specs.inside.Observing.{IsObservedFor}
use Rattle.ask_top.proofs.Told.{can_tell, document_told}

answers_as : {X : Type 0} {P : X → Type 0} (says : Says X P) (handed : List (Handed X P)) → AreWatches handed → AnswersAs says handed (handed_watches says handed)
answers_as says handed are =
    answers_named says (record { node = leaf (atom.Truth true) 0; text = []; names = names_of handed; watches = watches_of says handed }) handed are.distinct refl refl

-- ---- the names that stand for processes

pub named : (list : AskedList) (texts : List (List ℕ)) (overs : List (Option Over)) (es : List Listed) → AreEach list texts overs es → AreNamedBy texts overs
named list [] [] es each = tt
named list [] (o ∷ overs) [] each = absurd each
named list [] (o ∷ overs) (e ∷ es) each = absurd each
named list (text ∷ texts) [] es each = absurd each
named list (text ∷ texts) (None ∷ overs) [] each = absurd each
named list (text ∷ texts) (None ∷ overs) (e ∷ es) each = (record { names = each.0.names; within = tt }, named list texts overs es each.1)
named list (text ∷ texts) (Some over ∷ overs) es each = (record { names = each.0.names; within = each.0.within }, named list texts overs es each.1)

module _ {X : Type 0} {P : X → Type 0} (says : Says X P) (handed : List (Handed X P)) (texts : List (List ℕ)) (overs : List (Option Over)) (log : Log) (made : ObservedList X P)
    (for : IsObservedFor says handed texts overs log made)
    (trace : made.observation.growing.spent ≡ false → IsTrace made.observation.growing.seen.trace.states) where
  abbrev states : StatesView
  states = made.observation.growing.seen.trace.states

  header_is : states.header ≡ log.header
  header_is = ap (λ (t : TraceView). t.states.header) for.on.trace

  resolves : CanResolve states.header []
  resolves = subst (λ (h : Header). CanResolve h []) (sym header_is) (can_resolve log.header [] for.header (omega arith))

  -- ---- what questions over processes are answered on

  pub bare_so : (seen : Observed) → seen ≡ bare_of made.observation.growing.seen.trace → IsBare seen
  bare_so seen is = subst IsBare (sym is) (record {
    unspent = ap (λ (t : TraceView). t.spent) for.on.trace;
    trace = trace for.on.taken.unspent;
    watches = refl;
    header = resolves;
  })

  on_log : (seen : Observed) → seen ≡ bare_of made.observation.growing.seen.trace → seen ≡ bare_on (all_of log)
  on_log seen is = is ∙ ap bare_of for.on.trace

  pub stopped_on : (seen : Observed) → seen ≡ bare_of made.observation.growing.seen.trace → (stop : NumberedStop) → IsFirstStop seen texts stop → IsFirstStop (bare_on (all_of log)) texts stop
  stopped_on seen is stop first = subst (λ (o : Observed). IsFirstStop o texts stop) (on_log seen is) first

  -- ---- what is told

  module _ (answers : HasTaken made.observation.growing → (hs : List (Handed X P)) (reading : Reading) → AreFedFrom says hs made.observation.watches.items made.observation.growing.seen → AnswersAs says hs reading → AreAnswers made.observation.growing.seen reading)
      (os : List Outcome) (listed : List Listed) (listed_is : listed ≡ made.list.listed) (came : AreOutcomes made.observation.growing.seen (disjuncts_of made.observation.growing.disjuncts) listed os)
      (seen : Observed) (seen_is : seen ≡ bare_of made.observation.growing.seen.trace) (ts : List (Option Tallied)) (tallied : AreTallies seen texts ts)
      (st : StatesView) (st_is : st ≡ seen.trace.states) where
    told_by : AreAnswers made.observation.growing.seen (handed_watches says handed)
    told_by = answers for.on.taken handed (handed_watches says handed) for.on.fed (answers_as says handed for.watches)

    here : AreOutcomes made.observation.growing.seen (disjuncts_of made.observation.growing.disjuncts) made.list.listed os
    here = subst (λ (ls : List Listed). AreOutcomes made.observation.growing.seen (disjuncts_of made.observation.growing.disjuncts) ls os) listed_is came

    tallies : AreTallies (bare_of made.observation.growing.seen.trace) texts ts
    tallies = subst (λ (o : Observed). AreTallies o texts ts) seen_is tallied

    states_are : st ≡ states
    states_are = st_is ∙ ap (λ (o : Observed). o.trace.states) seen_is

    pub can_be_told : (slice : List (Option Tallied)) (outs : List Outcome) → slice ≡ ts → outs ≡ os → CanTellFrom st (disjuncts_in made.list) texts slice made.list.listed outs
    can_be_told slice outs is outs_are =
        subst (λ (s : StatesView). CanTellFrom s (disjuncts_in made.list) texts slice made.list.listed outs) (sym states_are)
        (subst (λ (l : List (Option Tallied)). CanTellFrom states (disjuncts_in made.list) texts l made.list.listed outs) (sym is)
        (subst (λ (l : List Outcome). CanTellFrom states (disjuncts_in made.list) texts ts made.list.listed l) (sym outs_are)
        (can_tell made.list (handed_watches says handed) log made.observation.growing for.on.observed for.on.trace (trace for.on.taken.unspent) told_by texts overs ts made.list.listed os for.asked.each tallies here)))

    pub told_so : (slice : List (Option Tallied)) (outs : List Outcome) → slice ≡ ts → outs ≡ os → (steps : ℕ) (text : List ℕ) (holds : Bool)
        → text ≡ document st steps (views_from (disjuncts_in made.list) st.header texts slice made.list.listed outs) → holds ≡ all_hold (views_from (disjuncts_in made.list) st.header texts slice made.list.listed outs)
        → IsDocument (handed_watches says handed) steps texts (all_of log) holds text
    told_so slice outs is outs_are steps text holds text_is holds_is =
        let same : views_from (disjuncts_in made.list) st.header texts slice made.list.listed outs ≡ views_from (disjuncts_in made.list) states.header texts ts made.list.listed os =
        ap (λ (s : StatesView). views_from (disjuncts_in made.list) s.header texts slice made.list.listed outs) states_are
        ∙ ap (λ (l : List (Option Tallied)). views_from (disjuncts_in made.list) states.header texts l made.list.listed outs) is
        ∙ ap (λ (l : List Outcome). views_from (disjuncts_in made.list) states.header texts ts made.list.listed l) outs_are in
        document_told made.list (handed_watches says handed) log made.observation.growing for.on.observed for.on.trace (trace for.on.taken.unspent) told_by texts overs ts os for.asked.each tallies here steps text
        (text_is ∙ ap (document st steps) same ∙ ap (λ (s : StatesView). document s steps (views_from (disjuncts_in made.list) states.header texts ts made.list.listed os)) states_are)
        holds (holds_is ∙ ap all_hold same)

pub observed_for : {X : Type 0} {P : X → Type 0} (says : Says X P) (handed : List (Handed X P)) (texts : List (List ℕ)) (asked : AskedQuestions) (log : Log) (made : ObservedList X P) → CanBeObserved texts asked → AreWatches handed
    → CanObserve log → IsObservedOn says handed asked.list log made → (overs : List (Option Over)) → overs ≡ asked.overs → IsObservedFor says handed texts overs log made
observed_for says handed texts asked log made can watches log_can on overs overs_are =
    subst (λ (os : List (Option Over)). IsObservedFor says handed texts os log made) (sym overs_are) (record {
      asked = subst (λ (l : AskedList). CanBeObserved texts (record { list = l; overs = asked.overs })) (sym on.list_is) can;
      watches = watches;
      header = log_can.header;
      on = subst (λ (l : AskedList). IsObservedOn says handed l log made) (sym on.list_is) on;
    })

pub known_on : {X : Type 0} {P : X → Type 0} (says : Says X P) (handed : List (Handed X P)) (list : AskedList) (log : Log) (made : ObservedList X P) → IsObservedOn says handed list log made → AreKnownIn (names_of handed) list log.header
known_on says handed list log made on = subst (λ (h : Header). AreKnownIn (names_of handed) list h) (ap (λ (t : TraceView). t.states.header) on.trace) on.observed.known.free
