-- What an answer says of the input that was read.
use Rattle.std.proofs.Common.{◌≡◌, ℕ, zero, suc, Bool, true, false, inl, inr, Option, Some, None, List, [], ◌∷◌, ◌-◌, length, take, drop, map, refl, sym, subst, ◌∙◌, arith, length-drop}
use Rattle.std.proofs.lemmas.List.{take_all}
use Rattle.std.specs.Prelude.{◌⊎◌}
use Rattle.std.specs.Io.KnownBytes.{Consumes, IsAtEnd}
use Rattle.std.proofs.KnownBytes.{Appends-nil}
use Rattle.event_log.specs.declared.log.Log.{Log}
use Rattle.fault_kinds.specs.declared.refusal.Refusal.{Refusal}
use Rattle.pota_base.specs.Changes.{Change, behind_of, change_of}
use Rattle.input_reading.specs.Intakes.{ReadsShort}
use Rattle.log_rules.specs.WholeLogs.{all_of}
use Rattle.log_input.specs.Inputs.{HasStood}
use Rattle.log_input.specs.Readings.{log_due}
use Rattle.log_input.specs.declared.places.Places.{Places}
use Rattle.log_input.specs.declared.reading.Input.TheVariants.{Whole, Faulty, Failed}
use Rattle.part_pulls.specs.Observing.{Reading}
use Rattle.ask_questions.specs.Entries.{CanBeObserved}
use Rattle.ask_questions.specs.declared.reading.AskedQuestions.{AskedQuestions}
use Rattle.ask_words.specs.Asking.{asked_by}
use Rattle.ask_words.specs.declared.asking.Asked.{Asked}
use Rattle.ask_faults.specs.declared.fault.Fault.{Fault}
use Rattle.ask_faults.specs.declared.fault.Fault.TheVariants as fault
use Rattle.asked_log.specs.Logs.{Stops}
use Rattle.asked_log.specs.declared.log.Stop.{Stop}
use Rattle.asked_log.specs.declared.log.Stop.TheVariants as stop
use Rattle.ask_top.specs.declared.answer.Answer.{Answer}
use Rattle.ask_top.specs.declared.answer.Answer.TheVariants as answer
use Rattle.over_answers.specs.Tallies.{IsFirstStop}
use Rattle.ask_top.specs.Asking.{among, HasAnswered, HasAsked, IsAnswer, FallsIn, IsRefusedBy, LacksAnswer, LacksName, Says}
use Rattle.ask_top.specs.Calm.{IsCalm}
use Rattle.ask_top.specs.Documents.{IsDocument, bare_on}
use Rattle.ask_top.specs.inside.Observing.{IsUntallied, StopsAs, fault_of}
use Rattle.ask_top.specs.inside.Writing.{Fails, Puts}

pub drop-map : {A B : Type 0} (f : A → B) (k : ℕ) (xs : List A) → drop k (map f xs) ≡ map f (drop k xs)
drop-map f zero xs = refl
drop-map f (suc k) [] = refl
drop-map f (suc k) (x ∷ xs) = drop-map f k xs

-- what the program takes from a place on
pub rest_is : {A : Type 0} (k : ℕ) (xs : List A) → take (length xs - k) (drop k xs) ≡ drop k xs
rest_is k xs = take_all (length xs - k) (drop k xs) (omega (arith, length-drop k xs))

module _ (watches : Reading) (words : List (List ℕ)) (asked : Asked) (asks : asked_by words ≡ Some asked) (questions : AskedQuestions) (texts : List (List ℕ)) (texts_are : texts ≡ drop asked.questions_from words) (can : CanBeObserved texts questions)
    (s : Change) (held : Option (List ℕ)) (of : ℕ) where
  abbrev Answered : (held' : Option (List ℕ)) → (of' : ℕ) → Answer → Type 0
  Answered held' of' a = HasAnswered watches s (change_of held held' of of') words a

  asking : (P : Asked → AskedQuestions → Type 0) → P asked questions → HasAsked words P
  asking P holds =
      record { asked = asked; asks = asks; questions = questions; read = subst (λ (ts : List (List ℕ)). CanBeObserved ts questions) texts_are can; holds = holds }

  -- nothing was written
  unwritten : (read : List ℕ) → Consumes s.before s.after read → (a : Answer) → Says a watches (behind_of s.after s.faults_before s.faults_after of of) words read [] → Answered held of a
  unwritten read consumed a says = record { read = read; written = []; consumed = consumed; wrote = Appends-nil held; says = says }

  module _ (log : Log) (places : Places) (stood : HasStood asked.form s (Whole log places)) where
    is_answer : (holds : Bool) (text : List ℕ) → IsDocument watches asked.steps texts (all_of log) holds text → IsAnswer watches s.after words holds stood.read text
    is_answer holds text told = record {
      asked = asked;
      asks = asks;
      ended = stood.to.0;
      log = all_of log;
      has = stood.to.2.has;
      document = subst (λ (ts : List (List ℕ)). IsDocument watches asked.steps ts (all_of log) holds text) texts_are told;
    }

    told_as : (holds other : Bool) (text : List ℕ) → holds ≡ other → IsDocument watches asked.steps texts (all_of log) holds text → IsDocument watches asked.steps texts (all_of log) other text
    told_as holds other text is told = subst (λ (b : Bool). IsDocument watches asked.steps texts (all_of log) b text) is told

    failed_to : (holds : Bool) (text : List ℕ) (held' : Option (List ℕ)) (of' : ℕ) (f : Fault) → IsDocument watches asked.steps texts (all_of log) holds text → Fails text (change_of held held' of of') f → Answered held' of' (answer.Without f)
    failed_to holds text held' of' fault.Usage told puts = absurd puts
    failed_to holds text held' of' (fault.Question f) told puts = absurd puts
    failed_to holds text held' of' (fault.Unknown u) told puts = absurd puts
    failed_to holds text held' of' (fault.Over f) told puts = absurd puts
    failed_to holds text held' of' (fault.Refused r line) told puts = absurd puts
    failed_to holds text held' of' fault.Read told puts = absurd puts
    failed_to holds text held' of' fault.Write told puts = record {
      read = stood.read;
      written = puts.0.0;
      consumed = stood.consumed;
      wrote = puts.0.2;
      says = (holds, text, is_answer holds text told, puts.0.1, puts.1);
    }
    failed_to holds text held' of' fault.Memory told puts = absurd puts

    pub put_so : (holds : Bool) (text : List ℕ) (held' : Option (List ℕ)) (of' : ℕ) (a : Answer) → IsDocument watches asked.steps texts (all_of log) holds text → Puts text holds (change_of held held' of of') a → Answered held' of' a
    put_so holds text held' of' answer.Holds told puts =
        record { read = stood.read; written = text; consumed = stood.consumed; wrote = puts.1; says = is_answer true text (told_as holds true text puts.0 told) }
    put_so holds text held' of' answer.Fails told puts =
        record { read = stood.read; written = text; consumed = stood.consumed; wrote = puts.1; says = is_answer false text (told_as holds false text puts.0 told) }
    put_so holds text held' of' (answer.Without f) told puts = failed_to holds text held' of' f told puts

    stopped_by : (st : Stop) → Stops watches.watch_names questions.list log places st → Answered held of (answer.Without (fault_of questions.overs st))
    stopped_by (stop.Unknown u) is =
        unwritten stood.read stood.consumed (answer.Without (fault.Unknown (among questions.overs u)))
        (refl, stood.to.0, asking (λ a l. LacksName watches a.form l stood.read (among questions.overs u)) (record { log = all_of log; has = stood.to.2.has; listed = u; first = is; named = refl }))
    stopped_by (stop.Fall r) is =
        unwritten stood.read stood.consumed (answer.Without (fault.Refused r [])) (
          refl,
          asking (λ a l. IsRefusedBy a.form s.after stood.read r [] ⊎ (IsAtEnd s.after × ([] ≡ []) × FallsIn watches a.form l.list stood.read r))
              (inr (stood.to.0, refl, record { log = log; has = stood.to.2.has; fall = is.0; falls = is.1; placed = is.2 ∙ stood.to.3 is.0 })),
        )
    stopped_by stop.Memory is = unwritten stood.read stood.consumed (answer.Without fault.Memory) refl

    untallied : (f : Fault) → IsUntallied watches.watch_names texts questions log f → Answered held of (answer.Without f)
    untallied f is =
        subst (λ (x : Fault). Answered held of (answer.Without x)) (sym is.is)
        (unwritten stood.read stood.consumed (answer.Without (fault.Over is.stop)) (
          refl,
          stood.to.0,
          asking (λ a l. LacksAnswer watches a.form (drop a.questions_from words) l.list stood.read is.stop)
              (record { log = all_of log; has = stood.to.2.has; known = is.known; first = subst (λ (ts : List (List ℕ)). IsFirstStop (bare_on (all_of log)) ts is.stop) texts_are is.first }),
        ))

    pub stopped_so : (f : Fault) → StopsAs watches.watch_names texts questions log places f → Answered held of (answer.Without f)
    stopped_so f (inl is) = subst (λ (x : Fault). Answered held of (answer.Without x)) (sym is.is) (stopped_by is.stop is.stops)
    stopped_so f (inr is) = untallied f is

    calm_by : (st : Stop) → IsCalm s.faults_before s.faults_after (answer.Without (fault_of questions.overs st))
    calm_by (stop.Unknown u) = stood.to.1
    calm_by (stop.Fall r) = tt
    calm_by stop.Memory = tt

    pub calm_stopped : (f : Fault) → StopsAs watches.watch_names texts questions log places f → IsCalm s.faults_before s.faults_after (answer.Without f)
    calm_stopped f (inl is) = subst (λ (x : Fault). IsCalm s.faults_before s.faults_after (answer.Without x)) (sym is.is) (calm_by is.stop)
    calm_stopped f (inr is) = subst (λ (x : Fault). IsCalm s.faults_before s.faults_after (answer.Without x)) (sym is.is) stood.to.1

    pub calm_put : (holds : Bool) (text : List ℕ) (held' : Option (List ℕ)) (of' : ℕ) (a : Answer) → Puts text holds (change_of held held' of of') a → IsCalm s.faults_before s.faults_after a
    calm_put holds text held' of' answer.Holds puts = stood.to.1
    calm_put holds text held' of' answer.Fails puts = stood.to.1
    calm_put holds text held' of' (answer.Without fault.Usage) puts = stood.to.1
    calm_put holds text held' of' (answer.Without (fault.Question f)) puts = stood.to.1
    calm_put holds text held' of' (answer.Without (fault.Unknown u)) puts = stood.to.1
    calm_put holds text held' of' (answer.Without (fault.Over f)) puts = stood.to.1
    calm_put holds text held' of' (answer.Without (fault.Refused r line)) puts = tt
    calm_put holds text held' of' (answer.Without fault.Read) puts = tt
    calm_put holds text held' of' (answer.Without fault.Write) puts = stood.to.1
    calm_put holds text held' of' (answer.Without fault.Memory) puts = tt

  pub refused : (r : Refusal) (line : List ℕ) → HasStood asked.form s (Faulty r line) → Answered held of (answer.Without (fault.Refused r line))
  refused r line stood =
      unwritten stood.read stood.consumed (answer.Without (fault.Refused r line)) (
        refl,
        asking (λ a l. IsRefusedBy a.form s.after stood.read r line ⊎ (IsAtEnd s.after × (line ≡ []) × FallsIn watches a.form l.list stood.read r))
            (inl (record { ended = stood.to.0.0; at_end = stood.to.0.1; due = stood.to.0.2; line_is = stood.to.1 })),
      )

  pub unread : HasStood asked.form s Failed → Answered held of (answer.Without fault.Read)
  unread stood =
      unwritten stood.read stood.consumed (answer.Without fault.Read) (refl, stood.to.1, asking (λ a l. (log_due a.form false stood.read).fault ≡ None) stood.to.0)

  pub wanting : ReadsShort s → Answered held of (answer.Without fault.Memory)
  wanting some = unwritten some.read some.consumed (answer.Without fault.Memory) refl
