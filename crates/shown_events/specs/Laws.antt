-- What the tokens of a formula name, which events they keep, and that no others change its truth.
use Rattle.std.specs.Prelude.{◌≡◌, ℕ, zero, suc, ◌↔◌, Bool, true, false, ◌&&◌, List, length, map}
use Rattle.std.specs.Prelude.{Option, Some, if◌then◌else◌}
use Rattle.std.specs.List.{list_any}
use Rattle.std.specs.Str.{bytes_eq}
use Rattle.run_model.specs.Cut.{Cut}
use Rattle.run_model.specs.Run.{Name, Watches, clocks_of, run_of}
use Rattle.run_model.specs.Consistent.{IsOrder, IsConsistent}
use Rattle.run_model.specs.Meaning.{Sat}
use Rattle.kept_runs.specs.Kept.{Pair, is_kept, counted}
use Rattle.kept_runs.specs.Laws.{kept_run}
use Rattle.kept_runs.specs.Naming.{HasNoNext, variables_of, channels_of, watched_of, names_of}
use Rattle.pota_base.specs.declared.shape.EventId.{EventId}
use Rattle.pota_base.specs.Shape.{HasEvent}
use Rattle.event_log.specs.declared.log.Header.{Header}
use Rattle.event_log.specs.LogText.{KindWithin}
use Rattle.event_log.specs.Numbers.{variables_at}
use Rattle.event_log.specs.States.{StatesView, AreWhole, AssignsWithin, trace_of, event_of}
use Rattle.counter_preds.specs.declared.values.Variable.{Variable}
use Rattle.rctl_grammar.specs.declared.fault.FormulaFault.{FormulaFault}
use Rattle.rctl_grammar.specs.declared.token.Token.{Token}
use Rattle.rctl_grammar.specs.declared.tree.Tree.{Tree}
use Rattle.rctl_grammar.specs.Shape.{meaning}
use Rattle.rctl_lexer.specs.Lexing.{lex}
use Rattle.rctl_parse.specs.Parsing.{IsReadAs}
use Rattle.log_rules.specs.Judgement.{Prefix, states_of, with_rules}
use Rattle.log_rules.specs.Readings.{log_reading}
use Rattle.log_rules.specs.Due.{due}
use Rattle.view_parts.specs.Parts.{event_at, place}
use Rattle.view_parts.specs.Naming.{begin_with_variable, begin_with_channel, begin_with_watch}
use Rattle.view_parts.specs.Naming.{begin_with_next, names}
use Rattle.view_parts.specs.About.{is_about}

-- a variable or a channel has these two names
abbrev pub is_pair : Name → Name → Pair → Bool
is_pair first second pair = bytes_eq pair.first first && bytes_eq pair.second second

abbrev pub is_name : Name → Name → Bool
is_name name other = bytes_eq other name

-- the tokens of a text name what the formula names that the text is read as
pub record NameAsTheFormula (text : List ℕ) (t : Tree) : Type 0 where
  pub variables : (process variable : Name)
      → names (begin_with_variable process variable) (lex text).tokens
      ≡ list_any (is_pair process variable) (variables_of (meaning t))
  pub channels : (sender receiver : Name)
      → names (begin_with_channel sender receiver) (lex text).tokens
      ≡ list_any (is_pair sender receiver) (channels_of (meaning t))
  pub watches : (process : Name) → names (begin_with_watch process) (lex text).tokens
      ≡ list_any (is_name process) (watched_of (meaning t))

abbrev pub TokensNameAsTheFormula : Type 0
TokensNameAsTheFormula = (text : List ℕ) (t : Tree) → IsReadAs text t → NameAsTheFormula text t

-- where no `EX` with a name behind it stands among them, the formula has none
abbrev pub EachNextStandsInTheText : Type 0
EachNextStandsInTheText =
    (text : List ℕ) (t : Tree) → IsReadAs text t → names begin_with_next (lex text).tokens ≡ false
    → HasNoNext (meaning t)

-- the event assigns variables of its process, and its message is one of a process that is there
pub record IsOfTheRun (s : StatesView) (e : EventId) : Type 0 where
  pub there : HasEvent (map length s.events) e
  pub assigns : AssignsWithin (length (variables_at s.header.vars e.process)) (event_at s e)
  pub peer : KindWithin (length s.header.procs) (event_at s e).kind

-- a formula is about an event where the run that is folded to its names keeps it
abbrev pub AboutIsKept : Type 0
AboutIsKept =
    (s : StatesView) (text : List ℕ) (t : Tree) (e : EventId) → AreWhole s → IsReadAs text t
    → IsOfTheRun s e
    → is_about s (lex text).tokens e
    ≡ is_kept (trace_of s) (names_of (meaning t)) e.process (event_of (event_at s e))

-- ---- truth

-- each event of the run is such
abbrev pub AreOfTheRun : StatesView → Type 0
AreOfTheRun s = (e : EventId) → HasEvent (map length s.events) e → IsOfTheRun s e

-- how many of the first n events of a process the tokens of a formula are about
unfoldable pub about_count : StatesView → List Token → ℕ → ℕ → ℕ
about_count s tokens process zero = 0
about_count s tokens process (suc n) =
    if is_about s tokens (place process (suc n)) then suc (about_count s tokens process n)
    else about_count s tokens process n

-- the events of a cut that they are about
abbrev pub about_cut : StatesView → List Token → Cut → Cut
about_cut s tokens c = counted (about_count s tokens) 0 c

-- processes with their variables and events, which the clocks order
pub record IsOrderedRun (s : StatesView) : Type 0 where
  pub whole : AreWhole s
  pub events : AreOfTheRun s
  pub order : IsOrder (clocks_of (trace_of s))

-- such a run, and a text that is read as a formula and has no `EX` with a name behind it
pub record IsWithoutNext (s : StatesView) (text : List ℕ) (t : Tree) : Type 0 where
  pub run : IsOrderedRun s
  pub read : IsReadAs text t
  pub no_next : names begin_with_next (lex text).tokens ≡ false

-- at a consistent cut the formula has the truth that it has in the run that is folded to its names,
-- at the events of the cut that it is about
abbrev pub TruthIsThatOfTheEvents : Type 0
TruthIsThatOfTheEvents =
    (s : StatesView) (text : List ℕ) (t : Tree) → IsWithoutNext s text t → (watches : Watches)
    (c : Cut) → IsConsistent (clocks_of (trace_of s)) c
    → Sat (run_of (trace_of s) watches) (meaning t) c
    ↔ Sat (kept_run (trace_of s) (names_of (meaning t)) watches) (meaning t)
    (about_cut s (lex text).tokens c)

-- so the formula has one truth at consistent cuts that differ only by events that it is not about
abbrev pub OtherEventsChangeNothing : Type 0
OtherEventsChangeNothing =
    (s : StatesView) (text : List ℕ) (t : Tree) → IsWithoutNext s text t → (watches : Watches)
    (c d : Cut) → IsConsistent (clocks_of (trace_of s)) c → IsConsistent (clocks_of (trace_of s)) d
    → about_cut s (lex text).tokens c ≡ about_cut s (lex text).tokens d
    → Sat (run_of (trace_of s) watches) (meaning t) c
    ↔ Sat (run_of (trace_of s) watches) (meaning t) d

-- ---- logs

-- the run of a log that is read without a fault is such a run, whatever names are looked up in it
-- and whatever variables of it are counters
abbrev pub RunsOfLogsAreOrdered : Type 0
RunsOfLogsAreOrdered =
    (names : Header → Option FormulaFault) (counters : Header → List Variable) (bytes : List ℕ)
    (log : Prefix) → (due log_reading (with_rules names counters) true bytes).whole ≡ Some log
    → IsOrderedRun (states_of log)
