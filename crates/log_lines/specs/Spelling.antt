-- The lines of a log, and the one spelling of each, without its line feed.
use Rattle.std.specs.Prelude.{◌≡◌, ℕ, ℤ, ◌^◌, ◌<◌, ◌≤◌, true, List, [], ◌∷◌, ◌++◌, length, map}
use Rattle.std.specs.Prelude.{FitsSigned}
use Rattle.std.specs.Int.{w64}
use Rattle.std.specs.List.{AllByRecursion}
use Rattle.std.specs.Fmt.{decimal, signed_decimal}
use Rattle.pota_base.specs.Limits.{most_processes, most_variables}
use Rattle.log_lines.specs.Names.{Name, is_name, are_distinct}

-- a variable's name and a value for it
pub record NamedValue : Type 0 where
  pub name : Name
  pub value : ℤ

-- what an event does beside its assignments
pub data Action : Type 0 where
  Internal : Action
  Send : (to : Name) → (id : ℕ) → Action
  Receive : (sender : Name) → (id : ℕ) → Action

pub record EventLine : Type 0 where
  pub actor : Name
  pub clock : List ℕ
  pub action : Action
  pub assigns : List NamedValue

pub record VarsLine : Type 0 where
  pub process : Name
  pub variables : List NamedValue

abbrev pub names_of : List NamedValue → List Name
names_of values = map (λ v. v.name) values

-- ` NAME NAME ..`
abbrev pub names_text : List Name → List ℕ
names_text [] = []
names_text (n ∷ ns) = 32 ∷ (n ++ names_text ns)

-- ` NAME=INT NAME=INT ..`
abbrev pub values_text : List NamedValue → List ℕ
values_text [] = []
values_text (v ∷ vs) = 32 ∷ (v.name ++ 61 ∷ (signed_decimal v.value ++ values_text vs))

-- `,NAT,NAT..`
abbrev pub clock_rest : List ℕ → List ℕ
clock_rest [] = []
clock_rest (n ∷ ns) = 44 ∷ (decimal n ++ clock_rest ns)

-- `NAT,NAT,..`
abbrev pub clock_text : List ℕ → List ℕ
clock_text [] = []
clock_text (n ∷ ns) = decimal n ++ clock_rest ns

-- the counts of an event's clock, or `~` where it is left out
abbrev pub event_clock_text : List ℕ → List ℕ
event_clock_text [] = 126 ∷ []
event_clock_text (n ∷ ns) = clock_text (n ∷ ns)

-- `int`, `send NAME ID` or `recv NAME ID`
abbrev pub action_text : Action → List ℕ
action_text Internal = 105 ∷ 110 ∷ 116 ∷ []
action_text (Send to id) = 115 ∷ 101 ∷ 110 ∷ 100 ∷ 32 ∷ (to ++ 32 ∷ decimal id)
action_text (Receive sender id) = 114 ∷ 101 ∷ 99 ∷ 118 ∷ 32 ∷ (sender ++ 32 ∷ decimal id)

-- `procs NAME ..`
abbrev pub procs_line : List Name → List ℕ
procs_line names = 112 ∷ 114 ∷ 111 ∷ 99 ∷ 115 ∷ names_text names

-- `vars NAME NAME=INT ..`
abbrev pub vars_line : VarsLine → List ℕ
vars_line v = 118 ∷ 97 ∷ 114 ∷ 115 ∷ 32 ∷ (v.process ++ values_text v.variables)

-- `ev NAME CLOCK KIND NAME=INT ..`
abbrev pub event_line : EventLine → List ℕ
event_line e =
    101 ∷ 118 ∷ 32
    ∷ (e.actor ++ 32
    ∷ (event_clock_text e.clock ++ 32 ∷ (action_text e.action ++ values_text e.assigns)))

-- `batch`
abbrev pub batch_line : List ℕ
batch_line = 98 ∷ 97 ∷ 116 ∷ 99 ∷ 104 ∷ []

-- `end`
abbrev pub end_line : List ℕ
end_line = 101 ∷ 110 ∷ 100 ∷ []

-- What has a spelling.

pub record ValueFits (v : NamedValue) : Type 0 where
  pub name : is_name v.name ≡ true
  pub value : FitsSigned w64 v.value

-- at most 16 variables, each once
pub record ValuesFit (vs : List NamedValue) : Type 0 where
  pub few : length vs ≤ most_variables
  pub each : AllByRecursion ValueFits vs
  pub distinct : are_distinct (names_of vs) ≡ true

abbrev pub ActionFits : Action → Type 0
ActionFits Internal = Unit {0}
ActionFits (Send to id) = (is_name to ≡ true) × (id < 2 ^ 64)
ActionFits (Receive sender id) = (is_name sender ≡ true) × (id < 2 ^ 64)

pub record ClockFits (ns : List ℕ) : Type 0 where
  pub some : 0 < length ns
  pub each : AllByRecursion (λ n. n < 2 ^ 32) ns

-- the clock has no counts where it is left out
pub record EventLineFits (e : EventLine) : Type 0 where
  pub actor : is_name e.actor ≡ true
  pub clock : AllByRecursion (λ n. n < 2 ^ 32) e.clock
  pub action : ActionFits e.action
  pub assigns : ValuesFit e.assigns

pub record VarsLineFits (v : VarsLine) : Type 0 where
  pub process : is_name v.process ≡ true
  pub some : 0 < length v.variables
  pub variables : ValuesFit v.variables

-- 1 to 32 names, each once
pub record ProcsFit (names : List Name) : Type 0 where
  pub some : 0 < length names
  pub few : length names ≤ most_processes
  pub each : AllByRecursion (λ n. is_name n ≡ true) names
  pub distinct : are_distinct names ≡ true
