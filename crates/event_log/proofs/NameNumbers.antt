-- The names of a header by their numbers, as the run model has them.
use Rattle.std.proofs.Common.{◌≡◌, ℕ, ◌+◌, ◌<◌, Bool, true, false, List, [], ◌∷◌, length, map, get_or, refl, sym, ap, ◌∙◌, arith, inl, inr}
use Rattle.std.specs.Prelude.{pos, Some}
use Rattle.std.specs.List.{AllByRecursion, position_or_len}
use Rattle.std.specs.Str.{bytes_eq}
use Rattle.std.proofs.lemmas.Bool.{cases_Bool}
use Rattle.std.proofs.lemmas.Option.{same_Some}
use Rattle.std.proofs.lemmas.Slice.Eq.{bytes_eq-Decides}
use Rattle.log_lines.specs.Names.{Name, place_from, place_of, are_distinct}
use Rattle.event_log.specs.declared.log.Binding.{Binding}
use Rattle.event_log.specs.declared.log.Header.{Header}
use Rattle.event_log.specs.declared.log.Event.{Event}
use Rattle.event_log.specs.LogText.{BindingsFit, HeaderFits, name_at}
use Rattle.event_log.specs.Numbers.{binding_names, variables_at}
use Rattle.event_log.specs.States.{StatesView, IsHeader, AreNamedApart, trace_of, processes_of, variable_of}
use Rattle.event_log.proofs.Keeping.{process_is}
use Rattle.event_log.proofs.NameLaws.{place_again}
use Rattle.run_model.specs.Run as run

-- ---- places and numbers

eq_swapped : (xs ys : List ℕ) (b : Bool) → bytes_eq xs ys ≡ b → bytes_eq ys xs ≡ b
eq_swapped xs ys true h = (bytes_eq-Decides ys xs).1 (sym ((bytes_eq-Decides xs ys).0 h))
eq_swapped xs ys false h = elim (cases_Bool (bytes_eq ys xs)) [
  | inl same ↦ let e = (bytes_eq-Decides xs ys).1 (sym ((bytes_eq-Decides ys xs).0 same)) in cc
  | inr other ↦ other
]

-- the place of a name is its number
place_number : (names : List Name) (start p : ℕ) (name : Name) → place_from start names name ≡ Some p → start + position_or_len (bytes_eq name) names ≡ p
place_number [] start p name h = cc
place_number (n ∷ ns) start p name h = elim (cases_Bool (bytes_eq n name)) [
  | inl same ↦
      let swapped = eq_swapped n name true same in
      let here : start ≡ p = same_Some _ _ (rw same at h) in
      rw swapped (omega (arith, here))
  | inr other ↦
      let swapped = eq_swapped n name false other in
      let rest = place_number ns (start + 1) p name (rw other at h) in
      rw swapped (omega (arith, rest))
]

number_place : (names : List Name) (start p : ℕ) (name : Name) → start + position_or_len (bytes_eq name) names ≡ p → p < start + length names → place_from start names name ≡ Some p
number_place [] start p name h lt = absurd (omega arith)
number_place (n ∷ ns) start p name h lt = elim (cases_Bool (bytes_eq n name)) [
  | inl same ↦
      let swapped = eq_swapped n name true same in
      let here : start ≡ p = omega (arith, rw swapped at h) in
      rw same (ap (λ (k : ℕ). Some k) here)
  | inr other ↦
      let swapped = eq_swapped n name false other in
      let there : start + 1 + position_or_len (bytes_eq name) ns ≡ p = omega (arith, rw swapped at h) in
      rw other (number_place ns (start + 1) p name there (omega arith))
]

pub place_is : (names : List Name) (name : Name) (p : ℕ) → place_of names name ≡ Some p → run.number_of name names ≡ p
place_is names name p h = omega (arith, place_number names 0 p name h)

-- and its number its place, where the name is there
pub number_is : (names : List Name) (name : Name) (p : ℕ) → run.number_of name names ≡ p → p < length names → place_of names name ≡ Some p
number_is names name p h lt = number_place names 0 p name (omega (arith, h)) (omega arith)

-- the number of the name at a place
pub number_again : (names : List Name) (p : ℕ) → are_distinct names ≡ true → p < length names → run.number_of (name_at names p) names ≡ p
number_again names p distinct lt = place_is names (name_at names p) p (place_again names p distinct lt)

-- ---- the names of the run

names_of_run : (names : List Name) (vars : List (List Binding)) (ess : List (List Event)) → length vars ≡ length names → length ess ≡ length names
    → map (λ (p : run.Process). p.name) (processes_of names vars ess) ≡ names
names_of_run [] vars ess h k = refl
names_of_run (n ∷ ns) [] ess h k = cc
names_of_run (n ∷ ns) (v ∷ vs) [] h k = cc
names_of_run (n ∷ ns) (v ∷ vs) (es ∷ ess) h k = ap (λ (l : List Name). n ∷ l) (names_of_run ns vs ess (omega arith) (omega arith))

-- the names of the run's processes are those of the header
pub names_are : (s : StatesView) → length s.header.vars ≡ length s.header.procs → length s.events ≡ length s.header.procs
    → map (λ (p : run.Process). p.name) (trace_of s) ≡ s.header.procs
names_are s vars events = names_of_run s.header.procs s.header.vars s.events vars events

names_of_variables : (vs : List Binding) → map (λ (x : run.Variable). x.name) (map variable_of vs) ≡ binding_names vs
names_of_variables [] = refl
names_of_variables (v ∷ vs) = ap (λ (l : List Name). v.name ∷ l) (names_of_variables vs)

-- and the names of a process's variables
pub variables_are : (s : StatesView) (i : ℕ) → length s.header.vars ≡ length s.header.procs → length s.events ≡ length s.header.procs → i < length s.events
    → map (λ (x : run.Variable). x.name) (run.process_at (trace_of s) i).variables ≡ binding_names (variables_at s.header.vars i)
variables_are s i vars events lt =
    let process = process_is s.header.procs s.header.vars s.events i (omega (arith, events)) (omega (arith, events, vars)) lt in
    ap (λ (p : run.Process). map (λ (x : run.Variable). x.name) p.variables) process ∙ names_of_variables (get_or s.header.vars i [])

-- the value of the variable of a name, by its place among the variables of its process
pub value_named : (s : StatesView) (i a v : ℕ) (name : Name) → length s.header.vars ≡ length s.header.procs → length s.events ≡ length s.header.procs → i < length s.events
    → place_of (binding_names (variables_at s.header.vars i)) name ≡ Some v
    → run.value_after (run.process_at (trace_of s) i) name a ≡ get_or (run.state_after (run.process_at (trace_of s) i) a) v (pos 0)
value_named s i a v name vars events lt there =
    let number : run.number_of name (map (λ (x : run.Variable). x.name) (run.process_at (trace_of s) i).variables) ≡ v =
    ap (run.number_of name) (variables_are s i vars events lt) ∙ place_is (binding_names (variables_at s.header.vars i)) name v there in
    ap (λ (k : ℕ). get_or (run.state_after (run.process_at (trace_of s) i) a) k (pos 0)) number

-- ---- headers

named_apart : (vars : List (List Binding)) → AllByRecursion BindingsFit vars → AllByRecursion AreNamedApart vars
named_apart [] fits = tt
named_apart (v ∷ vars) fits = (fits.0.distinct, named_apart vars fits.1)

-- a header that has a text
pub header_known : (h : Header) → HeaderFits h → IsHeader h
header_known h fits = record {
  some = fits.procs.some;
  few = fits.procs.few;
  vars = fits.all;
  distinct = fits.procs.distinct;
  variables = named_apart h.vars fits.vars;
}
