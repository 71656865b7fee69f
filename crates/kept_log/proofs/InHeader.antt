-- The numbers of names in a header are those in the run of its log.
use Rattle.std.proofs.Common.{◌≡◌, ℕ, ◌+◌, false, List, [], ◌∷◌, length, map, refl, sym, ap, ◌∙◌, arith, inl, inr}
use Rattle.std.specs.Prelude.{Option, None, Some, unwrap_or}
use Rattle.std.specs.Str.{bytes_eq}
use Rattle.std.proofs.lemmas.Bool.{cases_Bool, cases_lt}
use Rattle.std.proofs.lemmas.Slice.Eq.{bytes_eq-Decides}
use Rattle.log_lines.specs.Names.{place_from, place_of}
use Rattle.std.proofs.lemmas.List.{length-map, get_or_past}
use Rattle.run_model.specs.Run as run
use Rattle.kept_runs.specs.Kept.{process_number, variable_number}
use Rattle.event_log.specs.declared.log.Binding.{Binding}
use Rattle.event_log.specs.declared.log.Log.{Log}
use Rattle.event_log.specs.Numbers.{binding_names}
use Rattle.event_log.specs.States.{states_of, trace_of_log}
use Rattle.event_log.proofs.NameNumbers.{place_is, names_are, variables_are}
use Rattle.kept_names.specs.declared.names.Pair.{Pair}
use Rattle.kept_names.specs.declared.names.Names.{Names}
use Rattle.kept_log.specs.declared.names.Second.TheVariants as second
use Rattle.kept_log.specs.Named.{pair_of, names_of}
use Rattle.kept_log.specs.inside.Numbered.{process_in, variable_in, ends_in, numbers_in}
use Rattle.kept_log.proofs.ByNumbers.{variable_ends, channel_ends, numbers_of}
use Rattle.kept_log.proofs.Rows.{many_rows}

-- ---- places and numbers

not_same : (n name : run.Name) → bytes_eq n name ≡ false → bytes_eq name n ≡ false
not_same n name h = elim (cases_Bool (bytes_eq name n)) [
  | inl same ↦ let e = (bytes_eq-Decides n name).1 (sym ((bytes_eq-Decides name n).0 same)) in cc
  | inr other ↦ other
]

none_there : (names : List run.Name) (start : ℕ) (name : run.Name) → place_from start names name ≡ None → run.number_of name names ≡ length names
none_there [] start name h = refl
none_there (n ∷ ns) start name h = elim (cases_Bool (bytes_eq n name)) [
  | inl same ↦ let e = rw same at h in cc
  | inr other ↦
      let swapped = not_same n name other in
      let rest = none_there ns (start + 1) name (rw other at h) in
      rw swapped (omega (arith, rest))
]

-- a name that is not there has the number behind the last one
pub place_or_len : (names : List run.Name) (name : run.Name) → unwrap_or (place_of names name) (length names) ≡ run.number_of name names
place_or_len names name = by_place (place_of names name) refl
  where
    by_place : (o : Option ℕ) → place_of names name ≡ o → unwrap_or (place_of names name) (length names) ≡ run.number_of name names
    by_place None is = ap (λ (o : Option ℕ). unwrap_or o (length names)) is ∙ sym (none_there names 0 name is)
    by_place (Some p) is = ap (λ (o : Option ℕ). unwrap_or o (length names)) is ∙ sym (place_is names name p is)

-- ---- all names

map_same : {A B C : Type 0} (f : A → C) (g : B → C) (h : A → B) → ((x : A) → f x ≡ g (h x)) → (xs : List A) → map f xs ≡ map g (map h xs)
map_same f g h same [] = refl
map_same f g h same (x ∷ xs) = λ i. same x i ∷ map_same f g h same xs i

map_each : {A B : Type 0} (f g : A → B) → ((x : A) → f x ≡ g x) → (xs : List A) → map f xs ≡ map g xs
map_each f g same [] = refl
map_each f g same (x ∷ xs) = λ i. same x i ∷ map_each f g same xs i

module _ (log : Log) (vars : length log.header.vars ≡ length log.header.procs) where
  process_same : (name : run.Name) → process_in log.header name ≡ process_number (trace_of_log log) name
  process_same name = ap (run.number_of name) (sym (names_are (states_of log) vars (many_rows log)))

  many_processes : length (trace_of_log log) ≡ length log.header.procs
  many_processes = sym (length-map (trace_of_log log) (λ (p : run.Process). p.name)) ∙ ap length (names_are (states_of log) vars (many_rows log))

  variable_same : (p : ℕ) (name : run.Name) → variable_in log.header p name ≡ variable_number (run.process_at (trace_of_log log) p) name
  variable_same p name = elim (cases_lt p (length log.header.procs)) [
    | inl there ↦ ap (run.number_of name) (sym (variables_are (states_of log) p vars (many_rows log) (omega (arith, there, many_rows log))))
    | inr past ↦
        ap (λ (bs : List Binding). run.number_of name (binding_names bs)) (get_or_past log.header.vars p [] (omega (arith, past, vars)))
        ∙ sym (ap (λ (q : run.Process). variable_number q name) (get_or_past (trace_of_log log) p run.no_process (omega (arith, past, many_processes))))
  ]

  variable_ends_same : (x : Pair) → ends_in log.header second.Variable x ≡ variable_ends (trace_of_log log) (pair_of x)
  variable_ends_same x =
      let there = variable_same (process_in log.header x.first) x.second
      ∙ ap (λ (p : ℕ). variable_number (run.process_at (trace_of_log log) p) x.second) (process_same x.first) in
      λ i. record { first = process_same x.first i; second = there i }

  channel_ends_same : (x : Pair) → ends_in log.header second.Receiver x ≡ channel_ends (trace_of_log log) (pair_of x)
  channel_ends_same x = λ i. record { first = process_same x.first i; second = process_same x.second i }

  pub numbers_are : (names : Names) → numbers_in log.header names ≡ numbers_of (trace_of_log log) (names_of names)
  numbers_are names = λ i. record {
    variables = map_same (ends_in log.header second.Variable) (variable_ends (trace_of_log log)) pair_of variable_ends_same names.variables i;
    channels = map_same (ends_in log.header second.Receiver) (channel_ends (trace_of_log log)) pair_of channel_ends_same names.channels i;
    processes = map_each (process_in log.header) (process_number (trace_of_log log)) process_same names.processes i;
  }
