-- An event is about a formula where the run that is folded to its names keeps it.
use Rattle.std.proofs.Common.{◌≡◌, ℕ, ◌<◌, Bool, false, List, [], ◌∷◌, length, get_or, zero, suc, sym, ap, ◌∙◌, arith}
use Rattle.std.specs.Prelude.{◌||◌, ◌&&◌, ◌==◌}
use Rattle.std.specs.List.{list_any, AllByRecursion}
use Rattle.std.specs.Str.{bytes_eq}
use Rattle.std.proofs.lemmas.List.{length-map}
use Rattle.run_model.specs.Run as run
use Rattle.run_model.specs.Run.{Name, Assignment, Trace, is_send_to, is_receipt_from}
use Rattle.run_model.specs.Formula.{Formula}
use Rattle.kept_runs.specs.Kept.{Pair, process_number, variable_number, assigns, is_on_some, is_whole, is_kept}
use Rattle.kept_runs.specs.Naming.{variables_of, channels_of, watched_of, names_of}
use Rattle.pota_base.specs.declared.shape.EventId.{EventId}
use Rattle.event_log.specs.declared.log.Assign.{Assign}
use Rattle.event_log.specs.declared.log.Binding.{Binding}
use Rattle.event_log.specs.declared.log.Event.{Event}
use Rattle.event_log.specs.declared.log.Kind.{Kind}
use Rattle.event_log.specs.declared.log.Kind.TheVariants as kind
use Rattle.event_log.specs.LogText.{name_at, KindWithin}
use Rattle.event_log.specs.Numbers.{binding_names, variables_at}
use Rattle.event_log.specs.States.{StatesView, AreWhole, AreNamedApart, AssignsWithin, trace_of, event_of, kind_of, assignment_of}
use Rattle.event_log.proofs.NameNumbers.{names_are, variables_are}
use Rattle.rctl_grammar.specs.declared.token.Token.{Token}
use Rattle.rctl_grammar.specs.declared.tree.Tree.{Tree}
use Rattle.rctl_grammar.specs.Shape.{meaning}
use Rattle.rctl_lexer.specs.Lexing.{lex}
use Rattle.rctl_parse.specs.Parsing.{IsReadAs}
use Rattle.view_parts.specs.Naming.{begin_with_variable, begin_with_channel, begin_with_watch, names}
use Rattle.view_parts.specs.Parts.{event_at, variable_name}
use Rattle.view_parts.specs.About.{is_about, is_on_named, sets_named, sets_some}
use Rattle.shown_events.specs.Laws.{IsOfTheRun, is_pair, is_name}
use Rattle.shown_events.proofs.Patterns.{or_false, or_assoc}
use Rattle.shown_events.proofs.Passing.{and_false}
use Rattle.shown_events.proofs.Named.{text_names}
use Rattle.shown_events.proofs.Tests.{any_agree, any_agree_where, any_none, any_map, any_turned, name_is_there, eq_turned, and_turned}

apart_at : (vars : List (List Binding)) (p : ℕ) → AllByRecursion AreNamedApart vars → p < length vars → AreNamedApart (get_or vars p [])
apart_at [] p all lt = absurd (omega arith)
apart_at (v ∷ vs) zero all lt = all.0
apart_at (v ∷ vs) (suc p) all lt = apart_at vs p all.1 (omega arith)

-- ---- processes and variables by their names

process_is : (s : StatesView) (p : ℕ) (name : Name) → AreWhole s → p < length s.header.procs → bytes_eq name (name_at s.header.procs p) ≡ (process_number (trace_of s) name == p)
process_is s p name whole lt =
    name_is_there s.header.procs p name whole.header.distinct lt
    ∙ ap (λ (l : List Name). run.number_of name l == p) (sym (names_are s whole.header.vars whole.events))

variable_is : (s : StatesView) (p v : ℕ) (name : Name) → AreWhole s → p < length s.events → v < length (variables_at s.header.vars p)
    → bytes_eq name (variable_name s p v) ≡ (v == variable_number (run.process_at (trace_of s) p) name)
variable_is s p v name whole lt within =
    let bindings = variables_at s.header.vars p in
    let apart = apart_at s.header.vars p whole.header.variables (omega (arith, lt, whole.header.vars, whole.events)) in
    name_is_there (binding_names bindings) v name apart (omega (arith, within, length-map bindings (λ (b : Binding). b.name)))
    ∙ ap (λ (l : List Name). run.number_of name l == v) (sym (variables_are s p whole.header.vars whole.events lt))
    ∙ eq_turned (variable_number (run.process_at (trace_of s) p) name) v

-- ---- variables

pair_is : (s : StatesView) (p v : ℕ) → AreWhole s → p < length s.events → v < length (variables_at s.header.vars p) → (x : Pair)
    → is_pair (name_at s.header.procs p) (variable_name s p v) x ≡ ((process_number (trace_of s) x.first == p) && (v == variable_number (run.process_at (trace_of s) p) x.second))
pair_is s p v whole lt within x =
    ap (λ (b : Bool). b && bytes_eq x.second (variable_name s p v)) (process_is s p x.first whole (omega (arith, lt, whole.events)))
    ∙ ap (λ (b : Bool). (process_number (trace_of s) x.first == p) && b) (variable_is s p v x.second whole lt within)

sets_are : (s : StatesView) (text : List ℕ) (f : Formula) (e : EventId) → AreWhole s → e.process < length s.events → AssignsWithin (length (variables_at s.header.vars e.process)) (event_at s e)
    → ((process variable : Name) → names (begin_with_variable process variable) (lex text).tokens ≡ list_any (is_pair process variable) (variables_of f))
    → sets_some s (lex text).tokens e ≡ list_any (assigns (trace_of s) e.process (event_of (event_at s e))) (variables_of f)
sets_are s text f e whole lt within named =
    let p = e.process in
    let trace = trace_of s in
    let all = (event_at s e).assigns in
    let first : Pair → Bool = λ x. process_number trace x.first == p in
    let sets : Assign → Pair → Bool = λ a x. a.variable == variable_number (run.process_at trace p) x.second in
    any_agree_where (λ (a : Assign). a.variable < length (variables_at s.header.vars p)) (sets_named s (lex text).tokens p) (λ (a : Assign). list_any (λ (x : Pair). first x && sets a x) (variables_of f))
    (λ a there. named (name_at s.header.procs p) (variable_name s p a.variable)
    ∙ any_agree (is_pair (name_at s.header.procs p) (variable_name s p a.variable)) (λ (x : Pair). first x && sets a x) (pair_is s p a.variable whole lt there) (variables_of f))
    all within
    ∙ any_turned first sets all (variables_of f)
    ∙ any_agree (λ (x : Pair). first x && list_any (λ (a : Assign). sets a x) all) (assigns trace p (event_of (event_at s e)))
    (λ x. ap (λ (b : Bool). first x && b) (sym (any_map assignment_of (λ (a : Assignment). a.variable == variable_number (run.process_at trace p) x.second) all)))
    (variables_of f)

-- ---- channels

ends_are : (s : StatesView) (from to : ℕ) → AreWhole s → from < length s.header.procs → to < length s.header.procs → (x : Pair)
    → is_pair (name_at s.header.procs from) (name_at s.header.procs to) x ≡ ((process_number (trace_of s) x.first == from) && (process_number (trace_of s) x.second == to))
ends_are s from to whole l m x =
    ap (λ (b : Bool). b && bytes_eq x.second (name_at s.header.procs to)) (process_is s from x.first whole l)
    ∙ ap (λ (b : Bool). (process_number (trace_of s) x.first == from) && b) (process_is s to x.second whole m)

on_is : (s : StatesView) (p : ℕ) (tokens : List Token) (pairs : List Pair) → AreWhole s → p < length s.header.procs
    → ((sender receiver : Name) → names (begin_with_channel sender receiver) tokens ≡ list_any (is_pair sender receiver) pairs)
    → (k : Kind) → KindWithin (length s.header.procs) k → is_on_named s.header.procs tokens p k ≡ list_any (λ (x : Pair).
    ((process_number (trace_of s) x.first == p) && is_send_to (process_number (trace_of s) x.second) (kind_of k))
    || ((process_number (trace_of s) x.second == p) && is_receipt_from (process_number (trace_of s) x.first) (kind_of k))) pairs
on_is s p tokens pairs whole lt named kind.Internal peer =
    sym (any_agree (λ (x : Pair). ((process_number (trace_of s) x.first == p) && false) || ((process_number (trace_of s) x.second == p) && false)) (λ (x : Pair). false)
    (λ x. ap (λ (b : Bool). b || ((process_number (trace_of s) x.second == p) && false)) (and_false (process_number (trace_of s) x.first == p)) ∙ and_false (process_number (trace_of s) x.second == p))
    pairs ∙ any_none pairs)
on_is s p tokens pairs whole lt named (kind.Send to id) there =
    let trace = trace_of s in
    named (name_at s.header.procs p) (name_at s.header.procs to)
    ∙ any_agree (is_pair (name_at s.header.procs p) (name_at s.header.procs to))
    (λ (x : Pair). ((process_number trace x.first == p) && (to == process_number trace x.second)) || ((process_number trace x.second == p) && false))
    (λ x. ends_are s p to whole lt there x
    ∙ ap (λ (b : Bool). (process_number trace x.first == p) && b) (eq_turned (process_number trace x.second) to)
    ∙ sym (or_false ((process_number trace x.first == p) && (to == process_number trace x.second)))
    ∙ ap (λ (b : Bool). ((process_number trace x.first == p) && (to == process_number trace x.second)) || b) (sym (and_false (process_number trace x.second == p))))
    pairs
on_is s p tokens pairs whole lt named (kind.Receive sender id) there =
    let trace = trace_of s in
    named (name_at s.header.procs sender) (name_at s.header.procs p)
    ∙ any_agree (is_pair (name_at s.header.procs sender) (name_at s.header.procs p))
    (λ (x : Pair). ((process_number trace x.first == p) && false) || ((process_number trace x.second == p) && (sender == process_number trace x.first)))
    (λ x. ends_are s sender p whole there lt x
    ∙ and_turned (process_number trace x.first == sender) (process_number trace x.second == p)
    ∙ ap (λ (b : Bool). (process_number trace x.second == p) && b) (eq_turned (process_number trace x.first) sender)
    ∙ ap (λ (b : Bool). b || ((process_number trace x.second == p) && (sender == process_number trace x.first))) (sym (and_false (process_number trace x.first == p))))
    pairs

-- ---- all three

pub kept_is : (s : StatesView) (text : List ℕ) (t : Tree) (e : EventId) → AreWhole s → IsReadAs text t → IsOfTheRun s e
    → is_about s (lex text).tokens e ≡ is_kept (trace_of s) (names_of (meaning t)) e.process (event_of (event_at s e))
kept_is s text t e whole read of_run =
    let f = meaning t in
    let p = e.process in
    let trace = trace_of s in
    let tokens = (lex text).tokens in
    let named = text_names text t read in
    let there : p < length s.events = omega (arith, of_run.there.process, length-map s.events (λ (l : List Event). length l)) in
    let lane : p < length s.header.procs = omega (arith, there, whole.events) in
    let sets = list_any (assigns trace p (event_of (event_at s e))) (variables_of f) in
    let on = is_on_some trace (names_of f) p (event_of (event_at s e)) in
    let watched = names (begin_with_watch (name_at s.header.procs p)) tokens in
    ap (λ (b : Bool). b || (is_on_named s.header.procs tokens p (event_at s e).kind || watched)) (sets_are s text f e whole there of_run.assigns named.variables)
    ∙ ap (λ (b : Bool). sets || (b || watched)) (on_is s p tokens (channels_of f) whole lane named.channels (event_at s e).kind of_run.peer)
    ∙ ap (λ (b : Bool). sets || (on || b))
    (named.watches (name_at s.header.procs p)
    ∙ any_agree (is_name (name_at s.header.procs p)) (λ (name : Name). process_number trace name == p) (λ name. process_is s p name whole lane) (watched_of f))
    ∙ sym (or_assoc sets on (is_whole trace (names_of f) p))
