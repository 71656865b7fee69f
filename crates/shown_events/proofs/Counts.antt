-- As many events of a cut is a formula about as are kept of it.
use Rattle.std.proofs.Common.{◌≡◌, ℕ, ◌+◌, ◌-◌, ◌<◌, ◌≤◌, Bool, List, [], ◌∷◌, length, map, get_or, take, zero, suc, refl, sym, ap, subst, ◌∙◌, arith, inl, inr}
use Rattle.std.specs.Prelude.{◌↔◌, if◌then◌else◌}
use Rattle.std.specs.List.{count_by}
use Rattle.std.proofs.lemmas.Bool.{cases_Bool}
use Rattle.std.proofs.lemmas.List.{length-map, get_or-map}
use Rattle.std.proofs.lemmas.List.Sums.{count_by_more_yes, count_by_more_no}
use Rattle.run_model.specs.Run as run
use Rattle.run_model.specs.Run.{Watches, clocks_of, run_of}
use Rattle.run_model.specs.Cut.{Cut, count}
use Rattle.run_model.specs.Consistent.{IsConsistent}
use Rattle.run_model.specs.Meaning.{Sat}
use Rattle.kept_runs.specs.Kept.{is_kept, kept_count, kept_cut, counted}
use Rattle.kept_runs.specs.Laws.{kept_run}
use Rattle.kept_runs.specs.Naming.{names_of}
use Rattle.kept_runs.proofs.Naming.{names_named}
use Rattle.kept_runs.proofs.Traces.{final_is}
use Rattle.kept_runs.proofs.Truth.{same_sat}
use Rattle.pota_base.specs.Shape.{HasEvent}
use Rattle.event_log.specs.declared.log.Event.{Event}
use Rattle.event_log.specs.States.{StatesView, AreWhole, trace_of, event_of}
use Rattle.event_log.proofs.Keeping.{process_is}
use Rattle.event_log.proofs.NameNumbers.{names_are}
use Rattle.rctl_grammar.specs.declared.tree.Tree.{Tree}
use Rattle.rctl_grammar.specs.Shape.{meaning}
use Rattle.rctl_lexer.specs.Lexing.{lex}
use Rattle.rctl_parse.specs.Parsing.{IsReadAs}
use Rattle.view_parts.specs.Parts.{event_at, place, no_event}
use Rattle.view_parts.specs.About.{is_about}
use Rattle.shown_events.specs.Laws.{AreOfTheRun, IsWithoutNext, about_count, about_cut}
use Rattle.shown_events.proofs.Kept.{kept_is}
use Rattle.shown_events.proofs.Next.{no_next}

counted_alike : (m n : ℕ → ℕ → ℕ) (i : ℕ) (c : Cut) → ((j : ℕ) → j < length c → m (i + j) (count c j) ≡ n (i + j) (count c j)) → counted m i c ≡ counted n i c
unfolding counted
counted_alike m n i [] h = refl
counted_alike m n i (a ∷ c) h =
    let first : m i a ≡ n i a = subst (λ (k : ℕ). m k a ≡ n k a) (omega arith) (h 0 (omega arith)) in
    let rest = counted_alike m n (suc i) c (λ j lt. subst (λ (k : ℕ). m k (count c j) ≡ n k (count c j)) (omega arith) (h (suc j) (omega arith))) in
    ap (λ (x : ℕ). x ∷ counted m (suc i) c) first ∙ ap (λ (l : Cut). n i a ∷ l) rest

-- the events of a process of the run
events_are : (s : StatesView) (p : ℕ) → AreWhole s → p < length s.events → (run.process_at (trace_of s) p).events ≡ map event_of (get_or s.events p [])
events_are s p whole lt =
    ap (λ (q : run.Process). q.events)
    (process_is s.header.procs s.header.vars s.events p (omega (arith, lt, whole.events)) (omega (arith, lt, whole.events, whole.header.vars)) lt)

counts_are : (s : StatesView) (text : List ℕ) (t : Tree) (p : ℕ) → AreWhole s → AreOfTheRun s → IsReadAs text t → p < length s.events → (n : ℕ) → n ≤ length (get_or s.events p [])
    → about_count s (lex text).tokens p n ≡ count_by (is_kept (trace_of s) (names_of (meaning t)) p) (take n (map event_of (get_or s.events p [])))
unfolding about_count
counts_are s text t p whole all read lt zero le = refl
counts_are s text t p whole all read lt (suc m) le =
    let test = is_kept (trace_of s) (names_of (meaning t)) p in
    let own = get_or s.events p [] in
    let xs = map event_of own in
    let e = place p (suc m) in
    let tokens = (lex text).tokens in
    let before = about_count s tokens p m in
    let there : HasEvent (map length s.events) e = record {
      process = omega (arith, lt, length-map s.events (λ (l : List Event). length l));
      first = omega arith;
      last = omega (arith, le, get_or-map (λ (l : List Event). length l) s.events p [] 0 lt);
    } in
    let here : suc m - 1 ≡ m = omega arith in
    let same : event_of (event_at s e) ≡ get_or xs m (event_of no_event) =
    ap (λ (k : ℕ). event_of (get_or own k no_event)) here ∙ sym (get_or-map event_of own m no_event (event_of no_event) (omega arith)) in
    let tests : is_about s tokens e ≡ test (get_or xs m (event_of no_event)) = kept_is s text t e whole read (all e there) ∙ ap test same in
    let long : m < length xs = omega (arith, le, length-map own event_of) in
    let rest = counts_are s text t p whole all read lt m (omega arith) in
    let one_more : m + 1 ≡ suc m = omega arith in
    let next : take (m + 1) xs ≡ take (suc m) xs = ap (λ (k : ℕ). take k xs) one_more in
    elim (cases_Bool (test (get_or xs m (event_of no_event)))) [
      | inl kept ↦
          ap (λ (b : Bool). if b then suc before else before) (tests ∙ kept)
          ∙ ap suc rest
          ∙ omega (arith, count_by_more_yes test xs m (event_of no_event) long kept)
          ∙ ap (count_by test) next
      | inr dropped ↦
          ap (λ (b : Bool). if b then suc before else before) (tests ∙ dropped)
          ∙ rest
          ∙ sym (count_by_more_no test xs m (event_of no_event) long dropped)
          ∙ ap (count_by test) next
    ]

cuts_are : (s : StatesView) (text : List ℕ) (t : Tree) → AreWhole s → AreOfTheRun s → IsReadAs text t → (c : Cut) → IsConsistent (clocks_of (trace_of s)) c
    → about_cut s (lex text).tokens c ≡ kept_cut (trace_of s) (names_of (meaning t)) c
cuts_are s text t whole all read c consistent =
    let trace = trace_of s in
    let names = names_of (meaning t) in
    let lanes : length trace ≡ length s.header.procs = sym (length-map trace (λ (q : run.Process). q.name)) ∙ ap length (names_are s whole.header.vars whole.events) in
    let clocks = length-map trace (λ (q : run.Process). map (λ (e : run.Event). e.clock) q.events) in
    counted_alike (about_count s (lex text).tokens) (kept_count trace names) 0 c (λ p there.
    let lt : p < length s.events = omega (arith, there, consistent.shaped, clocks, lanes, whole.events) in
    let events = events_are s p whole lt in
    let own = get_or s.events p [] in
    let within : count c p ≤ length own = omega (arith, consistent.within p, final_is trace p, ap length events, length-map own event_of) in
    subst (λ (k : ℕ). about_count s (lex text).tokens k (count c p) ≡ kept_count trace names k (count c p)) (omega arith)
    (counts_are s text t p whole all read lt (count c p) within ∙ sym (ap (λ (es : List run.Event). count_by (is_kept trace names p) (take (count c p) es)) events)))

pub truth_is : (s : StatesView) (text : List ℕ) (t : Tree) → IsWithoutNext s text t → (watches : Watches) (c : Cut) → IsConsistent (clocks_of (trace_of s)) c
    → Sat (run_of (trace_of s) watches) (meaning t) c ↔ Sat (kept_run (trace_of s) (names_of (meaning t)) watches) (meaning t) (about_cut s (lex text).tokens c)
truth_is s text t f watches c consistent =
    subst (λ (d : Cut). Sat (run_of (trace_of s) watches) (meaning t) c ↔ Sat (kept_run (trace_of s) (names_of (meaning t)) watches) (meaning t) d)
    (sym (cuts_are s text t f.run.whole f.run.events f.read c consistent))
    (same_sat (trace_of s) (names_of (meaning t)) watches f.run.order (meaning t) (names_named (meaning t) (no_next text t f.read f.no_next)) c consistent)

pub others_change_nothing : (s : StatesView) (text : List ℕ) (t : Tree) → IsWithoutNext s text t → (watches : Watches) (c d : Cut) → IsConsistent (clocks_of (trace_of s)) c
    → IsConsistent (clocks_of (trace_of s)) d → about_cut s (lex text).tokens c ≡ about_cut s (lex text).tokens d
    → Sat (run_of (trace_of s) watches) (meaning t) c ↔ Sat (run_of (trace_of s) watches) (meaning t) d
others_change_nothing s text t f watches c d first second same =
    let there = truth_is s text t f watches c first in
    let back = truth_is s text t f watches d second in
    let folded = Sat (kept_run (trace_of s) (names_of (meaning t)) watches) (meaning t) in
    (λ h. back.1 (subst folded same (there.0 h)), λ h. there.1 (subst folded (sym same) (back.0 h)))
