-- What the fields of the states say of each other.
use Rattle.std.proofs.Common.{◌≡◌, ℕ, zero, suc, ◌+◌, ◌<◌, ◌≤◌, List, [], ◌∷◌, ◌++◌, length, map, take, get_or, set, sum, replicate, refl, sym, ap, ◌∙◌, subst, arith, length-append}
use Rattle.std.specs.Prelude.{ℤ, pos}
use Rattle.std.specs.List.{AllByRecursion}
use Rattle.std.proofs.lemmas.List.Sums.{sum_by-cons}
use Rattle.std.proofs.lemmas.List.{length-map, get_or-map, ext_get_or}
use Rattle.pota_base.specs.Shape.{IsShape}
use Rattle.event_log.specs.declared.log.Event.{Event}
use Rattle.event_log.specs.declared.log.Binding.{Binding}
use Rattle.event_log.specs.declared.log.Header.{Header}
use Rattle.run_model.specs.Run as run
use Rattle.pota_base.specs.Limits.{most_events}
use Rattle.event_log.specs.States.{HistoryView, StatesView, openings_of, states_in, event_of, variable_of, processes_of, AssignsWithin, IsHeader, IsKnown, AreStates, with_event, with_batch}
use Rattle.event_log.specs.inside.States.{nothing, events_in, fresh, Grown, HasRoom, Added}

abbrev pub lens_in : List HistoryView → List ℕ
lens_in hs = map (λ (h : HistoryView). length h.events) hs

pub lens_in-events : (hs : List HistoryView) → lens_in hs ≡ map length (events_in hs)
lens_in-events [] = refl
lens_in-events (h ∷ hs) = ap (λ (l : List ℕ). length h.events ∷ l) (lens_in-events hs)

sum-cons : (x : ℕ) (xs : List ℕ) → sum (x ∷ xs) ≡ x + sum xs
sum-cons x xs = sum_by-cons (λ n. n) x xs

pub item_le_sum : (xs : List ℕ) (i : ℕ) → get_or xs i 0 ≤ sum xs
item_le_sum [] i = omega arith
item_le_sum (x ∷ xs) zero = let le : x ≤ x + sum xs = omega arith in subst (λ (n : ℕ). x ≤ n) (sym (sum-cons x xs)) le
item_le_sum (x ∷ xs) (suc i) =
    let le : get_or xs i 0 ≤ x + sum xs = omega (arith, item_le_sum xs i) in
    subst (λ (n : ℕ). get_or xs i 0 ≤ n) (sym (sum-cons x xs)) le

-- ---- how many events there are

sum_longer : (ess : List (List Event)) (p : ℕ) (e : Event) → sum (map length (set ess p (get_or ess p [] ++ e ∷ []))) ≤ sum (map length ess) + 1
sum_longer [] p e = omega arith
sum_longer (es ∷ ess) zero e =
    let new = sum-cons (length (es ++ e ∷ [])) (map length ess) in
    let old = sum-cons (length es) (map length ess) in
    let le : length (es ++ e ∷ []) + sum (map length ess) ≤ (length es + sum (map length ess)) + 1 = omega (arith, length-append es (e ∷ [])) in
    subst (λ (n : ℕ). n ≤ sum (map length (es ∷ ess)) + 1) (sym new) (subst (λ (n : ℕ). length (es ++ e ∷ []) + sum (map length ess) ≤ n + 1) (sym old) le)
sum_longer (es ∷ ess) (suc p) e =
    let rest = map length (set ess p (get_or ess p [] ++ e ∷ [])) in
    let new = sum-cons (length es) rest in
    let old = sum-cons (length es) (map length ess) in
    let le : length es + sum rest ≤ (length es + sum (map length ess)) + 1 = omega (arith, sum_longer ess p e) in
    subst (λ (n : ℕ). n ≤ sum (map length (es ∷ ess)) + 1) (sym new) (subst (λ (n : ℕ). length es + sum rest ≤ n + 1) (sym old) le)

pub sum_batch : (ess : List (List Event)) (batch : List Event) → sum (map length (with_batch ess batch)) ≤ sum (map length ess) + length batch
unfolding with_batch
sum_batch ess [] = omega arith
sum_batch ess (e ∷ batch) = omega (arith, sum_batch (with_event ess e) batch, sum_longer ess e.process e)

pub added_sum : (old now : List HistoryView) (batch : List Event) → Added old batch now → sum (map length (events_in old)) + length batch ≤ most_events → sum (lens_in now) ≤ most_events
added_sum old now batch h few =
    let e = ap sum (lens_in-events now) in
    let f = ap (λ (ess : List (List Event)). sum (map length ess)) h.events in
    omega (arith, e, f, sum_batch (events_in old) batch)

pub count-lens_in : (hs : List HistoryView) (p : ℕ) → get_or (lens_in hs) p 0 ≡ length (get_or hs p nothing).events
count-lens_in [] p = refl
count-lens_in (h ∷ hs) zero = refl
count-lens_in (h ∷ hs) (suc p) = count-lens_in hs p

-- the lengths of histories of which there are as many as a shape has
pub lens_shape : (hs : List HistoryView) (shape : List ℕ) → IsShape shape → length shape ≡ length hs → sum (lens_in hs) ≤ most_events → IsShape (lens_in hs)
lens_shape hs shape is same few = record {
  some = omega (arith, length-map hs (λ (x : HistoryView). length x.events), is.some);
  few = omega (arith, length-map hs (λ (x : HistoryView). length x.events), is.few);
  events = few;
}

-- ---- without events

fresh_lens : (vars : List (List Binding)) → sum (lens_in (fresh vars)) ≡ 0
fresh_lens [] = refl
fresh_lens (v ∷ vars) = sum-cons 0 (lens_in (fresh vars)) ∙ omega (arith, fresh_lens vars)

fresh_events : (vars : List (List Binding)) → events_in (fresh vars) ≡ replicate (length vars) []
fresh_events [] = refl
fresh_events (v ∷ vars) = ap (λ (l : List (List Event)). [] ∷ l) (fresh_events vars)

fresh_openings : (vars : List (List Binding)) → map (λ (h : HistoryView). h.opening) (fresh vars) ≡ openings_of vars
fresh_openings [] = refl
fresh_openings (v ∷ vars) = ap (λ (l : List (List ℤ)). map (λ (b : Binding). b.value) v ∷ l) (fresh_openings vars)

-- what holds of histories of these variables
pub record StartsFresh (header : Header) (histories : List HistoryView) : Type 0 where
  pub few : sum (lens_in histories) ≤ most_events
  pub shape : (lens : List ℕ) → lens ≡ lens_in histories → IsShape lens
  pub states : (lens : List ℕ) → lens ≡ lens_in histories → AreStates header lens histories
  pub events : events_in histories ≡ replicate (length header.procs) []

pub starts_fresh : (header : Header) (histories : List HistoryView) → IsHeader header → histories ≡ fresh header.vars → StartsFresh header histories
starts_fresh header histories h is = subst (StartsFresh header) (sym is) (record {
  few = omega (arith, none);
  shape = λ lens new. record {
    some = omega (arith, ap length new, count, h.some, h.vars);
    few = omega (arith, ap length new, count, h.few, h.vars);
    events = omega (arith, ap sum new, none);
  };
  states = λ lens new. record { fits = h; openings = fresh_openings header.vars; lens = new };
  events = fresh_events header.vars ∙ ap (λ (n : ℕ). replicate n []) h.vars;
})
  where
    none : sum (lens_in (fresh header.vars)) ≡ 0
    none = fresh_lens header.vars

    count : length (lens_in (fresh header.vars)) ≡ length header.vars
    count =
        length-map (fresh header.vars) (λ (x : HistoryView). length x.events)
        ∙ length-map header.vars (λ (v : List Binding). let x : HistoryView = record { opening = map (λ (b : Binding). b.value) v; events = [] } in x)

-- ---- one more batch

pub count_is : (header : Header) (shape : List ℕ) (hs : List HistoryView) → AreStates header shape hs → length hs ≡ length header.vars
count_is header shape hs h =
    sym (length-map hs (λ (x : HistoryView). x.opening)) ∙ ap length h.openings ∙ length-map header.vars (map (λ (b : Binding). b.value))

pub opening_is : (header : Header) (shape : List ℕ) (hs : List HistoryView) (p : ℕ) → AreStates header shape hs → p < length hs
    → (get_or hs p nothing).opening ≡ map (λ (b : Binding). b.value) (get_or header.vars p [])
opening_is header shape hs p h lt =
    sym (get_or-map (λ (x : HistoryView). x.opening) hs p nothing [] lt) ∙ ap (λ (os : List (List ℤ)). get_or os p []) h.openings
    ∙ get_or-map (map (λ (b : Binding). b.value)) header.vars p [] [] (omega (arith, count_is header shape hs h))

pub known_room : (header : Header) (shape : List ℕ) (hs : List HistoryView) (batch : List Event) → AreStates header shape hs → AllByRecursion (IsKnown header) batch → AllByRecursion (HasRoom hs) batch
known_room header shape hs [] h known = tt
known_room header shape hs (e ∷ batch) h known =
    let count = count_is header shape hs h in
    let there : e.process < length hs = omega (arith, count, h.fits.vars, known.0.process) in
    let width : length (get_or hs e.process nothing).opening ≡ length (get_or header.vars e.process []) =
    ap length (opening_is header shape hs e.process h there) ∙ length-map (get_or header.vars e.process []) (λ (b : Binding). b.value) in
    (record { process = there; assigns = subst (λ (n : ℕ). AssignsWithin n e) (sym width) known.0.assigns }, known_room header shape hs batch h known.1)

openings_kept : (old now : List HistoryView) → Grown old now → map (λ (h : HistoryView). h.opening) now ≡ map (λ (h : HistoryView). h.opening) old
openings_kept old now g = ext_get_or [] _ _
    (length-map now (λ (h : HistoryView). h.opening) ∙ g.count ∙ sym (length-map old (λ (h : HistoryView). h.opening)))
    (λ p lt.
    let there : p < length now = omega (arith, length-map now (λ (h : HistoryView). h.opening)) in
    get_or-map (λ (h : HistoryView). h.opening) now p nothing [] there ∙ ap (λ (h : HistoryView). h.opening) (g.each p).1
    ∙ sym (get_or-map (λ (h : HistoryView). h.opening) old p nothing [] (omega (arith, g.count))))

pub states_grown : (header : Header) (shape shape' : List ℕ) (old now : List HistoryView) → AreStates header shape old → Grown old now → shape' ≡ lens_in now → AreStates header shape' now
states_grown header shape shape' old now h g is = record { fits = h.fits; openings = openings_kept old now g ∙ h.openings; lens = is }

-- ---- the state of a process after so many events

state_at : (o : List ℤ) (es : List run.Event) (a : ℕ) → a ≤ length es → get_or (run.states_from o es) a [] ≡ run.state_from o (take a es)
unfolding run.states_from run.state_from
state_at o [] zero h = refl
state_at o [] (suc a) h = absurd (omega arith)
state_at o (e ∷ es) zero h = refl
state_at o (e ∷ es) (suc a) h = state_at (run.assigned o e.assigns) es a (omega arith)

pub process_is : (names : List (List ℕ)) (vars : List (List Binding)) (ess : List (List Event)) (p : ℕ) → p < length names → p < length vars → p < length ess
    → run.process_at (processes_of names vars ess) p ≡ record { name = get_or names p []; variables = map variable_of (get_or vars p []); events = map event_of (get_or ess p []) }
process_is [] vars ess p h k l = absurd (omega arith)
process_is (n ∷ ns) [] ess p h k l = absurd (omega arith)
process_is (n ∷ ns) (v ∷ vs) [] p h k l = absurd (omega arith)
process_is (n ∷ ns) (v ∷ vs) (es ∷ ess) zero h k l = refl
process_is (n ∷ ns) (v ∷ vs) (es ∷ ess) (suc p) h k l = process_is ns vs ess p (omega arith) (omega arith) (omega arith)

values_of_variables : (vs : List Binding) → map (λ (x : run.Variable). x.value) (map variable_of vs) ≡ map (λ (b : Binding). b.value) vs
values_of_variables [] = refl
values_of_variables (v ∷ vs) = ap (λ (l : List ℤ). v.value ∷ l) (values_of_variables vs)

-- the states that are kept of a process are those of the run
pub states_of_run : (header : Header) (shape : List ℕ) (hs : List HistoryView) (p : ℕ) → AreStates header shape hs → p < length hs
    → states_in (get_or hs p nothing) ≡ run.states_of (run.process_at (processes_of header.procs header.vars (events_in hs)) p)
states_of_run header shape hs p h lt =
    let count = count_is header shape hs h in
    let len : length (events_in hs) ≡ length hs = length-map hs (λ (x : HistoryView). x.events) in
    let process = process_is header.procs header.vars (events_in hs) p (omega (arith, count, h.fits.vars)) (omega (arith, count)) (omega (arith, len)) in
    let events : get_or (events_in hs) p [] ≡ (get_or hs p nothing).events = get_or-map (λ (x : HistoryView). x.events) hs p nothing [] lt in
    let here = get_or hs p nothing in
    ap (λ (o : List ℤ). run.states_from o (map event_of here.events)) (opening_is header shape hs p h lt ∙ sym (values_of_variables (get_or header.vars p [])))
    ∙ ap (λ (es : List Event). run.states_from (map (λ (x : run.Variable). x.value) (map variable_of (get_or header.vars p []))) (map event_of es)) (sym events)
    ∙ ap run.states_of (sym process)

pub value_of_run : (header : Header) (shape : List ℕ) (hs : List HistoryView) (p a v : ℕ) → AreStates header shape hs → p < length hs → a ≤ length (get_or hs p nothing).events
    → get_or (get_or (states_in (get_or hs p nothing)) a []) v (pos 0)
    ≡ get_or (run.state_after (run.process_at (processes_of header.procs header.vars (events_in hs)) p) a) v (pos 0)
value_of_run header shape hs p a v h lt le =
    let count = count_is header shape hs h in
    let len : length (events_in hs) ≡ length hs = length-map hs (λ (x : HistoryView). x.events) in
    let process = process_is header.procs header.vars (events_in hs) p (omega (arith, count, h.fits.vars)) (omega (arith, count)) (omega (arith, len)) in
    let events : get_or (events_in hs) p [] ≡ (get_or hs p nothing).events = get_or-map (λ (x : HistoryView). x.events) hs p nothing [] lt in
    let opening = opening_is header shape hs p h lt in
    let here = get_or hs p nothing in
    let state : get_or (states_in here) a [] ≡ run.state_from here.opening (take a (map event_of here.events)) =
    state_at here.opening (map event_of here.events) a (omega (arith, le, length-map here.events event_of)) in
    let same : run.state_from here.opening (take a (map event_of here.events)) ≡ run.state_after (run.process_at (processes_of header.procs header.vars (events_in hs)) p) a =
    ap (λ (o : List ℤ). run.state_from o (take a (map event_of here.events))) (opening ∙ sym (values_of_variables (get_or header.vars p [])))
    ∙ ap (λ (es : List Event). run.state_from (map (λ (x : run.Variable). x.value) (map variable_of (get_or header.vars p []))) (take a (map event_of es))) (sym events)
    ∙ ap (λ (q : run.Process). run.state_after q a) (sym process) in
    ap (λ (s : List ℤ). get_or s v (pos 0)) (state ∙ same)

pub same_states : (header : Header) (events events' : List (List Event)) → events ≡ events' → ◌≡◌ {A = StatesView} (record { header = header; events = events }) (record { header = header; events = events' })
same_states header events events' e = ap (λ (x : List (List Event)). let s : StatesView = record { header = header; events = x } in s) e

-- what the history of a process is, as callers see the states
pub record IsThere (hs : List HistoryView) (s : StatesView) (p : ℕ) : Type 0 where
  pub within : p < length hs
  pub events : length (get_or hs p nothing).events ≡ length (get_or s.events p [])
  pub width : length (get_or hs p nothing).opening ≡ length (get_or s.header.vars p [])

pub is_there : (header : Header) (shape : List ℕ) (hs : List HistoryView) (s : StatesView) (p : ℕ) → AreStates header shape hs
    → ◌≡◌ {A = StatesView} (record { header = header; events = events_in hs }) s → p < length s.events → IsThere hs s p
is_there header shape hs s p states view lt =
    let count : length s.events ≡ length hs = sym (ap (λ (x : StatesView). length x.events) view) ∙ length-map hs (λ (x : HistoryView). x.events) in
    let within : p < length hs = omega (arith, count) in
    record {
      within = within;
      events = ap length (sym (get_or-map (λ (x : HistoryView). x.events) hs p nothing [] within)) ∙ ap (λ (x : StatesView). length (get_or x.events p [])) view;
      width = ap length (opening_is header shape hs p states within) ∙ length-map (get_or header.vars p []) (λ (b : Binding). b.value)
          ∙ ap (λ (x : StatesView). length (get_or x.header.vars p [])) view;
    }

pub value_is : (header : Header) (shape : List ℕ) (hs : List HistoryView) (s : StatesView) (p a v : ℕ) → AreStates header shape hs
    → ◌≡◌ {A = StatesView} (record { header = header; events = events_in hs }) s → IsThere hs s p → a ≤ length (get_or hs p nothing).events
    → get_or (get_or (states_in (get_or hs p nothing)) a []) v (pos 0) ≡ get_or (run.state_after (run.process_at (processes_of s.header.procs s.header.vars s.events) p) a) v (pos 0)
value_is header shape hs s p a v states view there le = value_of_run header shape hs p a v states there.within le
    ∙ ap (λ (x : StatesView). get_or (run.state_after (run.process_at (processes_of x.header.procs x.header.vars x.events) p) a) v (pos 0)) view

-- a state that is kept, as callers see the states
pub state_is : (header : Header) (shape : List ℕ) (hs : List HistoryView) (s : StatesView) (p a : ℕ) → AreStates header shape hs
    → ◌≡◌ {A = StatesView} (record { header = header; events = events_in hs }) s → IsThere hs s p
    → get_or (states_in (get_or hs p nothing)) a [] ≡ get_or (run.states_of (run.process_at (processes_of s.header.procs s.header.vars s.events) p)) a []
state_is header shape hs s p a states view there = ap (λ (rows : List (List ℤ)). get_or rows a []) (states_of_run header shape hs p states there.within)
    ∙ ap (λ (x : StatesView). get_or (run.states_of (run.process_at (processes_of x.header.procs x.header.vars x.events) p)) a []) view
