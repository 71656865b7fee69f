-- What is said of a goal, by the run.
use Rattle.std.proofs.Common.{◌≡◌, ℕ, zero, suc, ◌+◌, ◌-◌, ◌<◌, ◌≤◌, Bool, true, false, List, [], ◌∷◌, length, map, take, get_or, refl, sym, ap, subst, ◌⊎◌, inl, inr, ◌∙◌, arith, true≢false}
use Rattle.std.specs.Prelude.{Some, None, Option, ◌&&◌, ◌||◌, ◌==◌, nat_le, count_by, if◌then◌else◌}
use Rattle.std.specs.List.{list_any, sum_by}
use Rattle.std.proofs.lemmas.Bool.{cases_Bool, eq-eqb, ne_eqb}
use Rattle.std.proofs.lemmas.Option.{none-some, same_Some}
use Rattle.std.proofs.lemmas.List.{length-map, take-map}
use Rattle.std.proofs.lemmas.List.Sums.{sum_by-cons}
use Rattle.run_model.specs.Cut.{Cut, Clocks, count, lengths}
use Rattle.run_model.specs.Run as run
use Rattle.run_model.specs.Run.{Trace, Watches, process_at, clocks_of, run_of, is_send_to, is_receipt_from}
use Rattle.run_model.specs.Consistent.{clock, IsEvent}
use Rattle.run_model.specs.Meaning as meaning
use Rattle.pota_base.specs.declared.shape.EventId.{EventId}
use Rattle.log_lines.specs.Names.{Name}
use Rattle.event_log.specs.LogText.{name_at}
use Rattle.event_log.specs.declared.log.Assign.{Assign}
use Rattle.event_log.specs.declared.log.Binding.{Binding}
use Rattle.event_log.specs.declared.log.Event.{Event}
use Rattle.event_log.specs.States.{StatesView, AreWhole, trace_of, processes_of, event_of, kind_of}
use Rattle.rctl_grammar.specs.declared.token.Token.{Token}
use Rattle.view_parts.specs.Parts.{event_at, place, no_event, variable_name}
use Rattle.view_parts.specs.About.{sets_named, sets_some}
use Rattle.view_parts.specs.Naming.{begin_with_owner, begin_with_variable, is_dot, is_word, names}
use Rattle.view_text.specs.Ties.{last_named, counts, unless_tied, untied_in, or_else, first_below}
use Rattle.view_text.specs.Transit.{sends, receipts}
use Rattle.view_text.specs.Laws.{DoesNotWait, UntiedAreTold, TransitIsOfTheRun}

-- ---- the events and the clocks of the run

events_in : (names : List (List ℕ)) (vars : List (List Binding)) (ess : List (List Event)) (p : ℕ) → length vars ≡ length names → length ess ≡ length names
    → (process_at (processes_of names vars ess) p).events ≡ map event_of (get_or ess p [])
events_in [] vars [] p h k = refl
events_in [] vars (es ∷ ess) p h k = absurd (omega arith)
events_in (n ∷ ns) [] ess p h k = absurd (omega arith)
events_in (n ∷ ns) (v ∷ vs) [] p h k = absurd (omega arith)
events_in (n ∷ ns) (v ∷ vs) (es ∷ ess) zero h k = refl
events_in (n ∷ ns) (v ∷ vs) (es ∷ ess) (suc p) h k = events_in ns vs ess p (omega arith) (omega arith)

events_are : (s : StatesView) → AreWhole s → (p : ℕ) → (process_at (trace_of s) p).events ≡ map event_of (get_or s.events p [])
events_are s whole p = events_in s.header.procs s.header.vars s.events p whole.header.vars whole.events

rows_at : (t : Trace) (j : ℕ) → get_or (clocks_of t) j [] ≡ map (λ (e : run.Event). e.clock) (process_at t j).events
rows_at [] j = refl
rows_at (x ∷ t) zero = refl
rows_at (x ∷ t) (suc j) = rows_at t j

clock_in : (es : List Event) (a : ℕ) → get_or (map (λ (e : run.Event). e.clock) (map event_of es)) a [] ≡ (get_or es a no_event).clock
clock_in [] a = refl
clock_in (e ∷ es) zero = refl
clock_in (e ∷ es) (suc a) = clock_in es a

clock_suc : (o : Clocks) (j a : ℕ) → clock o j (suc a) ≡ get_or (get_or o j []) a []
unfolding clock
clock_suc o j a = refl

-- the past of an event is its clock in the log
clock_is : (s : StatesView) → AreWhole s → (j b : ℕ) → 0 < b → clock (clocks_of (trace_of s)) j b ≡ (event_at s (place j b)).clock
clock_is s whole j zero some = absurd (omega arith)
clock_is s whole j (suc a) some =
    let o = clocks_of (trace_of s) in
    let e : suc a - 1 ≡ a = omega arith in
    clock_suc o j a ∙ ap (λ (row : List Cut). get_or row a []) (rows_at (trace_of s) j ∙ ap (λ (es : List run.Event). map (λ (x : run.Event). x.clock) es) (events_are s whole j))
    ∙ clock_in (get_or s.events j []) a ∙ ap (λ (i : ℕ). (get_or (get_or s.events j []) i no_event).clock) (sym e)

lengths_are : (t : Trace) (i : ℕ) → get_or (lengths (clocks_of t)) i 0 ≡ length (process_at t i).events
unfolding lengths
lengths_are [] i = refl
lengths_are (x ∷ t) zero = length-map x.events (λ (e : run.Event). e.clock)
lengths_are (x ∷ t) (suc i) = lengths_are t i

length_is : (s : StatesView) → AreWhole s → (p : ℕ) → count (lengths (clocks_of (trace_of s))) p ≡ length (get_or s.events p [])
length_is s whole p = lengths_are (trace_of s) p ∙ ap (λ (es : List run.Event). length es) (events_are s whole p) ∙ length-map (get_or s.events p []) event_of

lens_at : (ess : List (List Event)) (p : ℕ) → get_or (map length ess) p 0 ≡ length (get_or ess p [])
lens_at [] p = refl
lens_at (es ∷ ess) zero = refl
lens_at (es ∷ ess) (suc p) = lens_at ess p

is_event : (s : StatesView) → AreWhole s → (p a : ℕ) → 0 < a → a ≤ get_or (map length s.events) p 0 → IsEvent (lengths (clocks_of (trace_of s))) p a
is_event s whole p a some within = (some, omega (arith, within, lens_at s.events p, length_is s whole p))

-- ---- what is found

or_from : (a b : Option EventId) (e : EventId) → or_else a b ≡ Some e → (a ≡ Some e) ⊎ (b ≡ Some e)
or_from None b e h = inr h
or_from (Some x) b e h = inl h

or_none : (a b : Option EventId) → or_else a b ≡ None → (a ≡ None) × (b ≡ None)
or_none None b h = (refl, h)
or_none (Some x) b h = absurd (none-some x (sym h))

found_at : (n : ℕ) (made : ℕ → Option EventId) (e : EventId) → first_below n made ≡ Some e → (k : ℕ) × (made k ≡ Some e)
unfolding first_below
found_at zero made e h = absurd (none-some e h)
found_at (suc n) made e h = elim (or_from (first_below n made) (made n) e h) [
  | inl before ↦ found_at n made e before
  | inr here ↦ (n, here)
]

none_at : (n : ℕ) (made : ℕ → Option EventId) → first_below n made ≡ None → (k : ℕ) → k < n → made k ≡ None
unfolding first_below
none_at zero made h k less = absurd (omega arith)
none_at (suc n) made h k less =
    let parts = or_none (first_below n made) (made n) h in
    elim (at_end k n less) [
      | inl before ↦ none_at n made parts.0 k before
      | inr here ↦ subst (λ (i : ℕ). made i ≡ None) (sym here) parts.1
    ]
  where
    at_end : (k n : ℕ) → k < suc n → (k < n) ⊎ (k ≡ n)
    at_end k n less = grind arith

or_false : (a b : Bool) → (a || b) ≡ false → (a ≡ false) × (b ≡ false)
or_false true b h = absurd (true≢false h)
or_false false b h = (refl, h)

or_true : (a b : Bool) → (a || b) ≡ true → a ≡ false → b ≡ true
or_true true b h k = absurd (true≢false k)
or_true false b h k = h

unless_some : (s : StatesView) (ended e : EventId) (k : ℕ) (o : Option ℕ) → unless_tied s ended k o ≡ Some e
    → (position : ℕ) × (o ≡ Some position) × (place k position ≡ e) × ((k == ended.process) ≡ false) × (counts s (place k position) ended ≡ false)
unless_some s ended e k None h = absurd (none-some e h)
unless_some s ended e k (Some position) h =
    let tied = k == ended.process || counts s (place k position) ended in
    elim (cases_Bool tied) [
      | inl is ↦ absurd (none-some e (subst (λ (b : Bool). (if b then None else Some (place k position)) ≡ Some e) is h))
      | inr isnt ↦
          let parts = or_false (k == ended.process) (counts s (place k position) ended) isnt in
          (position, refl, same_Some (place k position) e (subst (λ (b : Bool). (if b then None else Some (place k position)) ≡ Some e) isnt h), parts.0, parts.1)
    ]

unless_none : (s : StatesView) (ended : EventId) (k position : ℕ) → unless_tied s ended k (Some position) ≡ None → (k ≡ ended.process → ⊥) → counts s (place k position) ended ≡ true
unless_none s ended k position h other =
    let tied = k == ended.process || counts s (place k position) ended in
    elim (cases_Bool tied) [
      | inl is ↦ or_true (k == ended.process) (counts s (place k position) ended) is (ne_eqb k ended.process other)
      | inr isnt ↦ absurd (none-some (place k position) (sym (subst (λ (b : Bool). (if b then None else Some (place k position)) ≡ None) isnt h)))
    ]

-- the position that is found is one of an event within the cut
named_within : (s : StatesView) (tokens : List Token) (p n position : ℕ) → last_named s tokens p n ≡ Some position → (0 < position) × (position ≤ n)
unfolding last_named
named_within s tokens p zero position h = absurd (none-some position h)
named_within s tokens p (suc n) position h = elim (cases_Bool (sets_some s tokens (place p (suc n)))) [
  | inl is ↦
      let e : suc n ≡ position = same_Some (suc n) position (subst (λ (b : Bool). (if b then Some (suc n) else last_named s tokens p n) ≡ Some position) is h) in
      (omega (arith, e), omega (arith, e))
  | inr isnt ↦
      let w = named_within s tokens p n position (subst (λ (b : Bool). (if b then Some (suc n) else last_named s tokens p n) ≡ Some position) isnt h) in
      (w.0, omega (arith, w.1))
]

-- ---- a variable that is named has a process that is

owner_here : (p v : Name) (ts : List Token) → begin_with_variable p v ts ≡ true → begin_with_owner p ts ≡ true
owner_here p v [] h = h
owner_here p v (t ∷ []) h = h
owner_here p v (t ∷ u ∷ []) h = absurd (true≢false (sym h))
owner_here p v (t ∷ u ∷ w ∷ ts) h = first_two (is_dot u.kind) (is_word p t.kind) (is_word v w.kind) h
  where
    first_two : (a b c : Bool) → (a && (b && c)) ≡ true → (a && b) ≡ true
    first_two true true c h = refl
    first_two true false c h = h
    first_two false b c h = h

or_right : (a b : Bool) → b ≡ true → (a || b) ≡ true
or_right true b h = refl
or_right false b h = h

owner_named : (p v : Name) (ts : List Token) → names (begin_with_variable p v) ts ≡ true → names (begin_with_owner p) ts ≡ true
unfolding names
owner_named p v [] h = h
owner_named p v (t ∷ ts) h = elim (cases_Bool (begin_with_variable p v (t ∷ ts))) [
  | inl is ↦ rw (owner_here p v (t ∷ ts) is) refl
  | inr isnt ↦ or_right (begin_with_owner p (t ∷ ts)) (names (begin_with_owner p) ts)
      (owner_named p v ts (or_true (begin_with_variable p v (t ∷ ts)) (names (begin_with_variable p v) ts) h isnt))
]

any_some : (f : Assign → Bool) (assigns : List Assign) (b : Bool) → ((a : Assign) → f a ≡ true → b ≡ true) → list_any f assigns ≡ true → b ≡ true
any_some f [] b each h = absurd (true≢false (sym h))
any_some f (a ∷ others) b each h = elim (cases_Bool (f a)) [
  | inl is ↦ each a is
  | inr isnt ↦ any_some f others b each (or_true (f a) (list_any f others) h isnt)
]

-- the formula names a variable of the process
abbrev names_owner : StatesView → List Token → ℕ → Bool
names_owner s tokens p = names (begin_with_owner (name_at s.header.procs p)) tokens

sets_owner : (s : StatesView) (tokens : List Token) (e : EventId) → sets_some s tokens e ≡ true → names_owner s tokens e.process ≡ true
sets_owner s tokens e h = any_some (sets_named s tokens e.process) (event_at s e).assigns (names_owner s tokens e.process)
    (λ a is. owner_named (name_at s.header.procs e.process) (variable_name s e.process a.variable) tokens is) h

named_owner : (s : StatesView) (tokens : List Token) (p n position : ℕ) → last_named s tokens p n ≡ Some position → names_owner s tokens p ≡ true
unfolding last_named
named_owner s tokens p zero position h = absurd (none-some position h)
named_owner s tokens p (suc n) position h = elim (cases_Bool (sets_some s tokens (place p (suc n)))) [
  | inl is ↦ sets_owner s tokens (place p (suc n)) is
  | inr isnt ↦ named_owner s tokens p n position (subst (λ (b : Bool). (if b then Some (suc n) else last_named s tokens p n) ≡ Some position) isnt h)
]

where_some : (b : Bool) (o : Option EventId) (e : EventId) → (if b then o else None) ≡ Some e → o ≡ Some e
where_some true o e h = h
where_some false o e h = absurd (none-some e h)

where_none : (b : Bool) (o : Option EventId) → b ≡ true → (if b then o else None) ≡ None → o ≡ None
where_none true o is h = h
where_none false o is h = absurd (true≢false (sym is))

is_process : (lens : List ℕ) (p n : ℕ) → 0 < n → n ≤ get_or lens p 0 → p < length lens
is_process [] p n some within = absurd (omega arith)
is_process (l ∷ ls) zero n some within = omega arith
is_process (l ∷ ls) (suc p) n some within = let h = is_process ls p n some within in omega (arith, h)

pub untied_told : UntiedAreTold
untied_told s tokens cut ended whole fits has = record {
  told = λ e found.
      let at = found_at (length s.header.procs) (untied_in s tokens cut ended) e found in
      let k = at.0 in
      let looked = last_named s tokens k (count cut k) in
      let is = unless_some s ended e k looked (where_some (names_owner s tokens k) (unless_tied s ended k looked) e at.1) in
      let position = is.0 in
      let within = named_within s tokens k (count cut k) position is.1 in
      subst (DoesNotWait s tokens cut ended) is.2 record {
        other = λ same. true≢false (sym (eq-eqb k ended.process same) ∙ is.3);
        last = is.1;
        untied = λ before. not_counted ended.position (count (event_at s (place k position)).clock ended.process) is.4
            (subst (λ (c : Cut). ended.position ≤ count c ended.process) (clock_is s whole k position within.0) before.in_past.1);
      };
  silent = λ none process position other last.
      let within = named_within s tokens process (count cut process) position last in
      let fit : position ≤ get_or (map length s.events) process 0 = omega (arith, within.1, fits.within process) in
      let there : process < length (map length s.events) = is_process (map length s.events) process position within.0 fit in
      let size : length (map length s.events) ≡ length s.header.procs = length-map s.events length ∙ whole.events in
      let here : untied_in s tokens cut ended process ≡ None = none_at (length s.header.procs) (untied_in s tokens cut ended) none process (omega (arith, there, size)) in
      let looked = last_named s tokens process (count cut process) in
      let tied = where_none (names_owner s tokens process) (unless_tied s ended process looked)
      (named_owner s tokens process (count cut process) position last) here in
      let counted = unless_none s ended process position (subst (λ (o : Option ℕ). unless_tied s ended process o ≡ None) last tied) other in
      record {
        first = is_event s whole ended.process ended.position (omega (arith, has.first)) has.last;
        second = is_event s whole process position within.0 fit;
        in_past = (
          omega (arith, has.first),
          subst (λ (c : Cut). ended.position ≤ count c ended.process) (sym (clock_is s whole process position within.0))
              (is_counted ended.position (count (event_at s (place process position)).clock ended.process) counted),
        );
        differs = λ same. other (sym same.0);
      };
}
  where
    not_counted : (a b : ℕ) → nat_le a b ≡ false → a ≤ b → ⊥
    not_counted a b h k = grind arith

    is_counted : (a b : ℕ) → nat_le a b ≡ true → a ≤ b
    is_counted a b h = grind arith

-- ---- messages in transit

summed : (f : run.Event → ℕ) (events : List Event) → sum_by f (map event_of events) ≡ sum_by (λ (e : Event). f (event_of e)) events
summed f [] = refl
summed f (e ∷ es) =
    sum_by-cons f (event_of e) (map event_of es) ∙ ap (λ (n : ℕ). f (event_of e) + n) (summed f es) ∙ sym (sum_by-cons (λ (x : Event). f (event_of x)) e es)

counted_run : (test : run.Kind → Bool) (events : List Event) (a : ℕ)
    → count_by (λ (e : run.Event). test e.kind) (take a (map event_of events)) ≡ count_by (λ (e : Event). test (kind_of e.kind)) (take a events)
counted_run test events a =
    ap (λ (es : List run.Event). count_by (λ (e : run.Event). test e.kind) es) (take-map event_of a events)
    ∙ summed (λ (e : run.Event). if test e.kind then 1 else 0) (take a events)

transit_step : (r : run.Run) (p q : ℕ) (c : Cut) → meaning.in_transit r p q c ≡ (if p == q then 0 else (r.sent p q (count c p) - r.received p q (count c q)))
unfolding meaning.in_transit
transit_step r p q c = refl

pub transit_told : TransitIsOfTheRun
transit_told s watches cut p q whole =
    let sent : run.sends (trace_of s) p q (count cut p) ≡ sends s p q (count cut p) =
    ap (λ (es : List run.Event). count_by (λ (e : run.Event). is_send_to q e.kind) (take (count cut p) es)) (events_are s whole p) ∙ counted_run (is_send_to q) (get_or s.events p []) (count cut p) in
    let received : run.receipts (trace_of s) p q (count cut q) ≡ receipts s p q (count cut q) =
    ap (λ (es : List run.Event). count_by (λ (e : run.Event). is_receipt_from p e.kind) (take (count cut q) es)) (events_are s whole q) ∙ counted_run (is_receipt_from p) (get_or s.events q []) (count cut q) in
    ap (λ (n : ℕ). if p == q then 0 else (n - receipts s p q (count cut q))) (sym sent)
    ∙ ap (λ (n : ℕ). if p == q then 0 else (run.sends (trace_of s) p q (count cut p) - n)) (sym received)
    ∙ sym (transit_step (run_of (trace_of s) watches) p q cut)
