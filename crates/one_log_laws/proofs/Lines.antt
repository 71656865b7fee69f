-- Faults of clocks and messages don't go by the lines on which the events stand.
use Rattle.std.proofs.Common.{◌≡◌, ℕ, zero, suc, ◌+◌, List, [], ◌∷◌, ◌++◌, length, map, set, Option, None, Some, refl, sym, ap, ap₂, subst, ◌∙◌}
use Rattle.std.specs.Prelude.{Bool, false, is_some, not, ◌||◌, nat_lt, if◌then◌else◌}
use Rattle.std.specs.Option.{option_map}
use Rattle.std.proofs.lemmas.List.{length-map, map-append}
use Rattle.log_lines.specs.Reading.{choose}
use Rattle.run_model.specs.Cut.{Cut, Clocks, count}
use Rattle.event_log.specs.declared.log.Event.{Event}
use Rattle.event_log.specs.declared.item.LogCode.{LogCode}
use Rattle.event_log.specs.declared.item.LogFault.{LogFault}
use Rattle.event_log.specs.States.{with_event, with_batch, with_batches}
use Rattle.vector_clock.specs.declared.message.Message.{Message}
use Rattle.vector_clock.specs.Events.{Events, own_events, clocks_of, place}
use Rattle.vector_clock.specs.Messages.{message_sent, message_received, sends, receives, first_place, first_send, first_receipt}
use Rattle.vector_clock.specs.Faults.{clock_fault, message_fault, event_fault, is_twice, is_unsent, is_early, at_line, fault_from, batch_fault, batches_fault}
use Rattle.clock_laws.proofs.Same.{own_mapped}
use Rattle.one_log_laws.specs.inside.Lines.{without_line, without_lines}
use Rattle.vector_clock.proofs.Faultless.{chosen_none}

-- ---- what is looked up

first_mapped : (test : Event → Bool) → ((e : Event) → test (without_line e) ≡ test e) → (es : List Event) → first_place test (map without_line es) ≡ first_place test es
unfolding first_place
first_mapped test kept [] = refl
first_mapped test kept (e ∷ es) =
    ap (λ (b : Bool). if b then Some 1 else option_map (λ k. k + 1) (first_place test (map without_line es))) (kept e)
    ∙ ap (λ (o : Option ℕ). if test e then Some 1 else option_map (λ k. k + 1) o) (first_mapped test kept es)

send_on : (events : Events) (m : Message) → first_send (without_lines events) m ≡ first_send events m
send_on events m = ap (first_place (sends m)) (own_mapped without_line events m.sender) ∙ first_mapped (sends m) (λ e. refl) (own_events events m.sender)

receipt_on : (events : Events) (m : Message) → first_receipt (without_lines events) m ≡ first_receipt events m
receipt_on events m = ap (first_place (receives m)) (own_mapped without_line events m.receiver) ∙ first_mapped (receives m) (λ e. refl) (own_events events m.receiver)

place_on : (events : Events) (e : Event) → place (without_lines events) (without_line e) ≡ place events e
place_on events e = ap (λ (n : ℕ). n + 1) (ap length (own_mapped without_line events e.process) ∙ length-map (own_events events e.process) without_line)

clocks_row : (es : List Event) → map (λ (e : Event). e.clock) (map without_line es) ≡ map (λ (e : Event). e.clock) es
clocks_row [] = refl
clocks_row (e ∷ es) = ap (λ (cs : List Cut). e.clock ∷ cs) (clocks_row es)

clocks_on : (events : Events) → clocks_of (without_lines events) ≡ clocks_of events
clocks_on [] = refl
clocks_on (es ∷ events) = ap₂ (λ (c : List Cut) (cs : Clocks). c ∷ cs) (clocks_row es) (clocks_on events)

-- ---- events behind others

set_on : (events : Events) (p : ℕ) (es : List Event) → set (without_lines events) p (map without_line es) ≡ without_lines (set events p es)
set_on [] p es = refl
set_on (x ∷ events) zero es = refl
set_on (x ∷ events) (suc p) es = ap (λ (xs : Events). map without_line x ∷ xs) (set_on events p es)

pub event_on : (events : Events) (e : Event) → with_event (without_lines events) (without_line e) ≡ without_lines (with_event events e)
event_on events e =
    ap (λ (es : List Event). set (without_lines events) e.process (es ++ without_line e ∷ [])) (own_mapped without_line events e.process)
    ∙ ap (set (without_lines events) e.process) (sym (map-append without_line (own_events events e.process) (e ∷ [])))
    ∙ set_on events e.process (own_events events e.process ++ e ∷ [])

pub batch_on : (events : Events) (es : List Event) → with_batch (without_lines events) (map without_line es) ≡ without_lines (with_batch events es)
unfolding with_batch
batch_on events [] = refl
batch_on events (e ∷ es) = ap (λ (xs : Events). with_batch xs (map without_line es)) (event_on events e) ∙ batch_on (with_event events e) es

pub batches_on : (events : Events) (bs : List (List Event)) → with_batches (without_lines events) (without_lines bs) ≡ without_lines (with_batches events bs)
batches_on events [] = refl
batches_on events (b ∷ bs) = ap (λ (xs : Events). with_batches xs (without_lines bs)) (batch_on events b) ∙ batches_on (with_batch events b) bs

-- ---- faults

twice_on : (before : Events) (e : Event) → is_twice (without_lines before) (without_line e) ≡ is_twice before e
twice_on before e = ap₂ (λ (a b : Bool). a || b) (sent (message_sent e.process e.kind)) (received (message_received e.process e.kind))
  where
    sent : (o : Option Message) → choose o (λ m. is_some (first_send (without_lines before) m)) false ≡ choose o (λ m. is_some (first_send before m)) false
    sent None = refl
    sent (Some m) = ap is_some (send_on before m)

    received : (o : Option Message) → choose o (λ m. is_some (first_receipt (without_lines before) m)) false ≡ choose o (λ m. is_some (first_receipt before m)) false
    received None = refl
    received (Some m) = ap is_some (receipt_on before m)

unsent_on : (all : Events) (e : Event) → is_unsent (without_lines all) (without_line e) ≡ is_unsent all e
unsent_on all e = go (message_received e.process e.kind)
  where
    go : (o : Option Message) → choose o (λ m. not (is_some (first_send (without_lines all) m))) false ≡ choose o (λ m. not (is_some (first_send all m))) false
    go None = refl
    go (Some m) = ap (λ (o : Option ℕ). not (is_some o)) (send_on all m)

early_on : (all : Events) (e : Event) → is_early (without_lines all) (without_line e) ≡ is_early all e
early_on all e = go (message_received e.process e.kind)
  where
    go : (o : Option Message) → choose o (λ m. choose (first_send (without_lines all) m) (λ a. nat_lt (count e.clock m.sender) a) false) false
        ≡ choose o (λ m. choose (first_send all m) (λ a. nat_lt (count e.clock m.sender) a) false) false
    go None = refl
    go (Some m) = ap (λ (o : Option ℕ). choose o (λ a. nat_lt (count e.clock m.sender) a) false) (send_on all m)

message_on : (before all : Events) (e : Event) → message_fault (without_lines before) (without_lines all) (without_line e) ≡ message_fault before all e
message_on before all e = rw (twice_on before e, unsent_on all e, early_on all e) refl

fault_on : (before all : Events) (e : Event) → event_fault (without_lines before) (without_lines all) (without_line e) ≡ event_fault before all e
fault_on before all e =
    ap (λ (o : Clocks). choose (clock_fault o (place (without_lines before) (without_line e)) (without_line e)) (λ f. Some f) (message_fault (without_lines before) (without_lines all) (without_line e))) (clocks_on all)
    ∙ ap (λ (n : ℕ). choose (clock_fault (clocks_of all) n (without_line e)) (λ f. Some f) (message_fault (without_lines before) (without_lines all) (without_line e))) (place_on before e)
    ∙ ap (λ (o : Option LogCode). choose (clock_fault (clocks_of all) (place before e) e) (λ f. Some f) o) (message_on before all e)

abbrev None_from : Events → Events → List Event → Type 0
None_from before all es = fault_from before all es ≡ None

none_cons : (before all : Events) (e : Event) (es : List Event) → event_fault before all e ≡ None → fault_from (with_event before e) all es ≡ None → fault_from before all (e ∷ es) ≡ None
unfolding fault_from
none_cons before all e es one rest = rw one rest

none_parts : (before all : Events) (e : Event) (es : List Event) → fault_from before all (e ∷ es) ≡ None → (event_fault before all e ≡ None) × (fault_from (with_event before e) all es ≡ None)
unfolding fault_from
none_parts before all e es none = chosen_none (event_fault before all e) (at_line e) (fault_from (with_event before e) all es) none

none_nil : (before all : Events) → fault_from before all [] ≡ None
unfolding fault_from
none_nil before all = refl

-- without lines there is none, and the other way round
none_without : (before all : Events) (es : List Event) → None_from before all es → None_from (without_lines before) (without_lines all) (map without_line es)
none_without before all [] none = none_nil (without_lines before) (without_lines all)
none_without before all (e ∷ es) none =
    let parts = none_parts before all e es none in
    none_cons (without_lines before) (without_lines all) (without_line e) (map without_line es) (fault_on before all e ∙ parts.0)
    (subst (λ (xs : Events). None_from xs (without_lines all) (map without_line es)) (sym (event_on before e)) (none_without (with_event before e) all es parts.1))

none_with : (before all : Events) (es : List Event) → None_from (without_lines before) (without_lines all) (map without_line es) → None_from before all es
none_with before all [] none = none_nil before all
none_with before all (e ∷ es) none =
    let parts = none_parts (without_lines before) (without_lines all) (without_line e) (map without_line es) none in
    none_cons before all e es (sym (fault_on before all e) ∙ parts.0)
    (none_with (with_event before e) all es (subst (λ (xs : Events). None_from xs (without_lines all) (map without_line es)) (event_on before e) parts.1))

batch_without : (before : Events) (es : List Event) → batch_fault before es ≡ None → batch_fault (without_lines before) (map without_line es) ≡ None
batch_without before es none = subst (λ (xs : Events). None_from (without_lines before) xs (map without_line es)) (sym (batch_on before es)) (none_without before (with_batch before es) es none)

batch_with : (before : Events) (es : List Event) → batch_fault (without_lines before) (map without_line es) ≡ None → batch_fault before es ≡ None
batch_with before es none = none_with before (with_batch before es) es (subst (λ (xs : Events). None_from (without_lines before) xs (map without_line es)) (batch_on before es) none)

pub batches_none : (before : Events) → batches_fault before [] ≡ None
unfolding batches_fault
batches_none before = refl

pub batches_cons : (before : Events) (b : List Event) (bs : List (List Event)) → batch_fault before b ≡ None → batches_fault (with_batch before b) bs ≡ None → batches_fault before (b ∷ bs) ≡ None
unfolding batches_fault
batches_cons before b bs one rest = rw one rest

pub batches_parts : (before : Events) (b : List Event) (bs : List (List Event)) → batches_fault before (b ∷ bs) ≡ None → (batch_fault before b ≡ None) × (batches_fault (with_batch before b) bs ≡ None)
unfolding batches_fault
batches_parts before b bs none = chosen_none (batch_fault before b) (λ (f : LogFault). f) (batches_fault (with_batch before b) bs) none

batches_without : (before : Events) (bs : List (List Event)) → batches_fault before bs ≡ None → batches_fault (without_lines before) (without_lines bs) ≡ None
batches_without before [] none = batches_none (without_lines before)
batches_without before (b ∷ bs) none =
    let parts = batches_parts before b bs none in
    batches_cons (without_lines before) (map without_line b) (without_lines bs) (batch_without before b parts.0)
    (subst (λ (xs : Events). batches_fault xs (without_lines bs) ≡ None) (sym (batch_on before b)) (batches_without (with_batch before b) bs parts.1))

batches_with : (before : Events) (bs : List (List Event)) → batches_fault (without_lines before) (without_lines bs) ≡ None → batches_fault before bs ≡ None
batches_with before [] none = batches_none before
batches_with before (b ∷ bs) none =
    let parts = batches_parts (without_lines before) (map without_line b) (without_lines bs) none in
    batches_cons before b bs (batch_with before b parts.0)
    (batches_with (with_batch before b) bs (subst (λ (xs : Events). batches_fault xs (without_lines bs) ≡ None) (batch_on before b) parts.1))

-- on other lines there is none either
pub on_other_lines : (before : Events) (bs cs : List (List Event)) → without_lines bs ≡ without_lines cs → batches_fault before bs ≡ None → batches_fault before cs ≡ None
on_other_lines before bs cs same none = batches_with before cs (subst (λ (xs : List (List Event)). batches_fault (without_lines before) xs ≡ None) same (batches_without before bs none))
