-- What an event stands on, by its place.
use Rattle.std.proofs.Common.{◌≡◌, ℕ, zero, suc, ◌<◌, ◌≤◌, List, [], ◌∷◌, ◌++◌, length, map, get_or, replicate, refl, sym, ap, ◌∙◌, arith, append_assoc, length-append}
use Rattle.std.specs.Prelude.{Option, None}
use Rattle.std.specs.Option.{unwrap_or}
use Rattle.std.proofs.lemmas.List.{get_or_at, get_or-map, get_or-set_same, length-replicate, length-map}
use Rattle.run_model.specs.Cut.{Cut, count, IsWithin, lengths}
use Rattle.run_model.specs.Consistent.{clock}
use Rattle.event_log.specs.declared.log.Event.{Event}
use Rattle.event_log.specs.States.{with_event}
use Rattle.vector_clock.specs.declared.message.Message.{Message}
use Rattle.vector_clock.specs.Events.{Events, own_events}
use Rattle.vector_clock.specs.Messages.{first_send}
use Rattle.vector_clock.proofs.FirstPlaces.{own_same}
use Rattle.vector_clock.proofs.Growth.{clock_suc}
use Rattle.torn_runs.proofs.Beginnings.{count-lengths}
use Rattle.torn_log.specs.Counts.{Grows}
use Rattle.torn_log.specs.Needs.{only, sent_at, need_of_receipt, need, needs}

row_of : (f : Event → Cut) (events : Events) (p : ℕ) → get_or (map (map f) events) p [] ≡ map f (own_events events p)
row_of f [] p = refl
row_of f (es ∷ events) zero = refl
row_of f (es ∷ events) (suc p) = row_of f events p

pub row_needs : (events : Events) (p : ℕ) → get_or (needs events) p [] ≡ map (need events) (own_events events p)
row_needs events p = row_of (need events) events p

pub length-needs : (events : Events) → length (needs events) ≡ length events
length-needs events = length-map events (map (need events))

pub count-needs : (events : Events) (p : ℕ) → count (lengths (needs events)) p ≡ length (own_events events p)
count-needs events p = count-lengths (needs events) p ∙ ap length (row_needs events p) ∙ length-map (own_events events p) (need events)

-- the event behind those before it on its process
pub clock_needs : (events before : Events) (e : Event) (k : ℕ) → Grows (with_event before e) events → e.process < length before → k ≡ length (own_events before e.process) → clock (needs events) e.process (suc k) ≡ need events e
clock_needs events before e k grows lt at =
    let old = own_events before e.process in
    let more = grows.more e.process in
    let own : own_events events e.process ≡ old ++ e ∷ more.0 = more.1 ∙ ap (λ (es : List Event). es ++ more.0) (own_same before e lt) ∙ append_assoc old (e ∷ []) more.0 in
    let there : k < length (own_events events e.process) = omega (arith, ap length own, length-append old (e ∷ more.0), at) in
    clock_suc (needs events) e.process k
    ∙ ap (λ rows. get_or rows k []) (row_needs events e.process)
    ∙ get_or-map (need events) (own_events events e.process) k e [] there
    ∙ ap (λ (es : List Event). need events (get_or es k e)) own
    ∙ ap (need events) (get_or_at old e more.0 e k (sym at))

-- ---- receipts

abbrev none : ℕ → List ℕ
none n = replicate n 0

pub only_from : (n p a : ℕ) (cut : Cut) → p < n → IsWithin (only n p a) cut → a ≤ count cut p
only_from n p a cut lt h = omega (arith, h p, get_or-set_same (none n) p a 0 (omega (arith, lt, length-replicate {A = ℕ} n 0)))

pub unsent_place : (events : Events) (m : Message) → first_send events m ≡ None → sent_at events m ≡ suc (length (own_events events m.sender))
unsent_place events m h = ap (λ (o : Option ℕ). unwrap_or o (suc (length (own_events events m.sender)))) h

-- a message that isn't sent is sent in no cut of the events
pub never_sent : (events : Events) (m : Message) (cut : Cut) → m.sender < length events → count cut m.sender ≤ length (own_events events m.sender) → first_send events m ≡ None → IsWithin (need_of_receipt events m) cut → ⊥
never_sent events m cut lt few h within = absurd (omega (arith, only_from (length events) m.sender (sent_at events m) cut lt within, unsent_place events m h, few))
