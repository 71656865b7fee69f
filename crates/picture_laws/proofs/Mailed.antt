-- What is received was sent before.
use Rattle.std.proofs.Common.{◌≡◌, ℕ, zero, suc, ◌+◌, ◌-◌, ◌<◌, ◌≤◌, Bool, true, false, ◌||◌, List, [], ◌∷◌, length, map, take, get_or, refl, sym, ap, ◌∙◌, subst, arith, inl, inr, eq-eqb, ◌⊎◌}
use Rattle.std.specs.Prelude.{◌==◌, nat_eq, Option, None, Some, if◌then◌else◌}
use Rattle.std.specs.Option.{option_map}
use Rattle.std.specs.List.{AllByRecursion}
use Rattle.std.specs.Set.{is_member}
use Rattle.std.proofs.lemmas.Bool.{ne_eqb}
use Rattle.std.proofs.lemmas.Option.{same_Some, none-some}
use Rattle.std.proofs.lemmas.List.{get_or-map}
use Rattle.std.proofs.lemmas.List.Folds.{list_any-append}
use Rattle.run_model.specs.Cut.{Cut, count, lengths}
use Rattle.run_model.specs.Consistent.{clock, HappenedBefore}
use Rattle.causal_order.proofs.Orders.{is_before, event_there}
use Rattle.pota_base.specs.declared.shape.EventId.{EventId}
use Rattle.pota_base.specs.Shape.{HasEvent}
use Rattle.event_log.specs.PassedOn.{choose}
use Rattle.event_log.specs.declared.log.Kind.{Kind}
use Rattle.event_log.specs.declared.log.Kind.TheVariants as kind
use Rattle.event_log.specs.declared.log.Event.{Event}
use Rattle.event_log.specs.States.{StatesView}
use Rattle.vector_clock.specs.declared.message.Message.{Message}
use Rattle.vector_clock.specs.Events.{own_events, clocks_of}
use Rattle.vector_clock.specs.Faultless.{AreFaultless}
use Rattle.vector_clock.specs.Messages.{message_sent, is_same, sends, first_place, first_send}
use Rattle.vector_clock.proofs.Delivered.{IsMailed, AreDelivered}
use Rattle.vector_clock.proofs.Growth.{clock_suc, own_clocks}
use Rattle.vector_clock.proofs.MessageIds.{sent_id, ids}
use Rattle.vector_clock.proofs.Receipts.{faultless_delivered}
use Rattle.view_parts.specs.Parts.{event_at, no_event, place}
use Rattle.view_picture.specs.Ties.{placed, send_for, send_of}
use Rattle.picture_laws.specs.Laws.{IsSend}
use Rattle.picture_laws.proofs.Places.{all_at, lengths_are}
use Rattle.picture_laws.proofs.Arrows.{is_there, first_sends}

abbrev message : ℕ → ℕ → ℕ → Message
message p q id = record { sender = p; receiver = q; id = id }

first_step : (b : Bool) (rest : Option ℕ) (k : ℕ) → (if b then Some 1 else option_map (λ j. j + 1) rest) ≡ Some k → (1 ≡ k) ⊎ ((j : ℕ) × (b ≡ false) × (rest ≡ Some j) × (j + 1 ≡ k))
first_step true rest k h = inl (same_Some 1 k h)
first_step false None k h = absurd (none-some k h)
first_step false (Some j) k h = inr (j, refl, refl, same_Some (j + 1) k h)

-- an event that doesn't send the message doesn't have its number
sends_not : (p q id : ℕ) (e : Event) → e.process ≡ p → sends (message p q id) e ≡ false → is_member nat_eq (sent_id q e.kind) id ≡ false
sends_not p q id e own h = by_kind e.kind h
  where
    apart : (b : Bool) (i : ℕ) → (b ≡ true → (i ≡ id → ⊥)) → is_member nat_eq (if b then i ∷ [] else []) id ≡ false
    apart false i h = refl
    apart true i h = rw (ne_eqb id i (λ e. h refl (sym e))) refl

    by_kind : (k : Kind) → choose (message_sent e.process k) (λ n. is_same n (message p q id)) false ≡ false → is_member nat_eq (sent_id q k) id ≡ false
    by_kind kind.Internal h = refl
    by_kind (kind.Send to i) h = apart (to == q) i (λ to_it same.
        let yes_it : is_same (message e.process to i) (message p q id) ≡ true = rw (to_it, eq-eqb e.process p own, eq-eqb i id same) refl in
        cc)
    by_kind (kind.Receive sender i) h = refl

left_false : (a b : Bool) → a ≡ false → (a || b) ≡ true → b ≡ true
left_false true b h k = cc
left_false false b h k = k

-- where one of the first events sends it, the first send is one of them
first_within : (p q id : ℕ) (es : List Event) → AllByRecursion (λ (e : Event). e.process ≡ p) es → (n k : ℕ) → is_member nat_eq (ids (sent_id q) (take n es)) id ≡ true → first_place (sends (message p q id)) es ≡ Some k → k ≤ n
unfolding first_place
first_within p q id [] own n k h f = absurd (none-some k f)
first_within p q id (e ∷ es) own zero k h f = cc
first_within p q id (e ∷ es) own (suc n) k h f = elim (first_step (sends (message p q id) e) (first_place (sends (message p q id)) es) k f) [
  | inl one ↦ omega (arith, one)
  | inr more ↦
      let rest : is_member nat_eq (ids (sent_id q) (take n es)) id ≡ true =
      left_false (is_member nat_eq (sent_id q e.kind) id) (is_member nat_eq (ids (sent_id q) (take n es)) id) (sends_not p q id e own.0 more.1)
      (sym (list_any-append (nat_eq id) (sent_id q e.kind) (ids (sent_id q) (take n es))) ∙ h) in
      omega (arith, more.3, first_within p q id es own.1 n more.0 rest more.2)
]

clock_is : (s : StatesView) → (e : EventId) → HasEvent (map length s.events) e → e.position - 1 < length (own_events s.events e.process) → clock (clocks_of s.events) e.process e.position ≡ (event_at s e).clock
clock_is s e h below = at_position e.position h.first below
  where
    at_position : (a : ℕ) → 1 ≤ a → a - 1 < length (own_events s.events e.process) → clock (clocks_of s.events) e.process a ≡ (get_or (own_events s.events e.process) (a - 1) no_event).clock
    at_position zero some lt = absurd (omega (arith, some))
    at_position (suc a) some lt =
        let back : a ≡ suc a - 1 = omega arith in
        clock_suc (clocks_of s.events) e.process a ∙ ap (λ (rows : List Cut). get_or rows a []) (own_clocks s.events e.process) ∙ get_or-map (λ (f : Event). f.clock) (own_events s.events e.process) a no_event [] (omega (arith, lt))
        ∙ ap (λ (n : ℕ). (get_or (own_events s.events e.process) n no_event).clock) back

-- the send of what an event receives happened before it
pub sent_before : (s : StatesView) → AreFaultless (length s.header.procs) s.events → (e g : EventId) → HasEvent (map length s.events) g → send_of s g ≡ Some e → HappenedBefore (clocks_of s.events) e.process e.position g.process g.position
sent_before s faultless e g there h = by_kind (event_at s g).kind refl h
  where
    delivered : AreDelivered s.events s.events
    delivered = faultless_delivered (length s.header.procs) s.events faultless

    by_first : (sender id : ℕ) → (event_at s g).kind ≡ kind.Receive sender id → (o : Option ℕ) → first_send s.events (message sender g.process id) ≡ o → placed sender o ≡ Some e → HappenedBefore (clocks_of s.events) e.process e.position g.process g.position
    by_first sender id is None first k = absurd (none-some e k)
    by_first sender id is (Some n) first k =
        let o = clocks_of s.events in
        let send : place sender n ≡ e = same_Some (place sender n) e k in
        let m = message sender g.process id in
        let sent : IsSend s m (place sender n) = first_sends s faultless m n first in
        let below : g.position - 1 < length (own_events s.events g.process) = (is_there s faultless g there).below in
        let mailed = all_at (IsMailed s.events g.process) (own_events s.events g.process) (g.position - 1) no_event (delivered.mailed g.process) below in
        let le : n ≤ count (event_at s g).clock sender = first_within sender g.process id (own_events s.events sender) (delivered.own sender) (count (event_at s g).clock sender) n (mailed sender id is) first in
        let differs : (sender ≡ g.process) × (n ≡ g.position) → ⊥ = λ same.
        let at : place sender n ≡ g = ap (λ (p : ℕ). place p n) same.0 ∙ ap (λ (a : ℕ). place g.process a) same.1 in
        let no_send : message_sent g.process (event_at s g).kind ≡ None = ap (message_sent g.process) is in
        let a_send : message_sent g.process (event_at s g).kind ≡ Some m = subst (λ (f : EventId). message_sent f.process (event_at s f).kind ≡ Some m) at sent.sends in
        none-some m (sym no_send ∙ a_send) in
        subst (λ (f : EventId). HappenedBefore o f.process f.position g.process g.position) send
        (is_before o sender n g.process g.position (event_there o (place sender n) (of_run (place sender n) sent.there)) (event_there o g (of_run g there)) (omega (arith, le, ap (λ (c : Cut). count c sender) (clock_is s g there below))) differs)
      where
        of_run : (f : EventId) → HasEvent (map length s.events) f → HasEvent (lengths (clocks_of s.events)) f
        of_run f there = subst (λ (l : List ℕ). HasEvent l f) (sym (lengths_are s.events)) there

    by_kind : (k : Kind) → (event_at s g).kind ≡ k → send_for s g.process k ≡ Some e → HappenedBefore (clocks_of s.events) e.process e.position g.process g.position
    by_kind kind.Internal is h = absurd (none-some e h)
    by_kind (kind.Send to id) is h = absurd (none-some e h)
    by_kind (kind.Receive sender id) is h = by_first sender id is (first_send s.events (message sender g.process id)) refl h
