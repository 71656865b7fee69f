-- The arrows of the picture are those of the messages.
use Rattle.std.proofs.Common.{◌≡◌, ℕ, ◌+◌, ◌-◌, ◌<◌, ◌≤◌, Bool, true, false, List, [], ◌∷◌, ◌++◌, length, map, refl, sym, ap, ◌∙◌, subst, arith, inl, inr, append-nil}
use Rattle.std.specs.Prelude.{Option, None, Some, if◌then◌else◌}
use Rattle.std.specs.List.{AllByRecursion, flat_map}
use Rattle.std.proofs.lemmas.Bool.{cases_Bool, cases_lt, and_from}
use Rattle.std.proofs.lemmas.Option.{same_Some}
use Rattle.std.proofs.lemmas.List.{get_or_past, length-map}
use Rattle.pota_base.specs.declared.shape.EventId.{EventId}
use Rattle.pota_base.specs.Shape.{HasEvent}
use Rattle.event_log.specs.declared.log.Kind.{Kind}
use Rattle.event_log.specs.declared.log.Kind.TheVariants as kind
use Rattle.event_log.specs.declared.log.Event.{Event}
use Rattle.event_log.specs.States.{StatesView}
use Rattle.event_log.proofs.Lists.{all_append}
use Rattle.vector_clock.specs.declared.message.Message.{Message}
use Rattle.vector_clock.specs.Events.{own_events, clocks_of}
use Rattle.vector_clock.specs.Faultless.{AreFaultless}
use Rattle.vector_clock.specs.Messages.{message_sent, message_received, first_place, first_send, sends}
use Rattle.vector_clock.proofs.Receipts.{faultless_delivered, faultless_order}
use Rattle.view_parts.specs.declared.extent.Extent.{Extent}
use Rattle.report.specs.declared.report.Report.{Report}
use Rattle.run_model.specs.Cut.{lengths}
use Rattle.view_parts.specs.Parts.{event_at, no_event, place}
use Rattle.view_parts.proofs.Each.{flat_map-append}
use Rattle.view_picture.specs.declared.frame.Frame.{Frame}
use Rattle.view_picture.specs.Columns.{Rows}
use Rattle.view_picture.specs.Frame.{at}
use Rattle.view_picture.specs.Drawing.{arrow_from, arrow_to}
use Rattle.view_picture.specs.Choice.{is_place, is_wanted}
use Rattle.view_picture.specs.Shown.{is_shown, shown_events}
use Rattle.view_picture.specs.Ties.{placed, send_for, send_of, if_shown, shown_send}
use Rattle.view_picture.specs.Laws.{times}
use Rattle.view_picture.proofs.Once.{shown_events_once}
use Rattle.view_picture.proofs.Shown.{chosen_are_shown}
use Rattle.picture_laws.specs.Lines.{Ends, between, is_point, times_drawn, line_from, line_to, arrow_along}
use Rattle.picture_laws.specs.Laws.{IsDrawable, IsMarked, IsSend, IsReceipt, IsOfMessage, ArrowsAreDrawn, MessagesHaveOneArrow, ArrowsAreOfMessages, MarksAreOfWanted}
use Rattle.picture_laws.proofs.Places.{all_at, lengths_are, marked_there, own_count, mark_is, place_is, point_itself, second_false, counted, not_counted, once_more, not_more}
use Rattle.picture_laws.proofs.Once.{faultless_once, first_passes, key_is}

-- ---- what is drawn

one_along : (f : Frame) (rows : Rows) (e : EventId) (o : Option EventId) → arrow_from f rows e o ≡ flat_map arrow_along (line_from f rows e o)
one_along f rows e None = refl
one_along f rows e (Some send) = sym (append-nil (arrow_along (between f rows send e)))

all_along : (s : StatesView) (f : Frame) (rows : Rows) (es : List EventId) → flat_map (arrow_to s f rows) es ≡ flat_map arrow_along (flat_map (line_to s f rows) es)
all_along s f rows [] = refl
all_along s f rows (e ∷ es) =
    ap (λ (l : List ℕ). l ++ flat_map (arrow_to s f rows) es) (one_along f rows e (shown_send s rows e))
    ∙ ap (λ (l : List ℕ). flat_map arrow_along (line_to s f rows e) ++ l) (all_along s f rows es)
    ∙ sym (flat_map-append arrow_along (line_to s f rows e) (flat_map (line_to s f rows) es))

pub arrows_are_drawn : ArrowsAreDrawn
arrows_are_drawn s f rows = all_along s f rows (shown_events (map length s.events) rows)

-- ---- events that are there

-- what is known of the event at a place
pub record IsThere (s : StatesView) (e : EventId) : Type 0 where
  pub below : e.position - 1 < length (own_events s.events e.process)
  pub own : (event_at s e).process ≡ e.process

pub is_there : (s : StatesView) → AreFaultless (length s.header.procs) s.events → (e : EventId) → HasEvent (map length s.events) e → IsThere s e
is_there s faultless e h =
    let count = own_count s.events e.process (omega (arith, h.process, length-map s.events (λ (es : List Event). length es))) in
    let below : e.position - 1 < length (own_events s.events e.process) = omega (arith, h.first, h.last, count) in
    record {
      below = below;
      own = all_at (λ (x : Event). x.process ≡ e.process) (own_events s.events e.process) (e.position - 1) no_event ((faultless_delivered (length s.header.procs) s.events faultless).own e.process) below;
    }

own_sender : (process : ℕ) (k : Kind) (m : Message) → message_sent process k ≡ Some m → process ≡ m.sender
own_sender process kind.Internal m h = cc
own_sender process (kind.Send to id) m h = ap (λ (n : Message). n.sender) (same_Some _ m h)
own_sender process (kind.Receive sender id) m h = cc

-- the send of a message is the first one
first_is : (s : StatesView) → AreFaultless (length s.header.procs) s.events → (m : Message) (e : EventId) → IsSend s m e → first_send s.events m ≡ Some e.position
first_is s faultless m e h =
    let there = is_there s faultless e h.there in
    let sent : message_sent (event_at s e).process (event_at s e).kind ≡ Some m = subst (λ (p : ℕ). message_sent p (event_at s e).kind ≡ Some m) (sym there.own) h.sends in
    let first = (faultless_once (length s.header.procs) s.events faultless).sent e.process (e.position - 1) m there.below sent in
    let at : e.position - 1 + 1 ≡ e.position = omega (arith, h.there.first) in
    let owner : e.process ≡ m.sender = own_sender e.process (event_at s e).kind m h.sends in
    subst (λ (p : ℕ). first_place (sends m) (own_events s.events p) ≡ Some e.position) owner (first ∙ ap (λ (n : ℕ). Some n) at)

-- what is received was sent first by what sends it
sent_for : (s : StatesView) (receiver : ℕ) (k : Kind) (m : Message) → message_received receiver k ≡ Some m → send_for s receiver k ≡ placed m.sender (first_send s.events m)
sent_for s receiver kind.Internal m h = cc
sent_for s receiver (kind.Send to id) m h = cc
sent_for s receiver (kind.Receive sender id) m h = ap (λ (n : Message). placed n.sender (first_send s.events n)) (same_Some _ m h)

send_is : (s : StatesView) → AreFaultless (length s.header.procs) s.events → (m : Message) (send receipt : EventId) → IsSend s m send → IsReceipt s m receipt → send_of s receipt ≡ Some send
send_is s faultless m send receipt sent received =
    sent_for s receipt.process (event_at s receipt).kind m received.receives
    ∙ ap (λ (o : Option ℕ). placed m.sender o) (first_is s faultless m send sent)
    ∙ ap (λ (p : ℕ). Some (place p send.position)) (sym (own_sender send.process (event_at s send).kind m sent.sends))

-- ---- exactly one

-- the send is shown where it is
shown_is : (rows : Rows) (e : EventId) → is_shown rows e ≡ true → if_shown rows (Some e) ≡ Some e
shown_is rows e h = rw h refl

-- an arrow to another receipt is another
others_skipped : (s : StatesView) (f : Frame) (x : Extent) (r : Report) (rows : Rows) → IsDrawable s x r rows → (send receipt e : EventId) → IsMarked s rows receipt → IsMarked s rows e
    → is_place receipt e ≡ false → (o : Option EventId) (rest : List Ends) → times_drawn (between f rows send receipt) (line_from f rows e o ++ rest) ≡ times_drawn (between f rows send receipt) rest
others_skipped s f x r rows drawable send receipt e there here other None rest = refl
others_skipped s f x r rows drawable send receipt e there here other (Some y) rest =
    not_counted (between f rows send receipt) (between f rows y e) rest
    (second_false (is_point (at f rows send) (at f rows y)) (is_point (at f rows receipt) (at f rows e)) (mark_is s f x r rows drawable receipt e there here ∙ other))

-- the arrow itself is counted
its_own : (f : Frame) (rows : Rows) (send receipt : EventId) (rest : List Ends) → times_drawn (between f rows send receipt) (between f rows send receipt ∷ rest) ≡ times_drawn (between f rows send receipt) rest + 1
its_own f rows send receipt rest =
    counted (between f rows send receipt) (between f rows send receipt) rest
    (and_from (is_point (at f rows send) (at f rows send)) (is_point (at f rows receipt) (at f rows receipt)) (point_itself (at f rows send)) (point_itself (at f rows receipt)))

lines_counted : (s : StatesView) (f : Frame) (x : Extent) (r : Report) (rows : Rows) → IsDrawable s x r rows → (send receipt : EventId) → IsMarked s rows receipt
    → shown_send s rows receipt ≡ Some send → (es : List EventId) → AllByRecursion (IsMarked s rows) es → times_drawn (between f rows send receipt) (flat_map (line_to s f rows) es) ≡ times receipt es
lines_counted s f x r rows drawable send receipt hr is [] all = refl
lines_counted s f x r rows drawable send receipt hr is (e ∷ es) all =
    let rest = flat_map (line_to s f rows) es in
    let more = lines_counted s f x r rows drawable send receipt hr is es all.1 in
    elim (cases_Bool (is_place receipt e)) [
      | inl here ↦
          ap (λ (y : EventId). times_drawn (between f rows send receipt) (line_to s f rows y ++ rest)) (place_is receipt e here)
          ∙ ap (λ (o : Option EventId). times_drawn (between f rows send receipt) (line_from f rows receipt o ++ rest)) is
          ∙ its_own f rows send receipt rest
          ∙ ap (λ (n : ℕ). n + 1) more
          ∙ sym (once_more receipt e es here)
      | inr other ↦ others_skipped s f x r rows drawable send receipt e hr all.0 other (shown_send s rows e) rest ∙ more ∙ sym (not_more receipt e es other)
    ]

pub messages_have_one_arrow : MessagesHaveOneArrow
messages_have_one_arrow s f x r rows drawable m send receipt sent received send_shown receipt_shown =
    let is : shown_send s rows receipt ≡ Some send = ap (if_shown rows) (send_is s drawable.faultless m send receipt sent received) ∙ shown_is rows send send_shown in
    lines_counted s f x r rows drawable send receipt (record { there = received.there; shown = receipt_shown }) is (shown_events (map length s.events) rows) (marked_there s rows)
    ∙ shown_events_once (map length s.events) rows receipt received.there ∙ ap (λ (b : Bool). if b then 1 else 0) receipt_shown

-- ---- no other

-- where a message is sent, its first send is one
pub first_sends : (s : StatesView) → AreFaultless (length s.header.procs) s.events → (m : Message) (k : ℕ) → first_send s.events m ≡ Some k → IsSend s m (place m.sender k)
first_sends s faultless m k h =
    let found = first_passes (sends m) (own_events s.events m.sender) k h in
    let known : m.sender < length s.events = known_process found.0 found.1 in
    let count = own_count s.events m.sender known in
    let there : HasEvent (map length s.events) (place m.sender k) = record { process = omega (arith, known, length-map s.events (λ (es : List Event). length es)); first = found.0; last = omega (arith, found.1, count) } in
    record {
      there = there;
      sends = subst (λ (p : ℕ). message_sent p (event_at s (place m.sender k)).kind ≡ Some m) (is_there s faultless (place m.sender k) there).own
          (key_is (message_sent (event_at s (place m.sender k)).process (event_at s (place m.sender k)).kind) m found.2);
    }
  where
    known_process : 1 ≤ k → k ≤ length (own_events s.events m.sender) → m.sender < length s.events
    known_process some le = elim (cases_lt m.sender (length s.events)) [
      | inl lt ↦ lt
      | inr ge ↦ let none : length (own_events s.events m.sender) ≡ 0 = ap length (get_or_past s.events m.sender [] ge) in absurd (omega (arith, none, some, le))
    ]

one_of_message : (s : StatesView) (f : Frame) (rows : Rows) → AreFaultless (length s.header.procs) s.events → (e : EventId) → IsMarked s rows e → AllByRecursion (IsOfMessage s f rows) (line_to s f rows e)
one_of_message s f rows faultless e marked = by_kind (event_at s e).kind refl
  where
    by_shown : (m : Message) → IsReceipt s m e → (k : ℕ) → first_send s.events m ≡ Some k → (b : Bool) → is_shown rows (place m.sender k) ≡ b → AllByRecursion (IsOfMessage s f rows) (line_from f rows e (if b then Some (place m.sender k) else None))
    by_shown m received k h false shows = tt
    by_shown m received k h true shows = (
      record { message = m; send = place m.sender k; receipt = e; sent = first_sends s faultless m k h; received = received; send_shown = shows; receipt_shown = marked.shown; line_is = refl },
      tt,
    )

    by_first : (m : Message) → IsReceipt s m e → (o : Option ℕ) → first_send s.events m ≡ o → AllByRecursion (IsOfMessage s f rows) (line_from f rows e (if_shown rows (placed m.sender o)))
    by_first m received None h = tt
    by_first m received (Some k) h = by_shown m received k h (is_shown rows (place m.sender k)) refl

    by_kind : (k : Kind) → (event_at s e).kind ≡ k → AllByRecursion (IsOfMessage s f rows) (line_from f rows e (if_shown rows (send_for s e.process k)))
    by_kind kind.Internal is = tt
    by_kind (kind.Send to id) is = tt
    by_kind (kind.Receive sender id) is =
        let m : Message = record { sender = sender; receiver = e.process; id = id } in
        by_first m (record { there = marked.there; receives = ap (message_received e.process) is }) (first_send s.events m) refl

all_of_messages : (s : StatesView) (f : Frame) (rows : Rows) → AreFaultless (length s.header.procs) s.events → (es : List EventId) → AllByRecursion (IsMarked s rows) es → AllByRecursion (IsOfMessage s f rows) (flat_map (line_to s f rows) es)
all_of_messages s f rows faultless [] all = tt
all_of_messages s f rows faultless (e ∷ es) all =
    all_append (IsOfMessage s f rows) (line_to s f rows e) (flat_map (line_to s f rows) es) (one_of_message s f rows faultless e all.0) (all_of_messages s f rows faultless es all.1)

pub arrows_are_of_messages : ArrowsAreOfMessages
arrows_are_of_messages s f x r rows drawable = all_of_messages s f rows drawable.faultless (shown_events (map length s.events) rows) (marked_there s rows)

-- ---- marks

pub marks_are_of_wanted : MarksAreOfWanted
marks_are_of_wanted s x r rows drawable e h =
    let there : HasEvent (lengths (clocks_of s.events)) e = subst (λ (l : List ℕ). HasEvent l e) (sym (lengths_are s.events)) h in
    shown_events_once (map length s.events) rows e h
    ∙ ap (λ (b : Bool). if b then 1 else 0) (chosen_are_shown (clocks_of s.events) (is_wanted s x r) rows (faultless_order (length s.header.procs) s.events drawable.faultless) drawable.columns e there)
