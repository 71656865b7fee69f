-- Short arrows are those of messages that are sent and not received.
use Rattle.std.proofs.Common.{◌≡◌, ℕ, zero, suc, ◌+◌, ◌-◌, ◌<◌, Bool, true, false, ◌||◌, List, [], ◌∷◌, length, map, get_or, refl, sym, ap, ◌∙◌, subst, arith, inl, inr, eq-eqb}
use Rattle.std.specs.Prelude.{◌==◌, None, Some, if◌then◌else◌}
use Rattle.std.specs.List.{list_any}
use Rattle.std.proofs.lemmas.Bool.{cases_Bool, cases_eq, cases_lt, and_parts, and_from, eqb-true}
use Rattle.std.proofs.lemmas.Option.{same_Some, none-some}
use Rattle.std.proofs.lemmas.List.{get_or_past}
use Rattle.std.proofs.lemmas.List.Folds.{list_any-append}
use Rattle.pota_base.specs.declared.shape.EventId.{EventId}
use Rattle.pota_base.specs.Shape.{HasEvent}
use Rattle.event_log.specs.declared.log.Kind.{Kind}
use Rattle.event_log.specs.declared.log.Kind.TheVariants as kind
use Rattle.event_log.specs.States.{StatesView}
use Rattle.vector_clock.specs.declared.message.Message.{Message}
use Rattle.vector_clock.specs.Messages.{message_sent, message_received}
use Rattle.view_parts.specs.Each.{own_places}
use Rattle.view_parts.specs.Parts.{event_at, place}
use Rattle.view_picture.specs.Drawing.{is_receipt, is_received, lost_for, lost_of}
use Rattle.picture_laws.specs.Laws.{IsReceipt, IsLostTo, ShortArrowsAreOfLost}

-- ---- one of the first events of a process

either : (a b : Bool) → (a || b) ≡ true → (a ≡ false) → b ≡ true
either true b h none = cc
either false b h none = h

or_left : (a b : Bool) → a ≡ true → (a || b) ≡ true
or_left true b h = refl
or_left false b h = cc

or_right : (a b : Bool) → b ≡ true → (a || b) ≡ true
or_right true b h = refl
or_right false b h = h

one_any : (p : EventId → Bool) (e : EventId) → list_any p (e ∷ []) ≡ p e
one_any p e = by_test (p e)
  where
    by_test : (b : Bool) → (b || false) ≡ b
    by_test true = refl
    by_test false = refl

own_more : (p : EventId → Bool) (process n : ℕ) → list_any p (own_places process (suc n)) ≡ (list_any p (own_places process n) || p (place process (n + 1)))
own_more p process n =
    list_any-append p (own_places process n) (place process (n + 1) ∷ []) ∙ ap (λ (b : Bool). list_any p (own_places process n) || b) (one_any p (place process (n + 1)))

own_any : (p : EventId → Bool) (process n k : ℕ) → k < n → p (place process (k + 1)) ≡ true → list_any p (own_places process n) ≡ true
own_any p process zero k lt h = absurd (omega (arith, lt))
own_any p process (suc n) k lt h = elim (cases_eq k n) [
  | inl same ↦ own_more p process n ∙ or_right (list_any p (own_places process n)) (p (place process (n + 1))) (subst (λ (j : ℕ). p (place process (j + 1)) ≡ true) same h)
  | inr other ↦ own_more p process n ∙ or_left (list_any p (own_places process n)) (p (place process (n + 1))) (own_any p process n k (omega (arith, lt, other)) h)
]

-- an event of the process that passes the test
record IsFound (p : EventId → Bool) (process n : ℕ) : Type 0 where
  before : ℕ
  below : before < n
  passes : p (place process (before + 1)) ≡ true

own_found : (p : EventId → Bool) (process n : ℕ) → list_any p (own_places process n) ≡ true → IsFound p process n
own_found p process zero h = cc
own_found p process (suc n) h = elim (cases_Bool (list_any p (own_places process n))) [
  | inl found ↦ let f = own_found p process n found in record { before = f.before; below = omega (arith, f.below); passes = f.passes }
  | inr none ↦ record { before = n; below = omega arith; passes = either (list_any p (own_places process n)) (p (place process (n + 1))) (sym (own_more p process n) ∙ h) none }
]

-- ---- receipts

-- what the kind of an event says of the message that it receives
record IsReceived (process : ℕ) (k : Kind) (m : Message) : Type 0 where
  receiver : process ≡ m.receiver
  test : is_receipt m.sender m.id k ≡ true

receipt_passes : (process : ℕ) (k : Kind) (m : Message) → message_received process k ≡ Some m → IsReceived process k m
receipt_passes process kind.Internal m h = cc
receipt_passes process (kind.Send to id) m h = cc
receipt_passes process (kind.Receive sender id) m h =
    let same = same_Some _ m h in
    record {
      receiver = ap (λ (n : Message). n.receiver) same;
      test = and_from (sender == m.sender) (id == m.id) (eq-eqb sender m.sender (ap (λ (n : Message). n.sender) same)) (eq-eqb id m.id (ap (λ (n : Message). n.id) same));
    }

passes_receipt : (process sender id : ℕ) (k : Kind) → is_receipt sender id k ≡ true → message_received process k ≡ Some (record { sender = sender; receiver = process; id = id })
passes_receipt process sender id kind.Internal h = cc
passes_receipt process sender id (kind.Send to number) h = cc
passes_receipt process sender id (kind.Receive from number) h =
    let parts = and_parts (from == sender) (number == id) h in
    ap (λ (p : ℕ). Some (record { sender = p; receiver = process; id = number })) (eqb-true from sender parts.0) ∙ ap (λ (n : ℕ). Some (record { sender = sender; receiver = process; id = n })) (eqb-true number id parts.1)

received_is : (s : StatesView) (m : Message) (receipt : EventId) → IsReceipt s m receipt → is_received s m.sender m.receiver m.id ≡ true
received_is s m receipt h =
    let p : EventId → Bool = λ e. is_receipt m.sender m.id (event_at s e).kind in
    let r = receipt_passes receipt.process (event_at s receipt).kind m h.receives in
    let at : receipt.position - 1 + 1 ≡ receipt.position = omega (arith, h.there.first) in
    let passes : p (place receipt.process (receipt.position - 1 + 1)) ≡ true = subst (λ (a : ℕ). p (place receipt.process a) ≡ true) (sym at) r.test in
    subst (λ (q : ℕ). list_any p (own_places q (get_or (map length s.events) q 0)) ≡ true) r.receiver
    (own_any p receipt.process (get_or (map length s.events) receipt.process 0) (receipt.position - 1) (omega (arith, h.there.first, h.there.last)) passes)

-- the event of the receiver that receives the message
record HasReceipt (s : StatesView) (m : Message) : Type 0 where
  receipt : EventId
  receives : IsReceipt s m receipt

is_there : (lens : List ℕ) (process before : ℕ) → before < get_or lens process 0 → HasEvent lens (place process (before + 1))
is_there lens process before lt = elim (cases_lt process (length lens)) [
  | inl there ↦ record { process = omega (arith, there); first = omega arith; last = omega (arith, lt) }
  | inr past ↦ let none : get_or lens process 0 ≡ 0 = get_or_past lens process 0 past in absurd (omega (arith, lt, none))
]

has_receipt : (s : StatesView) (m : Message) → is_received s m.sender m.receiver m.id ≡ true → HasReceipt s m
has_receipt s m h =
    let p : EventId → Bool = λ e. is_receipt m.sender m.id (event_at s e).kind in
    let f = own_found p m.receiver (get_or (map length s.events) m.receiver 0) h in
    let e : EventId = place m.receiver (f.before + 1) in
    record { receipt = e; receives = record { there = is_there (map length s.events) m.receiver f.before f.below; receives = passes_receipt m.receiver m.sender m.id (event_at s e).kind f.passes } }

-- ---- sends

not_both : (b : Bool) → b ≡ true → b ≡ false → ⊥
not_both true h k = cc
not_both false h k = cc

lost_to_there : (s : StatesView) (send : EventId) (receiver : ℕ) → HasEvent (map length s.events) send → lost_of s send ≡ Some receiver → IsLostTo s send receiver
lost_to_there s send receiver there = by_kind (event_at s send).kind refl
  where
    by_test : (to id : ℕ) → (event_at s send).kind ≡ kind.Send to id → (b : Bool) → is_received s send.process to id ≡ b → (if b then None else Some to) ≡ Some receiver → IsLostTo s send receiver
    by_test to id is true received h = absurd (none-some receiver h)
    by_test to id is false received h =
        let m : Message = record { sender = send.process; receiver = to; id = id } in
        record {
          message = m;
          sent = record { there = there; sends = ap (message_sent send.process) is };
          receiver_is = same_Some to receiver h;
          lost = λ receipt r. not_both (is_received s send.process to id) (received_is s m receipt r) received;
        }

    by_kind : (k : Kind) → (event_at s send).kind ≡ k → lost_for s send.process k ≡ Some receiver → IsLostTo s send receiver
    by_kind kind.Internal is h = absurd (none-some receiver h)
    by_kind (kind.Send to id) is h = by_test to id is (is_received s send.process to id) refl h
    by_kind (kind.Receive from id) is h = absurd (none-some receiver h)

lost_there : (s : StatesView) (send : EventId) (receiver : ℕ) → IsLostTo s send receiver → lost_of s send ≡ Some receiver
lost_there s send receiver l = by_kind (event_at s send).kind l.sent.sends
  where
    by_test : (to : ℕ) → to ≡ receiver → (b : Bool) → (b ≡ true → ⊥) → (if b then None else Some to) ≡ Some receiver
    by_test to is true never = absurd (never refl)
    by_test to is false never = ap (λ (p : ℕ). Some p) is

    by_kind : (k : Kind) → message_sent send.process k ≡ Some l.message → lost_for s send.process k ≡ Some receiver
    by_kind kind.Internal h = absurd (none-some l.message h)
    by_kind (kind.Send to id) h =
        let same = same_Some _ l.message h in
        by_test to (ap (λ (n : Message). n.receiver) same ∙ l.receiver_is) (is_received s send.process to id) (λ received.
        let r = has_receipt s l.message (subst (λ (n : Message). is_received s n.sender n.receiver n.id ≡ true) same received) in l.lost r.receipt r.receives)
    by_kind (kind.Receive from id) h = absurd (none-some l.message h)

pub short_arrows_are_of_lost : ShortArrowsAreOfLost
short_arrows_are_of_lost s send receiver there = (lost_to_there s send receiver there, lost_there s send receiver)
