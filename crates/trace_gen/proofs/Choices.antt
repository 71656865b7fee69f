-- The three kinds of event keep the invariant, and their messages have no fault.
use Rattle.std.proofs.Common.{◌≡◌, ℕ, ◌+◌, ◌-◌, ◌/◌, ◌%◌, ◌<◌, ◌≤◌, false, not, ◌&&◌, ◌||◌, List, [], ◌∷◌, ◌++◌, length, set, refl, sym, ap, ap₂, ◌∙◌, subst, arith, inl, inr, cond, length-set, get_or-set_same, get_or-set_other, le_refl}
use Rattle.std.specs.Option.{unwrap_or}
use Rattle.std.specs.Prelude.{◌^◌, ◌==◌, nat_le, nat_lt, Option, None, Some, is_some, ◌⊎◌}
use Rattle.std.proofs.Math.Nat.{mod-eq_of_lt, mod-eq-sub-mod, mod-lt}
use Rattle.std.proofs.lemmas.Bool.{cases_eq, cases_lt, cases_Bool, and_left, and_right, and_parts, ne_eqb, le-ltb, leb-true}
use Rattle.log_lines.specs.Reading.{choose}
use Rattle.run_model.specs.Cut.{Cut, count, max_cut, with_next}
use Rattle.run_model.specs.Consistent.{IsConsistent}
use Rattle.run_model.proofs.Counts.{count-max, length-max, length-with_next, with_next_same, with_next_other, same_counts, max_left}
use Rattle.run_model.proofs.Orders.{max_consistent}
use Rattle.pota_base.specs.Limits.{most_events}
use Rattle.event_log.specs.declared.item.LogCode.TheVariants as code
use Rattle.event_log.specs.declared.log.Assign.{Assign}
use Rattle.event_log.specs.declared.log.Event.{Event}
use Rattle.event_log.specs.LogText.{KindFits}
use Rattle.event_log.specs.States.{with_event}
use Rattle.causal_order.proofs.Growing.{count-lengths}
use Rattle.vector_clock.specs.declared.message.Message.{Message}
use Rattle.vector_clock.specs.Events.{Events, own_events, clocks_of}
use Rattle.vector_clock.specs.Messages.{first_place, first_send, first_receipt, is_same, sends, receives}
use Rattle.vector_clock.specs.Faults.{message_fault}
use Rattle.vector_clock.proofs.FirstPlaces.{first_with, own_same, same_refl}
use Rattle.vector_clock.proofs.Growth.{length-clocks_of, own_count}
use Rattle.trace_gen.specs.declared.queue.Sent.{Sent}
use Rattle.trace_gen.specs.declared.process.Process.{Process}
use Rattle.trace_gen.specs.Making.{Processes, Made, process_at, advanced, received, internal_by}
use Rattle.trace_gen.specs.Making.{send_by, receipt_by, internal, sending, receiving, taking, peer}
use Rattle.trace_gen.specs.Making.{position_is, seen_is, made}
use Rattle.trace_gen.proofs.Places.{HasMore, send_stays}
use Rattle.trace_gen.proofs.Steps.{to_process, IsOnItsWay, AreQueued, AreUnsent, GoesOn, Going, IsNext, order_after, past_after, queue_after, queue_more, few_after, unsent_after, unread_after, idle, active, queued_last}
use Rattle.trace_gen.proofs.Turns.{turn, line_at, made_low, made_send, made_else}

-- the event assigns its position, and a receipt the number of receipts, none of them above k + 1
pub record HasAssigns (k : ℕ) (assigns : List Assign) : Type 0 where
  pub n : ℕ
  pub seen : ℕ
  pub n_low : n ≤ k + 1
  pub seen_low : seen ≤ k + 1
  pub are : (assigns ≡ position_is n ∷ []) ⊎ (assigns ≡ position_is n ∷ seen_is seen ∷ [])

-- event number k keeps the invariant, and its message has no fault whatever follows
pub record IsMadeWell (procs : ℕ) (before : Events) (k : ℕ) (x : Made) : Type 0 where
  pub there : x.event.process < procs
  pub line : x.event.line ≡ procs + 3 + k
  pub goes : Going procs (with_event before x.event) (k + 1) x.processes
  pub past : IsConsistent (clocks_of (with_event before x.event)) x.event.clock
  pub kind : k < most_events → KindFits procs x.event.process x.event.kind
  pub assigns : HasAssigns k x.event.assigns
  pub message : (all : Events) → HasMore before all → message_fault before all x.event ≡ None

other_id : (n m : Message) → (n.id ≡ m.id → ⊥) → is_same n m ≡ false
other_id n m h = and_right (n.sender == m.sender) _ (and_right (n.receiver == m.receiver) _ (ne_eqb n.id m.id h))

other_receiver : (n m : Message) → (n.receiver ≡ m.receiver → ⊥) → is_same n m ≡ false
other_receiver n m h = and_right (n.sender == m.sender) _ (and_left _ (n.id == m.id) (ne_eqb n.receiver m.receiver h))

-- numbers of waiting messages are low
low_ids : (before : Events) (i k low : ℕ) (ms : List Sent) → AreQueued before i k low ms → low ≤ k
low_ids before i k low [] q = q
low_ids before i k low (m ∷ ms) q = omega (arith, q.1, low_ids before i k (m.id + 1) ms q.2)

module _ (procs : ℕ) (before : Events) (k : ℕ) (ps : Processes) (going : Going procs before k ps) where
  in_table : (i : ℕ) → i < procs → i < length before
  in_table i lt = omega (arith, going.tables)

  -- ---- the process of the event alone has changed

  module _ (e : Event) (is : IsNext before e) (p : Process) (own : GoesOn (with_event before e) (k + 1) e.process p)
      (others : (m : Message) → (m.receiver ≡ e.process → ⊥) → receives m e ≡ false) where
    idle_one : (j : ℕ) → j < procs → (j ≡ e.process → ⊥) → GoesOn (with_event before e) (k + 1) j (process_at ps j)
    idle_one j lt other = idle before e going.order is k j (process_at ps j) other (λ m to. others m (λ same. other (sym to ∙ same))) (going.each j lt)

    each_after : (j : ℕ) → j < procs → GoesOn (with_event before e) (k + 1) j (process_at (set ps e.process p) j)
    each_after j lt = elim (cases_eq j e.process) [
      | inl same ↦
          subst (λ i. GoesOn (with_event before e) (k + 1) i (process_at (set ps e.process p) i)) (sym same)
          (subst (GoesOn (with_event before e) (k + 1) e.process) (sym (get_or-set_same ps e.process p _ (omega (arith, is.there, going.tables, going.all)))) own)
      | inr other ↦ subst (GoesOn (with_event before e) (k + 1) j) (sym (get_or-set_other ps e.process j p _ other)) (idle_one j lt other)
    ]

    one_goes : AreUnsent (with_event before e) (k + 1) → Going procs (with_event before e) (k + 1) (set ps e.process p)
    one_goes unsent = record {
      tables = length-set before e.process _ ∙ going.tables;
      all = length-set ps e.process p ∙ going.all;
      order = order_after before e going.order is;
      few = few_after before e going.order is k going.few;
      unsent = unsent;
      each = each_after;
    }

  module _ (i : ℕ) (lt : i < procs) where
    abbrev p : Process
    p = process_at ps i

    abbrev goes : GoesOn before k i p
    goes = going.each i lt

    in_clock : i < length p.clock
    in_clock = omega (arith, goes.past.shaped, length-clocks_of before, going.tables)

    own_low : length (own_events before i) ≤ k
    own_low = going.few i

    abbrev line : ℕ
    line = procs + 3 + k

    -- the position of an event of this process is low
    place_low : count (advanced p i).clock i ≤ k + 1
    place_low = omega (arith, with_next_same p.clock i in_clock, goes.own, own_low)

    -- ---- internal

    abbrev quiet : Event
    quiet = internal_by i line (advanced p i)

    quiet_next : IsNext before quiet
    quiet_next = record { there = in_table i lt; base = p.clock; consistent = goes.past; own = goes.own; clock = refl }

    quiet_own : GoesOn (with_event before quiet) (k + 1) i (advanced p i)
    quiet_own = active before quiet going.order quiet_next k goes.low p.seen p.waiting (omega (arith, goes.seen))
        (unread_after before quiet going.order quiet_next i goes.low goes.low (le_refl goes.low) (λ m to high. refl) goes.unread)
        (queue_more before quiet going.order quiet_next i k goes.low p.waiting goes.queued)

    pub internal_well : IsMadeWell procs before k (internal i line ps)
    internal_well = record {
      there = lt;
      line = refl;
      goes = one_goes quiet quiet_next (advanced p i) quiet_own (λ m other. refl) (unsent_after before quiet going.order quiet_next k (λ m high. refl) going.unsent);
      past = past_after before quiet going.order quiet_next;
      kind = λ small. tt;
      assigns = record { n = count (advanced p i).clock i; seen = 0; n_low = place_low; seen_low = omega arith; are = inl refl };
      message = λ all more. refl;
    }

    -- ---- a send

    module _ (to : ℕ) (to_there : to < procs) (differs : to ≡ i → ⊥) where
      abbrev send : Event
      send = send_by i line to k (advanced p i)

      abbrev sent : Sent
      sent = record { sender = i; id = k; clock = (advanced p i).clock }

      abbrev after : Events
      after = with_event before send

      send_next : IsNext before send
      send_next = record { there = in_table i lt; base = p.clock; consistent = goes.past; own = goes.own; clock = refl }

      send_own : GoesOn after (k + 1) i (advanced p i)
      send_own = active before send going.order send_next k goes.low p.seen p.waiting (omega (arith, goes.seen))
          (unread_after before send going.order send_next i goes.low goes.low (le_refl goes.low) (λ m to high. refl) goes.unread)
          (queue_more before send going.order send_next i k goes.low p.waiting goes.queued)

      abbrev message : Message
      message = to_process to sent

      unsent_so_far : first_send before message ≡ None
      unsent_so_far = going.unsent message (le_refl k)

      first_is : first_send after message ≡ Some (length (own_events before i) + 1)
      first_is = ap (first_place (sends message)) (own_same before send (in_table i lt)) ∙ first_with (sends message) (own_events before i) send [] (same_refl message)
          ∙ ap (λ (o : Option ℕ). Some (unwrap_or o (length (own_events before i) + 1))) unsent_so_far

      way : IsOnItsWay after to sent
      way = record {
        there = omega (arith, in_table i lt, length-set before i (own_events before i ++ send ∷ []));
        other = λ same. differs (sym same);
        past = past_after before send going.order send_next;
        place = length (own_events before i) + 1;
        first = first_is;
        counted = omega (arith, with_next_same p.clock i in_clock, goes.own);
      }

      target : GoesOn after (k + 1) to (record (process_at ps to) { waiting = (process_at ps to).waiting ++ sent ∷ [] })
      target =
          let before_it = going.each to to_there in
          let rest = idle before send going.order send_next k to (process_at ps to) differs (λ m there. refl) before_it in
          record {
            past = rest.past;
            own = rest.own;
            seen = rest.seen;
            low = before_it.low;
            unread = unread_after before send going.order send_next to before_it.low before_it.low (le_refl before_it.low) (λ m there high. refl) before_it.unread;
            queued = queued_last after to before_it.low (process_at ps to).waiting sent (k + 1) refl way
                (queue_after before send going.order send_next to k before_it.low (process_at ps to).waiting before_it.queued);
          }

      abbrev moved : Processes
      moved = set ps i (advanced p i)

      moved_goes : Going procs after (k + 1) moved
      moved_goes = one_goes send send_next (advanced p i) send_own (λ m other. refl)
          (unsent_after before send going.order send_next k (λ m high. other_id (to_process to sent) m (λ same. absurd (omega arith))) going.unsent)

      target_is : process_at moved to ≡ process_at ps to
      target_is = get_or-set_other ps i to (advanced p i) _ differs

      sent_goes : (q : Process) → GoesOn after (k + 1) to q → (j : ℕ) → j < procs → GoesOn after (k + 1) j (process_at (set moved to q) j)
      sent_goes q own j j_there = elim (cases_eq j to) [
        | inl same ↦
            subst (λ n. GoesOn after (k + 1) n (process_at (set moved to q) n)) (sym same)
            (subst (GoesOn after (k + 1) to) (sym (get_or-set_same moved to q _ (omega (arith, to_there, going.all, length-set ps i (advanced p i))))) own)
        | inr other ↦ subst (GoesOn after (k + 1) j) (sym (get_or-set_other moved to j q _ other)) (moved_goes.each j j_there)
      ]

      pub send_well : IsMadeWell procs before k (sending i line to k ps)
      send_well = record {
        there = lt;
        line = refl;
        goes = record {
          tables = moved_goes.tables;
          all = length-set moved to _ ∙ moved_goes.all;
          order = moved_goes.order;
          few = moved_goes.few;
          unsent = moved_goes.unsent;
          each = sent_goes (record (process_at moved to) { waiting = (process_at moved to).waiting ++ sent ∷ [] })
              (subst (λ (q : Process). GoesOn after (k + 1) to (record q { waiting = q.waiting ++ sent ∷ [] })) (sym target_is) target);
        };
        past = past_after before send going.order send_next;
        kind = λ small. (to_there, differs, omega arith);
        assigns = record { n = count (advanced p i).clock i; seen = 0; n_low = place_low; seen_low = omega arith; are = inl refl };
        message = λ all more. ap (λ (o : Option ℕ). cond (is_some o || false) (Some code.MessageTwice) None) unsent_so_far;
      }

    -- ---- a receipt

    module _ (m : Sent) (others : List Sent) (waits : p.waiting ≡ m ∷ others) where
      queue : AreQueued before i k goes.low (m ∷ others)
      queue = subst (AreQueued before i k goes.low) waits goes.queued

      abbrev way_of : IsOnItsWay before i m
      way_of = (subst (AreQueued before i k goes.low) waits goes.queued).0

      abbrev taken : Process
      taken = advanced (record p { waiting = others }) i

      abbrev receipt : Event
      receipt = receipt_by i line m taken

      abbrev top : Cut
      top = max_cut m.clock p.clock

      same_length : length m.clock ≡ length p.clock
      same_length = way_of.past.shaped ∙ sym goes.past.shaped

      -- the sender knows no more of this process than the process itself
      knows_less : count m.clock i ≤ count p.clock i
      knows_less = omega (arith, way_of.past.within i, count-lengths (clocks_of before) i, own_count before i, goes.own)

      top_own : count top i ≡ count p.clock i
      top_own = omega (arith, count-max m.clock p.clock i, knows_less)

      top_next : max_cut m.clock (with_next p.clock i) ≡ with_next top i
      top_next = same_counts (max_cut m.clock (with_next p.clock i)) (with_next top i)
          (omega (arith, length-max m.clock (with_next p.clock i), length-with_next p.clock i, length-with_next top i, length-max m.clock p.clock, same_length))
          (λ j. elim (cases_eq j i) [
            | inl same ↦
                let at_i : count (max_cut m.clock (with_next p.clock i)) i ≡ count (with_next top i) i =
                omega (arith, count-max m.clock (with_next p.clock i) i, with_next_same p.clock i in_clock, with_next_same top i (omega (arith, length-max m.clock p.clock, in_clock)), top_own, knows_less) in
                subst (λ n. count (max_cut m.clock (with_next p.clock i)) n ≡ count (with_next top i) n) (sym same) at_i
            | inr other ↦ omega (arith, count-max m.clock (with_next p.clock i) j, with_next_other p.clock i j other, with_next_other top i j other, count-max m.clock p.clock j)
          ])

      receipt_next : IsNext before receipt
      receipt_next = record {
        there = in_table i lt;
        base = top;
        consistent = max_consistent (clocks_of before) going.order m.clock p.clock way_of.past goes.past;
        own = top_own ∙ goes.own;
        clock = top_next;
      }

      abbrev got : Message
      got = to_process i m

      receipt_own : GoesOn (with_event before receipt) (k + 1) i (received taken m)
      receipt_own = active before receipt going.order receipt_next k (m.id + 1) (p.seen + 1) others (omega (arith, goes.seen))
          (unread_after before receipt going.order receipt_next i goes.low (m.id + 1) (omega (arith, queue.1)) (λ n to high. other_id got n (λ same. absurd (omega arith))) goes.unread)
          (queue_more before receipt going.order receipt_next i k (m.id + 1) others queue.2)

      pub receipt_well : IsMadeWell procs before k (receiving i line m others ps)
      receipt_well = record {
        there = lt;
        line = refl;
        goes = one_goes receipt receipt_next (received taken m) receipt_own (λ n other. other_receiver got n (λ same. other (sym same)))
            (unsent_after before receipt going.order receipt_next k (λ n high. refl) going.unsent);
        past = past_after before receipt going.order receipt_next;
        kind = λ small. (omega (arith, way_of.there, going.tables), way_of.other, id_small small);
        assigns = record { n = count taken.clock i; seen = p.seen + 1; n_low = place_low; seen_low = omega (arith, goes.seen, own_low); are = inr refl };
        message = λ all more.
            let read : first_receipt before got ≡ None = goes.unread got refl queue.1 in
            let sent_there : first_send all got ≡ Some way_of.place = send_stays before all got way_of.place more way_of.first in
            ap₂ (λ (o r : Option ℕ). cond (false || is_some o) (Some code.MessageTwice) (cond (not (is_some r)) (Some code.ReceiveUnsent)
            (cond (choose r (λ a. nat_lt (count receipt.clock m.sender) a) false) (Some code.ReceiveEarly) None))) read sent_there
            ∙ ap (λ b. cond b (Some code.ReceiveEarly) None) (le-ltb (count receipt.clock m.sender) way_of.place (omega (arith, way_of.counted, max_left m.clock taken.clock m.sender)));
      }
        where
          id_small : k < most_events → m.id < 2 ^ 64
          id_small small = omega (arith, low_ids before i k (m.id + 1) others queue.2)

-- another process than i
pub peer_differs : (procs i w : ℕ) → i < procs → 2 ≤ procs → (peer procs i w < procs) × (peer procs i w ≡ i → ⊥)
peer_differs procs i w lt two =
    let r = w / 4 % (procs - 1) in
    let small : r < procs - 1 = mod-lt (w / 4) (omega arith) in (
      mod-lt (i + 1 + r) (omega arith),
      λ same. elim (cases_lt (i + 1 + r) procs) [
        | inl below ↦ absurd (omega (arith, mod-eq_of_lt {n = i + 1 + r} {m = procs} below))
        | inr above ↦ absurd (omega (arith, mod-eq-sub-mod {n = i + 1 + r} {m = procs} above, mod-eq_of_lt {n = i + 1 + r - procs} {m = procs} (omega arith)))
      ],
    )

-- each event is made well
pub made_well : (procs : ℕ) (before : Events) (k w : ℕ) (ps : Processes) → 1 ≤ procs → Going procs before k ps → IsMadeWell procs before k (made procs k w ps)
made_well procs before k w ps some going =
    subst (λ n. IsMadeWell procs before k (made n k w ps)) going.all (elim (cases_lt 1 (w % 4)) [
      | inr low ↦ subst (IsMadeWell procs before k) (sym (made_low k w ps low)) (taking_well (process_at ps (turn k ps)).waiting refl)
      | inl high ↦ elim (cases_Bool ((w % 4 == 3) && nat_le 2 (length ps))) [
        | inl send ↦ subst (IsMadeWell procs before k) (sym (made_send k w ps high send)) (sending_well (leb-true 2 (length ps) (and_parts (w % 4 == 3) _ send).1))
        | inr other ↦ subst (IsMadeWell procs before k) (sym (made_else k w ps high other)) (at_line (λ line. internal (turn k ps) line ps) (internal_well procs before k ps going (turn k ps) turn_there))
      ]
    ])
  where
    turn_there : turn k ps < procs
    turn_there = omega (arith, mod-lt k {m = length ps} (omega (arith, going.all)), going.all)

    at_line : (x : ℕ → Made) → IsMadeWell procs before k (x (procs + 3 + k)) → IsMadeWell procs before k (x (line_at k ps))
    at_line x well = subst (λ n. IsMadeWell procs before k (x (n + 3 + k))) (sym going.all) well

    taking_well : (ms : List Sent) → (process_at ps (turn k ps)).waiting ≡ ms → IsMadeWell procs before k (taking (turn k ps) (line_at k ps) ms ps)
    taking_well [] e = at_line (λ line. internal (turn k ps) line ps) (internal_well procs before k ps going (turn k ps) turn_there)
    taking_well (m ∷ others) e = at_line (λ line. receiving (turn k ps) line m others ps) (receipt_well procs before k ps going (turn k ps) turn_there m others e)

    sending_well : 2 ≤ length ps → IsMadeWell procs before k (sending (turn k ps) (line_at k ps) (peer (length ps) (turn k ps) w) k ps)
    sending_well two =
        let differs = peer_differs (length ps) (turn k ps) w (omega (arith, turn_there, going.all)) two in
        at_line (λ line. sending (turn k ps) line (peer (length ps) (turn k ps) w) k ps)
        (send_well procs before k ps going (turn k ps) turn_there (peer (length ps) (turn k ps) w) (omega (arith, differs.0, going.all)) differs.1)
