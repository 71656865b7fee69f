-- In a log that is made no variable ever falls: `n` is the position of the last event, and `seen` the
-- number of receipts.
use Rattle.std.proofs.Common.{◌≡◌, ℕ, zero, suc, ◌+◌, ◌%◌, ◌<◌, ◌≤◌, ℤ, pos, ◌≤ℤ◌, int_lt, Bool, true, false, ◌&&◌, ◌||◌, List, [], ◌∷◌, ◌++◌, length, get_or, set, map, replicate, refl, sym, ap, ◌∙◌, subst, arith, inl, inr, get_or-set_same, get_or-set_other, length-set}
use Rattle.std.specs.Prelude.{◌==◌, nat_le, None, Some, if◌then◌else◌, fold}
use Rattle.std.specs.Bool.{⊤}
use Rattle.std.specs.List.{list_any}
use Rattle.std.proofs.Math.Nat.{mod-lt}
use Rattle.std.proofs.lemmas.Int.{ints}
use Rattle.std.proofs.lemmas.Bool.{cases_Bool, cases_lt, cases_eq, cond-true, cond-false, eqb-true, eqb-false, ne_eqb, and_parts, leb-true}
use Rattle.std.proofs.lemmas.List.{length-replicate, get_or-replicate}
use Rattle.run_model.specs.Run as run
use Rattle.run_model.specs.Cut.{Cut, count, max_cut, with_next}
use Rattle.run_model.proofs.Counts.{with_next_same, max_right}
use Rattle.pota_base.specs.Limits.{most_processes}
use Rattle.event_log.specs.declared.log.Assign.{Assign}
use Rattle.event_log.specs.declared.log.Binding.{Binding}
use Rattle.event_log.specs.declared.log.Event.{Event}
use Rattle.event_log.specs.States.{StatesView, AreWhole, variable_of, with_event}
use Rattle.event_log.proofs.NameNumbers.{header_known}
use Rattle.vector_clock.specs.Events.{Events, no_events, clocks_of}
use Rattle.vector_clock.proofs.Growth.{length-clocks_of}
use Rattle.counter_preds.specs.declared.values.Variable.{Variable}
use Rattle.counter_preds.specs.Counters.{IsVariable}
use Rattle.counter_preds.specs.Falls.{value_now, behind_event, is_lowered, fall_of, fall_fault}
use Rattle.counter_preds.specs.inside.Falls.{assigned_value, left_by}
use Rattle.counter_preds.proofs.Growing.{opening_in, value_behind}
use Rattle.counter_preds.proofs.Behind.{value_left, value_now_by, variable_behind}
use Rattle.trace_gen.specs.declared.queue.Sent.{Sent}
use Rattle.trace_gen.specs.declared.process.Process.{Process}
use Rattle.trace_gen.specs.Words.{word, first_state, next_state}
use Rattle.trace_gen.specs.Making.{Processes, Made, nobody, process_at, advanced, received}
use Rattle.trace_gen.specs.Making.{with_message, internal, sending, receiving, taking, peer}
use Rattle.trace_gen.specs.Making.{position_is, seen_is, made}
use Rattle.trace_gen.specs.Generated.{names_from, opening, header_of, events_from, at_rest, generated_events}
use Rattle.trace_gen.proofs.Steps.{Going}
use Rattle.trace_gen.proofs.Choices.{peer_differs, made_well}
use Rattle.trace_gen.proofs.Turns.{turn, line_at, made_low, made_send, made_else}
use Rattle.trace_gen.proofs.Clear.{length-names, resting, start_going}
use Rattle.trace_gen.proofs.Fits.{header_fits}

-- ---- the value of a variable, and what the process has counted

-- `n` is at most the position, and `seen` at most the receipts; there is no third variable
abbrev Within : ℕ → Process → ℕ → ℤ → Type 0
Within zero q p z = z ≤ℤ pos (count q.clock p)
Within (suc zero) q p z = z ≤ℤ pos q.seen
Within (suc (suc n)) q p z = ⊤

-- what an event without a receipt leaves, and what a receipt does
abbrev position_left : ℕ → ℤ → ℕ → ℤ
position_left zero z c = pos c
position_left (suc n) z c = z

abbrev receipt_left : ℕ → ℤ → ℕ → ℕ → ℤ
receipt_left zero z c d = pos c
receipt_left (suc zero) z c d = pos d
receipt_left (suc (suc n)) z c d = z

never_zero : (n : ℕ) → (0 == suc n) ≡ false
never_zero n = ne_eqb 0 (suc n) (λ e. absurd (omega (arith, e)))

never_one : (n : ℕ) → (1 == suc (suc n)) ≡ false
never_one n = ne_eqb 1 (suc (suc n)) (λ e. absurd (omega (arith, e)))

position_is_left : (n : ℕ) (z : ℤ) (c : ℕ) → assigned_value n z (position_is c ∷ []) ≡ position_left n z c
position_is_left zero z c = refl
position_is_left (suc n) z c = cond-false (0 == suc n) (pos c) z (never_zero n)

receipt_is_left : (n : ℕ) (z : ℤ) (c d : ℕ) → assigned_value n z (position_is c ∷ seen_is d ∷ []) ≡ receipt_left n z c d
receipt_is_left zero z c d = refl
receipt_is_left (suc zero) z c d = refl
receipt_is_left (suc (suc n)) z c d =
    cond-false (1 == suc (suc n)) (pos d) (if 0 == suc (suc n) then pos c else z) (never_one n) ∙ cond-false (0 == suc (suc n)) (pos c) z (never_zero (suc n))

up_to : (a b : ℕ) → a ≤ b → pos a ≤ℤ pos b
up_to a b le = omega (arith, ints, le)

further : (z : ℤ) (a b : ℕ) → z ≤ℤ pos a → a ≤ b → z ≤ℤ pos b
further z a b low le = omega (arith, ints, low, le)

itself : (z : ℤ) → z ≤ℤ z
itself z = omega (arith, ints)

-- counts grow
within_more : (n p : ℕ) (q r : Process) (z : ℤ) → count q.clock p ≤ count r.clock p → q.seen ≤ r.seen → Within n q p z → Within n r p z
within_more zero p q r z clock seen h = further z (count q.clock p) (count r.clock p) h clock
within_more (suc zero) p q r z clock seen h = further z q.seen r.seen h seen
within_more (suc (suc n)) p q r z clock seen h = tt

position_step : (n p : ℕ) (q r : Process) (z : ℤ) (c : ℕ) → count q.clock p ≤ c → c ≤ count r.clock p → q.seen ≤ r.seen → Within n q p z
    → (z ≤ℤ position_left n z c) × Within n r p (position_left n z c)
position_step zero p q r z c low high seen h = (further z (count q.clock p) c h low, up_to c (count r.clock p) high)
position_step (suc zero) p q r z c low high seen h = (itself z, further z q.seen r.seen h seen)
position_step (suc (suc n)) p q r z c low high seen h = (itself z, tt)

receipt_step : (n p : ℕ) (q r : Process) (z : ℤ) (c d : ℕ) → count q.clock p ≤ c → c ≤ count r.clock p → q.seen ≤ d → d ≤ r.seen → Within n q p z
    → (z ≤ℤ receipt_left n z c d) × Within n r p (receipt_left n z c d)
receipt_step zero p q r z c d low high seen more h = (further z (count q.clock p) c h low, up_to c (count r.clock p) high)
receipt_step (suc zero) p q r z c d low high seen more h = (further z q.seen d h seen, up_to d r.seen more)
receipt_step (suc (suc n)) p q r z c d low high seen more h = (itself z, tt)

-- ---- one event

-- it leaves the variable no lower, and within what is counted then
record Rises (x : Variable) (m : Made) (z : ℤ) : Type 0 where
  up : z ≤ℤ left_by m.event x z
  held : Within x.number (process_at m.processes x.process) x.process (left_by m.event x z)

module _ (x : Variable) (ps : Processes) (z : ℤ) (here : Within x.number (process_at ps x.process) x.process z) where
  -- the event is of another process
  other_rises : (m : Made) → (m.event.process == x.process) ≡ false → Within x.number (process_at m.processes x.process) x.process z → Rises x m z
  other_rises m other held =
      let left : left_by m.event x z ≡ z = cond-false (m.event.process == x.process) (assigned_value x.number z m.event.assigns) z other in
      record {
        up = subst (λ (v : ℤ). z ≤ℤ v) (sym left) (itself z);
        held = subst (Within x.number (process_at m.processes x.process) x.process) (sym left) held;
      }

  -- it is of this one
  own_rises : (m : Made) (v : ℤ) → (m.event.process == x.process) ≡ true → assigned_value x.number z m.event.assigns ≡ v → z ≤ℤ v
      → Within x.number (process_at m.processes x.process) x.process v → Rises x m z
  own_rises m v own assigns up held =
      let left : left_by m.event x z ≡ v = cond-true (m.event.process == x.process) (assigned_value x.number z m.event.assigns) z own ∙ assigns in
      record {
        up = subst (λ (w : ℤ). z ≤ℤ w) (sym left) up;
        held = subst (Within x.number (process_at m.processes x.process) x.process) (sym left) held;
      }

  module _ (i : ℕ) (there : i < length ps) (wide : i < length (process_at ps i).clock) where
    here_at : i ≡ x.process → Within x.number (process_at ps i) i z
    here_at at = subst (λ (j : ℕ). Within x.number (process_at ps j) j z) (sym at) here

    -- at the process whose turn it is
    own_after : (r : Process) (v : ℤ) → i ≡ x.process → Within x.number r i v → Within x.number (process_at (set ps i r) x.process) x.process v
    own_after r v at held =
        subst (λ (j : ℕ). Within x.number (process_at (set ps i r) j) j v) at
        (subst (λ (q : Process). Within x.number q i v) (sym (get_or-set_same ps i r nobody there)) held)

    idle_after : (r : Process) → (i == x.process) ≡ false → Within x.number (process_at (set ps i r) x.process) x.process z
    idle_after r other =
        subst (λ (q : Process). Within x.number q x.process z) (sym (get_or-set_other ps i x.process r nobody (λ same. eqb-false i x.process other (sym same)))) here

    next_count : count (advanced (process_at ps i) i).clock i ≡ count (process_at ps i).clock i + 1
    next_count = with_next_same (process_at ps i).clock i wide

    internal_rises : (line : ℕ) → Rises x (internal i line ps) z
    internal_rises line = elim (cases_Bool (i == x.process)) [
      | inr other ↦ other_rises (internal i line ps) other (idle_after (advanced (process_at ps i) i) other)
      | inl own ↦
          let at = eqb-true i x.process own in
          let q = process_at ps i in
          let r = advanced q i in
          let step = position_step x.number i q r z (count r.clock i) (omega (arith, next_count)) (omega arith) (omega arith) (here_at at) in
          own_rises (internal i line ps) (position_left x.number z (count r.clock i)) own (position_is_left x.number z (count r.clock i)) step.0
          (own_after r (position_left x.number z (count r.clock i)) at step.1)
    ]

    receiving_rises : (line : ℕ) (m : Sent) (others : List Sent) → Rises x (receiving i line m others ps) z
    receiving_rises line m others =
        let q : Process = record (process_at ps i) { waiting = others } in
        let a = advanced q i in
        let r = received a m in
        elim (cases_Bool (i == x.process)) [
          | inr other ↦ other_rises (receiving i line m others ps) other (idle_after r other)
          | inl own ↦
              let at = eqb-true i x.process own in
              let c = count a.clock i in
              let d = r.seen in
              let step = receipt_step x.number i (process_at ps i) r z c d (omega (arith, next_count)) (max_right m.clock a.clock i) (omega arith) (omega arith) (here_at at) in
              own_rises (receiving i line m others ps) (receipt_left x.number z c d) own (receipt_is_left x.number z c d) step.0
              (own_after r (receipt_left x.number z c d) at step.1)
        ]

    taking_rises : (line : ℕ) (ms : List Sent) → Rises x (taking i line ms ps) z
    taking_rises line [] = internal_rises line
    taking_rises line (m ∷ others) = receiving_rises line m others

-- a message in a queue changes no count
with_message_held : (n p : ℕ) (ps : Processes) (to : ℕ) (m : Sent) (v : ℤ) → to < length ps → Within n (process_at ps p) p v → Within n (process_at (with_message ps to m) p) p v
with_message_held n p ps to m v there held = elim (cases_eq p to) [
  | inl same ↦
      let r : Process = record (process_at ps to) { waiting = (process_at ps to).waiting ++ m ∷ [] } in
      subst (λ (j : ℕ). Within n (process_at (with_message ps to m) j) j v) (sym same)
      (subst (λ (q : Process). Within n q to v) (sym (get_or-set_same ps to r nobody there))
      (within_more n to (process_at ps to) r v (omega arith) (omega arith) (subst (λ (j : ℕ). Within n (process_at ps j) j v) same held)))
  | inr other ↦ subst (λ (q : Process). Within n q p v) (sym (get_or-set_other ps to p _ nobody other)) held
]

sending_rises : (x : Variable) (ps : Processes) (z : ℤ) → Within x.number (process_at ps x.process) x.process z → (i line to id : ℕ) → i < length ps → i < length (process_at ps i).clock → to < length ps
    → Rises x (sending i line to id ps) z
sending_rises x ps z here i line to id there wide addressed =
    let r = advanced (process_at ps i) i in
    let m : Sent = record { sender = i; id = id; clock = r.clock } in
    let before = internal_rises x ps z here i there wide line in
    record { up = before.up; held = with_message_held x.number x.process (set ps i r) to m _ (omega (arith, addressed, length-set ps i r)) before.held }

-- event number k, whatever it is
made_rises : (procs : ℕ) (before : Events) (k w : ℕ) (ps : Processes) → 1 ≤ procs → Going procs before k ps
    → (x : Variable) (z : ℤ) → Within x.number (process_at ps x.process) x.process z → Rises x (made procs k w ps) z
made_rises procs before k w ps some going x z here =
    subst (λ (n : ℕ). Rises x (made n k w ps) z) going.all (elim (cases_lt 1 (w % 4)) [
      | inr low ↦ subst (λ (m : Made). Rises x m z) (sym (made_low k w ps low)) (taking_rises x ps z here i there wide (line_at k ps) (process_at ps i).waiting)
      | inl high ↦ elim (cases_Bool ((w % 4 == 3) && nat_le 2 (length ps))) [
        | inl send ↦ subst (λ (m : Made). Rises x m z) (sym (made_send k w ps high send)) (sent (leb-true 2 (length ps) (and_parts (w % 4 == 3) _ send).1))
        | inr other ↦ subst (λ (m : Made). Rises x m z) (sym (made_else k w ps high other)) (internal_rises x ps z here i there wide (line_at k ps))
      ]
    ])
  where
    i : ℕ
    i = turn k ps

    there : turn k ps < length ps
    there = omega (arith, mod-lt k {m = length ps} (omega (arith, going.all)))

    wide : turn k ps < length (process_at ps (turn k ps)).clock
    wide = omega (arith, there, (going.each (turn k ps) (omega (arith, there, going.all))).past.shaped, length-clocks_of before, going.tables, going.all)

    sent : 2 ≤ length ps → Rises x (sending (turn k ps) (line_at k ps) (peer (length ps) (turn k ps) w) k ps) z
    sent two = sending_rises x ps z here (turn k ps) (line_at k ps) (peer (length ps) (turn k ps) w) k there wide (peer_differs (length ps) (turn k ps) w there two).0

-- ---- all events

no_less : (a b : ℤ) → a ≤ℤ b → int_lt b a ≡ false
no_less a b h = grind (arith, ints)

module _ (procs : ℕ) (some : 1 ≤ procs) (few : procs ≤ most_processes) where
  abbrev states : Events → StatesView
  states before = record { header = header_of procs; events = before }

  whole : (before : Events) → length before ≡ procs → AreWhole (states before)
  whole before tables = record { header = header_known (header_of procs) (header_fits procs some few); events = tables ∙ sym (length-names 0 procs) }

  all_rise : (n k s : ℕ) (before : Events) (ps : Processes) → Going procs before k ps → (x : Variable) → IsVariable (states before) x
      → Within x.number (process_at ps x.process) x.process (value_now (states before) x) → fall_fault (states before) (x ∷ []) (events_from procs k n s ps) ≡ None
  unfolding events_from fall_fault
  all_rise zero k s before ps going x is held = refl
  all_rise (suc n) k s before ps going x is held =
      let m = made procs k (word s) ps in
      let e = m.event in
      let well = made_well procs before k (word s) ps some going in
      let left : value_now (states (with_event before e)) x ≡ left_by e x (value_now (states before) x) = value_left (states before) (whole before going.tables) x is e in
      let rises = made_rises procs before k (word s) ps some going x (value_now (states before) x) held in
      let up : value_now (states before) x ≤ℤ value_now (states (with_event before e)) x = subst (λ (v : ℤ). value_now (states before) x ≤ℤ v) (sym left) rises.up in
      let lowered : is_lowered (states before) e x ≡ false = no_less (value_now (states before) x) (value_now (states (with_event before e)) x) up in
      let rest = all_rise n (k + 1) (next_state s) (with_event before e) m.processes well.goes x (variable_behind (states before) e x is)
      (subst (Within x.number (process_at m.processes x.process) x.process) (sym left) rises.held) in
      rw lowered rest

  -- at first all are 0
  both_zero : (n : ℕ) → get_or (pos 0 ∷ pos 0 ∷ []) n (pos 0) ≡ pos 0
  both_zero zero = refl
  both_zero (suc zero) = refl
  both_zero (suc (suc n)) = refl

  zeros : (n i : ℕ) → count (replicate n 0) i ≡ 0
  zeros zero i = refl
  zeros (suc n) zero = refl
  zeros (suc n) (suc i) = zeros n i

  zero_within : (n p : ℕ) (q : Process) (z : ℤ) → z ≡ pos 0 → Within n q p z
  zero_within zero p q z none = further z 0 (count q.clock p) (subst (λ (v : ℤ). z ≤ℤ v) none (itself z)) (omega arith)
  zero_within (suc zero) p q z none = further z 0 q.seen (subst (λ (v : ℤ). z ≤ℤ v) none (itself z)) (omega arith)
  zero_within (suc (suc n)) p q z none = tt

  no_events_at : (n i : ℕ) → get_or (no_events n) i [] ≡ []
  no_events_at zero i = refl
  no_events_at (suc n) zero = refl
  no_events_at (suc n) (suc i) = no_events_at n i

  first_value : (x : Variable) → IsVariable (states (no_events procs)) x → value_now (states (no_events procs)) x ≡ pos 0
  unfolding run.state_from
  first_value x is =
      let tables = length-replicate procs [] in
      let there : x.process < procs = omega (arith, is.process, tables) in
      value_now_by (states (no_events procs)) (whole (no_events procs) tables) x is
      ∙ ap (value_behind (header_of procs) x) (no_events_at procs x.process)
      ∙ ap (λ (bs : List Binding). get_or (map (λ (v : run.Variable). v.value) (map variable_of bs)) x.number (pos 0)) (get_or-replicate procs x.process opening [] there)
      ∙ both_zero x.number

  pub made_rising : (seed events : ℕ) (x : Variable) → IsVariable (states (no_events procs)) x → fall_fault (states (no_events procs)) (x ∷ []) (generated_events seed procs events) ≡ None
  made_rising seed events x is =
      all_rise events 0 (first_state seed) (no_events procs) (at_rest procs) (start_going procs) x is (zero_within x.number x.process _ _ (first_value x is))
