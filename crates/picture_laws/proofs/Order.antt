-- The order that a picture draws is that of what happened before.
use Rattle.std.proofs.Common.{◌≡◌, ℕ, zero, suc, ◌+◌, ◌-◌, ◌<◌, ◌≤◌, true, false, not, ◌&&◌, ◌⊎◌, List, length, map, refl, sym, ap, ◌∙◌, subst, arith, inl, inr, eq-eqb}
use Rattle.std.specs.Prelude.{◌==◌, nat_lt, nat_le, Option, None, Some}
use Rattle.std.proofs.lemmas.Bool.{cases_Bool, cases_eq, cases_lt, and_parts, and_from, false≢true, not-true, not_from_false, ne_eqb}
use Rattle.std.proofs.lemmas.Option.{none-some}
use Rattle.std.proofs.lemmas.List.{length-map}
use Rattle.run_model.specs.Cut.{Clocks, lengths}
use Rattle.run_model.specs.Consistent.{IsEvent, IsOrder, HappenedBefore}
use Rattle.run_model.proofs.Orders.{final_consistent, happened_before_transitive, earlier_happened_before}
use Rattle.causal_order.proofs.Orders.{event_there}
use Rattle.pota_base.specs.declared.shape.EventId.{EventId}
use Rattle.pota_base.specs.Shape.{HasEvent}
use Rattle.event_log.specs.States.{StatesView}
use Rattle.vector_clock.specs.Events.{clocks_of}
use Rattle.vector_clock.proofs.Growth.{length-clocks_of}
use Rattle.vector_clock.proofs.Receipts.{faultless_order}
use Rattle.report.specs.declared.report.Report.{Report}
use Rattle.view_parts.specs.declared.extent.Extent.{Extent}
use Rattle.view_parts.specs.Parts.{place}
use Rattle.view_picture.specs.Choice.{is_wanted}
use Rattle.view_picture.specs.Columns.{Rows, column}
use Rattle.view_picture.specs.Shown.{is_shown, last_shown}
use Rattle.view_picture.specs.Ties.{if_shown, send_of, shown_send, known, last_known, is_before, is_between, is_some_place, is_tied}
use Rattle.view_picture.proofs.Placing.{known_own, known_within, before_is_known, known_is_before}
use Rattle.view_picture.proofs.Shown.{less, is_less, no_less, chosen_are_shown, last_is_shown}
use Rattle.view_picture.proofs.Latest.{any_found, any_is}
use Rattle.picture_laws.specs.Laws.{IsDrawable, IsMarked}
use Rattle.picture_laws.specs.Order.{IsArrow, IsStep, LinesLead, line, lines, Before, OrderIsDrawn, TiesAreNeeded}
use Rattle.picture_laws.proofs.Places.{lengths_are, place_is, place_itself}
use Rattle.picture_laws.proofs.Mailed.{sent_before}

at_most : (a b : ℕ) → nat_le a b ≡ true → a ≤ b
at_most a b h = grind arith

is_at_most : (a b : ℕ) → a ≤ b → nat_le a b ≡ true
is_at_most a b h = grind arith

-- ---- what is known of a drawable run

order_of : (s : StatesView) (x : Extent) (r : Report) (rows : Rows) → IsDrawable s x r rows → IsOrder (clocks_of s.events)
order_of s x r rows drawable = faultless_order (length s.header.procs) s.events drawable.faultless

in_clocks : (s : StatesView) (e : EventId) → HasEvent (map length s.events) e → HasEvent (lengths (clocks_of s.events)) e
in_clocks s e h = subst (λ (l : List ℕ). HasEvent l e) (sym (lengths_are s.events)) h

of_clocks : (s : StatesView) (e : EventId) → HasEvent (lengths (clocks_of s.events)) e → HasEvent (map length s.events) e
of_clocks s e h = subst (λ (l : List ℕ). HasEvent l e) (lengths_are s.events) h

event_of : (s : StatesView) (rows : Rows) (e : EventId) → IsMarked s rows e → IsEvent (lengths (clocks_of s.events)) e.process e.position
event_of s rows e m = event_there (clocks_of s.events) e (in_clocks s e m.there)

wanted_of : (s : StatesView) (x : Extent) (r : Report) (rows : Rows) → IsDrawable s x r rows → (e : EventId) → IsMarked s rows e → is_wanted s x r e ≡ true
wanted_of s x r rows drawable e m = sym (chosen_are_shown (clocks_of s.events) (is_wanted s x r) rows (order_of s x r rows drawable) drawable.columns e (in_clocks s e m.there)) ∙ m.shown

-- what happened before a shown event is in a lower column
lower_column : (s : StatesView) (x : Extent) (r : Report) (rows : Rows) → IsDrawable s x r rows → (e g : EventId) → IsMarked s rows g → Before s e g → column rows e.process e.position < column rows g.process g.position
lower_column s x r rows drawable e g m before = drawable.columns.before e.process e.position g.process g.position (wanted_of s x r rows drawable g m) before

-- the last shown one of a process that is known of an event is there
known_marked : (s : StatesView) (x : Extent) (r : Report) (rows : Rows) → IsDrawable s x r rows → (g : EventId) → IsMarked s rows g → (p : ℕ) → p < length s.events → 0 < last_shown rows p (known (clocks_of s.events) g p)
    → IsMarked s rows (last_known (clocks_of s.events) rows g p)
known_marked s x r rows drawable g m p there some =
    let o = clocks_of s.events in
    let order = order_of s x r rows drawable in
    let last = last_is_shown rows p (known o g p) in
    let within = known_within o order (lengths o) (final_consistent o order) g.process g.position (event_of s rows g m) p in
    let here : HasEvent (lengths o) (last_known o rows g p) = record { process = omega (arith, there, ap (λ (l : List ℕ). length l) (lengths_are s.events), length-map-events s); first = omega (arith, some); last = omega (arith, last.within, within) } in
    record { there = of_clocks s (last_known o rows g p) here; shown = last.itself some }
  where
    length-map-events : (t : StatesView) → length (map length t.events) ≡ length t.events
    length-map-events t = length-map t.events length

-- and it happened before that one
known_before : (s : StatesView) (x : Extent) (r : Report) (rows : Rows) → IsDrawable s x r rows → (e g : EventId) → IsMarked s rows e → IsMarked s rows g → e.position ≤ known (clocks_of s.events) g e.process → Before s e g
known_before s x r rows drawable e g he hg le = known_is_before (clocks_of s.events) (order_of s x r rows drawable) e.process e.position g.process g.position (event_of s rows e he) (event_of s rows g hg) le

-- ---- along a line

-- a shown event is no later than the last shown one
no_later : (rows : Rows) (p a n : ℕ) → is_shown rows (place p a) ≡ true → a ≤ n → a ≤ last_shown rows p n
no_later rows p a n shows le = elim (cases_lt (last_shown rows p n) a) [
  | inl lt ↦ absurd (false≢true (sym ((last_is_shown rows p n).behind a lt le) ∙ shows))
  | inr ge ↦ ge
]

along : (s : StatesView) (rows : Rows) (n p a b : ℕ) → b ≤ n → IsMarked s rows (place p a) → IsMarked s rows (place p b) → a ≤ b → (a ≡ b) ⊎ LinesLead s rows (place p a) (place p b)
along s rows zero p a b few ha hb le = absurd (omega (arith, few, hb.there.first))
along s rows (suc n) p a b few ha hb le = elim (cases_eq a b) [
  | inl same ↦ inl same
  | inr other ↦ inr (
      let c = last_shown rows p (b - 1) in
      let up : a ≤ c = no_later rows p a (b - 1) ha.shown (omega (arith, le, other)) in
      let last = last_is_shown rows p (b - 1) in
      let some : 0 < c = omega (arith, up, ha.there.first) in
      let hc : IsMarked s rows (place p c) = record { there = record { process = hb.there.process; first = omega (arith, some); last = omega (arith, last.within, hb.there.last) }; shown = last.itself some } in
      let next : LinesLead s rows (place p c) (place p b) = line (place p c) (place p b) hc hb (inl (refl, refl)) in
      elim (along s rows n p a c (omega (arith, last.within, few, hb.there.first)) ha hc up) [
        | inl same ↦ subst (λ (k : ℕ). LinesLead s rows (place p k) (place p b)) (sym same) next
        | inr led ↦ lines (place p a) (place p c) (place p b) led next
      ])
]

-- ---- from what is known

some_send : (e : EventId) (o : Option EventId) → is_some_place e o ≡ true → o ≡ Some e
some_send e None h = cc
some_send e (Some f) h = ap (λ (y : EventId). Some y) (place_is e f h)

-- why the last shown event of another process that is known has no tie
untied : (s : StatesView) (rows : Rows) (g : EventId) (p : ℕ) → is_tied s rows g p ≡ false → (p ≡ g.process → ⊥) → 0 < last_shown rows p (known (clocks_of s.events) g p)
    → (IsArrow s rows (last_known (clocks_of s.events) rows g p) g) ⊎ (is_between (clocks_of s.events) rows (last_known (clocks_of s.events) rows g p) g ≡ true)
untied s rows g p none ne some = elim (cases_Bool (is_some_place last (shown_send s rows g))) [
  | inl sent ↦ inl (some_send last (shown_send s rows g) sent)
  | inr unsent ↦ elim (cases_Bool (is_between o rows last g)) [
    | inl between ↦ inr between
    | inr clear ↦ absurd (false≢true (sym none ∙ tied unsent clear))
  ]
]
  where
    o : Clocks
    o = clocks_of s.events

    last : EventId
    last = last_known o rows g p

    tied : is_some_place last (shown_send s rows g) ≡ false → is_between o rows last g ≡ false → is_tied s rows g p ≡ true
    tied unsent clear =
        let apart : (p == g.process) ≡ false = ne_eqb p g.process ne in
        let there : nat_lt 0 last.position ≡ true = less 0 last.position some in
        let sent_is = is_some_place last (shown_send s rows g) in
        let between_is = is_between o rows last g in
        and_from (not (p == g.process)) (nat_lt 0 last.position && (not sent_is && not between_is)) (not_from_false (p == g.process) apart)
        (and_from (nat_lt 0 last.position) (not sent_is && not between_is) there (and_from (not sent_is) (not between_is) (not_from_false sent_is unsent) (not_from_false between_is clear)))

-- lines lead between shown events that are so many columns from each other, where one happened before the other
abbrev Nearer : StatesView → Rows → ℕ → Type 0
Nearer s rows n = (e g : EventId) → IsMarked s rows e → IsMarked s rows g → Before s e g → column rows g.process g.position ≤ column rows e.process e.position + n → LinesLead s rows e g

-- between two shown events of which one happened before the other, lines lead
lead : (s : StatesView) (x : Extent) (r : Report) (rows : Rows) → IsDrawable s x r rows → (n : ℕ) (e g : EventId) → IsMarked s rows e → IsMarked s rows g → Before s e g
    → column rows g.process g.position ≤ column rows e.process e.position + n → LinesLead s rows e g
lead s x r rows drawable zero e g he hg before few = absurd (omega (arith, lower_column s x r rows drawable e g hg before, few))
lead s x r rows drawable (suc n) e g he hg before few =
    let again : Nearer s rows n = λ a b ha hb first near. lead s x r rows drawable n a b ha hb first near in
    elim (along s rows u.position e.process e.position u.position (omega arith) he hu up) [
      | inl same ↦ subst (λ (k : ℕ). LinesLead s rows (place e.process k) g) (sym same) (from_u again)
      | inr led ↦ lines e u g led (from_u again)
    ]
  where
    o : Clocks
    o = clocks_of s.events

    order : IsOrder o
    order = order_of s x r rows drawable

    u : EventId
    u = last_known o rows g e.process

    le : e.position ≤ known o g e.process
    le = before_is_known o order e.process e.position g.process g.position before

    up : e.position ≤ u.position
    up = no_later rows e.process e.position (known o g e.process) he.shown le

    some : 0 < u.position
    some = omega (arith, up, he.there.first)

    known_process : e.process < length s.events
    known_process = omega (arith, he.there.process, length-map s.events length)

    hu : IsMarked s rows u
    hu = known_marked s x r rows drawable g hg e.process known_process some

    not_lower : column rows e.process e.position ≤ column rows u.process u.position
    not_lower = no_less o (is_wanted s x r) rows order drawable.columns e.process e.position u.position up (event_of s rows u hu).1

    by_way : Nearer s rows n → is_between o rows u g ≡ true → LinesLead s rows u g
    by_way again between =
        let found = any_is (λ p. is_before o u (last_known o rows g p)) (length o) between in
        let f = last_known o rows g found.0 in
        let both = and_parts (nat_lt 0 f.position) (nat_le u.position (known o f u.process)) found.2 in
        let hf : IsMarked s rows f = known_marked s x r rows drawable g hg found.0 (omega (arith, found.1, length-clocks_of s.events)) (is_less 0 f.position both.0) in
        let first : Before s u f = known_before s x r rows drawable u f hu hf (at_most u.position (known o f u.process) both.1) in
        let second : Before s f g = known_before s x r rows drawable f g hf hg ((last_is_shown rows found.0 (known o g found.0)).within) in
        let lower_f = lower_column s x r rows drawable u f hf first in
        let lower_g = lower_column s x r rows drawable f g hg second in
        lines u f g (again u f hu hf first (omega (arith, few, not_lower, lower_g))) (again f g hf hg second (omega (arith, few, not_lower, lower_f)))

    from_u : Nearer s rows n → LinesLead s rows u g
    from_u again = elim (cases_eq e.process g.process) [
      | inl same ↦
          let own : known o g e.process ≡ g.position - 1 = subst (λ (p : ℕ). known o g p ≡ g.position - 1) (sym same) (known_own o g.process g.position) in
          line u g hu hg (inl (same, ap (last_shown rows e.process) own ∙ ap (λ (p : ℕ). last_shown rows p (g.position - 1)) same))
      | inr other ↦ elim (cases_Bool (is_tied s rows g e.process)) [
        | inl tied ↦ line u g hu hg (inr (inr (record { process = e.process; there = known_process; tied = tied; from = refl })))
        | inr none ↦ elim (untied s rows g e.process none other some) [
          | inl arrow ↦ line u g hu hg (inr (inl arrow))
          | inr between ↦ by_way again between
        ]
      ]
    ]

-- ---- the other way round

shown_is_sent : (rows : Rows) (o : Option EventId) (e : EventId) → if_shown rows o ≡ Some e → o ≡ Some e
shown_is_sent rows None e h = h
shown_is_sent rows (Some f) e h = elim (cases_Bool (is_shown rows f)) [
  | inl shows ↦ sym (if_is shows) ∙ h
  | inr hides ↦ absurd (none-some e (sym (if_not hides) ∙ h))
]
  where
    if_is : is_shown rows f ≡ true → if_shown rows (Some f) ≡ Some f
    if_is shows = rw shows refl

    if_not : is_shown rows f ≡ false → if_shown rows (Some f) ≡ None
    if_not hides = rw hides refl

step_before : (s : StatesView) (x : Extent) (r : Report) (rows : Rows) → IsDrawable s x r rows → (e g : EventId) → IsMarked s rows e → IsMarked s rows g → IsStep s rows e g → Before s e g
step_before s x r rows drawable e g he hg (inl next) =
    let o = clocks_of s.events in
    let last = last_is_shown rows g.process (g.position - 1) in
    subst (λ (p : ℕ). HappenedBefore o p e.position g.process g.position) (sym next.0)
    (earlier_happened_before o (order_of s x r rows drawable) g.process e.position g.position (event_of s rows g hg) (omega (arith, he.there.first)) (omega (arith, next.1, last.within, hg.there.first)))
step_before s x r rows drawable e g he hg (inr (inl arrow)) = sent_before s drawable.faultless e g hg.there (shown_is_sent rows (send_of s g) e arrow)
step_before s x r rows drawable e g he hg (inr (inr tie)) =
    let o = clocks_of s.events in
    let within : (last_known o rows g tie.process).position ≤ known o g tie.process = (last_is_shown rows tie.process (known o g tie.process)).within in
    known_before s x r rows drawable e g he hg (subst (λ (f : EventId). f.position ≤ known o g f.process) (sym tie.from) within)

led_before : (s : StatesView) (x : Extent) (r : Report) (rows : Rows) → IsDrawable s x r rows → (e g : EventId) → LinesLead s rows e g → Before s e g
led_before s x r rows drawable e g (line _ _ he hg step) = step_before s x r rows drawable e g he hg step
led_before s x r rows drawable e g (lines _ f _ first second) =
    happened_before_transitive (clocks_of s.events) (order_of s x r rows drawable) e.process e.position f.process f.position g.process g.position (led_before s x r rows drawable e f first) (led_before s x r rows drawable f g second)

pub order_is_drawn : OrderIsDrawn
order_is_drawn s x r rows drawable e g he hg = (
  λ before. lead s x r rows drawable (column rows g.process g.position) e g he hg before (omega arith),
  λ led. led_before s x r rows drawable e g led,
)

-- ---- ties

pub ties_are_needed : TiesAreNeeded
ties_are_needed s x r rows drawable e g hg tie = record {
  marked = he;
  before = step_before s x r rows drawable e g he hg (inr (inr tie));
  other_line = λ same. false≢true (sym (not-true (p == g.process) parts.0) ∙ eq-eqb p g.process (sym (ap (λ (f : EventId). f.process) tie.from) ∙ same));
  no_arrow = λ arrow. false≢true (sym (not-true (is_some_place last (shown_send s rows g)) rest.0)
      ∙ ap (is_some_place last) (arrow ∙ ap (λ (f : EventId). Some f) tie.from) ∙ place_itself last);
  nothing_between = λ f hf first second. false≢true (sym (not-true (is_between o rows last g) rest.1) ∙ between f hf first second);
}
  where
    o : Clocks
    o = clocks_of s.events

    order : IsOrder o
    order = order_of s x r rows drawable

    p : ℕ
    p = tie.process

    last : EventId
    last = last_known o rows g p

    parts : (not (p == g.process) ≡ true) × ((nat_lt 0 last.position && (not (is_some_place last (shown_send s rows g)) && not (is_between o rows last g))) ≡ true)
    parts = and_parts (not (p == g.process)) (nat_lt 0 last.position && (not (is_some_place last (shown_send s rows g)) && not (is_between o rows last g))) tie.tied

    there : (nat_lt 0 last.position ≡ true) × ((not (is_some_place last (shown_send s rows g)) && not (is_between o rows last g)) ≡ true)
    there = and_parts (nat_lt 0 last.position) (not (is_some_place last (shown_send s rows g)) && not (is_between o rows last g)) parts.1

    rest : (not (is_some_place last (shown_send s rows g)) ≡ true) × (not (is_between o rows last g) ≡ true)
    rest = and_parts (not (is_some_place last (shown_send s rows g))) (not (is_between o rows last g)) there.1

    hl : IsMarked s rows last
    hl = known_marked s x r rows drawable g hg p tie.there (is_less 0 last.position there.0)

    he : IsMarked s rows e
    he = subst (λ (f : EventId). IsMarked s rows f) (sym tie.from) hl

    between : (f : EventId) → IsMarked s rows f → Before s e f → Before s f g → is_between o rows last g ≡ true
    between f hf first second =
        let k = f.process in
        let w = last_known o rows g k in
        let le : f.position ≤ known o g k = before_is_known o order f.process f.position g.process g.position second in
        let up : f.position ≤ w.position = no_later rows k f.position (known o g k) hf.shown le in
        let some : 0 < w.position = omega (arith, up, hf.there.first) in
        let there_k : k < length s.events = omega (arith, hf.there.process, length-map s.events length) in
        let hw : IsMarked s rows w = known_marked s x r rows drawable g hg k there_k some in
        let to_f : Before s last f = subst (λ (y : EventId). Before s y f) tie.from first in
        let to_w : Before s last w = elim (cases_eq f.position w.position) [
          | inl same ↦ subst (λ (a : ℕ). Before s last (place k a)) same to_f
          | inr other ↦
              happened_before_transitive o order last.process last.position k f.position k w.position to_f (earlier_happened_before o order k f.position w.position (event_of s rows w hw) (omega (arith, hf.there.first)) (omega (arith, up, other)))
        ] in
        any_found (λ q. is_before o last (last_known o rows g q)) (length o) k (omega (arith, there_k, length-clocks_of s.events))
        (and_from (nat_lt 0 w.position) (nat_le last.position (known o w last.process)) (less 0 w.position some) (is_at_most last.position (known o w last.process) (before_is_known o order last.process last.position k w.position to_w)))
