-- The ties of a picture are those of its shown events.
use Rattle.std.proofs.Common.{◌≡◌, ℕ, zero, suc, ◌+◌, ◌<◌, ◌≤◌, Bool, true, false, List, [], ◌∷◌, ◌++◌, length, map, refl, sym, ap, ◌∙◌, subst, arith, inl, inr}
use Rattle.std.specs.Prelude.{if◌then◌else◌}
use Rattle.std.specs.List.{AllByRecursion, flat_map}
use Rattle.std.proofs.lemmas.Bool.{cases_Bool, cases_eq, and_from}
use Rattle.pota_base.specs.declared.shape.EventId.{EventId}
use Rattle.event_log.specs.States.{StatesView}
use Rattle.event_log.proofs.Lists.{all_append}
use Rattle.vector_clock.specs.Events.{clocks_of}
use Rattle.slice_graph.specs.declared.edges.Edge.{Edge}
use Rattle.view_parts.specs.Each.{each_below}
use Rattle.view_picture.specs.Choice.{is_place}
use Rattle.view_picture.specs.Columns.{Rows}
use Rattle.view_picture.specs.Shown.{shown_events}
use Rattle.view_picture.specs.Ties.{last_known, is_tied, tie_from, ties_to, ties_of}
use Rattle.view_picture.specs.Laws.{times}
use Rattle.view_picture.proofs.Once.{shown_events_once}
use Rattle.view_picture.proofs.Tied.{a_tie, no_tie}
use Rattle.picture_laws.specs.Lines.{is_edge, times_listed}
use Rattle.picture_laws.specs.Laws.{IsMarked}
use Rattle.picture_laws.specs.Order.{IsTie, TiesAreListed}
use Rattle.picture_laws.proofs.Places.{marked_there, place_is, place_itself}

abbrev IsATie : StatesView → Rows → Edge → Type 0
IsATie s rows t = IsMarked s rows t.effect × IsTie s rows t.cause t.effect

one_tie : (s : StatesView) (rows : Rows) (g : EventId) → IsMarked s rows g → (p : ℕ) → p < length s.events → AllByRecursion (IsATie s rows) (tie_from s rows g p)
one_tie s rows g hg p lt = elim (cases_Bool (is_tied s rows g p)) [
  | inl tied ↦ subst (λ (l : List Edge). AllByRecursion (IsATie s rows) l) (sym (a_tie s rows g p tied)) ((hg, record { process = p; there = lt; tied = tied; from = refl }), tt)
  | inr none ↦ subst (λ (l : List Edge). AllByRecursion (IsATie s rows) l) (sym (no_tie s rows g p none)) tt
]

own_ties : (s : StatesView) (rows : Rows) (g : EventId) → IsMarked s rows g → (n : ℕ) → n ≤ length s.events → AllByRecursion (IsATie s rows) (each_below n (tie_from s rows g))
own_ties s rows g hg zero le = tt
own_ties s rows g hg (suc n) le =
    all_append (IsATie s rows) (each_below n (tie_from s rows g)) (tie_from s rows g n) (own_ties s rows g hg n (omega (arith, le))) (one_tie s rows g hg n (omega (arith, le)))

all_ties : (s : StatesView) (rows : Rows) (es : List EventId) → AllByRecursion (IsMarked s rows) es → AllByRecursion (IsATie s rows) (flat_map (ties_to s rows) es)
all_ties s rows [] all = tt
all_ties s rows (e ∷ es) all = all_append (IsATie s rows) (ties_to s rows e) (flat_map (ties_to s rows) es) (own_ties s rows e all.0 (length s.events) (omega arith)) (all_ties s rows es all.1)

-- ---- each is listed

listed-append : (t : Edge) (xs ys : List Edge) → times_listed t (xs ++ ys) ≡ times_listed t xs + times_listed t ys
listed-append t [] ys = omega arith
listed-append t (y ∷ xs) ys = elim (cases_Bool (is_edge t y)) [
  | inl here ↦ rw here (let more = listed-append t xs ys in omega (arith, more))
  | inr other ↦ rw other (listed-append t xs ys)
]

itself : (t : Edge) → times_listed t (t ∷ []) ≡ 1
itself t =
    let here : is_edge t t ≡ true = and_from (is_place t.cause t.cause) (is_place t.effect t.effect) (place_itself t.cause) (place_itself t.effect) in
    rw here refl

own_listed : (s : StatesView) (rows : Rows) (g : EventId) (p n : ℕ) → p < n → is_tied s rows g p ≡ true → 1 ≤ times_listed (record { cause = last_known (clocks_of s.events) rows g p; effect = g }) (each_below n (tie_from s rows g))
own_listed s rows g p zero lt tied = absurd (omega (arith, lt))
own_listed s rows g p (suc n) lt tied =
    let t : Edge = record { cause = last_known (clocks_of s.events) rows g p; effect = g } in
    let split = listed-append t (each_below n (tie_from s rows g)) (tie_from s rows g n) in
    elim (cases_eq p n) [
      | inl same ↦
          let here : times_listed t (tie_from s rows g p) ≡ 1 = ap (times_listed t) (a_tie s rows g p tied) ∙ itself t in
          let last : times_listed t (tie_from s rows g n) ≡ 1 = subst (λ (k : ℕ). times_listed t (tie_from s rows g k) ≡ 1) same here in
          omega (arith, split, last)
      | inr other ↦ omega (arith, split, own_listed s rows g p n (omega (arith, lt, other)) tied)
    ]

among_listed : (s : StatesView) (rows : Rows) (t : Edge) → 1 ≤ times_listed t (ties_to s rows t.effect) → (es : List EventId) → 1 ≤ times t.effect es → 1 ≤ times_listed t (flat_map (ties_to s rows) es)
among_listed s rows t own [] some = absurd (omega (arith, some))
among_listed s rows t own (e ∷ es) some =
    let split = listed-append t (ties_to s rows e) (flat_map (ties_to s rows) es) in
    elim (cases_Bool (is_place t.effect e)) [
      | inl here ↦
          let first : 1 ≤ times_listed t (ties_to s rows e) = subst (λ (y : EventId). 1 ≤ times_listed t (ties_to s rows y)) (sym (place_is t.effect e here)) own in
          omega (arith, split, first)
      | inr other ↦ omega (arith, split, among_listed s rows t own es (subst (λ (n : ℕ). 1 ≤ n) (passed other) some))
    ]
  where
    passed : is_place t.effect e ≡ false → times t.effect (e ∷ es) ≡ times t.effect es
    passed other = rw other refl

pub ties_are_listed : TiesAreListed
ties_are_listed s rows = record {
  each = all_ties s rows (shown_events (map length s.events) rows) (marked_there s rows);
  all = λ e g hg tie.
      let last = last_known (clocks_of s.events) rows g tie.process in
      let t : Edge = record { cause = last; effect = g } in
      let own : 1 ≤ times_listed t (ties_to s rows g) = own_listed s rows g tie.process (length s.events) tie.there tie.tied in
      let once : times g (shown_events (map length s.events) rows) ≡ 1 = shown_events_once (map length s.events) rows g hg.there ∙ ap (λ (b : Bool). if b then 1 else 0) hg.shown in
      subst (λ (f : EventId). 1 ≤ times_listed (record { cause = f; effect = g }) (ties_of s rows)) (sym tie.from) (among_listed s rows t own (shown_events (map length s.events) rows) (omega (arith, once)));
}
