-- Places of events and their marks.
use Rattle.std.proofs.Common.{◌≡◌, ℕ, zero, suc, ◌+◌, ◌<◌, Bool, true, false, ◌&&◌, List, [], ◌∷◌, length, map, take, get_or, refl, sym, ap, ◌∙◌, subst, arith, inl, inr, eq-eqb}
use Rattle.std.specs.Prelude.{◌==◌}
use Rattle.std.specs.List.{AllByRecursion, filter}
use Rattle.std.proofs.lemmas.Bool.{cases_Bool, and_parts, and_from, eqb-true}
use Rattle.std.proofs.lemmas.List.{get_or-map, length-map}
use Rattle.run_model.specs.Cut.{lengths}
use Rattle.pota_base.specs.declared.shape.EventId.{EventId}
use Rattle.pota_base.specs.Shape.{HasEvent}
use Rattle.event_log.specs.declared.log.Event.{Event}
use Rattle.event_log.specs.States.{StatesView}
use Rattle.run_model.specs.Consistent.{IsOrder}
use Rattle.report.specs.declared.report.Report.{Report}
use Rattle.vector_clock.specs.Events.{Events, own_events, clocks_of}
use Rattle.vector_clock.proofs.Receipts.{faultless_order}
use Rattle.view_parts.specs.Each.{places}
use Rattle.view_parts.specs.declared.extent.Extent.{Extent}
use Rattle.view_picture.specs.Choice.{is_place, is_wanted}
use Rattle.view_picture.specs.Shown.{is_shown, shown_events}
use Rattle.view_picture.proofs.Places.{places_there}
use Rattle.view_picture.proofs.Shown.{chosen_are_shown}
use Rattle.view_picture.specs.declared.svg.Point.{Point}
use Rattle.view_picture.specs.declared.frame.Frame.{Frame}
use Rattle.view_picture.specs.Columns.{Rows}
use Rattle.view_picture.specs.Frame.{at}
use Rattle.view_picture.specs.Laws.{times, AreApart}
use Rattle.view_picture.proofs.Apart.{marks_are_apart}
use Rattle.picture_laws.specs.Lines.{Ends, is_point, has_ends, times_drawn}
use Rattle.picture_laws.specs.Laws.{IsDrawable, IsMarked}

-- ---- lists

pub all_at : {A : Type 0} (P : A → Type 0) (xs : List A) (i : ℕ) (d : A) → AllByRecursion P xs → i < length xs → P (get_or xs i d)
all_at P [] i d all lt = absurd (omega (arith, lt))
all_at P (x ∷ xs) zero d all lt = all.0
all_at P (x ∷ xs) (suc i) d all lt = all_at P xs i d all.1 (omega (arith, lt))

pub all_take : {A : Type 0} (P : A → Type 0) (n : ℕ) (xs : List A) → AllByRecursion P xs → AllByRecursion P (take n xs)
all_take P zero xs all = tt
all_take P (suc n) [] all = tt
all_take P (suc n) (x ∷ xs) all = (all.0, all_take P n xs all.1)

-- ---- events that are there

pub lengths_are : (events : Events) → lengths (clocks_of events) ≡ map length events
unfolding lengths
lengths_are [] = refl
lengths_are (es ∷ events) =
    ap (λ (n : ℕ). n ∷ map length (clocks_of events)) (length-map es (λ (e : Event). e.clock)) ∙ ap (λ (l : List ℕ). length es ∷ l) (lengths_are events)

-- each event that is shown has a mark
pub all_marked : (s : StatesView) (rows : Rows) (es : List EventId) → AllByRecursion (HasEvent (map length s.events)) es → AllByRecursion (IsMarked s rows) (filter (is_shown rows) es)
all_marked s rows [] all = tt
all_marked s rows (e ∷ es) all = elim (cases_Bool (is_shown rows e)) [
  | inl shows ↦ rw shows (record { there = all.0; shown = shows }, all_marked s rows es all.1)
  | inr hides ↦ rw hides (all_marked s rows es all.1)
]

pub marked_there : (s : StatesView) (rows : Rows) → AllByRecursion (IsMarked s rows) (shown_events (map length s.events) rows)
marked_there s rows = all_marked s rows (places (map length s.events)) (places_there (map length s.events))

-- as many as the lengths say
pub own_count : (events : Events) (p : ℕ) → p < length events → get_or (map length events) p 0 ≡ length (own_events events p)
own_count events p lt = get_or-map length events p [] 0 lt

-- ---- one place, one mark

pub same_place : (e g : EventId) → e.process ≡ g.process → e.position ≡ g.position → e ≡ g
same_place e g h k = ap (λ (p : ℕ). record { process = p; position = e.position }) h ∙ ap (λ (a : ℕ). record { process = g.process; position = a }) k

pub place_is : (e g : EventId) → is_place e g ≡ true → g ≡ e
place_is e g h =
    let parts = and_parts (g.process == e.process) (g.position == e.position) h in
    same_place g e (eqb-true g.process e.process parts.0) (eqb-true g.position e.position parts.1)

pub place_itself : (e : EventId) → is_place e e ≡ true
place_itself e = and_from (e.process == e.process) (e.position == e.position) (eq-eqb e.process e.process refl) (eq-eqb e.position e.position refl)

pub point_itself : (p : Point) → is_point p p ≡ true
point_itself p = and_from (p.x == p.x) (p.y == p.y) (eq-eqb p.x p.x refl) (eq-eqb p.y p.y refl)

never_both : (p q : Point) → AreApart p q → p.x ≡ q.x → p.y ≡ q.y → ⊥
never_both p q (inl (inl h)) x y = absurd (omega arith)
never_both p q (inl (inr h)) x y = absurd (omega arith)
never_both p q (inr (inl h)) x y = absurd (omega arith)
never_both p q (inr (inr h)) x y = absurd (omega arith)

points_apart : (p q : Point) → AreApart p q → is_point p q ≡ false
points_apart p q apart = elim (cases_Bool (is_point p q)) [
  | inr other ↦ other
  | inl same ↦
      let parts = and_parts (p.x == q.x) (p.y == q.y) same in
      absurd (never_both p q apart (eqb-true p.x q.x parts.0) (eqb-true p.y q.y parts.1))
]

-- marks are at one point exactly where the events are one
pub mark_is : (s : StatesView) (f : Frame) (x : Extent) (r : Report) (rows : Rows) → IsDrawable s x r rows → (e g : EventId) → IsMarked s rows e → IsMarked s rows g → is_point (at f rows e) (at f rows g) ≡ is_place e g
mark_is s f x r rows drawable e g he hg = elim (cases_Bool (is_place e g)) [
  | inl same ↦ ap (λ (y : EventId). is_point (at f rows e) (at f rows y)) (place_is e g same) ∙ point_itself (at f rows e) ∙ sym same
  | inr other ↦
      points_apart (at f rows e) (at f rows g)
      (marks_are_apart (clocks_of s.events) (is_wanted s x r) f rows order drawable.columns e g (there e he.there) (there g hg.there) (wanted e he) (wanted g hg) (λ is. differ is other))
      ∙ sym other
]
  where
    order : IsOrder (clocks_of s.events)
    order = faultless_order (length s.header.procs) s.events drawable.faultless

    there : (y : EventId) → HasEvent (map length s.events) y → HasEvent (lengths (clocks_of s.events)) y
    there y h = subst (λ (l : List ℕ). HasEvent l y) (sym (lengths_are s.events)) h

    wanted : (y : EventId) → IsMarked s rows y → is_wanted s x r y ≡ true
    wanted y h = sym (chosen_are_shown (clocks_of s.events) (is_wanted s x r) rows order drawable.columns y (there y h.there)) ∙ h.shown

    differ : e ≡ g → is_place e g ≡ false → ⊥
    differ is other = let same : is_place e g ≡ true = ap (λ (y : EventId). is_place e y) (sym is) ∙ place_itself e in cc

-- ---- counting

pub second_false : (a b : Bool) → b ≡ false → (a && b) ≡ false
second_false true b h = h
second_false false b h = refl

pub counted : (l m : Ends) (ms : List Ends) → has_ends l m ≡ true → times_drawn l (m ∷ ms) ≡ times_drawn l ms + 1
counted l m ms h = rw h refl

pub not_counted : (l m : Ends) (ms : List Ends) → has_ends l m ≡ false → times_drawn l (m ∷ ms) ≡ times_drawn l ms
not_counted l m ms h = rw h refl

pub once_more : (e g : EventId) (gs : List EventId) → is_place e g ≡ true → times e (g ∷ gs) ≡ times e gs + 1
once_more e g gs h = rw h refl

pub not_more : (e g : EventId) (gs : List EventId) → is_place e g ≡ false → times e (g ∷ gs) ≡ times e gs
not_more e g gs h = rw h refl
