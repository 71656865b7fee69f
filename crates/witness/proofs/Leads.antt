-- Why a walk never sticks, and how its steps grow.
use Rattle.std.proofs.Common.{◌≡◌, ℕ, zero, suc, ◌+◌, ◌-◌, ◌<◌, ◌≤◌, List, [], ◌∷◌, ◌++◌, length, map, sum, refl, sym, ap, subst, ◌∙◌, arith, inl, inr}
use Rattle.std.specs.Prelude.{◌↔◌, IsTrue, Bool, true, Option}
use Rattle.std.proofs.lemmas.Bool.{cases_lt}
use Rattle.std.proofs.lemmas.List.{map_push}
use Rattle.run_model.specs.Cut.{Cut, Clocks, count, IsWithin, max_cut, with_next, lengths, initial}
use Rattle.run_model.specs.Consistent.{clock, IsEvent, IsOrder, IsConsistent}
use Rattle.run_model.specs.Sublattice.{IsLeast, Having}
use Rattle.run_model.specs.Slice.{Slice, HasWithin, Cuts, Fits, cut_of}
use Rattle.run_model.specs.Operators.{HasPairs}
use Rattle.run_model.specs.Witness.{Place, FirstSteps, IsPlace, IsBefore, row_at}
use Rattle.run_model.proofs.Counts.{count-max, length-max, within_both, max_left, max_right, max_within, length-with_next, with_next_same, with_next_above, with_next_least, total, total_next, total_within, length-lengths, count-initial, length-initial}
use Rattle.meaning_laws.proofs.Climb.{IsClimbable, Apart, next_exists, reached}
use Rattle.run_model.proofs.SliceLemmas.{least_there, cuts_closed}
use Rattle.meaning_laws.proofs.OperatorLemmas.{Below, below_climbable, below_apart, set_climbable, pairs_apart}
use Rattle.pota_base.specs.declared.shape.EventId.{EventId}
use Rattle.pota_base.specs.Limits.{most_events}
use Rattle.event_log.proofs.Keeping.{item_le_sum}
use Rattle.slice_graph.specs.Views.{SliceView, slice_of, last_row}
use Rattle.slice_graph.specs.Words.{row_words}
use Rattle.slice_graph.specs.Fitting.{FitsOrder}
use Rattle.slice_graph.proofs.Words.{filled_within}
use Rattle.witness.specs.inside.Walks.{IsNext, HasNoNext, LeadsTo}
use Rattle.witness.specs.Views.{place_of, places_of}
use Rattle.witness.specs.inside.Twins.{IsOperand}

-- ---- sets in which a walk leads to the greatest cut

climbs : (o : Clocks) (A : Cut → Type 0) (t : Cut) (join : ℕ → ℕ → Cut) → IsClimbable o A t join → ((c : Cut) → A c → Apart t join c) → LeadsTo A t
climbs o A t join k apart = record {
  stops = λ c member none. reached o A t join k c member (λ j there. elim (cases_lt (count c j) (count t j)) [
    | inl lacks ↦ let n = next_exists o A t join k c member (apart c member) j lacks in absurd (none n.0 n.1 n.3)
    | inr has ↦ has
  ]);
  within = λ c member. k.top.greatest c member;
}

pub below_leads : (o : Clocks) → IsOrder o → (d : Cut) → IsConsistent o d → LeadsTo (Below o d) d
below_leads o order d k = climbs o (Below o d) d (clock o) (below_climbable o order d k) (λ c h. below_apart o order c d k)

pub slice_leads : (o : Clocks) → IsOrder o → (s : Slice) → Fits o s → Cuts o s (lengths o) → ((c : Cut) → HasPairs o s c) → LeadsTo (Cuts o s) (lengths o)
slice_leads o order s fits final pairs =
    let closed = cuts_closed o order s in
    climbs o (Cuts o s) (lengths o) (λ i a. cut_of (s.row i a)) (set_climbable o (Cuts o s) closed s fits final) (λ c h. pairs_apart o (Cuts o s) closed s fits final c (pairs c))

-- ---- steps

pub steps_last : (A : Cut → Type 0) (c : Cut) (es : List Place) (d : Cut) → FirstSteps A c es d → A d
steps_last A c [] d p = subst A p.1 p.0
steps_last A c (e ∷ es) d p = steps_last A (with_next c e.process) es d p.4

one_step : (A : Cut → Type 0) (d : Cut) (e : Place) → A d → IsNext A d e.process → e.position ≡ count d e.process + 1 → FirstSteps A d (e ∷ []) (with_next d e.process)
one_step A d e member next position = (member, next.there, position, next.first, (next.leads, refl))

steps_more : (A : Cut → Type 0) (c : Cut) (es : List Place) (d : Cut) (e : Place) → FirstSteps A c es d → IsNext A d e.process → e.position ≡ count d e.process + 1 → FirstSteps A c (es ++ e ∷ []) (with_next d e.process)
steps_more A c [] d e p next position = subst (λ (x : Cut). FirstSteps A x (e ∷ []) (with_next d e.process)) (sym p.1) (one_step A d e (subst A p.1 p.0) next position)
steps_more A c (f ∷ es) d e p next position = (p.0, p.1, p.2, p.3, steps_more A (with_next c f.process) es d e p.4 next position)

-- a turn of the walk
pub turn : (A : Cut → Type 0) (start : Cut) (steps more : List EventId) (at after : Cut) (process : ℕ) (event : EventId) → FirstSteps A start (places_of steps) at → IsNext A at process
    → after ≡ with_next at process → event ≡ record { process = process; position = count at process + 1 } → more ≡ steps ++ event ∷ [] → FirstSteps A start (places_of more) after
turn A start steps more at after process event so_far next taken is pushed =
    let made : EventId = record { process = process; position = count at process + 1 } in
    let grown = steps_more A start (places_of steps) at (place_of made) so_far next refl in
    let places : places_of more ≡ places_of steps ++ place_of made ∷ [] = ap places_of (pushed ∙ ap (λ (e : EventId). steps ++ e ∷ []) is) ∙ map_push place_of steps made in
    subst (λ (es : List Place). FirstSteps A start es after) (sym places) (subst (λ (c : Cut). FirstSteps A start (places_of steps ++ place_of made ∷ []) c) (sym taken) grown)

-- the count of a process has room for one more
pub room : (A : Cut → Type 0) (goal at : Cut) (process : ℕ) → LeadsTo A goal → IsNext A at process → ((i : ℕ) → count goal i ≤ most_events) → count at process < most_events
room A goal at process leads next small = omega (arith, leads.within (with_next at process) next.leads process, with_next_same at process next.there, small process)

pub nearer : (A : Cut → Type 0) (goal at after : Cut) (process : ℕ) → LeadsTo A goal → IsNext A at process → after ≡ with_next at process → total goal - total after < total goal - total at
nearer A goal at after process leads next taken =
    omega (arith, ap total taken, total_next at process next.there, total_within (with_next at process) goal (leads.within (with_next at process) next.leads))

pub arrived : (A : Cut → Type 0) (start goal at : Cut) (es : List Place) → LeadsTo A goal → FirstSteps A start es at → HasNoNext A at → FirstSteps A start es goal
arrived A start goal at es leads steps none = subst (λ (c : Cut). FirstSteps A start es c) (leads.stops at (steps_last A start es at steps) none) steps

-- ---- a step to a goal

-- ---- a step through a slice is one look-up

max_is_next : (c j : Cut) (i : ℕ) → i < length c → length j ≡ length c → IsWithin j (with_next c i) → count c i + 1 ≤ count j i → max_cut c j ≡ with_next c i
max_is_next c j i lt same within has =
    within_both (max_cut c j) (with_next c i) (omega (arith, length-max c j, length-with_next c i))
    (max_within c j (with_next c i) (with_next_above c i lt) within)
    (with_next_least c (max_cut c j) i lt (max_left c j) (omega (arith, max_right c j i)))

row_leads : (o : Clocks) → IsOrder o → (s : Slice) → Fits o s → (c : Cut) → Cuts o s c → (i : ℕ) → i < length c → IsEvent (lengths o) i (count c i + 1) → HasWithin (s.row i (count c i + 1)) (with_next c i) → Cuts o s (with_next c i)
row_leads o order s fits c member i lt event h =
    let row = least_there (Having (Cuts o s) i (count c i + 1)) (s.row i (count c i + 1)) (with_next c i) (fits.rows i (count c i + 1) event) h in
    let least = row.2 in
    subst (Cuts o s) (max_is_next c row.0 i lt (least.member.0.consistent.shaped ∙ sym member.consistent.shaped) row.3 least.member.1) ((cuts_closed o order s).has_max c row.0 member least.member.0)

leads_row : (o : Clocks) (s : Slice) (c : Cut) (i : ℕ) → i < length c → Cuts o s (with_next c i) → HasWithin (s.row i (count c i + 1)) (with_next c i)
leads_row o s c i lt next = next.rows i (count c i + 1) (omega arith, omega (arith, with_next_same c i lt))

last_is : (s : Slice) (i a : ℕ) → 0 < a → last_row s i a ≡ s.row i a
last_is s i zero some = absurd (omega arith)
last_is s i (suc a) some = refl

pub slice_step : (o : Clocks) (v : SliceView) (c : Cut) (p : ℕ) (b : Bool) → IsOperand o v → Cuts o (slice_of v) c → p < length c → count c p < count v.lens p
    → (IsTrue b ↔ IsWithin (row_words v p (count c p + 1)) (with_next c p)) → IsTrue b ↔ Cuts o (slice_of v) (with_next c p)
slice_step o v c p b operand member lt less same =
    let s = slice_of v in
    let shape = operand.fits.shape in
    let here : count c p + 1 ≤ count v.lens p = omega arith in
    let last : count v.lens p ≡ count (lengths o) p = ap (λ (l : Cut). count l p) shape in
    let event : IsEvent (lengths o) p (count c p + 1) = (omega arith, omega (arith, last)) in
    let within : IsWithin (with_next c p) v.lens = with_next_least c v.lens p lt (subst (λ (l : Cut). IsWithin c l) (sym shape) member.consistent.within) here in
    let row : last_row s p (count c p + 1) ≡ s.row p (count c p + 1) = last_is s p (count c p + 1) (omega arith) in
    let words = filled_within v.lens (last_row s p (count c p + 1)) (with_next c p) (omega (arith, operand.run.shape.some, ap length shape)) within in (
      λ yes. row_leads o operand.run.order s operand.fits.stands c member p lt event (subst (λ (k : Option Cut). HasWithin k (with_next c p)) row (words.0 (same.0 yes))),
      λ next. same.1 (words.1 (subst (λ (k : Option Cut). HasWithin k (with_next c p)) (sym row) (leads_row o s c p lt next))),
    )
