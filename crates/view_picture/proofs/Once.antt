-- A shown event is once among those that are shown.
use Rattle.std.proofs.Common.{◌≡◌, ℕ, zero, suc, ◌+◌, ◌<◌, ◌≤◌, true, false, List, [], ◌∷◌, ◌++◌, length, get_or, refl, sym, ap, subst, ◌∙◌, eq-eqb, arith, inl, inr}
use Rattle.std.specs.Prelude.{Bool, ◌==◌, ◌&&◌}
use Rattle.std.specs.List.{filter}
use Rattle.std.proofs.lemmas.Bool.{cases_Bool, cases_eq, eqb-true, false≢true}
use Rattle.pota_base.specs.declared.shape.EventId.{EventId}
use Rattle.pota_base.specs.Shape.{HasEvent}
use Rattle.view_parts.specs.Each.{each_below, own_places, places}
use Rattle.view_picture.specs.Choice.{is_place}
use Rattle.view_picture.specs.Shown.{is_shown}
use Rattle.view_picture.specs.Laws.{times, ShownEventsOnce}

times-append : (e : EventId) (xs ys : List EventId) → times e (xs ++ ys) ≡ times e xs + times e ys
times-append e [] ys = omega arith
times-append e (x ∷ xs) ys = elim (cases_Bool (is_place e x)) [
  | inl here ↦ rw here (let more = times-append e xs ys in omega arith)
  | inr other ↦ rw other (times-append e xs ys)
]

differs : (a b : ℕ) → (a ≡ b → ⊥) → (a == b) ≡ false
differs a b ne = elim (cases_Bool (a == b)) [
  | inl same ↦ absurd (ne (eqb-true a b same))
  | inr other ↦ other
]

abbrev event : ℕ → ℕ → EventId
event process position = record { process = process; position = position }

is_it : (e : EventId) (process position : ℕ) → process ≡ e.process → position ≡ e.position → is_place e (event process position) ≡ true
is_it e process position same at = rw (eq-eqb process e.process same, eq-eqb position e.position at) refl

other_process : (e : EventId) (process position : ℕ) → (process ≡ e.process → ⊥) → is_place e (event process position) ≡ false
other_process e process position ne = rw (differs process e.process ne) refl

other_position : (e : EventId) (process position : ℕ) → process ≡ e.process → (position ≡ e.position → ⊥) → is_place e (event process position) ≡ false
other_position e process position same ne = rw (eq-eqb process e.process same, differs position e.position ne) refl

one : (e f : EventId) → is_place e f ≡ true → times e (f ∷ []) ≡ 1
one e f h = rw h refl

none : (e f : EventId) → is_place e f ≡ false → times e (f ∷ []) ≡ 0
none e f h = rw h refl

own_others : (e : EventId) (process n : ℕ) → (process ≡ e.process → ⊥) → times e (own_places process n) ≡ 0
own_others e process zero ne = refl
own_others e process (suc n) ne =
    let split = times-append e (own_places process n) (event process (n + 1) ∷ []) in
    omega (arith, split, own_others e process n ne, none e (event process (n + 1)) (other_process e process (n + 1) ne))

own_before : (e : EventId) (process n : ℕ) → process ≡ e.process → n < e.position → times e (own_places process n) ≡ 0
own_before e process zero same lt = refl
own_before e process (suc n) same lt =
    let split = times-append e (own_places process n) (event process (n + 1) ∷ []) in
    omega (arith, split, own_before e process n same (omega (arith, lt)), none e (event process (n + 1)) (other_position e process (n + 1) same (λ h. absurd (omega (arith, h, lt)))))

own_there : (e : EventId) (process n : ℕ) → process ≡ e.process → 0 < e.position → e.position ≤ n → times e (own_places process n) ≡ 1
own_there e process zero same some le = absurd (omega (arith, some, le))
own_there e process (suc n) same some le =
    let split = times-append e (own_places process n) (event process (n + 1) ∷ []) in
    elim (cases_eq (n + 1) e.position) [
      | inl last ↦ omega (arith, split, own_before e process n same (omega (arith, last)), one e (event process (n + 1)) (is_it e process (n + 1) same last))
      | inr before ↦ omega (arith, split, own_there e process n same some (omega (arith, le, before)), none e (event process (n + 1)) (other_position e process (n + 1) same before))
    ]

abbrev first_places : List ℕ → ℕ → List EventId
first_places lens n = each_below n (λ process. own_places process (get_or lens process 0))

before_process : (lens : List ℕ) (e : EventId) (n : ℕ) → n ≤ e.process → times e (first_places lens n) ≡ 0
before_process lens e zero le = refl
before_process lens e (suc n) le =
    let split = times-append e (first_places lens n) (own_places n (get_or lens n 0)) in
    omega (arith, split, before_process lens e n (omega (arith, le)), own_others e n (get_or lens n 0) (λ h. absurd (omega (arith, h, le))))

behind_process : (lens : List ℕ) (e : EventId) (n : ℕ) → e.process < n → 0 < e.position → e.position ≤ get_or lens e.process 0 → times e (first_places lens n) ≡ 1
behind_process lens e zero lt some le = absurd (omega (arith, lt))
behind_process lens e (suc n) lt some le =
    let split = times-append e (first_places lens n) (own_places n (get_or lens n 0)) in
    elim (cases_eq n e.process) [
      | inl same ↦ omega (arith, split, before_process lens e n (omega (arith, same)), own_there e n (get_or lens n 0) same some (subst (λ (k : ℕ). e.position ≤ get_or lens k 0) (sym same) le))
      | inr other ↦ omega (arith, split, behind_process lens e n (omega (arith, lt, other)) some le, own_others e n (get_or lens n 0) other)
    ]

-- each event is once among the events of all processes
pub each_event_once : (lens : List ℕ) (e : EventId) → HasEvent lens e → times e (places lens) ≡ 1
each_event_once lens e h = behind_process lens e (length lens) (omega (arith, h.process)) (omega (arith, h.first)) h.last

-- ---- those that pass a test

same_place : (e f : EventId) → is_place e f ≡ true → f ≡ e
same_place e f h =
    let both = and_both (f.process == e.process) (f.position == e.position) h in
    ap (λ (p : ℕ). event p f.position) (eqb-true f.process e.process both.0) ∙ ap (λ (a : ℕ). event e.process a) (eqb-true f.position e.position both.1)
  where
    and_both : (a b : Bool) → (a && b) ≡ true → (a ≡ true) × (b ≡ true)
    and_both true b h = (refl, h)
    and_both false b h = cc

pub passing_times : (passes : EventId → Bool) (e : EventId) (es : List EventId) → passes e ≡ true → times e (filter passes es) ≡ times e es
passing_times passes e [] shows = refl
passing_times passes e (f ∷ es) shows = elim (cases_Bool (is_place e f)) [
  | inl here ↦
      let passed : passes f ≡ true = ap passes (same_place e f here) ∙ shows in
      rw passed (rw here (ap (λ (n : ℕ). n + 1) (passing_times passes e es shows)))
  | inr other ↦ elim (cases_Bool (passes f)) [
    | inl in_it ↦ rw in_it (rw other (passing_times passes e es shows))
    | inr out_of_it ↦ rw out_of_it (rw other (passing_times passes e es shows))
  ]
]

pub failing_times : (passes : EventId → Bool) (e : EventId) (es : List EventId) → passes e ≡ false → times e (filter passes es) ≡ 0
failing_times passes e [] hides = refl
failing_times passes e (f ∷ es) hides = elim (cases_Bool (passes f)) [
  | inr out_of_it ↦ rw out_of_it (failing_times passes e es hides)
  | inl in_it ↦ elim (cases_Bool (is_place e f)) [
    | inl here ↦ absurd (false≢true (sym hides ∙ sym (ap passes (same_place e f here)) ∙ in_it))
    | inr other ↦ rw in_it (rw other (failing_times passes e es hides))
  ]
]

pub shown_events_once : ShownEventsOnce
shown_events_once lens rows e h = elim (cases_Bool (is_shown rows e)) [
  | inl shows ↦ rw shows (passing_times (is_shown rows) e (places lens) shows ∙ each_event_once lens e h)
  | inr hides ↦ rw hides (failing_times (is_shown rows) e (places lens) hides)
]
