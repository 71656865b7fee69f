-- The start of an earlier row of one process lies within the start of the later one.
use Rattle.std.proofs.Common.{◌≡◌, ℕ, zero, suc, ◌-◌, ◌<◌, ◌≤◌, ◌⊎◌, inl, inr, List, [], ◌∷◌, get_or, set, arith, sym, ap, ◌∙◌, get_or-set_same}
use Rattle.pota_base.specs.declared.shape.EventId.{EventId}
use Rattle.pota_base.specs.Shape.{HasEvent, row_of}
use Rattle.pull_system.specs.Rows.{start_of}
use Rattle.pull_system.proofs.Climbing.{lt_or_le, set_case}
use Rattle.pull_system.proofs.Starts.{in_head, in_tail, start_of-bottom, start_of-event, length-start_of}
use Rattle.certificate_table.specs.Begun.{AreOfOneProcess}

heads_rise : (a b : ℕ) (xs : List ℕ) → a ≤ b → (i : ℕ) → get_or (a ∷ xs) i 0 ≤ get_or (b ∷ xs) i 0
heads_rise a b xs less zero = less
heads_rise a b xs less (suc i) = omega arith

-- both rows are of the first process
in_first : (len : ℕ) (lens : List ℕ) (row other : ℕ) → other < row → row ≤ len → (i : ℕ) → get_or (start_of (len ∷ lens) other) i 0 ≤ get_or (start_of (len ∷ lens) row) i 0
in_first len lens row other less within i =
    let later = ap (λ v. get_or v i 0) (in_head len lens row within) in
    let earlier = ap (λ v. get_or v i 0) (in_head len lens other (omega (arith, less, within))) in
    omega (arith, later, earlier, heads_rise other row (start_of lens 0) (omega (arith, less)) i)

pub start_within : (lens : List ℕ) (row other process : ℕ) → other < row → 0 < get_or (start_of lens row) process 0 → 0 < get_or (start_of lens other) process 0
    → (i : ℕ) → get_or (start_of lens other) i 0 ≤ get_or (start_of lens row) i 0
start_within [] row other process less first second i = omega arith
start_within (len ∷ lens) row other zero less first second i = elim (lt_or_le len row) [
  | inl past ↦
      let at : get_or (start_of (len ∷ lens) row) 0 0 ≡ 0 = ap (λ v. get_or v 0 0) (in_tail len lens row (row - len) (omega (arith, past)) (omega (arith, past))) in
      absurd (omega (arith, at, first))
  | inr within ↦ in_first len lens row other less within i
]
start_within (len ∷ lens) row other (suc process) less first second i = elim (lt_or_le len other) [
  | inr within ↦
      let at : get_or (start_of (len ∷ lens) other) (suc process) 0 ≡ get_or (start_of lens 0) process 0 = ap (λ v. get_or v (suc process) 0) (in_head len lens other within) in
      absurd (omega (arith, at, second, start_of-bottom lens process))
  | inl past ↦
      let later : start_of (len ∷ lens) row ≡ 0 ∷ start_of lens (row - len) = in_tail len lens row (row - len) (omega (arith, past, less)) (omega (arith, past, less)) in
      let earlier : start_of (len ∷ lens) other ≡ 0 ∷ start_of lens (other - len) = in_tail len lens other (other - len) (omega (arith, past)) (omega (arith, past)) in
      let first_there : get_or (start_of (len ∷ lens) row) (suc process) 0 ≡ get_or (start_of lens (row - len)) process 0 = ap (λ v. get_or v (suc process) 0) later in
      let second_there : get_or (start_of (len ∷ lens) other) (suc process) 0 ≡ get_or (start_of lens (other - len)) process 0 = ap (λ v. get_or v (suc process) 0) earlier in
      let rest = start_within lens (row - len) (other - len) process (omega (arith, past, less)) (omega (arith, first, first_there)) (omega (arith, second, second_there)) in
      tails (start_of lens (row - len)) (start_of lens (other - len)) (start_of (len ∷ lens) row) (start_of (len ∷ lens) other) later earlier rest i
]
  where
    tails : (xs ys v w : List ℕ) → v ≡ 0 ∷ xs → w ≡ 0 ∷ ys → ((j : ℕ) → get_or ys j 0 ≤ get_or xs j 0) → (j : ℕ) → get_or w j 0 ≤ get_or v j 0
    tails xs ys v w one two within zero = omega (arith, ap (λ u. get_or u 0 0) one, ap (λ u. get_or u 0 0) two)
    tails xs ys v w one two within (suc j) = omega (arith, ap (λ u. get_or u (suc j) 0) one, ap (λ u. get_or u (suc j) 0) two, within j)

-- a row that another may follow has its start within that one's
pub followed_within : (lens : List ℕ) (row other : ℕ) → (other < row) × ((other ≡ 0) ⊎ AreOfOneProcess lens row other) → (i : ℕ) → get_or (start_of lens other) i 0 ≤ get_or (start_of lens row) i 0
followed_within lens row other follows i = elim follows.1 [
  | inl bottom ↦ omega (arith, ap (λ r. get_or (start_of lens r) i 0) bottom, start_of-bottom lens i)
  | inr one ↦ start_within lens row other one.process follows.0 one.first one.second i
]

-- the start of an event's row has that event alone
at_event : (lens : List ℕ) (row : ℕ) (event : EventId) → HasEvent lens event → row_of lens event ≡ row → (i : ℕ)
    → (get_or (start_of lens row) i 0 ≡ 0) ⊎ ((i ≡ event.process) × (0 < get_or (start_of lens row) i 0))
at_event lens row event is same i =
    let start : start_of lens row ≡ set (start_of lens 0) event.process event.position = ap (λ r. start_of lens r) (sym same) ∙ start_of-event lens event.process event.position is.process is.first is.last in
    elim (set_case (start_of lens 0) event.process event.position i 0) [
      | inl e ↦ inl (omega (arith, ap (λ v. get_or v i 0) start, e, start_of-bottom lens i))
      | inr e ↦ inr (e.0, omega (arith, ap (λ v. get_or v i 0) start, e.1, is.first))
    ]

event_there : (lens : List ℕ) (row : ℕ) (event : EventId) → HasEvent lens event → row_of lens event ≡ row → 0 < get_or (start_of lens row) event.process 0
event_there lens row event is same =
    let start : start_of lens row ≡ set (start_of lens 0) event.process event.position = ap (λ r. start_of lens r) (sym same) ∙ start_of-event lens event.process event.position is.process is.first is.last in
    omega (arith, ap (λ v. get_or v event.process 0) start, get_or-set_same (start_of lens 0) event.process event.position 0 (omega (arith, length-start_of lens 0, is.process)), is.first)

pub events_of_one : (lens : List ℕ) (row other : ℕ) (first second : EventId) → HasEvent lens first → HasEvent lens second → row_of lens first ≡ row → row_of lens second ≡ other
    → first.process ≡ second.process → AreOfOneProcess lens row other
events_of_one lens row other first second is is_too same same_too equal = record {
  process = first.process;
  first = event_there lens row first is same;
  second = omega (arith, event_there lens other second is_too same_too, ap (λ i. get_or (start_of lens other) i 0) equal);
}

pub one_of_events : (lens : List ℕ) (row other : ℕ) (first second : EventId) → HasEvent lens first → HasEvent lens second → row_of lens first ≡ row → row_of lens second ≡ other
    → AreOfOneProcess lens row other → first.process ≡ second.process
one_of_events lens row other first second is is_too same same_too one =
    let a = at_event lens row first is same one.process in
    let b = at_event lens other second is_too same_too one.process in
    elim a [
      | inl none ↦ absurd (omega (arith, none, one.first))
      | inr here ↦ elim b [
        | inl none ↦ absurd (omega (arith, none, one.second))
        | inr there ↦ sym here.0 ∙ there.0
      ]
    ]

-- the bottom's row is of no process
pub bottom_is_alone : (lens : List ℕ) (row other : ℕ) → (row ≡ 0) ⊎ (other ≡ 0) → AreOfOneProcess lens row other → ⊥
bottom_is_alone lens row other bottom one = elim bottom [
  | inl e ↦ omega (arith, ap (λ r. get_or (start_of lens r) one.process 0) e, start_of-bottom lens one.process, one.first)
  | inr e ↦ omega (arith, ap (λ r. get_or (start_of lens r) one.process 0) e, start_of-bottom lens one.process, one.second)
]
