-- The climb: in a set of consistent cuts with maxima, a greatest member and a least member with each event, a path within the set leads
-- from each member to the greatest, if no two events that the member lacks always come together.
use Rattle.std.proofs.Common.{◌≡◌, ℕ, zero, suc, ◌+◌, ◌<◌, ◌≤◌, ◌⊎◌, List, [], ◌∷◌, length, sym, ◌∙◌, subst, refl, inl, inr, arith}
use Rattle.std.proofs.lemmas.Bool.{cases_lt, cases_eq}
use Rattle.run_model.specs.Cut.{Cut, Clocks, count, IsWithin, max_cut, with_next}
use Rattle.run_model.specs.Consistent.{IsEvent, IsConsistent, PathIn}
use Rattle.run_model.specs.Sublattice.{IsLeast, IsGreatest, Having}
use Rattle.run_model.proofs.Counts.{count-max, length-max, count_past, same_counts, within_both, length-with_next, with_next_same, with_next_other, with_next_above, total, total_below, search_below}

pub record IsClimbable (o : Clocks) (A : Cut → Type 0) (t : Cut) (join : ℕ → ℕ → Cut) : Type 0 where
  pub consistent : (c : Cut) → A c → IsConsistent o c
  pub has_max : (c d : Cut) → A c → A d → A (max_cut c d)
  pub top : IsGreatest A t
  pub rows : (i a : ℕ) → IsEvent t i a → IsLeast (Having A i a) (join i a)

-- two events of t that c lacks, whose rows are within each other, are one
abbrev pub Apart : Cut → (ℕ → ℕ → Cut) → Cut → Type 0
Apart t join c = (i a j b : ℕ) → IsEvent t i a → IsEvent t j b → count c i < a → count c j < b → IsWithin (join i a) (join j b) → IsWithin (join j b) (join i a) → (i ≡ j) × (a ≡ b)

next_event : (c t : Cut) (i : ℕ) → count c i < count t i → IsEvent t i (count c i + 1)
next_event c t i h = (omega arith, omega (arith, h))

-- the row of the next event of i has no later event of i
row_ends : (o : Clocks) (A : Cut → Type 0) (t : Cut) (join : ℕ → ℕ → Cut) → IsClimbable o A t join → (c : Cut) → Apart t join c → (i : ℕ) → count c i < count t i → count (join i (count c i + 1)) i ≡ count c i + 1
row_ends o A t join k c apart i h =
    let next = next_event c t i h in
    let row = k.rows i (count c i + 1) next in
    elim (cases_lt (count c i + 1) (count (join i (count c i + 1)) i)) [
      | inl more ↦
          let later : IsEvent t i (count c i + 2) = (omega arith, omega (arith, more, k.top.greatest (join i (count c i + 1)) row.member.0 i)) in
          let row2 = k.rows i (count c i + 2) later in
          let same = apart i (count c i + 1) i (count c i + 2) next later (omega arith) (omega arith) (row.least (join i (count c i + 2)) (row2.member.0, omega (arith, row2.member.1))) (row2.least (join i (count c i + 1)) (row.member.0, omega (arith, more))) in
          absurd (omega (arith, same.1))
      | inr least ↦ omega (arith, least, row.member.1)
    ]

-- what c takes of the row is the next event of i alone
lone_step : (o : Clocks) (A : Cut → Type 0) (t : Cut) (join : ℕ → ℕ → Cut) → IsClimbable o A t join → (c : Cut) → A c → Apart t join c → (i : ℕ) → count c i < count t i → ((j : ℕ) → j < length c → (j ≡ i) ⊎ (count (join i (count c i + 1)) j ≤ count c j)) → A (with_next c i)
lone_step o A t join k c member apart i h none =
    let row = k.rows i (count c i + 1) (next_event c t i h) in
    let e = join i (count c i + 1) in
    let sizes : length e ≡ length c = (k.consistent e row.member.0).shaped ∙ sym (k.consistent c member).shaped in
    let there : i < length c = elim (cases_lt i (length c)) [
      | inl l ↦ l
      | inr g ↦ absurd (omega (arith, count_past e i (omega (arith, g, sizes)), row.member.1))
    ] in
    let counts : (j : ℕ) → count (max_cut c e) j ≡ count (with_next c i) j = λ j. elim (cases_eq j i) [
      | inl s ↦ subst (λ x. count (max_cut c e) x ≡ count (with_next c i) x) (sym s) (omega (arith, count-max c e i, with_next_same c i there, row_ends o A t join k c apart i h))
      | inr ne ↦
          let small : count e j ≤ count c j = elim (cases_lt j (length c)) [
            | inl l ↦ elim (none j l) [ inl s ↦ absurd (ne s) | inr le ↦ le ]
            | inr g ↦ omega (arith, count_past e j (omega (arith, g, sizes)))
          ] in
          omega (arith, count-max c e j, with_next_other c i j ne, small)
    ] in
    subst A (same_counts (max_cut c e) (with_next c i) (omega (arith, length-max c e, length-with_next c i, sizes)) counts) (k.has_max c e member row.member.0)

-- a process whose next event alone leads to a member
abbrev pub NextIn : (Cut → Type 0) → Cut → Cut → Type 0
NextIn A t c = (i : ℕ) × (i < length c) × (count c i < count t i) × A (with_next c i)

in_length : (o : Clocks) (A : Cut → Type 0) (t : Cut) (join : ℕ → ℕ → Cut) → IsClimbable o A t join → (c : Cut) → A c → (i : ℕ) → count c i < count t i → i < length c
in_length o A t join k c member i h = elim (cases_lt i (length c)) [
  | inl l ↦ l
  | inr g ↦ absurd (omega (arith, h, count_past t i (omega (arith, g, (k.consistent c member).shaped, (k.consistent t k.top.member).shaped))))
]

take_next : (o : Clocks) (A : Cut → Type 0) (t : Cut) (join : ℕ → ℕ → Cut) → IsClimbable o A t join → (c : Cut) → A c → Apart t join c → (fuel i : ℕ) → count c i < count t i → total (join i (count c i + 1)) < fuel → NextIn A t c
take_next o A t join k c member apart zero i h f = absurd (omega (arith, f))
take_next o A t join k c member apart (suc fuel) i h f =
    let e = join i (count c i + 1) in
    let row = k.rows i (count c i + 1) (next_event c t i h) in
    elim (search_below (λ j. (j ≡ i → ⊥) × (count c j < count e j)) (λ j. (j ≡ i) ⊎ (count e j ≤ count c j)) (λ j. elim (cases_eq j i) [
      | inl s ↦ inr (inl s)
      | inr ne ↦ elim (cases_lt (count c j) (count e j)) [ inl l ↦ inl (ne, l) | inr g ↦ inr (inr g) ]
    ]) (length c)) [
      | inl w ↦
          let j = w.0 in
          let up : count c j < count t j = omega (arith, w.2.1, k.top.greatest e row.member.0 j) in
          let next = next_event c t j up in
          let row2 = k.rows j (count c j + 1) next in
          let inside : IsWithin (join j (count c j + 1)) e = row2.least e (row.member.0, omega (arith, w.2.1)) in
          let less : total (join j (count c j + 1)) < total e = elim (cases_lt (count (join j (count c j + 1)) i) (count c i + 1)) [
            | inl l ↦ total_below (join j (count c j + 1)) e i inside (omega (arith, l, row.member.1))
            | inr g ↦ absurd (w.2.0 (apart j (count c j + 1) i (count c i + 1) next (next_event c t i h) (omega arith) (omega arith) inside (row.least (join j (count c j + 1)) (row2.member.0, g))).0)
          ] in
          take_next o A t join k c member apart fuel j up (omega (arith, less, f))
      | inr none ↦ (i, in_length o A t join k c member i h, h, lone_step o A t join k c member apart i h none)
    ]

pub apart_up : (t : Cut) (join : ℕ → ℕ → Cut) (c d : Cut) → IsWithin c d → Apart t join c → Apart t join d
apart_up t join c d up apart i a j b ev fv h l p q = apart i a j b ev fv (omega (arith, h, up i)) (omega (arith, l, up j)) p q

pub reached : (o : Clocks) (A : Cut → Type 0) (t : Cut) (join : ℕ → ℕ → Cut) → IsClimbable o A t join → (c : Cut) → A c → ((j : ℕ) → j < length t → count t j ≤ count c j) → c ≡ t
reached o A t join k c member none = within_both c t ((k.consistent c member).shaped ∙ sym (k.consistent t k.top.member).shaped) (k.top.greatest c member) (λ j. elim (cases_lt j (length t)) [ inl l ↦ none j l | inr g ↦ omega (arith, count_past t j g) ])

lacks : (c t : Cut) → ((j : ℕ) × (j < length t) × (count c j < count t j)) ⊎ ((j : ℕ) → j < length t → count t j ≤ count c j)
lacks c t = search_below (λ j. count c j < count t j) (λ j. count t j ≤ count c j) (λ j. cases_lt (count c j) (count t j)) (length t)

grows : (c : Cut) (i : ℕ) → i < length c → total c < total (with_next c i)
grows c i h = total_below c (with_next c i) i (with_next_above c i h) (omega (arith, with_next_same c i h))

-- from a member that is not the greatest, a next event leads to a member
pub next_exists : (o : Clocks) (A : Cut → Type 0) (t : Cut) (join : ℕ → ℕ → Cut) → IsClimbable o A t join → (c : Cut) → A c → Apart t join c → (i : ℕ) → count c i < count t i → NextIn A t c
next_exists o A t join k c member apart i h = take_next o A t join k c member apart (suc (total (join i (count c i + 1)))) i h (omega arith)

climb_by : (o : Clocks) (A : Cut → Type 0) (t : Cut) (join : ℕ → ℕ → Cut) → IsClimbable o A t join → (fuel : ℕ) (c : Cut) → A c → Apart t join c → total t ≤ total c + fuel → (es : List Cut) × PathIn A c es t
climb_by o A t join k zero c member apart f = elim (lacks c t) [
  | inl w ↦ absurd (omega (arith, f, total_below c t w.0 (k.top.greatest c member) w.2))
  | inr none ↦ ([], (member, reached o A t join k c member none))
]
climb_by o A t join k (suc fuel) c member apart f = elim (lacks c t) [
  | inl w ↦
      let next = next_exists o A t join k c member apart w.0 w.2 in
      let up = with_next_above c next.0 next.1 in
      let rest = climb_by o A t join k fuel (with_next c next.0) next.3 (apart_up t join c (with_next c next.0) up apart) (omega (arith, f, grows c next.0 next.1)) in
      (with_next c next.0 ∷ rest.0, (member, (next.0, next.1, refl), rest.1))
  | inr none ↦ ([], (member, reached o A t join k c member none))
]

pub climb : (o : Clocks) (A : Cut → Type 0) (t : Cut) (join : ℕ → ℕ → Cut) → IsClimbable o A t join → (c : Cut) → A c → Apart t join c → (es : List Cut) × PathIn A c es t
climb o A t join k c member apart = climb_by o A t join k (total t) c member apart (omega arith)
