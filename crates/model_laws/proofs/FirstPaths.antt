-- The path that takes at each cut the first process that goes on never sticks.
use Rattle.std.proofs.Common.{ℕ, zero, suc, ◌+◌, ◌<◌, ◌≤◌, ◌⊎◌, List, [], ◌∷◌, length, refl, inl, inr, arith}
use Rattle.std.proofs.lemmas.Bool.{cases_lt}
use Rattle.run_model.specs.Cut.{Cut, Clocks, count, with_next}
use Rattle.run_model.specs.Witness.{Place, FirstSteps}
use Rattle.run_model.proofs.Counts.{search_below, total, total_below, total_next, with_next_above}
use Rattle.meaning_laws.proofs.Climb.{IsClimbable, Apart, apart_up, reached, next_exists}
use Rattle.meaning_laws.proofs.DecisionLemmas.{Decided}
use Rattle.model_laws.proofs.FirstEvents.{at, least_below}

lacks : (c t : Cut) → ((j : ℕ) × (j < length t) × (count c j < count t j)) ⊎ ((j : ℕ) → j < length t → count t j ≤ count c j)
lacks c t = search_below (λ j. count c j < count t j) (λ j. count t j ≤ count c j) (λ j. cases_lt (count c j) (count t j)) (length t)

walk : (o : Clocks) (A : Cut → Type 0) (t : Cut) (join : ℕ → ℕ → Cut) → IsClimbable o A t join → ((c : Cut) → Decided (A c)) → (fuel : ℕ) (c : Cut) → A c → Apart t join c → total t ≤ total c + fuel → (es : List Place) × FirstSteps A c es t
walk o A t join k decide zero c member apart f = elim (lacks c t) [
  | inl w ↦ absurd (omega (arith, f, total_below c t w.0 (k.top.greatest c member) w.2))
  | inr none ↦ ([], (member, reached o A t join k c member none))
]
walk o A t join k decide (suc fuel) c member apart f = elim (lacks c t) [
  | inl w ↦
      let next = next_exists o A t join k c member apart w.0 w.2 in
      elim (least_below (λ j. A (with_next c j)) (length c) (λ j l. decide (with_next c j))) [
        | inl n ↦
            let up = with_next_above c n.0 n.1 in
            let rest = walk o A t join k decide fuel (with_next c n.0) n.2 (apart_up t join c (with_next c n.0) up apart) (omega (arith, f, total_next c n.0 n.1)) in
            (at n.0 (count c n.0 + 1) ∷ rest.0, (member, n.1, refl, n.3, rest.1))
        | inr none ↦ absurd (none next.0 next.1 next.3)
      ]
  | inr none ↦ ([], (member, reached o A t join k c member none))
]

pub first_path : (o : Clocks) (A : Cut → Type 0) (t : Cut) (join : ℕ → ℕ → Cut) → IsClimbable o A t join → ((c : Cut) → Decided (A c)) → (c : Cut) → A c → Apart t join c → (es : List Place) × FirstSteps A c es t
first_path o A t join k decide c member apart = walk o A t join k decide (total t) c member apart (omega arith)
