-- Looking for the last event that sets a named variable, one event back, and for the first process
-- with an event that isn't tied.
use Rattle.std.proofs.Common.{◌≡◌, ℕ, zero, suc, ◌+◌, ◌-◌, ◌<◌, ◌≤◌, true, false, List, ◌⊎◌, inl, inr, refl, sym, ap, subst, ◌∙◌, arith, add-one}
use Rattle.std.specs.Prelude.{Some, None, Option}
use Rattle.pota_base.specs.declared.shape.EventId.{EventId}
use Rattle.event_log.specs.States.{StatesView}
use Rattle.rctl_grammar.specs.declared.token.Token.{Token}
use Rattle.view_parts.specs.Parts.{place}
use Rattle.view_parts.specs.About.{sets_some}
use Rattle.view_text.specs.Ties.{last_named, or_else, first_below}

named_at : (s : StatesView) (tokens : List Token) (p n : ℕ) → sets_some s tokens (place p (suc n)) ≡ true → last_named s tokens p (suc n) ≡ Some (suc n)
unfolding last_named
named_at s tokens p n h = rw h refl

named_before : (s : StatesView) (tokens : List Token) (p n : ℕ) → sets_some s tokens (place p (suc n)) ≡ false → last_named s tokens p (suc n) ≡ last_named s tokens p n
unfolding last_named
named_before s tokens p n h = rw h refl

pub named_here : (s : StatesView) (tokens : List Token) (p position : ℕ) → 0 < position → sets_some s tokens (place p position) ≡ true → last_named s tokens p position ≡ Some position
named_here s tokens p zero some h = absurd (omega arith)
named_here s tokens p (suc n) some h = named_at s tokens p n h

pub named_earlier : (s : StatesView) (tokens : List Token) (p position : ℕ) → 0 < position → sets_some s tokens (place p position) ≡ false → last_named s tokens p position ≡ last_named s tokens p (position - 1)
named_earlier s tokens p zero some h = absurd (omega arith)
named_earlier s tokens p (suc n) some h =
    let e : suc n - 1 ≡ n = omega arith in
    named_before s tokens p n h ∙ ap (last_named s tokens p) (sym e)

pub never_named : (s : StatesView) (tokens : List Token) (p position : ℕ) → position ≡ 0 → last_named s tokens p position ≡ None
unfolding last_named
never_named s tokens p position e = ap (last_named s tokens p) e

first_step : (n : ℕ) (made : ℕ → Option EventId) → first_below (suc n) made ≡ or_else (first_below n made) (made n)
unfolding first_below
first_step n made = refl

one_more : (n : ℕ) (made : ℕ → Option EventId) → first_below (n + 1) made ≡ or_else (first_below n made) (made n)
one_more n made = ap (λ (k : ℕ). first_below k made) (add-one n) ∙ first_step n made

pub none_so_far : (n : ℕ) (made : ℕ → Option EventId) → first_below n made ≡ None → made n ≡ None → first_below (n + 1) made ≡ None
none_so_far n made before here = one_more n made ∙ ap (λ (o : Option EventId). or_else o (made n)) before ∙ here

pub none_at_first : (made : ℕ → Option EventId) → first_below 0 made ≡ None
unfolding first_below
none_at_first made = refl

-- what is found for one number is what there is for more
stays : (n k : ℕ) (made : ℕ → Option EventId) (e : EventId) → first_below k made ≡ Some e → k ≤ n → first_below n made ≡ Some e
stays zero k made e found within = subst (λ (i : ℕ). first_below i made ≡ Some e) (omega arith) found
stays (suc n) k made e found within = elim (at_end k n within) [
  | inl less ↦ first_step n made ∙ ap (λ (o : Option EventId). or_else o (made n)) (stays n k made e found less)
  | inr end ↦ subst (λ (i : ℕ). first_below i made ≡ Some e) end found
]
  where
    at_end : (k n : ℕ) → k ≤ suc n → (k ≤ n) ⊎ (k ≡ suc n)
    at_end k n within = grind arith

pub first_found : (n k : ℕ) (made : ℕ → Option EventId) (e : EventId) → first_below k made ≡ None → made k ≡ Some e → k < n → first_below n made ≡ Some e
first_found n k made e before here less =
    stays n (k + 1) made e (one_more k made ∙ ap (λ (o : Option EventId). or_else o (made k)) before ∙ here) (omega arith)
