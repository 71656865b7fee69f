-- The one disjunct of a regular formula is its parts.
use Rattle.std.proofs.Common.{◌≡◌, ◌↔◌, ◌⊎◌, Bool, true, false, not, [], ◌∷◌, sym, ap, ◌∙◌, subst, refl, inl, inr}
use Rattle.std.proofs.lemmas.Bool.{cond_both, or_cases, cond-false, both_ways}
use Rattle.run_model.specs.Cut.{Cut}
use Rattle.run_model.specs.Run.{Run}
use Rattle.run_model.specs.Consistent.{IsOrder, IsConsistent}
use Rattle.run_model.specs.Formula.{Formula, Truth, Comparison, Watched, InTransit, Empty, Difference, Not, And, Or, Temporal, Next, Until}
use Rattle.run_model.specs.Meaning.{Sat}
use Rattle.run_model.specs.Class.{is_local, is_conjunctive, all_conjunctive, IsRegular, signed, parts, all_parts, disjuncts, all_disjuncts, SatParts, SatDisjuncts}
use Rattle.meaning_laws.proofs.DisjunctLemmas.{disjuncts_mean}

pub one_list : (f : Formula) (sign : Bool) → is_conjunctive sign f ≡ true → disjuncts sign f ≡ parts sign f ∷ []
unfolding is_conjunctive all_conjunctive disjuncts all_disjuncts parts all_parts
one_list (Truth b) sign h = refl
one_list (Comparison q variable relation side) sign h = refl
one_list (Watched q watch) sign h = refl
one_list (InTransit p q relation m) sign h = refl
one_list (Empty p q) sign h = refl
one_list (Difference p x q y relation m) sign h = refl
one_list (Not f) sign h = cond_both (is_local (Not f)) (parts sign (Not f) ∷ []) (disjuncts (not sign) f) (λ ds. ds ≡ parts sign (Not f) ∷ [])
    (λ t. refl)
    (λ t. elim (or_cases (is_local (Not f)) (is_conjunctive (not sign) f) h) [
      | inl l ↦ absurd (both_ways (is_local (Not f)) t l)
      | inr g ↦ one_list f (not sign) g ∙ ap (λ ps. ps ∷ []) (sym (cond-false (is_local (Not f)) (signed sign (Not f) ∷ []) (parts (not sign) f) t))
    ])
one_list (And fs) true h = refl
one_list (And fs) false h = cond_both (is_local (And fs)) (parts false (And fs) ∷ []) (all_disjuncts false fs) (λ ds. ds ≡ parts false (And fs) ∷ []) (λ t. refl) (λ t. absurd (both_ways (is_local (And fs)) t h))
one_list (Or fs) true h = cond_both (is_local (Or fs)) (parts true (Or fs) ∷ []) (all_disjuncts true fs) (λ ds. ds ≡ parts true (Or fs) ∷ []) (λ t. refl) (λ t. absurd (both_ways (is_local (Or fs)) t h))
one_list (Or fs) false h = refl
one_list (Temporal operator f) sign h = refl
one_list (Next process f) sign h = refl
one_list (Until all left right) sign h = refl

pub one_disjunct : (f : Formula) → IsRegular f → disjuncts true f ≡ parts true f ∷ []
one_disjunct f h = one_list f true h

only_left : {A : Type 0} → A ⊎ ⊥ → A
only_left h = elim h [ inl a ↦ a | inr n ↦ absurd n ]

pub parts_are_the_formula : (r : Run) → IsOrder r.clocks → (f : Formula) → IsRegular f → (c : Cut) → IsConsistent r.clocks c → SatParts r (parts true f) c ↔ Sat r f c
parts_are_the_formula r order f h c k =
    let mean = disjuncts_mean r order f c k in
    let one = one_disjunct f h in (
      λ p. mean.0 (subst (λ ds. SatDisjuncts r ds c) (sym one) (inl p)),
      λ s. only_left (subst (λ ds. SatDisjuncts r ds c) one (mean.1 s)),
    )
