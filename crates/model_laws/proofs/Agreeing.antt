-- Runs that agree on what a formula names give it the same truth.
use Rattle.std.proofs.Common.{◌≡◌, ℕ, ◌-◌, ◌↔◌, Bool, IsTrue, pos, ◌-ℤ◌, sym, ap, ◌∙◌, subst, refl, inl, inr}
use Rattle.std.specs.Prelude.{◌==◌, if◌then◌else◌}
use Rattle.run_model.specs.Cut.{Cut, Clocks, count, with_next}
use Rattle.run_model.specs.Run.{Name, Run}
use Rattle.run_model.specs.Operators.{EfHolds, AgHolds, EgHolds, ExHolds}
use Rattle.run_model.specs.Formula.{Side, Number, Variable, Ef, Ag, Eg, Af, Ax, Formula, Truth, Comparison, Watched, InTransit, Empty, Difference, Not, And, Or, Temporal, Next, Until, Formulas, Nil, Cons}
use Rattle.run_model.specs.Meaning.{compares, value_at, side_at, in_transit, Sat, SatAll, SatSome}
use Rattle.run_model.proofs.Paths.{all_wider}
use Rattle.model_laws.specs.Agreement.{AgreeOnVariable, AgreeOnWatch, AgreeOnChannel, AgreeOnSide, AgreeOn, AgreeOnAll}

same_truth : (a b : Bool) → a ≡ b → IsTrue a ↔ IsTrue b
same_truth a b e = (λ h. subst IsTrue e h, λ h. subst IsTrue (sym e) h)

same_value : (r s : Run) (p v : Name) (c : Cut) → AgreeOnVariable r s p v → value_at r p v c ≡ value_at s p v c
same_value r s p v c h = h.values (count c (r.process p)) ∙ ap (λ k. s.value (s.process p) v (count c k)) h.number

same_side : (r s : Run) (side : Side) (c : Cut) → AgreeOnSide r s side → side_at r side c ≡ side_at s side c
same_side r s (Number k) c h = refl
same_side r s (Variable p v) c h = same_value r s p v c h

same_answer : (r s : Run) (p w : Name) (c : Cut) → AgreeOnWatch r s p w → r.watched (r.process p) w (count c (r.process p)) ≡ s.watched (s.process p) w (count c (s.process p))
same_answer r s p w c h = h.answers (count c (r.process p)) ∙ ap (λ k. s.watched (s.process p) w (count c k)) h.number

transit_same : (r s : Run) (i j k l : ℕ) (c : Cut) → i ≡ k → j ≡ l → r.sent i j (count c i) ≡ s.sent k l (count c k) → r.received i j (count c j) ≡ s.received k l (count c l) → in_transit r i j c ≡ in_transit s k l c
unfolding in_transit
transit_same r s i j k l c e f m n = λ t. if e t == f t then 0 else (m t - n t)

same_transit : (r s : Run) (p q : Name) (c : Cut) → AgreeOnChannel r s p q → in_transit r (r.process p) (r.process q) c ≡ in_transit s (s.process p) (s.process q) c
same_transit r s p q c h = transit_same r s (r.process p) (r.process q) (s.process p) (s.process q) c h.sender h.receiver
    (h.sends (count c (r.process p)) ∙ ap (λ k. s.sent (s.process p) (s.process q) (count c k)) h.sender)
    (h.receipts (count c (r.process q)) ∙ ap (λ k. s.received (s.process p) (s.process q) (count c k)) h.receiver)

same_some_time : (o p : Clocks) → o ≡ p → (A B : Cut → Type 0) → ((c : Cut) → A c ↔ B c) → (c : Cut) → EfHolds o A c ↔ EfHolds p B c
same_some_time o p e A B same c = subst (λ (x : Clocks). EfHolds o A c ↔ EfHolds x B c) e (λ h. (h.0, h.1, h.2, (same h.1).0 h.3), λ h. (h.0, h.1, h.2, (same h.1).1 h.3))

same_each_time : (o p : Clocks) → o ≡ p → (A B : Cut → Type 0) → ((c : Cut) → A c ↔ B c) → (c : Cut) → AgHolds o A c ↔ AgHolds p B c
same_each_time o p e A B same c = subst (λ (x : Clocks). AgHolds o A c ↔ AgHolds x B c) e (
  λ h es d path. all_wider A B (λ x m. (same x).0 m) c es (h es d path),
  λ h es d path. all_wider B A (λ x m. (same x).1 m) c es (h es d path),
)

same_staying : (o p : Clocks) → o ≡ p → (A B : Cut → Type 0) → ((c : Cut) → A c ↔ B c) → (c : Cut) → EgHolds o A c ↔ EgHolds p B c
same_staying o p e A B same c = subst (λ (x : Clocks). EgHolds o A c ↔ EgHolds x B c) e (
  λ h. (h.0, h.1, all_wider A B (λ x m. (same x).0 m) c h.0 h.2),
  λ h. (h.0, h.1, all_wider B A (λ x m. (same x).1 m) c h.0 h.2),
)

same_next_time : (o p : Clocks) → o ≡ p → (i j : ℕ) → i ≡ j → (A B : Cut → Type 0) → ((c : Cut) → A c ↔ B c) → (c : Cut) → ExHolds o i A c ↔ ExHolds p j B c
same_next_time o p e i j h A B same c = subst (λ (x : Clocks). ExHolds o i A c ↔ ExHolds x j B c) e (subst (λ k. ExHolds o i A c ↔ ExHolds o k B c) h
    (λ w. (w.0, w.1, (same (with_next c i)).0 w.2), λ w. (w.0, w.1, (same (with_next c i)).1 w.2)))

mutual
  pub same_sat : (r s : Run) → r.clocks ≡ s.clocks → (f : Formula) → AgreeOn r s f → (c : Cut) → Sat r f c ↔ Sat s f c
  same_sat r s e (Truth b) h c = (λ t. t, λ t. t)
  same_sat r s e (Comparison p v relation side) h c =
      let left = same_value r s p v c h.0 in
      let right = same_side r s side c h.1 in
      same_truth (compares relation (value_at r p v c) (side_at r side c)) (compares relation (value_at s p v c) (side_at s side c)) (λ t. compares relation (left t) (right t))
  same_sat r s e (Watched p w) h c = same_truth (r.watched (r.process p) w (count c (r.process p))) (s.watched (s.process p) w (count c (s.process p))) (same_answer r s p w c h)
  same_sat r s e (InTransit p q relation k) h c =
      same_truth (compares relation (pos (in_transit r (r.process p) (r.process q) c)) (pos k)) (compares relation (pos (in_transit s (s.process p) (s.process q) c)) (pos k))
      (ap (λ n. compares relation (pos n) (pos k)) (same_transit r s p q c h))
  same_sat r s e (Empty p q) h c = (λ t. sym (same_transit r s p q c h) ∙ t, λ t. same_transit r s p q c h ∙ t)
  same_sat r s e (Difference p x q y relation k) h c =
      let left = same_value r s p x c h.0 in
      let right = same_value r s q y c h.1 in
      same_truth (compares relation (value_at r p x c -ℤ value_at r q y c) k) (compares relation (value_at s p x c -ℤ value_at s q y c) k) (λ t. compares relation (left t -ℤ right t) k)
  same_sat r s e (Not f) h c = (λ n t. n ((same_sat r s e f h c).1 t), λ n t. n ((same_sat r s e f h c).0 t))
  same_sat r s e (And fs) h c = same_all r s e fs h c
  same_sat r s e (Or fs) h c = same_some r s e fs h c
  same_sat r s e (Temporal Ef f) h c = same_some_time r.clocks s.clocks e (Sat r f) (Sat s f) (same_sat r s e f h) c
  same_sat r s e (Temporal Ag f) h c = same_each_time r.clocks s.clocks e (Sat r f) (Sat s f) (same_sat r s e f h) c
  same_sat r s e (Temporal Eg f) h c = same_staying r.clocks s.clocks e (Sat r f) (Sat s f) (same_sat r s e f h) c
  same_sat r s e (Temporal Af f) h c = (λ t. t, λ t. t)
  same_sat r s e (Temporal Ax f) h c = (λ t. t, λ t. t)
  same_sat r s e (Next p f) h c = same_next_time r.clocks s.clocks e (r.process p) (s.process p) h.0 (Sat r f) (Sat s f) (same_sat r s e f h.1) c
  same_sat r s e (Until all left right) h c = (λ t. t, λ t. t)

  same_all : (r s : Run) → r.clocks ≡ s.clocks → (fs : Formulas) → AgreeOnAll r s fs → (c : Cut) → SatAll r fs c ↔ SatAll s fs c
  same_all r s e Nil h c = (λ t. t, λ t. t)
  same_all r s e (Cons f fs) h c = (
    λ t. ((same_sat r s e f h.0 c).0 t.0, (same_all r s e fs h.1 c).0 t.1),
    λ t. ((same_sat r s e f h.0 c).1 t.0, (same_all r s e fs h.1 c).1 t.1),
  )

  same_some : (r s : Run) → r.clocks ≡ s.clocks → (fs : Formulas) → AgreeOnAll r s fs → (c : Cut) → SatSome r fs c ↔ SatSome s fs c
  same_some r s e Nil h c = (λ t. t, λ t. t)
  same_some r s e (Cons f fs) h c = (
    λ t. elim t [ inl a ↦ inl ((same_sat r s e f h.0 c).0 a) | inr b ↦ inr ((same_some r s e fs h.1 c).0 b) ],
    λ t. elim t [ inl a ↦ inl ((same_sat r s e f h.0 c).1 a) | inr b ↦ inr ((same_some r s e fs h.1 c).1 b) ],
  )
