-- The first event with a decided property, in the order of the processes and of each process.
use Rattle.std.proofs.Common.{◌≡◌, ℕ, zero, suc, ◌+◌, ◌-◌, ◌<◌, ◌≤◌, ◌⊎◌, length, subst, inl, inr, arith}
use Rattle.std.proofs.lemmas.Bool.{cases_eq}
use Rattle.run_model.specs.Cut.{Clocks, count, lengths}
use Rattle.run_model.specs.Witness.{Place, IsPlace, IsBefore, IsFirst}
use Rattle.run_model.proofs.Orders.{has_process}
use Rattle.meaning_laws.proofs.DecisionLemmas.{Decided}

-- the least number below k with the property, or none has it
abbrev pub LeastBelow : (ℕ → Type 0) → ℕ → Type 0
LeastBelow P k = ((j : ℕ) × (j < k) × P j × ((i : ℕ) → i < j → P i → ⊥)) ⊎ ((j : ℕ) → j < k → P j → ⊥)

pub least_below : (P : ℕ → Type 0) (k : ℕ) → ((j : ℕ) → j < k → Decided (P j)) → LeastBelow P k
least_below P zero decide = inr (λ j l p. absurd (omega (arith, l)))
least_below P (suc k) decide = elim (least_below P k (λ j l. decide j (omega (arith, l)))) [
  | inl w ↦ inl (w.0, omega (arith, w.1), w.2, w.3)
  | inr none ↦ elim (decide k (omega arith)) [
    | inl p ↦ inl (k, omega arith, p, none)
    | inr n ↦ inr (λ j l p. elim (cases_eq j k) [
      | inl e ↦ n (subst P e p)
      | inr ne ↦ none j (omega (arith, l, ne)) p
    ])
  ]
]

abbrev pub at : ℕ → ℕ → Place
at i a = record { process = i; position = a }

abbrev Found : Clocks → (Place → Type 0) → ℕ → Type 0
Found o P k = (e : Place) × (e.process < k) × IsPlace o e × P e × ((f : Place) → IsPlace o f → IsBefore f e → P f → ⊥)

abbrev NoneOf : Clocks → (Place → Type 0) → ℕ → Type 0
NoneOf o P k = (f : Place) → f.process < k → IsPlace o f → P f → ⊥

-- the property at the event of position b + 1
abbrev OnProcess : (Place → Type 0) → ℕ → ℕ → Type 0
OnProcess P i b = P (at i (b + 1))

on_process : (o : Clocks) (P : Place → Type 0) (i : ℕ) (f : Place) → f.process ≡ i → IsPlace o f → P f → (b : ℕ) × (f.position ≡ b + 1) × (b < count (lengths o) i) × OnProcess P i b
on_process o P i f e there p =
    let b = f.position - 1 in
    let last : f.position ≤ count (lengths o) i = subst (λ x. f.position ≤ count (lengths o) x) e there.1 in
    let is : f.position ≡ b + 1 = omega (arith, there.0) in
    let same : f ≡ at i (b + 1) = λ t. record { process = e t; position = is t } in
    (b, is, omega (arith, there.0, last), subst P same p)

first_by_process : (o : Clocks) (P : Place → Type 0) → ((e : Place) → IsPlace o e → Decided (P e)) → (k : ℕ) → Found o P k ⊎ NoneOf o P k
first_by_process o P decide zero = inr (λ f l there p. absurd (omega (arith, l)))
first_by_process o P decide (suc k) = elim (first_by_process o P decide k) [
  | inl w ↦ inl (w.0, omega (arith, w.1), w.2, w.3, w.4)
  | inr none ↦ elim (least_below (OnProcess P k) (count (lengths o) k) (λ b l. decide (at k (b + 1)) (omega arith, omega (arith, l)))) [
    | inl w ↦ inl (
      at k (w.0 + 1),
      omega arith,
      (omega arith, omega (arith, w.1)),
      w.2,
      λ f there before p. elim before [
        | inl less ↦ none f (omega (arith, less)) there p
        | inr same ↦
            let on = on_process o P k f same.0 there p in
            w.3 on.0 (omega (arith, same.1, on.1)) on.3
      ],
    )
    | inr last ↦ inr (λ f l there p. elim (cases_eq f.process k) [
      | inl e ↦ let on = on_process o P k f e there p in last on.0 on.2 on.3
      | inr ne ↦ none f (omega (arith, l, ne)) there p
    ])
  ]
]

-- the first event with the property, or none has it
pub first_event : (o : Clocks) (P : Place → Type 0) → ((e : Place) → IsPlace o e → Decided (P e)) → ((e : Place) × IsFirst o P e) ⊎ ((e : Place) → IsPlace o e → P e → ⊥)
first_event o P decide = elim (first_by_process o P decide (length (lengths o))) [
  | inl w ↦ inl (w.0, record { there = w.2; has = w.3; first = w.4 })
  | inr none ↦ inr (λ f there p. none f (has_process (lengths o) f.process f.position there) there p)
]
