-- What the columns tell of which events are shown.
use Rattle.std.proofs.Common.{◌≡◌, ℕ, zero, suc, ◌+◌, ◌-◌, ◌<◌, ◌≤◌, Bool, true, false, [], refl, sym, ap, subst, ◌∙◌, arith, inl, inr}
use Rattle.std.specs.Prelude.{nat_lt}
use Rattle.std.proofs.lemmas.Bool.{cases_Bool, cases_eq}
use Rattle.run_model.specs.Cut.{Clocks, count, lengths}
use Rattle.run_model.specs.Consistent.{IsEvent, IsOrder}
use Rattle.run_model.proofs.Orders.{earlier_happened_before}
use Rattle.causal_order.proofs.Orders.{event_there}
use Rattle.pota_base.specs.declared.shape.EventId.{EventId}
use Rattle.view_parts.specs.Parts.{place}
use Rattle.view_picture.specs.Columns.{Rows, column, AreColumns}
use Rattle.view_picture.specs.Shown.{is_shown, last_shown}
use Rattle.view_picture.specs.Laws.{ChosenAreShown, LastIsShown}

pub less : (a b : ℕ) → a < b → nat_lt a b ≡ true
less a b h = grind arith

pub not_less : (a b : ℕ) → b ≤ a → nat_lt a b ≡ false
not_less a b h = grind arith

pub is_less : (a b : ℕ) → nat_lt a b ≡ true → a < b
is_less a b h = grind arith

-- ---- the columns of one process

pub some : (o : Clocks) (shown : EventId → Bool) (rows : Rows) → AreColumns o shown rows → (i a : ℕ) → shown (place i a) ≡ true → IsEvent (lengths o) i a → 1 ≤ column rows i a
some o shown rows columns i a shows ev = elim (columns.tight i a shows ev) [
  | inl one ↦ omega (arith, one)
  | inr w ↦ omega (arith, w.next_to)
]

-- of two events of a process a shown one has a greater column than an earlier one
pub lower : (o : Clocks) (shown : EventId → Bool) (rows : Rows) → IsOrder o → AreColumns o shown rows → (p a b : ℕ) → a < b → b ≤ count (lengths o) p → shown (place p b) ≡ true → column rows p a < column rows p b
lower o shown rows order columns p zero b lt le shows = omega (arith, columns.opening p, some o shown rows columns p b shows (omega (arith, lt), le))
lower o shown rows order columns p (suc a) b lt le shows =
    let ev : IsEvent (lengths o) p b = (omega (arith, lt), le) in
    columns.before p (suc a) p b shows (earlier_happened_before o order p (suc a) b ev (omega arith) lt)

-- and another one no lower column
pub no_less : (o : Clocks) (shown : EventId → Bool) (rows : Rows) → IsOrder o → AreColumns o shown rows → (p a b : ℕ) → a ≤ b → b ≤ count (lengths o) p → column rows p a ≤ column rows p b
no_less o shown rows order columns p a zero le end =
    let none : zero ≡ a = omega (arith, le) in
    subst (λ (n : ℕ). column rows p n ≤ column rows p zero) none (omega arith)
no_less o shown rows order columns p a (suc b) le end = elim (cases_eq a (suc b)) [
  | inl same ↦ subst (λ (n : ℕ). column rows p n ≤ column rows p (suc b)) (sym same) (omega arith)
  | inr other ↦
      let next : suc b ≡ b + 1 = omega arith in
      let before = no_less o shown rows order columns p a b (omega (arith, le, other)) (omega (arith, end)) in
      elim (cases_Bool (shown (place p (suc b)))) [
        | inl shows ↦ omega (arith, before, lower o shown rows order columns p b (suc b) (omega arith) end shows)
        | inr hides ↦
            let carried = columns.carried p b (subst (λ (n : ℕ). shown (place p n) ≡ false) next hides) (omega arith, omega (arith, end)) in
            omega (arith, before, ap (column rows p) next, carried)
      ]
]

pub chosen_are_shown : ChosenAreShown
chosen_are_shown o shown rows order columns e h =
    let there = event_there o e h in
    elim (cases_Bool (shown e)) [
      | inl shows ↦ less (column rows e.process (e.position - 1)) (column rows e.process e.position) (lower o shown rows order columns e.process (e.position - 1) e.position (omega (arith, there.0)) there.1 shows) ∙ sym shows
      | inr hides ↦
          let back : e.position - 1 + 1 ≡ e.position = omega (arith, there.0) in
          let carried = columns.carried e.process (e.position - 1) (subst (λ (n : ℕ). shown (place e.process n) ≡ false) (sym back) hides) (omega arith, omega (arith, back, there.1)) in
          not_less (column rows e.process (e.position - 1)) (column rows e.process e.position) (omega (arith, carried, ap (column rows e.process) back)) ∙ sym hides
    ]

-- ---- the last one

pub last_here : (rows : Rows) (process n : ℕ) → is_shown rows (place process (suc n)) ≡ true → last_shown rows process (suc n) ≡ suc n
unfolding last_shown
last_here rows process n h = rw h refl

pub last_before : (rows : Rows) (process n : ℕ) → is_shown rows (place process (suc n)) ≡ false → last_shown rows process (suc n) ≡ last_shown rows process n
unfolding last_shown
last_before rows process n h = rw h refl

pub last_none : (rows : Rows) (process : ℕ) → last_shown rows process zero ≡ zero
unfolding last_shown
last_none rows process = refl

pub last_is_shown : LastIsShown
last_is_shown rows process zero = record {
  within = omega (arith, last_none rows process);
  itself = λ some. absurd (omega (arith, some, last_none rows process));
  behind = λ a lt le. absurd (omega (arith, lt, le, last_none rows process));
}
last_is_shown rows process (suc n) = elim (cases_Bool (is_shown rows (place process (suc n)))) [
  | inl shows ↦
      let here = last_here rows process n shows in
      record {
        within = omega (arith, here);
        itself = λ some. subst (λ (a : ℕ). is_shown rows (place process a) ≡ true) (sym here) shows;
        behind = λ a lt le. absurd (omega (arith, lt, le, here));
      }
  | inr hides ↦
      let back = last_before rows process n hides in
      let rest = last_is_shown rows process n in
      record {
        within = omega (arith, back, rest.within);
        itself = λ some. subst (λ (a : ℕ). is_shown rows (place process a) ≡ true) (sym back) (rest.itself (omega (arith, back, some)));
        behind = λ a lt le. elim (cases_eq a (suc n)) [
          | inl same ↦ subst (λ (b : ℕ). is_shown rows (place process b) ≡ false) (sym same) hides
          | inr other ↦ rest.behind a (omega (arith, back, lt)) (omega (arith, le, other))
        ];
      }
]
