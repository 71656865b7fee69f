-- A run has one assignment of columns to what is shown.
use Rattle.std.proofs.Common.{◌≡◌, ℕ, zero, suc, ◌+◌, ◌<◌, ◌≤◌, Bool, true, false, [], length, get_or, sym, ap, subst, ◌∙◌, arith, inl, inr}
use Rattle.std.proofs.lemmas.Bool.{cases_Bool}
use Rattle.std.proofs.lemmas.List.{same_lists, get_or_default}
use Rattle.pota_base.specs.declared.shape.EventId.{EventId}
use Rattle.run_model.specs.Cut.{Clocks, lengths}
use Rattle.run_model.specs.Consistent.{IsEvent}
use Rattle.view_parts.specs.Parts.{place}
use Rattle.view_picture.specs.Columns.{Rows, AreColumns, column}
use Rattle.view_picture.specs.Laws.{ColumnsAreOne}
use Rattle.view_picture.proofs.Shown.{some}

at_most : (o : Clocks) (shown : EventId → Bool) (rows others : Rows) → AreColumns o shown rows → AreColumns o shown others → (n i a : ℕ) → shown (place i a) ≡ true → IsEvent (lengths o) i a → column rows i a ≤ n → column rows i a ≤ column others i a
at_most o shown rows others columns also zero i a shows ev le = omega (arith, le)
at_most o shown rows others columns also (suc n) i a shows ev le = elim (columns.tight i a shows ev) [
  | inl one ↦ omega (arith, one, some o shown others also i a shows ev)
  | inr w ↦ omega (
    arith,
    w.next_to,
    also.before w.process w.position i a shows w.before,
    at_most o shown rows others columns also n w.process w.position w.is_shown w.before.first (omega (arith, w.next_to, le)),
  )
]

same_column : (o : Clocks) (shown : EventId → Bool) (rows others : Rows) → AreColumns o shown rows → AreColumns o shown others → (i a : ℕ) → i < length o → a < length (get_or rows i []) → column rows i a ≡ column others i a
same_column o shown rows others columns also i zero there lt = columns.opening i ∙ sym (also.opening i)
same_column o shown rows others columns also i (suc a) there lt =
    let ev : IsEvent (lengths o) i (suc a) = (omega arith, omega (arith, lt, columns.widths i there)) in
    elim (cases_Bool (shown (place i (suc a)))) [
      | inl shows ↦ omega (
        arith,
        at_most o shown rows others columns also (column rows i (suc a)) i (suc a) shows ev (omega arith),
        at_most o shown others rows also columns (column others i (suc a)) i (suc a) shows ev (omega arith),
      )
      | inr hides ↦
          let next : suc a ≡ a + 1 = omega arith in
          let none : shown (place i (a + 1)) ≡ false = subst (λ (n : ℕ). shown (place i n) ≡ false) next hides in
          let evn : IsEvent (lengths o) i (a + 1) = subst (λ (n : ℕ). IsEvent (lengths o) i n) next ev in
          ap (column rows i) next ∙ columns.carried i a none evn ∙ same_column o shown rows others columns also i a there (omega (arith, lt))
          ∙ sym (also.carried i a none evn) ∙ ap (column others i) (sym next)
    ]

same_row : (o : Clocks) (shown : EventId → Bool) (rows others : Rows) → AreColumns o shown rows → AreColumns o shown others → (i : ℕ) → i < length o → get_or rows i [] ≡ get_or others i []
same_row o shown rows others columns also i there =
    same_lists (get_or rows i []) (get_or others i []) (columns.widths i there ∙ sym (also.widths i there)) (λ a d lt.
    get_or_default (get_or rows i []) a d 0 lt ∙ same_column o shown rows others columns also i a there lt
    ∙ get_or_default (get_or others i []) a 0 d (omega (arith, lt, columns.widths i there, also.widths i there)))

pub columns_are_one : ColumnsAreOne
columns_are_one o shown rows others columns also =
    same_lists rows others (columns.procs ∙ sym also.procs) (λ i d lt.
    get_or_default rows i d [] lt ∙ same_row o shown rows others columns also i (omega (arith, lt, columns.procs))
    ∙ get_or_default others i [] d (omega (arith, lt, columns.procs, also.procs)))
