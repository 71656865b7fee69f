-- The noted lines of the header are those that spell the variables.
use Rattle.std.proofs.Common.{◌≡◌, ℕ, zero, suc, ◌+◌, ◌-◌, ◌<◌, Option, Some, List, [], ◌∷◌, length, get_or, refl, ap, ◌∙◌, arith, ◌⊎◌, inl, inr}
use Rattle.std.specs.Prelude.{slice_get}
use Rattle.log_lines.specs.Names.{Name}
use Rattle.log_lines.specs.Spelling.{vars_line}
use Rattle.event_log.specs.declared.log.Binding.{Binding}
use Rattle.event_log.specs.declared.log.Header.{Header}
use Rattle.event_log.specs.Before.{Line, lines_from}
use Rattle.event_log.specs.Numbers.{variables_at}
use Rattle.event_log.specs.LogText.{name_at, values_of, vars_lines, header_lines, HasVarLines}
use Rattle.event_log.specs.NotedLines.{NotesLine, NotesNone, LinesAreNoted}

abbrev spelled : List Name → List (List Binding) → ℕ → Line
spelled procs vars p = vars_line (record { process = name_at procs p; variables = values_of (variables_at vars p) })

record Spelled (n : ℕ) (procs : List Name) (vars : List (List Binding)) (p : ℕ) : Type 0 where
  k : ℕ
  at : get_or (lines_from n vars) p 0 ≡ n + k
  line : slice_get (vars_lines procs vars) k ≡ Some (spelled procs vars p)

record NoneAt (n : ℕ) (vars : List (List Binding)) (p : ℕ) : Type 0 where
  no_line : get_or (lines_from n vars) p 0 ≡ 0
  empty : variables_at vars p ≡ []

spells : (n : ℕ) (procs : List Name) (vars : List (List Binding)) (p : ℕ) → p < length procs → NoneAt n vars p ⊎ Spelled n procs vars p
spells n procs [] p lt = inl (record { no_line = refl; empty = refl })
spells n [] (v ∷ vars) p lt = absurd (omega arith)
spells n (q ∷ procs) ([] ∷ vars) zero lt = inl (record { no_line = refl; empty = refl })
spells n (q ∷ procs) ([] ∷ vars) (suc p) lt = elim (spells n procs vars p (omega arith)) [
  | inl none ↦ inl (record { no_line = none.no_line; empty = none.empty })
  | inr s ↦ inr (record { k = s.k; at = s.at; line = s.line })
]
spells n (q ∷ procs) ((b ∷ bs) ∷ vars) zero lt = inr (record { k = 0; at = omega arith; line = refl })
spells n (q ∷ procs) ((b ∷ bs) ∷ vars) (suc p) lt = elim (spells (n + 1) procs vars p (omega arith)) [
  | inl none ↦ inl (record { no_line = none.no_line; empty = none.empty })
  | inr s ↦ let e : n + 1 + s.k ≡ n + suc s.k = omega arith in inr (record { k = suc s.k; at = s.at ∙ e; line = s.line })
]

pub lines_are_noted : LinesAreNoted
lines_are_noted h p lt lines =
    let same = ap (λ (ns : List ℕ). get_or ns p 0) lines in
    elim (spells 3 h.procs h.vars p lt) [
      | inl none ↦ inl (record { no_line = same ∙ none.no_line; empty = none.empty })
      | inr s ↦
          let e : get_or h.var_lines p 0 - 1 ≡ suc (suc s.k) = omega (arith, same, s.at) in
          inr (record { some = omega (arith, same, s.at); spells = ap (λ (k : ℕ). slice_get (header_lines h) k) e ∙ s.line })
    ]
