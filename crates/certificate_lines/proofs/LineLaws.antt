-- What is read is spelled so, and what is spelled so is read.
use Rattle.std.proofs.Common.{◌≡◌, ℕ, ◌-◌, ◌^◌, ◌<◌, true, false, Option, Some, None, List, [], ◌∷◌, ◌++◌, length, refl, sym, ap, subst, ◌∙◌, arith, inl, inr, append-nil, length-append}
use Rattle.std.specs.Prelude.{codes, ◌==◌, IfSome}
use Rattle.std.specs.Str.{bytes_eq}
use Rattle.std.specs.Fmt.{decimal}
use Rattle.std.proofs.lemmas.Bool.{cases_Bool, eqb-true, ne_eqb}
use Rattle.std.proofs.lemmas.List.{nil_from_length}
use Rattle.std.proofs.lemmas.Option.{same_Some}
use Rattle.std.proofs.lemmas.Slice.Eq.{bytes_eq-Decides}
use Rattle.pota_base.specs.Number.{number_at, whole}
use Rattle.pota_base.proofs.NumberLaws.{number_takes, number_again, starts_digit}
use Rattle.log_lines.specs.Reading.{choose, text_at}
use Rattle.log_lines.proofs.WordLaws.{bind_some, text_takes}
use Rattle.certificate_lines.specs.declared.line.Line.{Line}
use Rattle.certificate_lines.specs.declared.line.Line.TheVariants.{Node, Row, Raise, Verdict}
use Rattle.certificate_lines.specs.Spelling.{line_text, LineFits, Spells}
use Rattle.certificate_lines.specs.inside.Reading.{number_in, raise_in, after_in, row_in, node_in, verdict_in, line_in}

-- ---- numbers

record NumberTold (bytes : List ℕ) (n : ℕ) (rest : List ℕ) : Type 0 where
  text : bytes ≡ decimal n ++ rest
  small : n < 2 ^ 32

number-told : (bytes : List ℕ) (n : ℕ) (rest : List ℕ) → number_at (2 ^ 32 - 1) bytes ≡ Some (n, rest) → NumberTold bytes n rest
number-told bytes n rest h =
    let t = number_takes (2 ^ 32 - 1) bytes n rest (omega arith) h in
    record { text = t.text; small = omega (arith, t.bound) }

whole-takes : (r : Option (ℕ × List ℕ)) (n : ℕ) → whole r ≡ Some n → r ≡ Some (n, [])
whole-takes None n h = absurd cc
whole-takes (Some (m, [])) n h = ap (λ (x : ℕ). Some (x, [])) (same_Some _ _ h)
whole-takes (Some (m, b ∷ bs)) n h = absurd cc

number-takes : (bytes : List ℕ) (n : ℕ) → number_in bytes ≡ Some n → (bytes ≡ decimal n) × (n < 2 ^ 32)
number-takes bytes n h =
    let t = number-told bytes n [] (whole-takes (number_at (2 ^ 32 - 1) bytes) n h) in
    (t.text ∙ append-nil (decimal n), t.small)

number-first : (n : ℕ) (rest : List ℕ) → n < 2 ^ 32 → starts_digit rest ≡ false → number_at (2 ^ 32 - 1) (decimal n ++ rest) ≡ Some (n, rest)
number-first n rest fits stops = number_again (2 ^ 32 - 1) n rest (omega arith) (omega (arith, fits)) stops

number-alone : (n : ℕ) → n < 2 ^ 32 → number_at (2 ^ 32 - 1) (decimal n) ≡ Some (n, [])
number-alone n fits = ap (number_at (2 ^ 32 - 1)) (sym (append-nil (decimal n))) ∙ number-first n [] fits refl

-- ---- what is read

spelled : (bytes : List ℕ) (l m : Line) → Spells bytes l → Some l ≡ Some m → Spells bytes m
spelled bytes l m h e = subst (Spells bytes) (same_Some _ _ e) h

raise-takes : (bytes : List ℕ) (l : Line) → raise_in bytes ≡ Some l → Spells (codes "raise " ++ bytes) l
unfolding raise_in
raise-takes bytes l h =
    let a = bind_some (number_at (2 ^ 32 - 1) bytes) _ l h in
    let b = bind_some (text_at (32 ∷ []) a.0.1) _ l a.2 in
    let c = bind_some (number_in b.0) _ l b.2 in
    let pull = number-told bytes a.0.0 a.0.1 a.1 in
    let value = number-takes b.0 c.0 c.1 in
    let behind = text_takes (32 ∷ []) a.0.1 b.0 b.1 ∙ ap (λ (t : List ℕ). 32 ∷ t) value.0 in
    let text = ap (λ (t : List ℕ). codes "raise " ++ t) (pull.text ∙ ap (λ (t : List ℕ). decimal a.0.0 ++ t) behind) in
    spelled _ (Raise a.0.0 c.0) l (record { fits = (pull.small, value.1); text = text }) c.2

after-takes : (row : ℕ) (bytes : List ℕ) (l : Line) → row < 2 ^ 32 → after_in row bytes ≡ Some l → Spells (codes "row " ++ (decimal row ++ bytes)) l
unfolding after_in
after-takes row bytes l small h =
    let a = bind_some (text_at (codes " after ") bytes) _ l h in
    let b = bind_some (number_in a.0) _ l a.2 in
    let other = number-takes a.0 b.0 b.1 in
    let behind = text_takes (codes " after ") bytes a.0 a.1 ∙ ap (λ (t : List ℕ). codes " after " ++ t) other.0 in
    let text = ap (λ (t : List ℕ). codes "row " ++ (decimal row ++ t)) behind in
    spelled _ (Row row (Some b.0)) l (record { fits = (small, other.1); text = text }) b.2

row-takes : (bytes : List ℕ) (l : Line) → row_in bytes ≡ Some l → Spells (codes "row " ++ bytes) l
unfolding row_in
row-takes bytes l h =
    let a = bind_some (number_at (2 ^ 32 - 1) bytes) _ l h in
    let row = number-told bytes a.0.0 a.0.1 a.1 in
    elim (cases_Bool (length a.0.1 == 0)) [
      | inl none ↦
          let end = nil_from_length a.0.1 (eqb-true (length a.0.1) 0 none) in
          let text = row.text ∙ ap (λ (t : List ℕ). decimal a.0.0 ++ t) end ∙ append-nil (decimal a.0.0) in
          spelled _ (Row a.0.0 None) l (record { fits = row.small; text = ap (λ (t : List ℕ). codes "row " ++ t) text }) (rw none at a.2)
      | inr some ↦
          subst (λ (t : List ℕ). Spells (codes "row " ++ t) l) (sym row.text) (after-takes a.0.0 a.0.1 l row.small (rw some at a.2))
    ]

node-takes : (bytes : List ℕ) (l : Line) → node_in bytes ≡ Some l → Spells (codes "node " ++ bytes) l
unfolding node_in
node-takes bytes l h =
    let a = bind_some (number_in bytes) _ l h in
    let number = number-takes bytes a.0 a.1 in
    spelled _ (Node a.0) l (record { fits = number.1; text = ap (λ (t : List ℕ). codes "node " ++ t) number.0 }) a.2

verdict-takes : (line : List ℕ) (l : Line) → verdict_in line ≡ Some l → Spells line l
verdict-takes line l h = elim (cases_Bool (bytes_eq line (codes "verdict true"))) [
  | inl same ↦ spelled _ (Verdict true) l (record { fits = tt; text = (bytes_eq-Decides line (codes "verdict true")).0 same }) (rw same at h)
  | inr apart ↦ elim (cases_Bool (bytes_eq line (codes "verdict false"))) [
    | inl same ↦ spelled _ (Verdict false) l (record { fits = tt; text = (bytes_eq-Decides line (codes "verdict false")).0 same }) (rw (apart, same) at h)
    | inr other ↦ absurd (cc (rw (apart, other) at h))
  ]
]

-- by the first word, or what else there is
chosen : (word line : List ℕ) (read : List ℕ → Option Line) (none : Option Line) (l : Line) → ((rest : List ℕ) → read rest ≡ Some l → Spells (word ++ rest) l) → (none ≡ Some l → Spells line l)
    → choose (text_at word line) read none ≡ Some l → Spells line l
chosen word line read none l takes other h = by (text_at word line) refl h
  where
    by : (o : Option (List ℕ)) → text_at word line ≡ o → choose o read none ≡ Some l → Spells line l
    by (Some rest) begins h = subst (λ (t : List ℕ). Spells t l) (sym (text_takes word line rest begins)) (takes rest h)
    by None begins h = other h

pub line_takes : (line : List ℕ) (l : Line) → line_in line ≡ Some l → Spells line l
unfolding line_in
line_takes line l h =
    chosen (codes "raise ") line raise_in _ l (λ rest. raise-takes rest l)
    (chosen (codes "row ") line row_in _ l (λ rest. row-takes rest l)
    (chosen (codes "node ") line node_in _ l (λ rest. node-takes rest l) (verdict-takes line l))) h

-- ---- what is spelled is read

not-none : (other : ℕ) → length (codes " after " ++ decimal other) == 0 ≡ false
not-none other = ne_eqb (length (codes " after " ++ decimal other)) 0 (simp length-append (omega arith))

again : (l : Line) → LineFits l → line_in (line_text l) ≡ Some l
unfolding line_in raise_in row_in after_in node_in text_at
again (Node number) h = rw (number-alone number h) refl
again (Row row None) h = rw (number-alone row h) refl
again (Row row (Some other)) h = rw (number-first row (codes " after " ++ decimal other) h.0 refl, not-none other, number-alone other h.1) refl
again (Raise pull value) h = rw (number-first pull (codes " " ++ decimal value) h.0 refl, number-alone value h.1) refl
again (Verdict true) h = refl
again (Verdict false) h = refl

pub line_again : (line : List ℕ) (l : Line) → Spells line l → line_in line ≡ Some l
line_again line l h = ap line_in h.text ∙ again l h.fits

-- what a reading gave is spelled so
pub line_read : (line : List ℕ) (r : Option Line) → r ≡ line_in line → IfSome r (Spells line)
line_read line None h = tt
line_read line (Some l) h = line_takes line l (sym h)
