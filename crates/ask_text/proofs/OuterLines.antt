-- Which lines of a text begin with no space: of one that stands behind two spaces none, and of others those that stand there.
use Rattle.std.proofs.Common.{◌≡◌, ℕ, ◌+◌, ◌<◌, ◌^◌, Bool, true, false, List, [], ◌∷◌, ◌++◌, refl, sym, ap, ◌∙◌, arith, inl, inr, append_assoc, append-nil}
use Rattle.std.specs.Prelude.{◌==◌, ◌%◌, ◌&&◌, ◌⊎◌, not, if◌then◌else◌}
use Rattle.std.specs.Fmt.{decimal}
use Rattle.std.proofs.lemmas.Fmt.{decimal_by_steps}
use Rattle.std.proofs.lemmas.Bool.{and_parts}
use Rattle.std.proofs.lemmas.Bool.Decides.{nat_tests}
use Rattle.question_lines.specs.Lines.{IsOneLine}
use Rattle.ask_text.specs.Indented.{indent, indented_from, indented}
use Rattle.ask_text.specs.Lines.{Within, beginning, outer, inner, line_of, kept, behind, outer_lines_from, outer_lines}

-- ---- texts without a line feed

pub both : (xs ys : List ℕ) → IsOneLine xs → IsOneLine ys → IsOneLine (xs ++ ys)
both [] ys h k = k
both (x ∷ xs) ys h k = (h.0, both xs ys h.1 k)

abbrev is_free : List ℕ → Bool
is_free [] = true
is_free (b ∷ bs) = not (b == 10) && is_free bs

off : (b : Bool) → not b ≡ true → b ≡ false
off true h = sym h
off false h = refl

-- a fixed text, by computing
pub free : (text : List ℕ) → is_free text ≡ true → IsOneLine text
free [] h = tt
free (b ∷ bs) h = let p = and_parts (not (b == 10)) (is_free bs) h in (off (b == 10) p.0, free bs p.1)

not-ten : (d : ℕ) → (48 + d) == 10 ≡ false
not-ten d = grind (arith, nat_tests)

pub number-free : (n : ℕ) → n < 2 ^ 64 → IsOneLine (decimal n)
number-free n fits = decimal_by_steps (λ m ds. IsOneLine ds) (λ m low. (not-ten m, tt))
    (λ m ds big ih. both ds ((48 + m % 10) ∷ []) ih (not-ten (m % 10), tt)) n fits

-- ---- lines that are kept

go_on : (w : Within) (b : ℕ) (bs : List ℕ) → outer_lines_from w (b ∷ bs) ≡ kept (line_of w b) b ++ outer_lines_from (behind (line_of w b) b) bs
unfolding outer_lines_from
go_on w b bs = refl

rest_of_line : (t rest : List ℕ) → IsOneLine t → outer_lines_from outer ((t ++ 10 ∷ []) ++ rest) ≡ (t ++ 10 ∷ []) ++ outer_lines rest
rest_of_line [] rest h = go_on outer 10 rest
rest_of_line (b ∷ bs) rest h =
    go_on outer b ((bs ++ 10 ∷ []) ++ rest) ∙ ap (λ c. b ∷ outer_lines_from (if c then beginning else outer) ((bs ++ 10 ∷ []) ++ rest)) h.0
    ∙ ap (λ x. b ∷ x) (rest_of_line bs rest h.1)

-- a line whose first byte is no space
pub line_kept : (b : ℕ) (bs rest : List ℕ) → b == 32 ≡ false → IsOneLine (b ∷ bs) → outer_lines ((b ∷ bs ++ 10 ∷ []) ++ rest) ≡ (b ∷ bs ++ 10 ∷ []) ++ outer_lines rest
line_kept b bs rest no_space h =
    let text = (bs ++ 10 ∷ []) ++ rest in
    go_on beginning b text ∙ ap (λ c. kept (if c then inner else outer) b ++ outer_lines_from (behind (if c then inner else outer) b) text) no_space
    ∙ ap (λ c. b ∷ outer_lines_from (if c then beginning else outer) text) h.0
    ∙ ap (λ x. b ∷ x) (rest_of_line bs rest h.1)

-- ---- lines behind two spaces

indent_on : (begins : Bool) (b : ℕ) (bs : List ℕ) → indented_from begins (b ∷ bs) ≡ indent begins ++ b ∷ indented_from (b == 10) bs
unfolding indented_from
indent_on begins b bs = refl

indent_none : (begins : Bool) → indented_from begins [] ≡ []
unfolding indented_from
indent_none begins = refl

-- where a text behind two spaces stands
abbrev where_is : Bool → Within
where_is begins = if begins then beginning else inner

within : (begins : Bool) (b : ℕ) (rest : List ℕ) → outer_lines_from (where_is begins) ((indent begins ++ b ∷ []) ++ rest) ≡ outer_lines_from (where_is (b == 10)) rest
unfolding outer_lines_from
within true b rest = refl
within false b rest = refl

indented_passed : (begins : Bool) (t rest : List ℕ) → outer_lines_from (where_is begins) (indented_from begins (t ++ 10 ∷ []) ++ rest) ≡ outer_lines rest
indented_passed begins [] rest =
    ap (λ x. outer_lines_from (where_is begins) (x ++ rest)) (indent_on begins 10 [] ∙ ap (λ x. indent begins ++ 10 ∷ x) (indent_none true)) ∙ within begins 10 rest
indented_passed begins (b ∷ bs) rest =
    let more = indented_from (b == 10) (bs ++ 10 ∷ []) in
    ap (λ x. outer_lines_from (where_is begins) (x ++ rest)) (indent_on begins b (bs ++ 10 ∷ []))
    ∙ ap (outer_lines_from (where_is begins)) (simp append_assoc)
    ∙ within begins b (more ++ rest)
    ∙ indented_passed (b == 10) bs rest

-- a text of whole lines
abbrev pub IsWhole : List ℕ → Type 0
IsWhole t = (t ≡ []) ⊎ ((u : List ℕ) × (t ≡ u ++ 10 ∷ []))

pub whole_both : (a b : List ℕ) → IsWhole a → IsWhole b → IsWhole (a ++ b)
whole_both a b h (inl e) = elim h [ inl f ↦ inl (ap (λ x. x ++ b) f ∙ e) | inr (u, f) ↦ inr (u, ap (λ x. a ++ x) e ∙ append-nil a ∙ f) ]
whole_both a b h (inr (u, e)) = inr (a ++ u, ap (λ x. a ++ x) e ∙ sym (append_assoc a u (10 ∷ [])))

-- none of the lines of a text that stands behind two spaces is kept
pub indented_left_out : (t rest : List ℕ) → IsWhole t → outer_lines (indented t ++ rest) ≡ outer_lines rest
indented_left_out t rest (inl e) = ap (λ x. outer_lines (indented x ++ rest)) e ∙ ap (λ x. outer_lines (x ++ rest)) (indent_none true)
indented_left_out t rest (inr (u, e)) = ap (λ x. outer_lines (indented x ++ rest)) e ∙ indented_passed true u rest
