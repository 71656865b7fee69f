-- The lines that are seen of a document.
use Rattle.std.proofs.Common.{◌≡◌, ℕ, suc, ◌+◌, ◌≤◌, ◌<◌, ◌^◌, Bool, true, false, List, [], ◌∷◌, ◌++◌, length, refl, sym, ap, subst, ◌∙◌, arith, inl, inr, append_assoc, append-nil}
use Rattle.std.specs.Prelude.{◌⊎◌, ◌==◌, Some, codes, slice_get, if◌then◌else◌}
use Rattle.std.specs.List.{AllByRecursion, AllZip}
use Rattle.std.specs.Fmt.{decimal}
use Rattle.pota_base.specs.Limits.{most_questions}
use Rattle.event_log.specs.States.{StatesView}
use Rattle.question_lines.specs.Lines.{IsOneLine}
use Rattle.ask_text.specs.Documents.{EntryView, document, one, over, result_lines, text_of}
use Rattle.ask_text.specs.Text.{head_lines, result_word}
use Rattle.ask_top.specs.Documents.{view_holds}
use Rattle.ask_text.proofs.DocumentLines.{lines_of_document}
use Rattle.ask_text.proofs.OuterLines.{both, free, number-free}
use Rattle.ask_laws.specs.Lines.{AreResults, lines_from, not_ok_line, ok_line, seen_lines}

-- ---- one line

none_more : lines_from [] [] ≡ []
unfolding lines_from
none_more = refl

one_more : (begun : List ℕ) (b : ℕ) (bs : List ℕ) → lines_from begun (b ∷ bs) ≡ (if b == 10 then begun ∷ lines_from [] bs else lines_from (begun ++ b ∷ []) bs)
unfolding lines_from
one_more begun b bs = refl

line_first : (begun u rest : List ℕ) → IsOneLine u → lines_from begun ((u ++ 10 ∷ []) ++ rest) ≡ (begun ++ u) ∷ lines_from [] rest
line_first begun [] rest h = one_more begun 10 rest ∙ ap (λ (l : List ℕ). l ∷ lines_from [] rest) (sym (append-nil begun))
line_first begun (b ∷ bs) rest h =
    let behind = (bs ++ 10 ∷ []) ++ rest in
    one_more begun b behind
    ∙ ap (λ (feed : Bool). if feed then begun ∷ lines_from [] behind else lines_from (begun ++ b ∷ []) behind) h.0
    ∙ line_first (begun ++ b ∷ []) bs rest h.1
    ∙ ap (λ (l : List ℕ). l ∷ lines_from [] rest) (append_assoc begun (b ∷ []) bs)

-- ---- those of a document

abbrev pub line_of : ℕ → EntryView → List ℕ
line_of number v = result_word (view_holds v) ++ decimal number ++ codes " - " ++ text_of v

abbrev pub lines_of : ℕ → List EntryView → List (List ℕ)
lines_of number [] = []
lines_of number (v ∷ vs) = line_of number v ∷ lines_of (number + 1) vs

abbrev pub AreLines : List EntryView → Type 0
AreLines vs = AllByRecursion (λ (v : EntryView). IsOneLine (text_of v)) vs

word_free : (holds : Bool) → IsOneLine (result_word holds)
word_free true = free (codes "ok ") refl
word_free false = free (codes "not ok ") refl

line_free : (number : ℕ) (v : EntryView) → number < 2 ^ 64 → IsOneLine (text_of v) → IsOneLine (line_of number v)
line_free number v fits text =
    both (result_word (view_holds v) ++ decimal number ++ codes " - ") (text_of v)
    (both (result_word (view_holds v) ++ decimal number) (codes " - ") (both (result_word (view_holds v)) (decimal number) (word_free (view_holds v)) (number-free number fits)) (free (codes " - ") refl))
    text

results : (number : ℕ) (vs : List EntryView) → number + length vs < 2 ^ 64 → AreLines vs → lines_from [] (result_lines number vs) ≡ lines_of number vs
results number [] fits all = none_more
results number (one v ∷ vs) fits all =
    let here : number < 2 ^ 64 = omega arith in
    let more : (number + 1) + length vs < 2 ^ 64 = omega arith in
    line_first [] (line_of number (one v)) (result_lines (number + 1) vs) (line_free number (one v) here all.0)
    ∙ ap (λ (ls : List (List ℕ)). line_of number (one v) ∷ ls) (results (number + 1) vs more all.1)
results number (over v ∷ vs) fits all =
    let here : number < 2 ^ 64 = omega arith in
    let more : (number + 1) + length vs < 2 ^ 64 = omega arith in
    line_first [] (line_of number (over v)) (result_lines (number + 1) vs) (line_free number (over v) here all.0)
    ∙ ap (λ (ls : List (List ℕ)). line_of number (over v) ∷ ls) (results (number + 1) vs more all.1)

abbrev pub version : List ℕ
version = codes "TAP version 14"

abbrev pub plan : ℕ → List ℕ
plan n = codes "1.." ++ decimal n

plan_free : (n : ℕ) → n < 2 ^ 64 → IsOneLine (plan n)
plan_free n fits = both (codes "1..") (decimal n) (free (codes "1..") refl) (number-free n fits)

head : (n : ℕ) (rest : List ℕ) → n < 2 ^ 64 → lines_from [] (head_lines n ++ rest) ≡ version ∷ plan n ∷ lines_from [] rest
head n rest fits =
    line_first [] version ((plan n ++ 10 ∷ []) ++ rest) (free (codes "TAP version 14") refl)
    ∙ ap (λ (ls : List (List ℕ)). version ∷ ls) (line_first [] (plan n) rest (plan_free n fits))

pub seen : (s : StatesView) (steps : ℕ) (vs : List EntryView) → length vs ≤ most_questions → AreLines vs → seen_lines (document s steps vs) ≡ version ∷ plan (length vs) ∷ lines_of 1 vs
seen s steps vs few all =
    let fits : length vs < 2 ^ 64 = omega arith in
    let more : 1 + length vs < 2 ^ 64 = omega arith in
    ap (lines_from []) (lines_of_document s steps vs few all) ∙ head (length vs) (result_lines 1 vs) fits
    ∙ ap (λ (ls : List (List ℕ)). version ∷ plan (length vs) ∷ ls) (results 1 vs more all)

-- ---- what the line of a question says

abbrev first : List ℕ → ℕ
first [] = 0
first (b ∷ bs) = b

abbrev pub line_with : Bool → ℕ → List ℕ → List ℕ
line_with holds number question = result_word holds ++ decimal number ++ codes " - " ++ question

pub ok_holds : (holds : Bool) (number : ℕ) (question : List ℕ) → line_with holds number question ≡ ok_line number question → holds ≡ true
ok_holds true number question h = refl
ok_holds false number question h = let one : 110 ≡ 111 = ap first h in absurd (omega (arith, one))

pub holds_ok : (holds : Bool) (number : ℕ) (question : List ℕ) → holds ≡ true → line_with holds number question ≡ ok_line number question
holds_ok holds number question h = ap (λ (b : Bool). line_with b number question) h

pub ok_or_not : (holds : Bool) (number : ℕ) (question : List ℕ) → (line_with holds number question ≡ ok_line number question) ⊎ (line_with holds number question ≡ not_ok_line number question)
ok_or_not true number question = inl refl
ok_or_not false number question = inr refl

pub not_both : (number : ℕ) (question : List ℕ) → ok_line number question ≡ not_ok_line number question → ⊥
not_both number question h = let one : 111 ≡ 110 = ap first h in absurd (omega (arith, one))

-- ---- the lines of questions that are told

module _ (T : List ℕ → EntryView → Type 0) where
  -- that of the question at a place
  pub at_place : (before : List (List ℕ)) (q : List ℕ) (behind : List (List ℕ)) (vs : List EntryView) (number : ℕ) → AllZip T (before ++ q ∷ behind) vs
      → (v : EntryView) × T q v × (slice_get (lines_of number vs) (length before) ≡ Some (line_of (number + length before) v))
  at_place [] q behind [] number each = absurd each
  at_place [] q behind (v ∷ vs) number each = let here : number ≡ number + 0 = omega arith in (v, each.0, ap (λ (n : ℕ). Some (line_of n v)) here)
  at_place (p ∷ before) q behind [] number each = absurd each
  at_place (p ∷ before) q behind (v ∷ vs) number each =
      let rest = at_place before q behind vs (number + 1) each.1 in
      let place : (number + 1) + length before ≡ number + suc (length before) = omega arith in
      (rest.0, rest.1, rest.2 ∙ ap (λ (n : ℕ). Some (line_of n rest.0)) place)

  pub as_many_lines : (qs : List (List ℕ)) (vs : List EntryView) → AllZip T qs vs → length qs ≡ length vs
  as_many_lines [] [] each = refl
  as_many_lines [] (v ∷ vs) each = absurd each
  as_many_lines (q ∷ qs) [] each = absurd each
  as_many_lines (q ∷ qs) (v ∷ vs) each = ap suc (as_many_lines qs vs each.1)

  -- all of them
  pub are_results : ((q : List ℕ) (v : EntryView) → T q v → text_of v ≡ q) → (number : ℕ) (qs : List (List ℕ)) (vs : List EntryView) → AllZip T qs vs → AreResults number qs (lines_of number vs)
  are_results asked number [] [] each = tt
  are_results asked number [] (v ∷ vs) each = absurd each
  are_results asked number (q ∷ qs) [] each = absurd each
  are_results asked number (q ∷ qs) (v ∷ vs) each = (
    subst (λ (text : List ℕ). (line_with (view_holds v) number text ≡ ok_line number q) ⊎ (line_with (view_holds v) number text ≡ not_ok_line number q)) (sym (asked q v each.0)) (ok_or_not (view_holds v) number q),
    are_results asked (number + 1) qs vs each.1,
  )

  pub are_lines : ((q : List ℕ) (v : EntryView) → T q v → IsOneLine (text_of v)) → (qs : List (List ℕ)) (vs : List EntryView) → AllZip T qs vs → AreLines vs
  are_lines free_of [] [] each = tt
  are_lines free_of [] (v ∷ vs) each = absurd each
  are_lines free_of (q ∷ qs) [] each = absurd each
  are_lines free_of (q ∷ qs) (v ∷ vs) each = (free_of q v each.0, are_lines free_of qs vs each.1)
