-- What stands before the formula of a question that was read has no line feed.
use Rattle.std.proofs.Common.{◌≡◌, ℕ, zero, suc, ◌+◌, ◌≤◌, Bool, true, false, List, [], ◌∷◌, take, drop, length, refl, sym, ap, subst, ◌∙◌, arith, inl, inr, add-one}
use Rattle.std.specs.Prelude.{◌⊎◌, ◌==◌, nat_lt, not, Option, Some, Result, Ok, Err, codes, if◌then◌else◌}
use Rattle.std.specs.Str.{bytes_eq}
use Rattle.std.proofs.lemmas.Bool.{cases_Bool}
use Rattle.std.proofs.lemmas.Bool.Decides.{nat_tests}
use Rattle.std.proofs.lemmas.List.{take_all}
use Rattle.pota_base.specs.Limits.{longest_question}
use Rattle.pota_names.specs.Names.{is_name_byte}
use Rattle.question_text.specs.Bytes.{is_blank, is_no_colon, is_title_byte, run_of, end_behind, end_of_words}
use Rattle.question_text.specs.Forms.{first_word, behind_word, names_process, of_word, words_of, at_end, front_of}
use Rattle.question_text.specs.Heads.{is_taken, title_at, name_of, headed, form_head, with_name, head_of}
use Rattle.question_text.specs.declared.front.Asking.{Asking}
use Rattle.question_text.specs.declared.front.Asking.TheVariants as asking
use Rattle.question_text.specs.declared.front.Front.{Front}
use Rattle.question_text.specs.declared.front.Front.TheVariants as front
use Rattle.question_text.specs.declared.head.Span.{Span}
use Rattle.question_text.specs.declared.head.Head.{Head}
use Rattle.question_text.specs.declared.head.HeadFault.{HeadFault}
use Rattle.question_lines.specs.Lines.{IsOneLine}
use Rattle.question_lines.proofs.Runs.{passed, run-free, take_both, split}

pick : {T E : Type 0} (b : Bool) (x y : Result T E) (v : T) → (if b then x else y) ≡ Ok v → ((b ≡ true) × (x ≡ Ok v)) ⊎ ((b ≡ false) × (y ≡ Ok v))
pick true x y v e = inl (refl, e)
pick false x y v e = inr (refl, e)

-- ---- the words of the form

word-free : (text : List ℕ) → IsOneLine (take (behind_word text) text)
word-free text =
    take_both (run_of is_name_byte text) (run_of is_blank (drop (run_of is_name_byte text) text)) text (run-free is_name_byte refl text) (run-free is_blank refl (drop (run_of is_name_byte text) text))

abbrev IsFine : Front → List ℕ → Type 0
IsFine (front.Words a behind) text = IsOneLine (take behind text)
IsFine front.NoWords text = Unit {0}
IsFine (front.NoEnd at) text = Unit {0}

either : (b : Bool) (f g : Front) (text : List ℕ) → IsFine f text → IsFine g text → IsFine (if b then f else g) text
either true f g text h k = h
either false f g text h k = k

words-fine : (a : Asking) (from : ℕ) (text : List ℕ) → IsOneLine (take from text) → IsFine (words_of a from) text
words-fine asking.Never from text h = h
words-fine asking.Can from text h = h
words-fine asking.Always from text h = h
words-fine asking.Surely from text h = h
words-fine asking.AtEnd from text h = h
words-fine asking.Plain from text h = tt

front-fine : (text : List ℕ) → IsFine (front_of text) text
unfolding front_of
front-fine text =
    let from = behind_word text in
    let rest = drop from text in
    let ending = at_end text from in
    let words = words_of (of_word (first_word text)) from in
    either (names_process rest) front.NoWords (if bytes_eq (first_word text) (codes "at") then ending else words) text tt
    (either (bytes_eq (first_word text) (codes "at")) ending words text
    (either (bytes_eq (first_word rest) (codes "end")) (front.Words asking.AtEnd (from + behind_word rest)) (front.NoEnd from) text (take_both from (behind_word rest) text (word-free text) (word-free rest)) tt)
    (words-fine (of_word (first_word text)) from text (word-free text)))

formula_or : Result Head HeadFault → ℕ
formula_or (Ok head) = head.formula
formula_or (Err fault) = 0

headed-free : (name : Option Span) (from : ℕ) (text : List ℕ) (f : Front) (head : Head) → IsOneLine (take from text) → IsFine f (drop from text) → headed name from f ≡ Ok head → IsOneLine (take head.formula text)
unfolding formula_or
headed-free name from text (front.Words a behind) head h fine e = subst (λ n. IsOneLine (take n text)) (ap formula_or e) (take_both from behind text h fine)
headed-free name from text front.NoWords head h fine e = subst (λ n. IsOneLine (take n text)) (ap formula_or e) h
headed-free name from text (front.NoEnd at) head h fine e = absurd cc

form-free : (name : Option Span) (at : ℕ) (text : List ℕ) (head : Head) → IsOneLine (take at text) → form_head name at text ≡ Ok head → IsOneLine (take head.formula text)
form-free name at text head h e =
    let blanks = run_of is_blank (drop at text) in
    let from = at + blanks in
    headed-free name from text (front_of (drop from text)) head (take_both at blanks text h (run-free is_blank refl (drop at text))) (front-fine (drop from text)) e

-- ---- the name

title-free : (from : ℕ) (title : List ℕ) (span : Span) → title_at from title ≡ Ok span → IsOneLine title
title-free from title span e = elim (pick (is_taken title) _ _ span e) [
  | inl p ↦ absurd (let q = p.1 in cc)
  | inr p ↦ elim (pick (nat_lt (run_of is_title_byte title) (length title)) _ _ span p.1) [
    | inl q ↦ absurd (let r = q.1 in cc)
    | inr q ↦
        let all : length title ≤ run_of is_title_byte title = let r = q.0 in grind (arith, nat_tests) in
        subst IsOneLine (take_all (run_of is_title_byte title) title all) (run-free is_title_byte refl title)
  ]
]

blanks_step : (b : ℕ) (bs : List ℕ) (end : ℕ) → IsOneLine (drop end bs) → IsOneLine (drop (end_behind b end) (b ∷ bs))
blanks_step b bs zero h = elim (cases_Bool (is_blank b)) [
  | inl test ↦ subst (λ n. IsOneLine (drop n (b ∷ bs))) (sym (ap (λ c. if c then 0 else 1) test)) (passed is_blank refl b test, h)
  | inr test ↦ subst (λ n. IsOneLine (drop n (b ∷ bs))) (sym (ap (λ c. if c then 0 else 1) test)) h
]
blanks_step b bs (suc end) h = h

-- behind the last byte that is no blank
blanks-free : (bs : List ℕ) → IsOneLine (drop (end_of_words bs) bs)
blanks-free [] = tt
blanks-free (b ∷ bs) = blanks_step b bs (end_of_words bs) (blanks-free bs)

name-free : (before : List ℕ) (span : Span) → name_of before ≡ Ok span → IsOneLine before
unfolding name_of
name-free before span e =
    let from = run_of is_blank before in
    let words = drop from before in
    elim (pick (end_of_words words == 0) _ _ span e) [
      | inl p ↦ absurd (let q = p.1 in cc)
      | inr p ↦
          split from before (run-free is_blank refl before)
          (split (end_of_words words) words (title-free from (take (end_of_words words) words) span p.1) (blanks-free words))
    ]

-- behind the bytes before a colon stands it, or nothing
colon-free : (text : List ℕ) → IsOneLine (take 1 (drop (run_of is_no_colon text) text))
colon-free [] = tt
colon-free (b ∷ bs) = elim (cases_Bool (b == 58)) [
  | inl colon ↦ subst (λ n. IsOneLine (take 1 (drop n (b ∷ bs)))) (sym (ap (λ c. if not c then run_of is_no_colon bs + 1 else 0) colon)) (passed (λ c. c == 58) refl b colon, tt)
  | inr other ↦
      let is : run_of is_no_colon (b ∷ bs) ≡ suc (run_of is_no_colon bs) = ap (λ c. if not c then run_of is_no_colon bs + 1 else 0) other ∙ add-one (run_of is_no_colon bs) in
      subst (λ n. IsOneLine (take 1 (drop n (b ∷ bs)))) (sym is) (colon-free bs)
]

named-free : (name : Result Span HeadFault) (colon : ℕ) (text : List ℕ) (head : Head) → ((span : Span) → name ≡ Ok span → IsOneLine (take colon text)) → IsOneLine (take 1 (drop colon text))
    → with_name name (colon + 1) text ≡ Ok head → IsOneLine (take head.formula text)
named-free (Ok span) colon text head h k e = form-free (Some span) (colon + 1) text head (take_both colon 1 text (h span refl) k) e
named-free (Err fault) colon text head h k e = absurd cc

-- ---- the whole

pub head-free : (text : List ℕ) (head : Head) → head_of text ≡ Ok head → IsOneLine (take head.formula text)
unfolding head_of
head-free text head e =
    let colon = run_of is_no_colon text in
    elim (pick (nat_lt longest_question (length text)) _ _ head e) [
      | inl p ↦ absurd (let q = p.1 in cc)
      | inr p ↦ elim (pick (colon == length text) _ _ head p.1) [
        | inl q ↦ form-free _ 0 text head tt q.1
        | inr q ↦ named-free (name_of (take colon text)) colon text head (λ span h. name-free (take colon text) span h) (colon-free text) q.1
      ]
    ]
