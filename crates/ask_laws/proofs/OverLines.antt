-- A question over processes is one line where an instance of it is.
use Rattle.std.proofs.Common.{◌≡◌, ℕ, zero, suc, ◌+◌, Bool, true, false, List, [], ◌∷◌, ◌++◌, take, drop, length, Option, Some, None, refl, sym, ap, subst, ◌∙◌, inl, inr, add-one}
use Rattle.std.specs.Prelude.{◌⊎◌, ◌==◌, Result, Ok, Err, not, nat_lt, if◌then◌else◌}
use Rattle.std.specs.Str.{bytes_eq}
use Rattle.std.proofs.lemmas.Bool.{cases_Bool, eqb-true, true≢false}
use Rattle.std.proofs.lemmas.List.{drop-drop}
use Rattle.pota_names.specs.Names.{is_name_byte}
use Rattle.question_text.specs.Bytes.{is_blank, is_no_colon, run_of}
use Rattle.question_text.specs.Forms.{behind_word}
use Rattle.question_text.specs.declared.head.Span.{Span}
use Rattle.question_instances.specs.Instances.{Renaming, instance_text, is_none, next_after, put_word, scanned}
use Rattle.question_instances.specs.Over.{begins_name, begins_over, closed_at, found, is_at, is_empty, is_first, over_at, over_behind, over_of, past_blanks, past_word, span_at, with_first, word_at}
use Rattle.question_instances.specs.declared.over.Over.{Over}
use Rattle.question_instances.specs.declared.over.OverFault.{OverFault}
use Rattle.question_lines.specs.Lines.{IsOneLine}

pick : {T E : Type 0} (b : Bool) (x y : Result T E) (v : T) → (if b then x else y) ≡ Ok v → ((b ≡ true) × (x ≡ Ok v)) ⊎ ((b ≡ false) × (y ≡ Ok v))
pick true x y v e = inl (refl, e)
pick false x y v e = inr (refl, e)

-- ---- parts of a text

front : (xs ys : List ℕ) → IsOneLine (xs ++ ys) → IsOneLine xs
front [] ys h = tt
front (x ∷ xs) ys h = (h.0, front xs ys h.1)

behind : (xs ys : List ℕ) → IsOneLine (xs ++ ys) → IsOneLine ys
behind [] ys h = h
behind (x ∷ xs) ys h = behind xs ys h.1

both_parts : (a : ℕ) (text : List ℕ) → IsOneLine (take a text) → IsOneLine (drop a text) → IsOneLine text
both_parts zero text h k = k
both_parts (suc a) [] h k = tt
both_parts (suc a) (x ∷ text) h k = (h.0, both_parts a text h.1 k)

-- ---- bytes that pass a test which a line feed fails

passed : (test : ℕ → Bool) → test 10 ≡ false → (b : ℕ) → test b ≡ true → b == 10 ≡ false
passed test fails b h = elim (cases_Bool (b == 10)) [
  | inl ten ↦ absurd (true≢false (sym h ∙ ap test (eqb-true b 10 ten) ∙ fails))
  | inr other ↦ other
]

behind_run : (test : ℕ → Bool) → test 10 ≡ false → (text : List ℕ) → IsOneLine (drop (run_of test text) text) → IsOneLine text
behind_run test fails [] h = tt
behind_run test fails (b ∷ text) h = elim (cases_Bool (test b)) [
  | inl is ↦
      let more : run_of test (b ∷ text) ≡ suc (run_of test text) = ap (λ c. if c then run_of test text + 1 else 0) is ∙ add-one (run_of test text) in
      (passed test fails b is, behind_run test fails text (subst (λ n. IsOneLine (drop n (b ∷ text))) more h))
  | inr isnt ↦
      let none : run_of test (b ∷ text) ≡ 0 = ap (λ c. if c then run_of test text + 1 else 0) isnt in
      subst (λ n. IsOneLine (drop n (b ∷ text))) none h
]

behind_first : (text : List ℕ) → IsOneLine (drop (behind_word text) text) → IsOneLine text
behind_first text h =
    let word = run_of is_name_byte text in
    behind_run is_name_byte refl text
    (behind_run is_blank refl (drop word text) (subst IsOneLine (sym (drop-drop (run_of is_blank (drop word text)) word text)) h))

behind_at : (at : ℕ) (text : List ℕ) → IsOneLine (drop (past_word at text) text) → IsOneLine (drop at text)
behind_at at text h = behind_first (drop at text) (subst IsOneLine (sym (drop-drop (behind_word (drop at text)) at text)) h)

behind_colon : (text : List ℕ) → is_first 58 text ≡ true → IsOneLine (drop 1 text) → IsOneLine text
behind_colon [] is h = tt
behind_colon (b ∷ text) is h = (passed (λ (c : ℕ). c == 58) refl b is, h)

-- ---- the words that name what stands for processes

-- they begin at `from`, and what is behind `at` is one line where what is behind them is
abbrev Begins : ℕ → ℕ → List ℕ → Over → Type 0
Begins from at text over = (over.from ≡ from) × (IsOneLine (drop over.to text) → IsOneLine (drop at text))

closed : (from end : ℕ) (first : Span) (second : Option Span) (text : List ℕ) (over : Over) → closed_at from end first second text ≡ Ok over → Begins from end text over
closed from end first second text over h =
    let made : Over = record { from = from; first = first; second = second; to = end + 1 } in
    elim (pick (is_at 58 end text) (Ok made) (Err _) over h) [
      | inl is ↦
          let same : made ≡ over = let ok = is.1 in cc in
          (sym (ap (λ (o : Over). o.from) same), λ rest. behind_colon (drop end text) is.0 (subst IsOneLine (sym (drop-drop 1 end text)) (subst (λ (o : Over). IsOneLine (drop o.to text)) (sym same) rest)))
      | inr isnt ↦ let miss = isnt.1 in absurd cc
    ]

named : (from name at : ℕ) (text : List ℕ) (over : Over) → with_first from name at text ≡ Ok over → Begins from at text over
named from name at text over h =
    let one = closed_at from at (span_at name text) None text in
    let two = closed_at from (past_word at text) (span_at name text) (Some (span_at at text)) text in
    elim (pick (is_empty (word_at at text)) one _ over h) [
      | inl is ↦ closed from at (span_at name text) None text over is.1
      | inr more ↦ elim (pick (not (begins_name (word_at at text))) (Err _) _ over more.1) [
        | inl miss ↦ let isnt = miss.1 in absurd cc
        | inr other ↦ elim (pick (bytes_eq (word_at at text) (word_at name text)) (Err _) two over other.1) [
          | inl miss ↦ let isnt = miss.1 in absurd cc
          | inr is ↦
              let so = closed from (past_word at text) (span_at name text) (Some (span_at at text)) text over is.1 in
              (so.0, λ rest. behind_at at text (so.1 rest))
        ]
      ]
    ]

over_from : (from : ℕ) (text : List ℕ) (over : Over) → over_at from text ≡ Ok over → Begins from from text over
over_from from text over h =
    let at = past_word from text in
    elim (pick (not (begins_name (word_at at text))) (Err _) (with_first from at (past_word at text) text) over h) [
      | inl miss ↦ let isnt = miss.1 in absurd cc
      | inr is ↦
          let so = named from at (past_word at text) text over is.1 in
          (so.0, λ rest. behind_at from text (behind_at at text (so.1 rest)))
    ]

found_one : (r : Result Over OverFault) (over : Over) → found r ≡ Ok (Some over) → r ≡ Ok over
found_one (Ok o) over h = cc
found_one (Err f) over h = absurd cc

-- what is behind their first byte
abbrev FromThem : List ℕ → Over → Type 0
FromThem text over = IsOneLine (drop over.to text) → IsOneLine (drop over.from text)

at_place : (from : ℕ) (text : List ℕ) (over : Over) → found (over_at from text) ≡ Ok (Some over) → FromThem text over
at_place from text over h =
    let so = over_from from text over (found_one (over_at from text) over h) in
    λ rest. subst (λ n. IsOneLine (drop n text)) (sym so.0) (so.1 rest)

behind_title : (at : ℕ) (text : List ℕ) (over : Over) → over_behind at text ≡ Ok (Some over) → FromThem text over
behind_title at text over h = elim (pick (begins_over at text) (found (over_at at text)) (Ok None) (Some over) h) [
  | inl is ↦ at_place at text over is.1
  | inr miss ↦ let isnt = miss.1 in absurd cc
]

from_them : (text : List ℕ) (over : Over) → over_of text ≡ Ok (Some over) → FromThem text over
unfolding over_of
from_them text over h =
    let front_at = past_blanks 0 text in
    let colon = run_of is_no_colon text in
    elim (pick (nat_lt 8192 (length text)) (Ok None) _ (Some over) h) [
      | inl miss ↦ let isnt = miss.1 in absurd cc
      | inr short ↦ elim (pick (begins_over front_at text) (found (over_at front_at text)) _ (Some over) short.1) [
        | inl is ↦ at_place front_at text over is.1
        | inr titled ↦ elim (pick (colon == length text) (Ok None) (over_behind (past_blanks (colon + 1) text) text) (Some over) titled.1) [
          | inl miss ↦ let isnt = miss.1 in absurd cc
          | inr is ↦ behind_title (past_blanks (colon + 1) text) text over is.1
        ]
      ]
    ]

-- ---- an instance

scanned_from : (names : List Renaming) (after : Bool) (word text : List ℕ) → IsOneLine (scanned names after word text) → IsOneLine text
scanned_from names after word [] h = tt
scanned_from names after word (b ∷ text) h =
    let on = scanned names after (word ++ b ∷ []) text in
    let off = put_word after names word ++ b ∷ scanned names (next_after after (is_none word) b) [] text in
    elim (cases_Bool (is_name_byte b)) [
      | inl is ↦ (passed is_name_byte refl b is, scanned_from names after (word ++ b ∷ []) text (subst IsOneLine (ap (λ (c : Bool). if c then on else off) is) h))
      | inr isnt ↦
          let rest = behind (put_word after names word) (b ∷ scanned names (next_after after (is_none word) b) [] text) (subst IsOneLine (ap (λ (c : Bool). if c then on else off) isnt) h) in
          (rest.0, scanned_from names (next_after after (is_none word) b) [] text rest.1)
    ]

pub line_of_instance : (text : List ℕ) (over : Over) (names : List Renaming) → over_of text ≡ Ok (Some over) → IsOneLine (instance_text text over names) → IsOneLine text
line_of_instance text over names is h =
    let before = take over.from text in
    let rest = scanned names false [] (drop over.to text) in
    both_parts over.from text (front before rest h) (from_them text over is (scanned_from names false [] (drop over.to text) (behind before rest h)))
