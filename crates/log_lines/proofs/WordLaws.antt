-- Words and names that are read stand in front, and what stands in front is read.
use Rattle.std.proofs.Common.{◌≡◌, ℕ, zero, suc, ◌+◌, ◌<◌, ◌≤◌, Bool, true, false, Option, Some, None, List, [], ◌∷◌, ◌++◌, length, take, drop, slice_index, refl, sym, ap, subst, ◌∙◌, arith, inl, inr}
use Rattle.std.specs.Prelude.{◌==◌, nat_lt, nat_le, ◌&&◌}
use Rattle.std.specs.List.{list_all}
use Rattle.std.proofs.lemmas.Bool.{cases_Bool, eqb-true, eq-eqb, lt-ltb, le-leb, and_parts, and_from, or_left, ltb-true, leb-true, true≢false}
use Rattle.std.proofs.lemmas.Option.{same_Some, cond_some}
use Rattle.std.proofs.lemmas.List.{take-append-drop, take_at, drop_at, length-take-le}
use Rattle.pota_base.specs.Limits.{longest_name}
use Rattle.log_lines.specs.Names.{is_name, is_name_start, is_name_byte}
use Rattle.log_lines.specs.Reading.{◌>>=◌, text_at, front, name_at, spaced_name_at}

-- the value of a step that did not fail
pub bind_some : {A B : Type 0} (r : Option A) (f : A → Option B) (y : B) → (r >>= f) ≡ Some y → (x : A) × (r ≡ Some x) × (f x ≡ Some y)
bind_some (Some x) f y e = (x, refl, e)
bind_some None f y e = absurd cc

pub text_takes : (text xs rest : List ℕ) → text_at text xs ≡ Some rest → xs ≡ text ++ rest
unfolding text_at
text_takes [] xs rest h = same_Some _ _ h
text_takes (t ∷ ts) [] rest h = absurd cc
text_takes (t ∷ ts) (b ∷ bs) rest h =
    elim (cases_Bool (b == t)) [
      | inl same ↦
          let e : b ≡ t = eqb-true b t same in
          let more = text_takes ts bs rest (rw same at h) in
          rw (e, more) refl
      | inr other ↦ cc (rw other at h)
    ]

pub text_again : (text rest : List ℕ) → text_at text (text ++ rest) ≡ Some rest
unfolding text_at
text_again [] rest = refl
text_again (t ∷ ts) rest = rw (eq-eqb t t refl) (text_again ts rest)

-- ---- names

front-le : (test : ℕ → Bool) (xs : List ℕ) → front test xs ≤ length xs
front-le test [] = omega arith
front-le test (b ∷ bs) = elim (cases_Bool (test b)) [
  | inl h ↦ rw h (omega (arith, front-le test bs))
  | inr h ↦ rw h (omega arith)
]

front-passes : (test : ℕ → Bool) (xs : List ℕ) → list_all test (take (front test xs) xs) ≡ true
front-passes test [] = refl
front-passes test (b ∷ bs) = elim (cases_Bool (test b)) [
  | inl h ↦
      let one : front test bs + 1 ≡ suc (front test bs) = omega arith in
      rw (h, one, h) (front-passes test bs)
  | inr h ↦ rw h refl
]

-- whether a text starts with a byte of a name
abbrev pub starts_name : List ℕ → Bool
starts_name [] = false
starts_name (b ∷ r) = is_name_byte b

front-stops : (xs : List ℕ) → starts_name xs ≡ false → front is_name_byte xs ≡ 0
front-stops [] h = refl
front-stops (b ∷ bs) h = rw h refl

front-again : (name rest : List ℕ) → list_all is_name_byte name ≡ true → starts_name rest ≡ false → front is_name_byte (name ++ rest) ≡ length name
front-again [] rest all stops = front-stops rest stops
front-again (b ∷ bs) rest all stops =
    let p = and_parts (is_name_byte b) (list_all is_name_byte bs) all in
    rw (p.0, front-again bs rest p.1 stops) (omega arith)

pub record NameTaken (xs name rest : List ℕ) : Type 0 where
  pub text : xs ≡ name ++ rest
  pub fits : is_name name ≡ true

-- a run of `k` bytes that passed the tests of a name is one
run_is_name : (k : ℕ) (xs : List ℕ) → k ≤ length xs → (nat_lt 0 k && nat_le k longest_name) ≡ true → is_name_start (slice_index xs 0) ≡ true → list_all is_name_byte (take k xs) ≡ true → is_name (take k xs) ≡ true
run_is_name zero xs within size first all = absurd (true≢false (sym size))
run_is_name (suc k) [] within size first all = absurd (omega arith)
run_is_name (suc k) (x ∷ xs) within size first all =
    let few : suc k ≤ longest_name = leb-true (suc k) longest_name (and_parts (nat_lt 0 (suc k)) (nat_le (suc k) longest_name) size).1 in
    let len : length (take k xs) ≡ k = length-take-le k xs (omega arith) in
    and_from _ _ first (and_from _ _ (rw len (lt-ltb k longest_name (omega arith))) (and_parts (is_name_byte x) (list_all is_name_byte (take k xs)) all).1)

pub record NameParts (n : List ℕ) : Type 0 where
  pub some : 0 < length n
  pub few : length n ≤ longest_name
  pub first : is_name_start (slice_index n 0) ≡ true
  pub bytes : list_all is_name_byte n ≡ true

pub name_parts : (n : List ℕ) → is_name n ≡ true → NameParts n
name_parts [] h = absurd (true≢false (sym h))
name_parts (b ∷ bs) h =
    let first = and_parts (is_name_start b) (nat_lt (length bs) longest_name && list_all is_name_byte bs) h in
    let rest = and_parts (nat_lt (length bs) longest_name) (list_all is_name_byte bs) first.1 in
    let few : length bs < longest_name = ltb-true (length bs) longest_name rest.0 in
    record { some = omega arith; few = omega arith; first = first.0; bytes = and_from (is_name_byte b) (list_all is_name_byte bs) (or_left (is_name_start b) _ first.0) rest.1 }

pub name_takes : (xs name rest : List ℕ) → name_at xs ≡ Some (name, rest) → NameTaken xs name rest
unfolding name_at
name_takes xs name rest h =
    let k = front is_name_byte xs in
    let parts = cond_some _ (take k xs, drop k xs) (name, rest) h in
    let tests = and_parts (nat_lt 0 k && nat_le k longest_name) (is_name_start (slice_index xs 0)) parts.0 in
    let fits = run_is_name k xs (front-le is_name_byte xs) tests.0 tests.1 (front-passes is_name_byte xs) in
    subst (λ (p : List ℕ × List ℕ). NameTaken xs p.0 p.1) parts.1 (record { text = sym (take-append-drop k xs); fits = fits })

index-append : (name rest : List ℕ) → 0 < length name → slice_index (name ++ rest) 0 ≡ slice_index name 0
index-append [] rest h = absurd (omega arith)
index-append (b ∷ bs) rest h = refl

pub name_again : (name rest : List ℕ) → is_name name ≡ true → starts_name rest ≡ false → name_at (name ++ rest) ≡ Some (name, rest)
unfolding name_at
name_again name rest fits stops =
    let p = name_parts name fits in
    rw (front-again name rest p.bytes stops, lt-ltb 0 (length name) p.some, le-leb (length name) longest_name p.few, index-append name rest p.some, p.first, take_at name rest (length name) refl, drop_at name rest (length name) refl) refl

pub record SpacedNameTaken (xs name rest : List ℕ) : Type 0 where
  pub text : xs ≡ 32 ∷ (name ++ rest)
  pub fits : is_name name ≡ true

pub spaced_name_takes : (xs name rest : List ℕ) → spaced_name_at xs ≡ Some (name, rest) → SpacedNameTaken xs name rest
unfolding spaced_name_at
spaced_name_takes xs name rest h =
    let b = bind_some (text_at (32 ∷ []) xs) name_at (name, rest) h in
    let n = name_takes b.0 name rest b.2 in
    record { text = text_takes (32 ∷ []) xs b.0 b.1 ∙ ap (λ (t : List ℕ). 32 ∷ t) n.text; fits = n.fits }

pub spaced_name_again : (name rest : List ℕ) → is_name name ≡ true → starts_name rest ≡ false → spaced_name_at (32 ∷ (name ++ rest)) ≡ Some (name, rest)
unfolding spaced_name_at text_at
spaced_name_again name rest fits stops = name_again name rest fits stops
