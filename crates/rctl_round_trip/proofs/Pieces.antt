-- The tokens of a text whose front is one token or a blank.
use Rattle.std.proofs.Common.{◌≡◌, ℕ, suc, ◌+◌, ◌/◌, ◌%◌, ◌^◌, ◌<◌, ◌≤◌, Bool, true, false, List, [], ◌∷◌, ◌++◌, map, length, take, drop, Some, None, refl, sym, ap, subst, ◌∙◌, arith, inl, inr, length-append}
use Rattle.std.specs.Prelude.{ℤ, pos, negsuc, ◌&&◌, ◌==◌, nat_lt, FitsSigned}
use Rattle.std.specs.Int.{w64}
use Rattle.std.specs.Fmt.{decimal, signed_decimal}
use Rattle.std.specs.List.{list_all}
use Rattle.std.proofs.lemmas.Int.{ints}
use Rattle.std.proofs.lemmas.Fmt.{decimal_by_steps}
use Rattle.std.proofs.lemmas.Bool.{cases_Bool, cases_lt, and_parts}
use Rattle.std.proofs.lemmas.Bool.Decides.{nat_tests}
use Rattle.pota_base.specs.Number.{is_digit}
use Rattle.pota_base.proofs.NumberLaws.{signed_only}
use Rattle.pota_base.specs.Limits.{longest_name}
use Rattle.pota_names.specs.Names.{is_name, is_name_start, is_name_byte}
use Rattle.rctl_grammar.specs.declared.token.Kind.{Kind}
use Rattle.rctl_grammar.specs.declared.token.Kind.TheVariants as kind
use Rattle.rctl_grammar.specs.declared.token.Token.{Token}
use Rattle.rctl_grammar.specs.declared.token.End.TheVariants as end_is
use Rattle.rctl_grammar.specs.declared.tree.Compare.{Compare}
use Rattle.rctl_grammar.specs.declared.tree.Compare.TheVariants as compare
use Rattle.rctl_print.specs.Canonical as print
use Rattle.rctl_lexer.specs.declared.front.Front.TheVariants as at_front
use Rattle.rctl_lexer.specs.declared.lexer.Lexed.{Lexed}
use Rattle.rctl_lexer.specs.Front.{front, is_blank, starts_with, leads_number, begins_number, starts_digit, sign_of, with_equals, sign_front, word_front, number_front}
use Rattle.rctl_lexer.specs.Lexing.{after, lex_from}
use Rattle.rctl_lexer.specs.Runs.{run_of}
use Rattle.rctl_lexer.specs.Words.{word_of}
use Rattle.rctl_lexer.proofs.Steps.{passes}

abbrev pub kind_of : Token → Kind
kind_of t = t.kind

-- tokens of these kinds, up to the end of the text
pub record ReadAs (lexed : Lexed) (ks : List Kind) : Type 0 where
  pub kinds : map kind_of lexed.tokens ≡ ks
  pub stop : ℕ
  pub ends : lexed.end ≡ end_is.Ends stop

-- a text has tokens of these kinds, wherever it stands
abbrev pub Reads : List ℕ → List Kind → Type 0
Reads text ks = (at : ℕ) → ReadAs (lex_from 0 at text) ks

pub nothing : Reads [] []
unfolding lex_from
nothing at = record { kinds = refl; stop = at; ends = refl }

pub blank : (text : List ℕ) (ks : List Kind) → Reads text ks → Reads (32 ∷ text) ks
unfolding lex_from front
blank text ks h at = h (at + 1)

-- a token, and then the rest
pub token : (b : ℕ) (text rest : List ℕ) (k : Kind) (extra : ℕ) (ks : List Kind) → front (b ∷ text) ≡ at_front.Token k extra → extra ≤ length text →
    drop extra text ≡ rest → Reads rest ks → Reads (b ∷ text) (k ∷ ks)
unfolding lex_from
token b text rest k extra ks stands within is h at =
    let r = h (at + 1 + extra) in
    let p = passes extra (at + 1) text within ∙ ap (lex_from 0 (at + 1 + extra)) is in
    let e : lex_from 0 at (b ∷ text) ≡ after (record { kind = k; at = at } ∷ []) (lex_from 0 (at + 1 + extra) rest) = rw (stands, p) refl in
    subst (λ (l : Lexed). ReadAs l (k ∷ ks)) (sym e) (record { kinds = ap (λ (kinds : List Kind). k ∷ kinds) r.kinds; stop = r.stop; ends = r.ends })

-- ---- signs

-- a sign of one byte that is no front of another
pub sign : (b : ℕ) (k : Kind) (rest : List ℕ) (ks : List Kind) → is_blank b ≡ false → is_name_start b ≡ false → leads_number b rest ≡ false →
    with_equals b ≡ None → sign_of b ≡ Some k → Reads rest ks → Reads (b ∷ rest) (k ∷ ks)
unfolding front sign_front
sign b k rest ks no_blank no_word no_number alone is h =
    let stands : front (b ∷ rest) ≡ at_front.Token k 0 = elim (cases_Bool (starts_with 61 rest)) [
      | inl e ↦ rw (no_blank, no_word, no_number, e, alone, is) refl
      | inr e ↦ rw (no_blank, no_word, no_number, e, is) refl
    ] in
    token b rest rest k 0 ks stands (omega arith) refl h

-- a sign of one byte that is the front of another, which doesn't stand there
pub short_sign : (b : ℕ) (k : Kind) (rest : List ℕ) (ks : List Kind) → is_blank b ≡ false → is_name_start b ≡ false → leads_number b rest ≡ false →
    sign_of b ≡ Some k → starts_with 61 rest ≡ false → Reads rest ks → Reads (b ∷ rest) (k ∷ ks)
unfolding front sign_front
short_sign b k rest ks no_blank no_word no_number is other h =
    let stands : front (b ∷ rest) ≡ at_front.Token k 0 = rw (no_blank, no_word, no_number, other, is) refl in
    token b rest rest k 0 ks stands (omega arith) refl h

-- a sign of two bytes
pub long_sign : (b : ℕ) (k : Kind) (rest : List ℕ) (ks : List Kind) → is_blank b ≡ false → is_name_start b ≡ false → leads_number b (61 ∷ rest) ≡ false →
    with_equals b ≡ Some k → Reads rest ks → Reads (b ∷ 61 ∷ rest) (k ∷ ks)
unfolding front sign_front
long_sign b k rest ks no_blank no_word no_number is h =
    let stands : front (b ∷ 61 ∷ rest) ≡ at_front.Token k 1 = rw (no_blank, no_word, no_number, is) refl in
    token b (61 ∷ rest) rest k 1 ks stands (omega arith) refl h

pub open_round : (rest : List ℕ) (ks : List Kind) → Reads rest ks → Reads (40 ∷ rest) (kind.OpenRound ∷ ks)
unfolding sign_of with_equals
open_round rest ks h = sign 40 kind.OpenRound rest ks refl refl refl refl refl h

pub close_round : (rest : List ℕ) (ks : List Kind) → Reads rest ks → Reads (41 ∷ rest) (kind.CloseRound ∷ ks)
unfolding sign_of with_equals
close_round rest ks h = sign 41 kind.CloseRound rest ks refl refl refl refl refl h

pub open_square : (rest : List ℕ) (ks : List Kind) → Reads rest ks → Reads (91 ∷ rest) (kind.OpenSquare ∷ ks)
unfolding sign_of with_equals
open_square rest ks h = sign 91 kind.OpenSquare rest ks refl refl refl refl refl h

pub close_square : (rest : List ℕ) (ks : List Kind) → Reads rest ks → Reads (93 ∷ rest) (kind.CloseSquare ∷ ks)
unfolding sign_of with_equals
close_square rest ks h = sign 93 kind.CloseSquare rest ks refl refl refl refl refl h

pub comma : (rest : List ℕ) (ks : List Kind) → Reads rest ks → Reads (44 ∷ rest) (kind.Comma ∷ ks)
unfolding sign_of with_equals
comma rest ks h = sign 44 kind.Comma rest ks refl refl refl refl refl h

pub dot : (rest : List ℕ) (ks : List Kind) → Reads rest ks → Reads (46 ∷ rest) (kind.Dot ∷ ks)
unfolding sign_of with_equals
dot rest ks h = sign 46 kind.Dot rest ks refl refl refl refl refl h

pub at_sign : (rest : List ℕ) (ks : List Kind) → Reads rest ks → Reads (64 ∷ rest) (kind.At ∷ ks)
unfolding sign_of with_equals
at_sign rest ks h = sign 64 kind.At rest ks refl refl refl refl refl h

pub amp : (rest : List ℕ) (ks : List Kind) → Reads rest ks → Reads (38 ∷ rest) (kind.Amp ∷ ks)
unfolding sign_of with_equals
amp rest ks h = sign 38 kind.Amp rest ks refl refl refl refl refl h

pub bar : (rest : List ℕ) (ks : List Kind) → Reads rest ks → Reads (124 ∷ rest) (kind.Bar ∷ ks)
unfolding sign_of with_equals
bar rest ks h = sign 124 kind.Bar rest ks refl refl refl refl refl h

-- with a blank behind it
pub minus : (rest : List ℕ) (ks : List Kind) → Reads rest ks → Reads (45 ∷ 32 ∷ rest) (kind.Minus ∷ ks)
unfolding sign_of with_equals
minus rest ks h = sign 45 kind.Minus (32 ∷ rest) ks refl refl refl refl refl (blank rest ks h)

pub bang : (rest : List ℕ) (ks : List Kind) → starts_with 61 rest ≡ false → Reads rest ks → Reads (33 ∷ rest) (kind.Bang ∷ ks)
unfolding sign_of
bang rest ks other h = short_sign 33 kind.Bang rest ks refl refl refl refl other h

-- the sign of a comparison, with a blank behind it
pub compared : (c : Compare) (rest : List ℕ) (ks : List Kind) → Reads rest ks → Reads (print.sign_of c ++ 32 ∷ rest) (kind.Compare c ∷ ks)
unfolding sign_of with_equals
compared compare.Eq rest ks h = sign 61 (kind.Compare compare.Eq) (32 ∷ rest) ks refl refl refl refl refl (blank rest ks h)
compared compare.Ne rest ks h = long_sign 33 (kind.Compare compare.Ne) (32 ∷ rest) ks refl refl refl refl (blank rest ks h)
compared compare.Lt rest ks h = short_sign 60 (kind.Compare compare.Lt) (32 ∷ rest) ks refl refl refl refl refl (blank rest ks h)
compared compare.Le rest ks h = long_sign 60 (kind.Compare compare.Le) (32 ∷ rest) ks refl refl refl refl (blank rest ks h)
compared compare.Gt rest ks h = short_sign 62 (kind.Compare compare.Gt) (32 ∷ rest) ks refl refl refl refl refl (blank rest ks h)
compared compare.Ge rest ks h = long_sign 62 (kind.Compare compare.Ge) (32 ∷ rest) ks refl refl refl refl (blank rest ks h)

-- ---- runs

-- whether a byte that passes stands at the front
abbrev pub starts : (ℕ → Bool) → List ℕ → Bool
starts passes [] = false
starts passes (b ∷ bs) = passes b

run-ends : (test : ℕ → Bool) (rest : List ℕ) → starts test rest ≡ false → run_of test rest ≡ 0
run-ends test [] h = refl
run-ends test (b ∷ bs) h = rw h refl

-- a run goes as far as its bytes pass
run-whole : (test : ℕ → Bool) (xs rest : List ℕ) → list_all test xs ≡ true → starts test rest ≡ false → run_of test (xs ++ rest) ≡ length xs
run-whole test [] rest all stops = run-ends test rest stops
run-whole test (b ∷ bs) rest all stops =
    let parts = and_parts (test b) (list_all test bs) all in
    rw (parts.0, run-whole test bs rest parts.1 stops) (omega arith)

taken : (xs rest : List ℕ) → take (length xs) (xs ++ rest) ≡ xs
taken [] rest = refl
taken (x ∷ xs) rest = ap (λ (ys : List ℕ). x ∷ ys) (taken xs rest)

dropped : (xs rest : List ℕ) → drop (length xs) (xs ++ rest) ≡ rest
dropped [] rest = refl
dropped (x ∷ xs) rest = dropped xs rest

-- ---- words

name-no-blank : (b : ℕ) → is_name_start b ≡ true → is_blank b ≡ false
name-no-blank b h = grind (arith, nat_tests)

-- a name, where no byte follows that goes on with it
pub word : (name rest : List ℕ) (ks : List Kind) → is_name name ≡ true → starts is_name_byte rest ≡ false → Reads rest ks →
    Reads (name ++ rest) (kind.Word (word_of name) name ∷ ks)
unfolding front word_front
word [] rest ks named stops h = absurd cc
word (b ∷ bs) rest ks named stops h =
    let parts = and_parts (is_name_start b) (nat_lt (length bs) longest_name && list_all is_name_byte bs) named in
    let more = and_parts (nat_lt (length bs) longest_name) (list_all is_name_byte bs) parts.1 in
    let run = run-whole is_name_byte bs rest more.1 stops in
    let one : length bs + 1 ≡ suc (length bs) = omega arith in
    let whole : take (length bs + 1) (b ∷ bs ++ rest) ≡ b ∷ bs = rw one (ap (λ (ys : List ℕ). b ∷ ys) (taken bs rest)) in
    let stands : front (b ∷ bs ++ rest) ≡ at_front.Token (kind.Word (word_of (b ∷ bs)) (b ∷ bs)) (length bs) =
    rw (name-no-blank b parts.0, parts.0, run, whole, named) refl in
    token b (bs ++ rest) rest (kind.Word (word_of (b ∷ bs)) (b ∷ bs)) (length bs) ks stands (omega (arith, length-append bs rest)) (dropped bs rest) h

-- ---- numbers

all-end : (test : ℕ → Bool) (xs : List ℕ) (x : ℕ) → list_all test xs ≡ true → test x ≡ true → list_all test (xs ++ x ∷ []) ≡ true
all-end test [] x all last = rw last refl
all-end test (y ∷ ys) x all last =
    let parts = and_parts (test y) (list_all test ys) all in
    rw (parts.0, all-end test ys x parts.1 last) refl

-- digits, the first of which is 0 only where the number is
record IsNumeral (n : ℕ) (xs : List ℕ) : Type 0 where
  pub first : ℕ
  pub rest : List ℕ
  pub is : xs ≡ first ∷ rest
  pub digit : is_digit first ≡ true
  pub digits : list_all is_digit rest ≡ true
  pub leads : 0 < n → 49 ≤ first
  pub alone : n ≡ 0 → rest ≡ []

numeral : (n : ℕ) → n < 2 ^ 64 → IsNumeral n (decimal n)
numeral n fits = decimal_by_steps (λ k ds. IsNumeral k ds)
    (λ k low. let d : is_digit (48 + k) ≡ true = grind arith in
    record { first = 48 + k; rest = []; is = refl; digit = d; digits = refl; leads = λ h. omega arith; alone = λ e. refl })
    (λ k ds big ih. let d : is_digit (48 + k % 10) ≡ true = grind arith in
    let more : 0 < k / 10 = omega arith in
    record {
      first = ih.first;
      rest = ih.rest ++ (48 + k % 10) ∷ [];
      is = rw ih.is refl;
      digit = ih.digit;
      digits = all-end is_digit ih.rest (48 + k % 10) ih.digits d;
      leads = λ h. ih.leads more;
      alone = λ e. absurd (omega arith);
    })
    n fits

digit-no-blank : (b : ℕ) → is_digit b ≡ true → is_blank b ≡ false
digit-no-blank b h = grind (arith, nat_tests)

digit-no-word : (b : ℕ) → is_digit b ≡ true → is_name_start b ≡ false
digit-no-word b h = grind (arith, nat_tests)

number-spelled : (z : ℤ) → FitsSigned w64 z → (b : ℕ) (bs rest : List ℕ) (ks : List Kind) → signed_decimal z ≡ b ∷ bs → is_blank b ≡ false → is_name_start b ≡ false →
    leads_number b (bs ++ rest) ≡ true → begins_number b (bs ++ rest) ≡ true → list_all is_digit bs ≡ true → starts is_digit rest ≡ false → Reads rest ks →
    Reads (b ∷ bs ++ rest) (kind.Number (Some z) ∷ ks)
unfolding front number_front
number-spelled z fits b bs rest ks spelled no_blank no_word begins stands digits stops h =
    let run = run-whole is_digit bs rest digits stops in
    let one : length bs + 1 ≡ suc (length bs) = omega arith in
    let whole : take (length bs + 1) (b ∷ bs ++ rest) ≡ b ∷ bs = rw one (ap (λ (ys : List ℕ). b ∷ ys) (taken bs rest)) in
    let value = signed_only (b ∷ bs) z fits (sym spelled) in
    let there : front (b ∷ bs ++ rest) ≡ at_front.Token (kind.Number (Some z)) (length bs) =
    rw (no_blank, no_word, begins, stands, run, whole, value) refl in
    token b (bs ++ rest) rest (kind.Number (Some z)) (length bs) ks there (omega (arith, length-append bs rest)) (dropped bs rest) h

same-starts : (rest : List ℕ) → starts_digit rest ≡ starts is_digit rest
same-starts [] = refl
same-starts (b ∷ bs) = refl

-- no digit follows a 0 at the front
leads-on : (n : ℕ) (xs : List ℕ) (d : IsNumeral n xs) (rest : List ℕ) → starts is_digit rest ≡ false → begins_number d.first (d.rest ++ rest) ≡ true
leads-on n xs d rest stops =
    let plain : (d.first == 45) ≡ false = grind (arith, nat_tests) in
    elim (cases_lt 0 n) [
      | inl some ↦
          let low = d.leads some in
          let other : (d.first == 48) ≡ false = grind (arith, nat_tests) in
          rw (plain, other) refl
      | inr none ↦
          let e = d.alone (omega arith) in
          let ended : starts_digit rest ≡ false = same-starts rest ∙ stops in
          elim (cases_Bool (d.first == 48)) [
            | inl h ↦ rw (plain, h, e, ended) refl
            | inr h ↦ rw (plain, h) refl
          ]
    ]

-- a digit other than 0 follows `-`
leads-off : (n : ℕ) (xs : List ℕ) (d : IsNumeral n xs) (rest : List ℕ) → 0 < n → begins_number 45 (xs ++ rest) ≡ true
leads-off n xs d rest some =
    let low = d.leads some in
    let other : (d.first == 48) ≡ false = grind (arith, nat_tests) in
    rw (d.is, d.digit, other) refl

-- a number, where no digit follows
pub number : (z : ℤ) (rest : List ℕ) (ks : List Kind) → FitsSigned w64 z → starts is_digit rest ≡ false → Reads rest ks →
    Reads (signed_decimal z ++ rest) (kind.Number (Some z) ∷ ks)
number (pos n) rest ks fits stops h =
    let bound : n < 2 ^ 64 = omega (arith, ints) in
    let d = numeral n bound in
    let begins : leads_number d.first (d.rest ++ rest) ≡ true = rw d.digit refl in
    let stands = leads-on n (decimal n) d rest stops in
    rw d.is (number-spelled (pos n) fits d.first d.rest rest ks d.is (digit-no-blank d.first d.digit) (digit-no-word d.first d.digit) begins stands d.digits stops h)
number (negsuc n) rest ks fits stops h =
    let bound : suc n < 2 ^ 64 = omega (arith, ints) in
    let d = numeral (suc n) bound in
    let stands = leads-off (suc n) (decimal (suc n)) d rest (omega arith) in
    let begins : leads_number 45 (decimal (suc n) ++ rest) ≡ true = rw (d.is, d.digit) refl in
    number-spelled (negsuc n) fits 45 (decimal (suc n)) rest ks refl refl refl begins stands (rw d.is (rw (d.digit, d.digits) refl)) stops h
