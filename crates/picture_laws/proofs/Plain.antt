-- Numbers, names and what the texts of events are made of have no markup.
use Rattle.std.proofs.Common.{◌≡◌, ℕ, ℤ, pos, negsuc, zero, suc, ◌<◌, ◌≤◌, ◌/◌, ◌%◌, Bool, true, false, not, ◌||◌, List, [], ◌∷◌, ◌++◌, take, get_or, refl, ap, ◌∙◌, arith}
use Rattle.std.specs.Prelude.{◌==◌, if◌then◌else◌}
use Rattle.std.specs.List.{AllByRecursion, list_all}
use Rattle.std.specs.Fmt.{digits, digits_onto, digit_glyph, decimal, signed_decimal}
use Rattle.std.proofs.lemmas.Bool.{and_parts, and_from, ne_eqb, le-leb}
use Rattle.std.proofs.lemmas.Bool.Decides.{nat_tests}
use Rattle.std.proofs.lemmas.List.Folds.{list_all-append}
use Rattle.log_lines.specs.Names.{Name, is_name, is_name_byte}
use Rattle.log_lines.proofs.WordLaws.{name_parts}
use Rattle.picture_laws.specs.Xml.{is_printed, is_plain, is_in_value}

abbrev pub IsPlain : List ℕ → Type 0
IsPlain bytes = list_all is_plain bytes ≡ true

abbrev pub IsValue : List ℕ → Type 0
IsValue bytes = list_all is_in_value bytes ≡ true

-- ---- lists of bytes

pub both : (p : ℕ → Bool) (xs ys : List ℕ) → list_all p xs ≡ true → list_all p ys ≡ true → list_all p (xs ++ ys) ≡ true
both p xs ys h k = list_all-append p xs ys ∙ and_from (list_all p xs) (list_all p ys) h k

pub first_of : (p : ℕ → Bool) (n : ℕ) (xs : List ℕ) → list_all p xs ≡ true → list_all p (take n xs) ≡ true
first_of p zero xs h = refl
first_of p (suc n) [] h = refl
first_of p (suc n) (x ∷ xs) h = let parts = and_parts (p x) (list_all p xs) h in and_from (p x) (list_all p (take n xs)) parts.0 (first_of p n xs parts.1)

pub wider : (p q : ℕ → Bool) → ((b : ℕ) → p b ≡ true → q b ≡ true) → (xs : List ℕ) → list_all p xs ≡ true → list_all q xs ≡ true
wider p q each [] h = refl
wider p q each (x ∷ xs) h = let parts = and_parts (p x) (list_all p xs) h in and_from (q x) (list_all q xs) (each x parts.0) (wider p q each xs parts.1)

pub value_is_plain : (bytes : List ℕ) → IsValue bytes → IsPlain bytes
value_is_plain = wider is_in_value is_plain (λ b h. (and_parts (is_plain b) (not (b == 39)) h).0)

pub plain_is_printed : (bytes : List ℕ) → IsPlain bytes → list_all is_printed bytes ≡ true
plain_is_printed = wider is_plain is_printed (λ b h. (and_parts (is_printed b) (not (b == 38 || (b == 60 || b == 62))) h).0)

-- ---- numbers

glyph_value : (d : ℕ) → d < 10 → is_in_value (digit_glyph false d) ≡ true
glyph_value zero lt = refl
glyph_value (suc zero) lt = refl
glyph_value (suc (suc zero)) lt = refl
glyph_value (suc (suc (suc zero))) lt = refl
glyph_value (suc (suc (suc (suc zero)))) lt = refl
glyph_value (suc (suc (suc (suc (suc zero))))) lt = refl
glyph_value (suc (suc (suc (suc (suc (suc zero)))))) lt = refl
glyph_value (suc (suc (suc (suc (suc (suc (suc zero))))))) lt = refl
glyph_value (suc (suc (suc (suc (suc (suc (suc (suc zero)))))))) lt = refl
glyph_value (suc (suc (suc (suc (suc (suc (suc (suc (suc zero))))))))) lt = refl
glyph_value (suc (suc (suc (suc (suc (suc (suc (suc (suc (suc d)))))))))) lt = absurd (omega (arith, lt))

either_value : (b : Bool) (xs ys : List ℕ) → IsValue xs → IsValue ys → IsValue (if b then xs else ys)
either_value true xs ys h k = h
either_value false xs ys h k = k

digits_value : (k n : ℕ) (after : List ℕ) → IsValue after → IsValue (digits_onto k 10 false n after)
digits_value zero n after h = h
digits_value (suc k) n after h =
    let d = digit_glyph false (n % 10) in
    let more : IsValue (d ∷ after) = and_from (is_in_value d) (list_all is_in_value after) (glyph_value (n % 10) (omega arith)) h in
    either_value (n / 10 == 0) (d ∷ after) (digits_onto k 10 false (n / 10) (d ∷ after)) more (digits_value k (n / 10) (d ∷ after) more)

pub number_value : (n : ℕ) → IsValue (decimal n)
unfolding digits
number_value n = digits_value 64 n [] refl

pub number_plain : (n : ℕ) → IsPlain (decimal n)
number_plain n = value_is_plain (decimal n) (number_value n)

pub signed_plain : (z : ℤ) → IsPlain (signed_decimal z)
signed_plain (pos n) = number_plain n
signed_plain (negsuc n) = number_plain (suc n)

-- ---- names

-- between the digits and the letters
plain_between : (b : ℕ) → 48 ≤ b → b ≤ 122 → (b ≡ 60 → ⊥) → (b ≡ 62 → ⊥) → is_plain b ≡ true
plain_between b low high less more =
    and_from (is_printed b) (not (b == 38 || (b == 60 || b == 62)))
    (rw (ne_eqb b 10 (λ e. absurd (omega (arith, low, e))), le-leb 32 b (omega (arith, low)), le-leb b 126 (omega (arith, high))) refl)
    (rw (ne_eqb b 38 (λ e. absurd (omega (arith, low, e))), ne_eqb b 60 less, ne_eqb b 62 more) refl)

name_byte_low : (b : ℕ) → is_name_byte b ≡ true → 48 ≤ b
name_byte_low b h = grind (arith, nat_tests)

name_byte_high : (b : ℕ) → is_name_byte b ≡ true → b ≤ 122
name_byte_high b h = grind (arith, nat_tests)

no_name_byte : (b c : ℕ) → is_name_byte c ≡ false → is_name_byte b ≡ true → b ≡ c → ⊥
no_name_byte b c not_one h e = let same : is_name_byte b ≡ is_name_byte c = ap is_name_byte e in cc

pub name_byte_plain : (b : ℕ) → is_name_byte b ≡ true → is_plain b ≡ true
name_byte_plain b h = plain_between b (name_byte_low b h) (name_byte_high b h) (no_name_byte b 60 refl h) (no_name_byte b 62 refl h)

pub name_plain : (n : Name) → is_name n ≡ true → IsPlain n
name_plain n h = wider is_name_byte is_plain name_byte_plain n (name_parts n h).bytes

-- the name at a place, or none
pub names_plain : (names : List Name) (k : ℕ) → AllByRecursion (λ n. is_name n ≡ true) names → IsPlain (get_or names k [])
names_plain [] k all = refl
names_plain (n ∷ names) zero all = name_plain n all.0
names_plain (n ∷ names) (suc k) all = names_plain names k all.1
