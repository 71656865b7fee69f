-- A clock's text on both sides of one of its counts, and the clock that is read by it.
use Rattle.std.proofs.Common.{◌≡◌, ℕ, zero, suc, ◌+◌, ◌-◌, ◌^◌, ◌<◌, ◌≤◌, ◌++◌, List, [], ◌∷◌, length, take, drop, get_or, set, Some, None, false, refl, sym, ap, subst, ◌∙◌, arith, append_assoc, length-append, ◌/◌, ◌%◌}
use Rattle.std.specs.List.{AllByRecursion}
use Rattle.std.specs.Fmt.{decimal}
use Rattle.std.proofs.lemmas.List.{length-set, take_more, take_at, drop_at}
use Rattle.std.proofs.lemmas.Fmt.{decimal_digit, decimal_step}
use Rattle.log_lines.specs.Spelling.{clock_rest, clock_text, ClockFits}
use Rattle.log_lines.specs.Reading.{number_at, text_at, clock_at}
use Rattle.log_lines.specs.inside.Frames.{clock_front, FrameFits}
use Rattle.pota_base.proofs.NumberLaws.{number_takes, starts_digit}
use Rattle.log_lines.proofs.WordLaws.{text_takes}
use Rattle.log_lines.proofs.ItemLaws.{clock_again}

abbrev pub Small : List ℕ → Type 0
Small ns = AllByRecursion (λ n. n < 2 ^ 32) ns

-- counts behind the first are the text of a clock behind a comma
rest_text : (ns : List ℕ) → 0 < length ns → clock_rest ns ≡ 44 ∷ clock_text ns
rest_text [] some = absurd (omega arith)
rest_text (n ∷ ns) some = refl

pub frame_text : (ns : List ℕ) (p n : ℕ) → p < length ns
    → clock_text (set ns p n) ≡ clock_front (take p ns) ++ (decimal n ++ clock_rest (drop (suc p) ns))
frame_text [] p n there = absurd (omega arith)
frame_text (x ∷ ns) zero n there = refl
frame_text (x ∷ ns) (suc p) n there =
    let some : 0 < length (set ns p n) = omega (arith, length-set ns p n) in
    ap (λ (t : List ℕ). decimal x ++ t) (rest_text (set ns p n) some ∙ ap (λ (t : List ℕ). 44 ∷ t) (frame_text ns p n (omega arith)))
    ∙ sym (append_assoc (decimal x) (44 ∷ clock_front (take p ns)) (decimal n ++ clock_rest (drop (suc p) ns)))

-- the same with the count that stands there
pub clock_parts : (ns : List ℕ) (p : ℕ) → p < length ns
    → clock_text ns ≡ clock_front (take p ns) ++ (decimal (get_or ns p 0) ++ clock_rest (drop (suc p) ns))
clock_parts [] p there = absurd (omega arith)
clock_parts (x ∷ ns) zero there = refl
clock_parts (x ∷ ns) (suc p) there =
    ap (λ (t : List ℕ). decimal x ++ t) (rest_text ns (omega arith) ∙ ap (λ (t : List ℕ). 44 ∷ t) (clock_parts ns p (omega arith)))
    ∙ sym (append_assoc (decimal x) (44 ∷ clock_front (take p ns)) (decimal (get_or ns p 0) ++ clock_rest (drop (suc p) ns)))

-- one count more
length-clock_front : (xs : List ℕ) (x : ℕ) → length (clock_front (xs ++ x ∷ [])) ≡ length (clock_front xs) + (length (decimal x) + 1)
length-clock_front [] x = omega (arith, length-append (decimal x) (44 ∷ []))
length-clock_front (y ∷ xs) x =
    omega (arith, length-append (decimal y) (44 ∷ clock_front (xs ++ x ∷ [])), length-append (decimal y) (44 ∷ clock_front xs), length-clock_front xs x)

pub front_more : (ns : List ℕ) (k : ℕ) → k < length ns
    → length (clock_front (take (k + 1) ns)) ≡ length (clock_front (take k ns)) + (length (decimal (get_or ns k 0)) + 1)
front_more ns k there = ap (λ (xs : List ℕ). length (clock_front xs)) (take_more ns k 0 there) ∙ length-clock_front (take k ns) (get_or ns k 0)

-- where the count at a place begins in the text of its clock, and how long it is
pub record SplitAt (ns text : List ℕ) (p start width : ℕ) : Type 0 where
  pub first : start ≤ length text
  pub second : width ≤ length (drop start text)
  pub whole : start + width ≤ length text
  pub before : take start text ≡ clock_front (take p ns)
  pub behind : drop width (drop start text) ≡ clock_rest (drop (p + 1) ns)

pub split_at : (ns text : List ℕ) (p start width : ℕ) → p < length ns → text ≡ clock_text ns
    → start ≡ length (clock_front (take p ns)) → width ≡ length (decimal (get_or ns p 0)) → SplitAt ns text p start width
split_at ns text p start width there spelled starts wide =
    let front = clock_front (take p ns) in
    let own = decimal (get_or ns p 0) in
    let back = clock_rest (drop (suc p) ns) in
    let parts : text ≡ front ++ (own ++ back) = spelled ∙ clock_parts ns p there in
    let rest : drop start text ≡ own ++ back = ap (drop start) parts ∙ drop_at front (own ++ back) start (sym starts) in
    let size : length text ≡ length front + length (own ++ back) = ap length parts ∙ length-append front (own ++ back) in
    let more : length (own ++ back) ≡ length own + length back = length-append own back in
    let next : suc p ≡ p + 1 = omega arith in
    record {
      first = omega arith;
      second = omega (arith, ap length rest);
      whole = omega arith;
      before = ap (take start) parts ∙ take_at front (own ++ back) start (sym starts);
      behind = ap (drop width) rest ∙ drop_at own back width (sym wide) ∙ ap (λ (k : ℕ). clock_rest (drop k ns)) next;
    }

-- ---- digits

pub one_digit : (n : ℕ) → n < 10 → length (decimal n) ≡ 1
one_digit n few = ap length (decimal_digit n few)

pub digit_more : (n : ℕ) → 10 ≤ n → n < 2 ^ 64 → length (decimal n) ≡ length (decimal (n / 10)) + 1
digit_more n many small = ap length (decimal_step n many small) ∙ length-append (decimal (n / 10)) ((48 + n % 10) ∷ [])

-- ---- what stands before the rest

pub record StandsBefore (bytes text rest : List ℕ) : Type 0 where
  pub within : length rest ≤ length bytes
  pub front : take (length bytes - length rest) bytes ≡ text

pub stands_before : (bytes text rest : List ℕ) → bytes ≡ text ++ rest → StandsBefore bytes text rest
stands_before bytes text rest e =
    let size : length bytes ≡ length text + length rest = ap length e ∙ length-append text rest in
    record {
      within = omega arith;
      front = ap (take (length bytes - length rest)) e ∙ take_at text rest (length bytes - length rest) (omega arith);
    }

pub small_at : (ns : List ℕ) → Small ns → (k : ℕ) → k < length ns → get_or ns k 0 < 2 ^ 32
small_at [] small k there = absurd (omega arith)
small_at (x ∷ ns) small zero there = small.0
small_at (x ∷ ns) small (suc k) there = small_at ns small.1 k (omega arith)

all_small : (ns : List ℕ) → ((k : ℕ) → k < length ns → get_or ns k 0 < 2 ^ 32) → Small ns
all_small [] small = tt
all_small (x ∷ ns) small = (small 0 (omega arith), all_small ns (λ k there. small (suc k) (omega arith)))

set_small : (ns : List ℕ) (p n : ℕ) → n < 2 ^ 32 → Small ns → Small (set ns p n)
set_small [] p n fits small = tt
set_small (x ∷ ns) zero n fits small = (fits, small.1)
set_small (x ∷ ns) (suc p) n fits small = (small.0, set_small ns p n fits small.1)

-- behind a space no clock goes on
no_comma : (rest action : List ℕ) → rest ≡ 32 ∷ action → text_at (44 ∷ []) rest ≡ None
unfolding text_at
no_comma rest action e = rw e refl

no_digit : (rest action : List ℕ) → rest ≡ 32 ∷ action → starts_digit rest ≡ false
no_digit rest action e = rw e refl

-- a clock that differs from the frame's in one count
pub frame_reads : (place : ℕ) (counts before behind : List ℕ) → FrameFits place counts before behind
    → (bytes own after rest action : List ℕ) (n : ℕ) → bytes ≡ before ++ own → number_at (2 ^ 32 - 1) own ≡ Some (n, after)
    → after ≡ behind ++ rest → text_at (32 ∷ []) rest ≡ Some action
    → clock_at bytes ≡ Some (set counts place n, rest)
frame_reads place counts before behind fits bytes own after rest action n front number back space =
    let taken = number_takes (2 ^ 32 - 1) own n after (omega arith) number in
    let clock = set counts place n in
    let spaced = text_takes (32 ∷ []) rest action space in
    let whole : bytes ≡ clock_text clock ++ rest =
    front ∙ ap (λ (t : List ℕ). before ++ t) (taken.text ∙ ap (λ (t : List ℕ). decimal n ++ t) back ∙ sym (append_assoc (decimal n) behind rest))
    ∙ sym (append_assoc before (decimal n ++ behind) rest) ∙ ap (λ (t : List ℕ). t ++ rest) (sym (fits.text n)) in
    let small = set_small counts place n (omega (arith, taken.bound)) (all_small counts fits.small) in
    let clock_fits : ClockFits clock = record { some = omega (arith, length-set counts place n, fits.there); each = small } in
    ap clock_at whole ∙ clock_again clock rest clock_fits (no_comma rest action spaced) (no_digit rest action spaced)

-- a clock and its text as a frame
pub frame_fits : (ns : List ℕ) (p : ℕ) → p < length ns → Small ns → FrameFits p ns (clock_front (take p ns)) (clock_rest (drop (p + 1) ns))
frame_fits ns p there small =
    let next : suc p ≡ p + 1 = omega arith in
    subst (λ (k : ℕ). FrameFits p ns (clock_front (take p ns)) (clock_rest (drop k ns))) next
    (record { there = there; small = small_at ns small; text = λ n. frame_text ns p n there })
