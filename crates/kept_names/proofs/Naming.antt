-- Reading the words one by one.
use Rattle.std.proofs.Common.{◌≡◌, ℕ, zero, suc, ◌+◌, ◌-◌, ◌<◌, ◌≤◌, Bool, true, false, not, ◌&&◌, List, [], ◌∷◌, map, drop, take, length, Option, None, Some, IsTrue, refl, sym, ap, ap₂, ◌∙◌, add-one, drop-cons, length-drop, arith}
use Rattle.std.specs.List.{slice_index_or}
use Rattle.std.specs.Prelude.{if◌then◌else◌}
use Rattle.std.proofs.lemmas.List.{drop_all, take_all}
use Rattle.memchr.specs.Find.{Nowhere, Passes, is_byte, IsFirstByte}
use Rattle.pota_names.specs.Names.{is_name}
use Rattle.kept_names.specs.declared.names.Pair.{Pair}
use Rattle.kept_names.specs.declared.names.Names.{Names}
use Rattle.kept_names.specs.Words.{parted, pair_of, is_keep, with_word, and_then, names_from, names_kept}

-- ---- one word

and_none : (b : Bool) → (b && false) ≡ false
and_none false = refl
and_none true = refl

abbrev made : Bool → List ℕ → List ℕ → Option Pair
made b first second = if b then Some (record { first = first; second = second }) else None

pub no_first : (first second : List ℕ) → is_name first ≡ false → None ≡ pair_of first second
no_first first second off = sym (ap (λ (b : Bool). made (b && is_name second) first second) off)

pub no_second : (first second : List ℕ) → is_name second ≡ false → None ≡ pair_of first second
no_second first second off =
    sym (ap (λ (b : Bool). made (is_name first && b) first second) off ∙ ap (λ (b : Bool). made b first second) (and_none (is_name first)))

pub are_both : (first second a b : List ℕ) → IsTrue (is_name first) → a ≡ first → IsTrue (is_name second) → b ≡ second → Some (record { first = a; second = b }) ≡ pair_of first second
are_both first second a b f af s bs =
    (λ i. Some (record { first = af i; second = bs i }))
    ∙ sym (λ i. made (f i && s i) first second)

-- ---- the first mark

not_here : (b : Bool) → (b ≡ true → ⊥) → b ≡ false
not_here true other = absurd (other refl)
not_here false other = refl

pub parted_at : (mark : ℕ) (word : List ℕ) (k : ℕ) → k < length word → Nowhere (Passes (is_byte mark) word) 0 k → Passes (is_byte mark) word k → parted mark word ≡ Some (take k word, drop (suc k) word)
unfolding parted
parted_at mark [] k lt before here = absurd (omega arith)
parted_at mark (b ∷ word) zero lt before here = rw here refl
parted_at mark (b ∷ word) (suc k) lt before here =
    rw (not_here (is_byte mark b) (before 0 (omega arith) (omega arith)), parted_at mark word k (omega arith) (λ j low high. before (suc j) (omega arith) (omega arith)) here) refl

pub parted_nowhere : (mark : ℕ) (word : List ℕ) → Nowhere (Passes (is_byte mark) word) 0 (length word) → parted mark word ≡ None
unfolding parted
parted_nowhere mark [] none = refl
parted_nowhere mark (b ∷ word) none =
    rw (not_here (is_byte mark b) (none 0 (omega arith) (omega arith)), parted_nowhere mark word (λ j low high. none (suc j) (omega arith) (omega arith))) refl

pub parted_here : (mark : ℕ) (word : List ℕ) (k : ℕ) → IsFirstByte (is_byte mark) word (Some k) → ◌≡◌ {A = Option (List ℕ × List ℕ)} (Some (take k word, take (length word - (k + 1)) (drop (k + 1) word))) (parted mark word)
parted_here mark word k first =
    let rest : take (length word - (k + 1)) (drop (k + 1) word) ≡ drop (k + 1) word = take_all (length word - (k + 1)) (drop (k + 1) word) (omega (arith, length-drop (k + 1) word)) in
    ap (λ (x : List ℕ). let o : Option (List ℕ × List ℕ) = Some (take k word, x) in o) (rest ∙ ap (λ (n : ℕ). drop n word) one)
    ∙ sym (parted_at mark word k first.0.high first.0.before first.1)
  where
    one : k + 1 ≡ suc k
    one = omega arith

-- ---- all words

none_left : (waits : Bool) (names : Names) → names_from waits names [] ≡ (if waits then None else Some names)
unfolding names_from
none_left waits names = refl

one_more : (waits : Bool) (names : Names) (word : List ℕ) (words : List (List ℕ)) → names_from waits names (word ∷ words) ≡ and_then (with_word waits names word) (λ more. names_from (not waits && is_keep word) more words)
unfolding names_from
one_more waits names word words = refl

-- each word of a list is the text f of an item
module _ {S : Type 0} (f : S → List ℕ) (words : List S) (i : ℕ) (waits : Bool) (names : Names) (so_far : names_from waits names (map f (drop i words)) ≡ names_kept (map f words)) where
  ended : length words ≤ i → (if waits then None else Some names) ≡ names_kept (map f words)
  ended past = sym (none_left waits names) ∙ ap (λ (xs : List S). names_from waits names (map f xs)) (sym (drop_all i words past)) ∙ so_far

  pub all_named : length words ≤ i → waits ≡ false → Some names ≡ names_kept (map f words)
  all_named past off = sym (ap (λ (b : Bool). if b then None else Some names) off) ∙ ended past

  pub one_lacks : length words ≤ i → waits ≡ true → None ≡ names_kept (map f words)
  one_lacks past on = sym (ap (λ (b : Bool). if b then None else Some names) on) ∙ ended past

  module _ (d : S) (word : List ℕ) (here : i < length words) (is : d ≡ slice_index_or words i d) (text : word ≡ f d) where
    word_here : map f (drop i words) ≡ f d ∷ map f (drop (i + 1) words)
    word_here = ap (map f) (drop-cons words i d here ∙ ap₂ (λ x n. x ∷ drop n words) (sym is) (sym (add-one i)))

    taken_so : and_then (with_word waits names word) (λ more. names_from (not waits && is_keep word) more (map f (drop (i + 1) words))) ≡ names_kept (map f words)
    taken_so =
        ap (λ (w : List ℕ). and_then (with_word waits names w) (λ more. names_from (not waits && is_keep w) more (map f (drop (i + 1) words)))) text
        ∙ sym (one_more waits names (f d) (map f (drop (i + 1) words))) ∙ ap (names_from waits names) (sym word_here) ∙ so_far

    pub taken : (next : Names) → Some next ≡ with_word waits names word → names_from (not waits && is_keep word) next (map f (drop (i + 1) words)) ≡ names_kept (map f words)
    taken next is_next = ap (λ (o : Option Names). and_then o (λ more. names_from (not waits && is_keep word) more (map f (drop (i + 1) words)))) is_next ∙ taken_so

    pub refused : None ≡ with_word waits names word → None ≡ names_kept (map f words)
    refused is_none = ap (λ (o : Option Names). and_then o (λ more. names_from (not waits && is_keep word) more (map f (drop (i + 1) words)))) is_none ∙ taken_so
