-- Words that are looked at one by one.
use Rattle.std.proofs.Common.{◌≡◌, ℕ, suc, ◌+◌, ◌<◌, ◌≤◌, Bool, true, false, not, ◌&&◌, List, [], ◌∷◌, map, drop, length, None, Some, refl, sym, ap, ap₂, ◌∙◌, add-one, drop-cons}
use Rattle.std.specs.List.{slice_index_or}
use Rattle.std.specs.Prelude.{if◌then◌else◌}
use Rattle.std.proofs.lemmas.List.{drop_all}
use Rattle.event_log.specs.declared.log.Header.{Header}
use Rattle.kept_names.specs.Words.{is_keep}
use Rattle.kept_log.specs.Unknown.{is_unknown, unknown_from, unknown_word}

none_behind : (waits : Bool) (header : Header) (place : ℕ) → unknown_from waits header place [] ≡ None
unfolding unknown_from
none_behind waits header place = refl

one_more : (waits : Bool) (header : Header) (place : ℕ) (word : List ℕ) (words : List (List ℕ)) → unknown_from waits header place (word ∷ words) ≡ (if waits && is_unknown header word then Some place else unknown_from (not waits && is_keep word) header (suc place) words)
unfolding unknown_from
one_more waits header place word words = refl

-- each word of a list is the text f of an item
module _ {S : Type 0} (header : Header) (f : S → List ℕ) (words : List S) (i : ℕ) (waits : Bool) (so_far : unknown_from waits header i (map f (drop i words)) ≡ unknown_word header (map f words)) where
  pub all_known : length words ≤ i → None ≡ unknown_word header (map f words)
  all_known past = sym (none_behind waits header i) ∙ ap (λ (xs : List S). unknown_from waits header i (map f xs)) (sym (drop_all i words past)) ∙ so_far

  module _ (d : S) (word : List ℕ) (here : i < length words) (is : d ≡ slice_index_or words i d) (text : word ≡ f d) where
    word_here : map f (drop i words) ≡ f d ∷ map f (drop (i + 1) words)
    word_here = ap (map f) (drop-cons words i d here ∙ ap₂ (λ x n. x ∷ drop n words) (sym is) (sym (add-one i)))

    looked : (if waits && is_unknown header word then Some i else unknown_from (not waits && is_keep word) header (i + 1) (map f (drop (i + 1) words))) ≡ unknown_word header (map f words)
    looked =
        ap₂ (λ (w : List ℕ) (n : ℕ). if waits && is_unknown header w then Some i else unknown_from (not waits && is_keep w) header n (map f (drop (i + 1) words))) text (add-one i)
        ∙ sym (one_more waits header i (f d) (map f (drop (i + 1) words))) ∙ ap (unknown_from waits header i) (sym word_here) ∙ so_far

    pub found : (waits && is_unknown header word) ≡ true → Some i ≡ unknown_word header (map f words)
    found on = sym (ap (λ (b : Bool). if b then Some i else unknown_from (not waits && is_keep word) header (i + 1) (map f (drop (i + 1) words))) on) ∙ looked

    pub passed : (waits && is_unknown header word) ≡ false → unknown_from (not waits && is_keep word) header (i + 1) (map f (drop (i + 1) words)) ≡ unknown_word header (map f words)
    passed off = sym (ap (λ (b : Bool). if b then Some i else unknown_from (not waits && is_keep word) header (i + 1) (map f (drop (i + 1) words))) off) ∙ looked
