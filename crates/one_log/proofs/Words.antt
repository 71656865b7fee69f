-- Reading the words one by one.
use Rattle.std.proofs.Common.{◌≡◌, ◌≢◌, ℕ, ◌+◌, ◌<◌, ◌≤◌, Bool, true, false, List, [], ◌∷◌, map, drop, length, Option, None, Some, refl, sym, ap, ap₂, subst, ◌∙◌, add-one, drop-cons}
use Rattle.std.specs.Option.{option_map}
use Rattle.std.specs.Prelude.{◌&&◌, not, if◌then◌else◌}
use Rattle.std.specs.List.{slice_index_or}
use Rattle.std.proofs.lemmas.List.{drop_all}
use Rattle.std.proofs.lemmas.Option.{none-some, same_Some}
use Rattle.log_lines.specs.Reading.{choose}
use Rattle.kept_names.specs.declared.names.Names.{Names}
use Rattle.kept_names.specs.Words.{is_keep, others, others_from, names_kept}
use Rattle.one_log.specs.declared.asking.Asked.{Asked}
use Rattle.one_log.specs.declared.asking.Flags.{Flags}
use Rattle.log_input.specs.declared.form.Form.{Form}
use Rattle.log_input.specs.declared.form.Form.TheVariants as form
use Rattle.one_log.specs.Asking.{with_word, with_next, with_words, if_taken, is_clocks, flags_by, asked_by, flags_at_first}

abbrev pub under : Option Flags → Option Flags
under o = choose o if_taken None

with_words-none : (flags : Flags) → with_words flags [] ≡ Some flags
unfolding with_words
with_words-none flags = refl

with_words-more : (flags : Flags) (word : List ℕ) (words : List (List ℕ)) → with_words flags (word ∷ words) ≡ choose (with_word flags word) (λ a. with_words a words) None
unfolding with_words
with_words-more flags word words = refl

no_others : (waits : Bool) → others_from waits [] ≡ []
unfolding others_from
no_others waits = refl

-- one word more of all
next-more : (flags : Flags) (waits : Bool) (word : List ℕ) (words : List (List ℕ))
    → choose (with_next flags waits word) (λ a. with_words a (others_from (not waits && is_keep word) words)) None ≡ with_words flags (others_from waits (word ∷ words))
unfolding others_from
next-more flags true word words = refl
next-more flags false word words = go (is_keep word)
  where
    go : (b : Bool) → choose (if b then Some flags else with_word flags word) (λ a. with_words a (others_from b words)) None ≡ with_words flags (if b then others_from b words else word ∷ others_from false words)
    go true = refl
    go false = sym (with_words-more flags word (others_from false words))

-- each word of a list is the text f of an item
module _ {S : Type 0} (f : S → List ℕ) (words : List S) (i : ℕ) (flags : Flags) (waits : Bool) (so_far : under (with_words flags (others_from waits (map f (drop i words)))) ≡ flags_by (map f words)) where
  pub all_words : length words ≤ i → if_taken flags ≡ flags_by (map f words)
  all_words past =
      ap under (sym (with_words-none flags)) ∙ ap (λ (xs : List (List ℕ)). under (with_words flags xs)) (sym (no_others waits))
      ∙ ap (λ (xs : List S). under (with_words flags (others_from waits (map f xs)))) (sym (drop_all i words past)) ∙ so_far

  module _ (d : S) (word : List ℕ) (here : i < length words) (is : d ≡ slice_index_or words i d) (text : word ≡ f d) where
    word_here : map f (drop i words) ≡ word ∷ map f (drop (i + 1) words)
    word_here =
        ap (map f) (drop-cons words i d here ∙ ap₂ (λ x n. x ∷ drop n words) (sym is) (sym (add-one i)))
        ∙ ap (λ (w : List ℕ). w ∷ map f (drop (i + 1) words)) (sym text)

    taken_so : under (choose (with_next flags waits word) (λ a. with_words a (others_from (not waits && is_keep word) (map f (drop (i + 1) words)))) None) ≡ flags_by (map f words)
    taken_so =
        ap under (next-more flags waits word (map f (drop (i + 1) words)))
        ∙ ap (λ (xs : List (List ℕ)). under (with_words flags (others_from waits xs))) (sym word_here) ∙ so_far

    pub taken : (next : Flags) → Some next ≡ with_next flags waits word → (later : Bool) → later ≡ (not waits && is_keep word)
        → under (with_words next (others_from later (map f (drop (i + 1) words)))) ≡ flags_by (map f words)
    taken next is_next later later_is =
        ap (λ (b : Bool). under (with_words next (others_from b (map f (drop (i + 1) words))))) later_is
        ∙ ap (λ (o : Option Flags). under (choose o (λ a. with_words a (others_from (not waits && is_keep word) (map f (drop (i + 1) words)))) None)) is_next ∙ taken_so

    pub refused : None ≡ with_next flags waits word → None ≡ flags_by (map f words)
    refused stops =
        ap (λ (o : Option Flags). under (choose o (λ a. with_words a (others_from (not waits && is_keep word) (map f (drop (i + 1) words)))) None)) stops ∙ taken_so

-- ---- records of two lines are not torn

not_both : (a flags : Flags) → if_taken a ≡ Some flags → (a.torn && is_clocks a.form) ≡ false
not_both a flags = go (a.torn && is_clocks a.form)
  where
    go : (b : Bool) → (if b then None else Some a) ≡ Some flags → b ≡ false
    go true is = absurd (none-some flags is)
    go false is = refl

is_it : (a flags : Flags) → if_taken a ≡ Some flags → a ≡ flags
is_it a flags = go (a.torn && is_clocks a.form)
  where
    go : (b : Bool) → (if b then None else Some a) ≡ Some flags → a ≡ flags
    go true is = absurd (none-some flags is)
    go false is = same_Some a flags is

clocks_are : (f : Form) → f ≡ form.Clocks → is_clocks f ≡ true
clocks_are f is = ap is_clocks is

flags_are : (words : List (List ℕ)) (asked : Asked) → asked_by words ≡ Some asked → flags_by words ≡ Some asked.flags
flags_are words asked asks = go (flags_by words) (names_kept words) asks
  where
    go : (o : Option Flags) (n : Option Names) → choose o (λ flags. option_map (λ names. record { flags = flags; names = names }) n) None ≡ Some asked → o ≡ Some asked.flags
    go None n is = absurd (none-some asked is)
    go (Some a) None is = absurd (none-some asked is)
    go (Some a) (Some names) is = ap (λ (x : Asked). Some x.flags) (same_Some (record { flags = a; names = names }) asked is)

not_torn : (words : List (List ℕ)) (flags : Flags) → flags_by words ≡ Some flags → flags.torn ≡ true → flags.form ≢ form.Clocks
not_torn words flags asks torn clocks = go (with_words flags_at_first (others words)) asks
  where
    at : (a : Flags) → if_taken a ≡ Some flags → ⊥
    at a is =
        let same = is_it a flags is in
        let no : (flags.torn && is_clocks flags.form) ≡ false = subst (λ (x : Flags). (x.torn && is_clocks x.form) ≡ false) same (not_both a flags is) in
        let yes : (flags.torn && is_clocks flags.form) ≡ true = rw (torn, clocks_are flags.form clocks) refl in
        absurd (let e : true ≡ false = sym yes ∙ no in cc)

    go : (o : Option Flags) → choose o if_taken None ≡ Some flags → ⊥
    go None is = none-some flags is
    go (Some a) is = at a is

pub never_torn : (words : List (List ℕ)) (asked : Asked) → asked_by words ≡ Some asked → asked.flags.torn ≡ true → asked.flags.form ≢ form.Clocks
never_torn words asked asks torn = not_torn words asked.flags (flags_are words asked asks) torn
