-- Reading the words one by one.
use Rattle.std.proofs.Common.{◌≡◌, ℕ, ◌+◌, ◌<◌, ◌≤◌, Bool, true, false, List, [], ◌∷◌, map, drop, length, Option, None, Some, refl, sym, ap, ap₂, ◌∙◌, add-one, drop-cons}
use Rattle.std.specs.Prelude.{if◌then◌else◌}
use Rattle.std.specs.List.{slice_index_or}
use Rattle.std.proofs.lemmas.List.{drop_all}
use Rattle.pota_base.specs.Number.{◌>>=◌}
use Rattle.ask_words.specs.declared.asking.Options.{Options}
use Rattle.ask_words.specs.Asking.{asked_by, asked_from, asked_with, is_of_options, with_option}

asked_from-none : (options : Options) (at : ℕ) → asked_from options at [] ≡ None
unfolding asked_from
asked_from-none options at = refl

asked_from-more : (options : Options) (at : ℕ) (word : List ℕ) (words : List (List ℕ)) → asked_from options at (word ∷ words)
    ≡ (if is_of_options options word then with_option options word >>= (λ next. asked_from next (at + 1) words) else asked_with options at (word ∷ words))
unfolding asked_from
asked_from-more options at word words = refl

-- each word of a list is the text f of an item
module _ {S : Type 0} (f : S → List ℕ) (words : List S) (i : ℕ) (options : Options) (so_far : asked_from options i (map f (drop i words)) ≡ asked_by (map f words)) where
  pub no_question : length words ≤ i → None ≡ asked_by (map f words)
  no_question past =
      sym (asked_from-none options i) ∙ ap (λ (xs : List S). asked_from options i (map f xs)) (sym (drop_all i words past)) ∙ so_far

  module _ (d : S) (word : List ℕ) (here : i < length words) (is : d ≡ slice_index_or words i d) (text : word ≡ f d) where
    word_here : map f (drop i words) ≡ word ∷ map f (drop (i + 1) words)
    word_here =
        ap (map f) (drop-cons words i d here ∙ ap₂ (λ x n. x ∷ drop n words) (sym is) (sym (add-one i)))
        ∙ ap (λ (w : List ℕ). w ∷ map f (drop (i + 1) words)) (sym text)

    at_word : (b : Bool) → b ≡ is_of_options options word
        → (if b then with_option options word >>= (λ next. asked_from next (i + 1) (map f (drop (i + 1) words))) else asked_with options i (map f (drop i words))) ≡ asked_by (map f words)
    at_word b so =
        ap (λ (x : Bool). if x then with_option options word >>= (λ next. asked_from next (i + 1) (map f (drop (i + 1) words))) else asked_with options i (map f (drop i words))) so
        ∙ ap (λ (xs : List (List ℕ)). if is_of_options options word then with_option options word >>= (λ next. asked_from next (i + 1) (map f (drop (i + 1) words))) else asked_with options i xs) word_here
        ∙ sym (asked_from-more options i word (map f (drop (i + 1) words)))
        ∙ ap (asked_from options i) (sym word_here) ∙ so_far

    pub questions : false ≡ is_of_options options word → asked_with options i (map f (drop i words)) ≡ asked_by (map f words)
    questions so = at_word false so

    pub taken : true ≡ is_of_options options word → (next : Options) → with_option options word ≡ Some next → asked_from next (i + 1) (map f (drop (i + 1) words)) ≡ asked_by (map f words)
    taken so next is_next =
        ap (λ (o : Option Options). o >>= (λ next. asked_from next (i + 1) (map f (drop (i + 1) words)))) (sym is_next) ∙ at_word true so

    pub refused : true ≡ is_of_options options word → with_option options word ≡ None → None ≡ asked_by (map f words)
    refused so stops =
        ap (λ (o : Option Options). o >>= (λ next. asked_from next (i + 1) (map f (drop (i + 1) words)))) (sym stops) ∙ at_word true so
