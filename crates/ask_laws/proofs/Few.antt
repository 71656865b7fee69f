-- At most 64 questions are asked.
use Rattle.std.proofs.Common.{◌≡◌, ℕ, zero, suc, ◌+◌, ◌≤◌, Bool, List, [], ◌∷◌, length, drop, Option, None, Some, refl, sym, ap, subst, ◌∙◌, inl, inr, add-one}
use Rattle.std.specs.Prelude.{nat_le, if◌then◌else◌}
use Rattle.std.proofs.lemmas.Bool.{cases_Bool, and_parts, leb-true}
use Rattle.std.proofs.lemmas.Option.{none-some, same_Some}
use Rattle.pota_base.specs.Number.{◌>>=◌}
use Rattle.pota_base.specs.Limits.{most_questions}
use Rattle.ask_words.specs.Asking.{are_no_options, are_questions, asked_by, asked_from, asked_with, is_of_options, options_at_first, steps_of, with_option}
use Rattle.ask_words.specs.declared.asking.Asked.{Asked}
use Rattle.ask_words.specs.declared.asking.Options.{Options}

drop_next : {A : Type 0} (k : ℕ) (xs : List A) (y : A) (ys : List A) → drop k xs ≡ y ∷ ys → drop (suc k) xs ≡ ys
drop_next zero [] y ys h = absurd (cc)
drop_next zero (x ∷ xs) y ys h = cc
drop_next (suc k) [] y ys h = absurd (cc)
drop_next (suc k) (x ∷ xs) y ys h = drop_next k xs y ys h

behind_some : {A B : Type 0} (o : Option A) (f : A → Option B) (b : B) → (o >>= f) ≡ Some b → (a : A) × (f a ≡ Some b)
behind_some None f b h = absurd (none-some b h)
behind_some (Some a) f b h = (a, h)

no_words : (options : Options) (at : ℕ) (asked : Asked) → asked_from options at [] ≡ Some asked → ⊥
unfolding asked_from
no_words options at asked h = none-some asked h

first_word : (options : Options) (at : ℕ) (word : List ℕ) (words : List (List ℕ)) → asked_from options at (word ∷ words)
    ≡ (if is_of_options options word then with_option options word >>= (λ next. asked_from next (at + 1) words) else asked_with options at (word ∷ words))
unfolding asked_from
first_word options at word words = refl

-- the questions are these words, and few
few_with : (options : Options) (at : ℕ) (words : List (List ℕ)) (asked : Asked) → asked_with options at words ≡ Some asked → (at ≡ asked.questions_from) × (length words ≤ most_questions)
few_with options at words asked h =
    let these : Bool → Option Asked = λ b. if b then Some (record { form = options.form; steps = steps_of options.steps; questions_from = at }) else None in
    elim (cases_Bool (are_questions words)) [
      | inl are ↦
          let same = same_Some (record { form = options.form; steps = steps_of options.steps; questions_from = at }) asked (sym (ap these are) ∙ h) in
          (ap (λ (a : Asked). a.questions_from) same, leb-true (length words) most_questions (and_parts (are_no_options words) (nat_le (length words) most_questions) are).1)
      | inr lacks ↦ absurd (none-some asked (sym (ap these lacks) ∙ h))
    ]

module _ (all : List (List ℕ)) (asked : Asked) where
  few_from : (options : Options) (at : ℕ) (words : List (List ℕ)) → drop at all ≡ words → asked_from options at words ≡ Some asked → length (drop asked.questions_from all) ≤ most_questions
  few_from options at [] is h = absurd (no_words options at asked h)
  few_from options at (word ∷ words) is h =
      let next_words : Options → Option Asked = λ next. asked_from next (at + 1) words in
      let go_on : Bool → Option Asked = λ b. if b then with_option options word >>= next_words else asked_with options at (word ∷ words) in
      elim (cases_Bool (is_of_options options word)) [
        | inl more ↦
            let some = behind_some (with_option options word) next_words asked (sym (ap go_on more) ∙ sym (first_word options at word words) ∙ h) in
            few_from some.0 (at + 1) words (ap (λ (k : ℕ). drop k all) (add-one at) ∙ drop_next at all word words is) some.1
        | inr last ↦
            let few = few_with options at (word ∷ words) asked (sym (ap go_on last) ∙ sym (first_word options at word words) ∙ h) in
            subst (λ (k : ℕ). length (drop k all) ≤ most_questions) few.0 (subst (λ (l : List (List ℕ)). length l ≤ most_questions) (sym is) few.1)
      ]

pub few_questions : (words : List (List ℕ)) (asked : Asked) → asked_by words ≡ Some asked → length (drop asked.questions_from words) ≤ most_questions
few_questions words asked h = few_from words asked options_at_first 0 words refl h
