-- Reading the words one by one.
use Rattle.std.proofs.Common.{◌≡◌, ◌∙◌, ℕ, ◌+◌, ◌<◌, Bool, true, false, cond, List, [], ◌∷◌, map, drop, length, Option, None, Some, refl, sym, ap, subst, is_some, ap₂, add-one, drop-cons}
use Rattle.std.specs.List.{fold, slice_index_or}
use Rattle.std.specs.Str.{bytes_eq}
use Rattle.std.specs.List.{AllByRecursion}
use Rattle.std.specs.Option.{option_map_or, option_and_then}
use Rattle.std.proofs.lemmas.Bool.{true≢false}
use Rattle.std.proofs.lemmas.Slice.Eq.{bytes_eq-Decides}
use Rattle.command_words.specs.Rule.{Text, Kind, takes_value, flag, unknown, positional, options, flags, spelled, begins_dash, named_by, kind_of, Given, nothing_given, step, closed, given}
use Rattle.command_words.specs.inside.Seen.{Took}

-- a word that is refused refuses all
pub refused_stays : (words : List Text) → fold step None words ≡ None
refused_stays [] = refl
refused_stays (word ∷ words) = refused_stays words

pub took_true : (o : Option Given) (g : Given) (taken : Bool) → Took o taken g → taken ≡ true → o ≡ Some g
took_true None g taken took e = cc
took_true (Some f) g taken took e = ap (λ x. Some x) (sym took.1)

pub took_false : (o : Option Given) (g : Given) (taken : Bool) → Took o taken g → taken ≡ false → o ≡ None
took_false None g taken took e = refl
took_false (Some f) g taken took e = absurd (true≢false (sym took.0 ∙ e))

-- the name that a word stands for has what holds of all the names, and the word is its spelling
pub named_has : (P : Text → Type 0) (word : Text) (names : List Text) (name : Text) → AllByRecursion P names → named_by word names ≡ Some name
    → P name × (word ≡ spelled name)
named_has P word [] name all h = cc
named_has P word (first ∷ names) name all h = go (bytes_eq word (spelled first)) refl h (named_has P word names name all.1)
  where
    go : (b : Bool) → bytes_eq word (spelled first) ≡ b → cond b (Some first) (named_by word names) ≡ Some name
        → (named_by word names ≡ Some name → P name × (word ≡ spelled name)) → P name × (word ≡ spelled name)
    go true e found rest =
        let same : first ≡ name = cc in
        subst (λ n. P n × (word ≡ spelled n)) same (all.0, (bytes_eq-Decides word (spelled first)).0 e)
    go false e found rest = rest found

-- a word with what it stands for, over what holds of the options and of the flags
pub data IsOfKind (IsOption IsFlag : Text → Type 0) (word : Text) : Kind → Type 0 where
  as_option : (name : Text) → IsOption name → word ≡ spelled name → IsOfKind IsOption IsFlag word (takes_value name)
  as_flag : (name : Text) → IsFlag name → word ≡ spelled name → IsOfKind IsOption IsFlag word (flag name)
  as_unknown : IsOfKind IsOption IsFlag word unknown
  as_positional : begins_dash word ≡ false → IsOfKind IsOption IsFlag word positional

pub its_kind : (IsOption IsFlag : Text → Type 0) → AllByRecursion IsOption options → AllByRecursion IsFlag flags
    → (word : Text) → IsOfKind IsOption IsFlag word (kind_of word)
its_kind IsOption IsFlag of_options of_flags word = go (named_by word options) refl (named_by word flags) refl (begins_dash word) refl
  where
    go : (o : Option Text) → named_by word options ≡ o → (f : Option Text) → named_by word flags ≡ f → (b : Bool) → begins_dash word ≡ b
        → IsOfKind IsOption IsFlag word (option_map_or takes_value o (option_map_or flag f (cond b unknown positional)))
    go (Some name) e f ef b eb = let has = named_has IsOption word options name of_options e in as_option name has.0 has.1
    go None e (Some name) ef b eb = let has = named_has IsFlag word flags name of_flags ef in as_flag name has.0 has.1
    go None e None ef true eb = as_unknown
    go None e None ef false eb = as_positional eb

-- ---- the loop over the words, each of them the text f of an item

module _ {S : Type 0} (f : S → Text) (words : List S) (i : ℕ) (d : S) (g : Given)
    (so_far : fold step (Some g) (map f (drop i words)) ≡ fold step (Some nothing_given) (map f words)) where
  word_here : i < length words → d ≡ slice_index_or words i d → map f (drop i words) ≡ f d ∷ map f (drop (i + 1) words)
  word_here lt is = ap (map f) (drop-cons words i d lt ∙ ap₂ (λ x n. x ∷ drop n words) (sym is) (sym (add-one i)))

  pub refused : (word : Text) (h : Given) (taken : Bool) → i < length words → d ≡ slice_index_or words i d → word ≡ f d → Took (step (Some g) word) taken h → taken ≡ false
      → false ≡ is_some (given (map f words))
  refused word h taken lt is text took e =
      let none : fold step (Some g) (f d ∷ map f (drop (i + 1) words)) ≡ None =
      ap (λ w. fold step (step (Some g) w) (map f (drop (i + 1) words))) (sym text)
      ∙ ap (λ o. fold step o (map f (drop (i + 1) words))) (took_false (step (Some g) word) h taken took e) ∙ refused_stays (map f (drop (i + 1) words)) in
      sym (ap (λ o. is_some (option_and_then closed o)) (sym so_far ∙ ap (fold step (Some g)) (word_here lt is) ∙ none))

  pub went_on : (word : Text) (h : Given) (taken : Bool) → i < length words → d ≡ slice_index_or words i d → word ≡ f d → Took (step (Some g) word) taken h → taken ≡ true
      → fold step (Some h) (map f (drop (i + 1) words)) ≡ fold step (Some nothing_given) (map f words)
  went_on word h taken lt is text took e =
      sym (ap (fold step (Some g)) (word_here lt is) ∙ ap (λ w. fold step (step (Some g) w) (map f (drop (i + 1) words))) (sym text)
      ∙ ap (λ o. fold step o (map f (drop (i + 1) words))) (took_true (step (Some g) word) h taken took e)) ∙ so_far
