-- The texts of the items of a list, up to one of them.
use Rattle.std.proofs.Common.{◌≡◌, ℕ, ◌+◌, ◌<◌, List, [], ◌∷◌, ◌++◌, length, map, take, drop, ap, ap₂, sym, ◌∙◌, arith, add-one, drop-cons}
use Rattle.std.specs.List.{slice_index_or}
use Rattle.std.proofs.lemmas.List.{length-map, length-take-le, map-append, take-append-drop, take_more}
use Rattle.ask_questions.specs.Listing.{IsAt}

-- each text is the text f of an item
module _ {S : Type 0} (f : S → List ℕ) (items : List S) (i : ℕ) (d : S) (text : List ℕ) (here : i < length items) (is : d ≡ slice_index_or items i d) (of : text ≡ f d) where
  pub take_here : map f (take (i + 1) items) ≡ map f (take i items) ++ text ∷ []
  take_here =
      ap (map f) (take_more items i d here ∙ ap (λ (x : S). take i items ++ x ∷ []) (sym is)) ∙ map-append f (take i items) (d ∷ [])
      ∙ ap (λ (w : List ℕ). map f (take i items) ++ w ∷ []) (sym of)

  among : map f items ≡ map f (take i items) ++ text ∷ map f (drop (i + 1) items)
  among =
      let behind : drop i items ≡ d ∷ drop (i + 1) items = drop-cons items i d here ∙ ap₂ (λ (x : S) (n : ℕ). x ∷ drop n items) (sym is) (sym (add-one i)) in
      ap (map f) (sym (take-append-drop i items) ∙ ap (λ (r : List S). take i items ++ r) behind) ∙ map-append f (take i items) (d ∷ drop (i + 1) items)
      ∙ ap (λ (w : List ℕ). map f (take i items) ++ w ∷ map f (drop (i + 1) items)) (sym of)

  pub at_here : IsAt (i + 1) (map f items) (map f (take i items)) text
  at_here = record {
    behind = map f (drop (i + 1) items);
    among = among;
    numbered = omega (arith, length-map (take i items) f, length-take-le i items (omega (arith, here)));
  }
