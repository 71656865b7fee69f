-- Texts that are put one piece after the other: what stands so far, and then what is made of the rest, is all of it.
use Rattle.std.proofs.Common.{◌≡◌, ℕ, ◌+◌, ◌<◌, ◌≤◌, List, [], ◌∷◌, ◌++◌, length, drop, get_or, refl, sym, ap, ◌∙◌, append_assoc, append-nil}
use Rattle.std.specs.Prelude.{◌==◌, Bool}
use Rattle.std.proofs.lemmas.List.{drop_more, drop_all}
use Rattle.ask_text.specs.Indented.{indent, indented_from}

-- ---- bytes behind two spaces

indent_on : (begins : Bool) (b : ℕ) (bs : List ℕ) → indented_from begins (b ∷ bs) ≡ (indent begins ++ b ∷ []) ++ indented_from (b == 10) bs
unfolding indented_from
indent_on begins b bs = sym (append_assoc (indent begins) (b ∷ []) (indented_from (b == 10) bs))

pub byte_put : (text : List ℕ) (i : ℕ) (begins : Bool) (out new all : List ℕ) → i < length text → out ++ indented_from begins (drop i text) ≡ all
    → new ≡ out ++ indent begins ++ get_or text i 0 ∷ [] → new ++ indented_from (get_or text i 0 == 10) (drop (i + 1) text) ≡ all
byte_put text i begins out new all lt so_far put =
    let b = get_or text i 0 in
    let rest = indented_from (b == 10) (drop (i + 1) text) in
    ap (λ x. x ++ rest) (put ∙ append_assoc out (indent begins) (b ∷ [])) ∙ append_assoc out (indent begins ++ b ∷ []) rest
    ∙ ap (λ x. out ++ x) (sym (ap (indented_from begins) (drop_more text i 0 lt) ∙ indent_on begins b (drop (i + 1) text))) ∙ so_far

indent_none : (begins : Bool) → indented_from begins [] ≡ []
unfolding indented_from
indent_none begins = refl

pub bytes_put : (text : List ℕ) (i : ℕ) (begins : Bool) (out all : List ℕ) → length text ≤ i → out ++ indented_from begins (drop i text) ≡ all → out ≡ all
bytes_put text i begins out all past so_far =
    sym (append-nil out) ∙ ap (λ x. out ++ x) (sym (ap (indented_from begins) (drop_all i text past) ∙ indent_none begins)) ∙ so_far
