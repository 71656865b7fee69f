-- What spells a number is read as it, and nothing else is.
use Rattle.std.proofs.Common.{◌≡◌, ℕ, List, [], ◌∷◌, Option, Some, None, refl, sym, ap, ◌∙◌, append-nil}
use Rattle.std.specs.Prelude.{ℤ, FitsSigned, IfSome}
use Rattle.std.specs.Int.{w64}
use Rattle.std.specs.Fmt.{signed_decimal}
use Rattle.pota_base.specs.Number.{signed_at, whole}
use Rattle.pota_base.proofs.NumberLaws.{signed_only, signed_takes}

whole_none : (read : Option (ℤ × List ℕ)) → ((n : ℤ) → read ≡ Some (n, []) → ⊥) → None ≡ whole read
whole_none None not = refl
whole_none (Some (n, [])) not = absurd (not n refl)
whole_none (Some (n, b ∷ bs)) not = refl

-- what gives each number that is spelled, and no other, is what the text spells
pub value_is : (text : List ℕ) (found : Option ℤ) → IfSome found (λ n. text ≡ signed_decimal n)
    → IfSome found (λ n. FitsSigned w64 n)
    → ((n : ℤ) → FitsSigned w64 n → text ≡ signed_decimal n → found ≡ Some n) → found ≡ whole (signed_at text)
value_is text (Some n) spelled fits only = sym (ap whole (signed_only text n fits spelled))
value_is text None spelled fits only = whole_none (signed_at text) (λ n read.
    let taken = signed_takes text n [] read in
    cc (only n taken.fits (taken.text ∙ append-nil (signed_decimal n))))
