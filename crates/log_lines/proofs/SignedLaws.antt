-- ` NAME=INT` that is read is spelled so, and what is spelled so is read.
use Rattle.std.proofs.Common.{◌≡◌, ℕ, ◌++◌, List, [], ◌∷◌, Some, false, refl, ap, subst, ◌∙◌}
use Rattle.std.proofs.lemmas.Option.{same_Some}
use Rattle.std.specs.Fmt.{signed_decimal}
use Rattle.log_lines.specs.Spelling.{NamedValue, ValueFits}
use Rattle.log_lines.specs.Reading.{signed_at, text_at, spaced_name_at, value_at}
pub use Rattle.pota_base.proofs.NumberLaws.{starts_digit, SignedTaken, signed_takes, signed_again}
use Rattle.log_lines.proofs.WordLaws.{bind_some, text_takes, spaced_name_takes, spaced_name_again}

-- ---- ` NAME=INT`

abbrev pub value_text : NamedValue → List ℕ → List ℕ
value_text v rest = 32 ∷ (v.name ++ 61 ∷ (signed_decimal v.value ++ rest))

pub record ValueTaken (xs : List ℕ) (v : NamedValue) (rest : List ℕ) : Type 0 where
  pub text : xs ≡ value_text v rest
  pub fits : ValueFits v

pub value_takes : (xs : List ℕ) (v : NamedValue) (rest : List ℕ) → value_at xs ≡ Some (v, rest) → ValueTaken xs v rest
unfolding value_at
value_takes xs v rest h =
    let a = bind_some (spaced_name_at xs) _ (v, rest) h in
    let b = bind_some (text_at (61 ∷ []) a.0.1) _ (v, rest) a.2 in
    let c = bind_some (signed_at b.0) _ (v, rest) b.2 in
    let name = spaced_name_takes xs a.0.0 a.0.1 a.1 in
    let equals = text_takes (61 ∷ []) a.0.1 b.0 b.1 in
    let value = signed_takes b.0 c.0.0 c.0.1 c.1 in
    let text : xs ≡ 32 ∷ (a.0.0 ++ 61 ∷ (signed_decimal c.0.0 ++ c.0.1)) = name.text ∙ ap (λ (t : List ℕ). 32 ∷ (a.0.0 ++ t)) (equals ∙ ap (λ (t : List ℕ). 61 ∷ t) value.text) in
    subst (λ (p : NamedValue × List ℕ). ValueTaken xs p.0 p.1) (same_Some _ _ c.2) (record { text = text; fits = record { name = name.fits; value = value.fits } })

pub value_again : (v : NamedValue) (rest : List ℕ) → ValueFits v → starts_digit rest ≡ false → value_at (value_text v rest) ≡ Some (v, rest)
unfolding value_at text_at
value_again v rest fits stops = rw (spaced_name_again v.name (61 ∷ (signed_decimal v.value ++ rest)) fits.name refl, signed_again v.value rest fits.value stops) refl
