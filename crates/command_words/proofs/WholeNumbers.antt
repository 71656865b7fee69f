-- What `read_u64` answers, as an equation, from its two clauses.
use Rattle.std.proofs.Common.{◌≡◌, ℕ, ◌-◌, ◌^◌, ◌<◌, List, [], ◌∷◌, Option, None, Some, IfSome, refl, sym, ap, arith, append-nil}
use Rattle.std.specs.Fmt.{decimal}
use Rattle.pota_base.specs.Number.{number_at, whole}
use Rattle.pota_base.proofs.NumberLaws.{number_takes, number_only}

abbrev read : List ℕ → Option (ℕ × List ℕ)
read text = number_at (2 ^ 64 - 1) text

pub read_is : (text : List ℕ) (r : Option ℕ) → IfSome r (λ n. text ≡ decimal n) → ((n : ℕ) → n < 2 ^ 64 → text ≡ decimal n → r ≡ Some n)
    → IfSome r (λ n. n < 2 ^ 64) → r ≡ whole (read text)
read_is text (Some n) spelled only fits = sym (ap whole (number_only text n fits spelled))
read_is text None spelled only fits = go (read text) refl
  where
    go : (o : Option (ℕ × List ℕ)) → read text ≡ o → None ≡ whole o
    go None e = refl
    go (Some (n, b ∷ rest)) e = refl
    go (Some (n, [])) e =
        let taken = number_takes (2 ^ 64 - 1) text n [] (omega arith) e in
        only n (omega (arith, taken.bound)) (rw append-nil at taken.text)
