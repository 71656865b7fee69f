-- Texts written one behind the other.
use Rattle.std.proofs.Common.{ℕ, Option, Result, Ok, Err, List, ◌++◌, sym, ap, ◌∙◌, append_assoc}
use Rattle.std.specs.Prelude.{OnOk, OnErr}
use Rattle.std.specs.Io.KnownBytes.{Appends}
use Rattle.std.proofs.KnownBytes.{Appends-trans}
use Rattle.pota_base.specs.Outside.{AppendsPrefix}

-- a front of the first text is one of both
pub first_part : (held now : Option (List ℕ)) (first second : List ℕ) → AppendsPrefix held now first → AppendsPrefix held now (first ++ second)
first_part held now first second (front, (rest, is), wrote) =
    (front, (rest ++ second, ap (λ (xs : List ℕ). xs ++ second) is ∙ append_assoc front rest second), wrote)

-- and so are the first text and a front of the second
pub second_part : (held mid now : Option (List ℕ)) (first second : List ℕ) → Appends held mid first → AppendsPrefix mid now second → AppendsPrefix held now (first ++ second)
second_part held mid now first second before (front, (rest, is), wrote) =
    (first ++ front, (rest, ap (λ (xs : List ℕ). first ++ xs) is ∙ sym (append_assoc first front rest)), Appends-trans held mid now first front before wrote)

-- what the second call writes stands behind what the first did
pub both_whole : {T E : Type 0} (result : Result T E) (held mid now : Option (List ℕ)) (first second : List ℕ) → Appends held mid first → OnOk result (Appends mid now second) → OnOk result (Appends held now (first ++ second))
both_whole (Ok x) held mid now first second before h = Appends-trans held mid now first second before h
both_whole (Err e) held mid now first second before h = tt

pub both_part : {T E : Type 0} (result : Result T E) (held mid now : Option (List ℕ)) (first second : List ℕ) → Appends held mid first → OnErr result (AppendsPrefix mid now second) → OnErr result (AppendsPrefix held now (first ++ second))
both_part (Ok x) held mid now first second before h = tt
both_part (Err e) held mid now first second before h = second_part held mid now first second before h
