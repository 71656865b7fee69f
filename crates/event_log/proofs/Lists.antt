-- Lists the newest first.
use Rattle.std.proofs.Common.{◌≡◌, ◌+◌, List, [], ◌∷◌, ◌++◌, length, refl, arith}
use Rattle.std.specs.List.{AllByRecursion}
use Rattle.event_log.specs.LogText.{onto}

pub onto-append : {A : Type 0} (xs ys past : List A) → onto (xs ++ ys) past ≡ onto ys (onto xs past)
onto-append [] ys past = refl
onto-append (x ∷ xs) ys past = onto-append xs ys (x ∷ past)

-- one more behind the rest comes first
pub onto-push : {A : Type 0} (xs : List A) (x : A) (past : List A) → onto (xs ++ x ∷ []) past ≡ x ∷ onto xs past
onto-push xs x past = onto-append xs (x ∷ []) past

pub length-onto : {A : Type 0} (xs past : List A) → length (onto xs past) ≡ length xs + length past
length-onto [] past = omega arith
length-onto (x ∷ xs) past = omega (arith, length-onto xs (x ∷ past))

pub all_push : {A : Type 0} (P : A → Type 0) (xs : List A) (x : A) → AllByRecursion P xs → P x → AllByRecursion P (xs ++ x ∷ [])
all_push P [] x all p = (p, tt)
all_push P (y ∷ ys) x all p = (all.0, all_push P ys x all.1 p)

pub all_append : {A : Type 0} (P : A → Type 0) (xs ys : List A) → AllByRecursion P xs → AllByRecursion P ys → AllByRecursion P (xs ++ ys)
all_append P [] ys all more = more
all_append P (x ∷ xs) ys all more = (all.0, all_append P xs ys all.1 more)

pub all_onto : {A : Type 0} (P : A → Type 0) (xs past : List A) → AllByRecursion P xs → AllByRecursion P past → AllByRecursion P (onto xs past)
all_onto P [] past all before = before
all_onto P (x ∷ xs) past all before = all_onto P xs (x ∷ past) all.1 (all.0, before)
