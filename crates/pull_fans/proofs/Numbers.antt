-- The numbers of the pulls from a process: each of them and no other, each once.
use Rattle.std.proofs.Common.{◌≡◌, ◌≢◌, ℕ, zero, suc, ◌+◌, ◌<◌, ◌≤◌, ◌⊎◌, inl, inr, List, [], ◌∷◌, ◌++◌, Bool, length, get_or, refl, arith, sym, ap, ◌∙◌, length-append, subst}
use Rattle.std.specs.Prelude.{slice_index_or, if◌then◌else◌}
use Rattle.std.proofs.lemmas.Bool.Decides.{eqb_tells}
use Rattle.std.proofs.Math.ListN.{get_or-append}
use Rattle.std.proofs.lemmas.List.{get_or_push}
use Rattle.pull_system.specs.declared.pull.Pull.{Pull}
use Rattle.pull_system.specs.System.{no_pull}
use Rattle.pull_fans.specs.Sources.{numbers_from}

abbrev pub source_in : List Pull → ℕ → ℕ
source_in pulls k = (slice_index_or pulls k no_pull).src

-- one pull more: it is from the process, or not
pub numbers_case : (pulls : List Pull) (process count : ℕ)
    → ((source_in pulls count ≡ process) × (numbers_from pulls process (suc count) ≡ numbers_from pulls process count ++ count ∷ []))
    ⊎ ((source_in pulls count ≢ process) × (numbers_from pulls process (suc count) ≡ numbers_from pulls process count))
numbers_case pulls process count =
    let choose : Bool → List ℕ = λ b. if b then numbers_from pulls process count ++ count ∷ [] else numbers_from pulls process count in
    elim (eqb_tells (source_in pulls count) process) [ inl h ↦ inl (h.1, ap choose h.0) | inr h ↦ inr (h.1, ap choose h.0) ]

pub length-numbers_from : (pulls : List Pull) (process count : ℕ) → length (numbers_from pulls process count) ≤ count
length-numbers_from pulls process zero = omega arith
length-numbers_from pulls process (suc count) =
    elim (numbers_case pulls process count) [
      | inl h ↦ omega (arith, ap (λ ns. length ns) h.1, length-append (numbers_from pulls process count) (count ∷ []), length-numbers_from pulls process count)
      | inr h ↦ omega (arith, ap (λ ns. length ns) h.1, length-numbers_from pulls process count)
    ]

pub record StandsAt (numbers : List ℕ) (k : ℕ) : Type 0 where
  pub index : ℕ
  pub there : index < length numbers
  pub is : get_or numbers index 0 ≡ k

stands_before : (numbers : List ℕ) (k last : ℕ) → StandsAt numbers k → StandsAt (numbers ++ last ∷ []) k
stands_before numbers k last at = record { index = at.index; there = omega (arith, length-append numbers (last ∷ []), at.there); is = get_or-append numbers (last ∷ []) 0 at.index at.there ∙ at.is }

stands_last : (numbers : List ℕ) (last : ℕ) → StandsAt (numbers ++ last ∷ []) last
stands_last numbers last = record { index = length numbers; there = omega (arith, length-append numbers (last ∷ [])); is = get_or_push numbers last 0 (length numbers) refl }

-- each pull from the process is among them
pub numbers_from-has : (pulls : List Pull) (process count k : ℕ) → k < count → source_in pulls k ≡ process → StandsAt (numbers_from pulls process count) k
numbers_from-has pulls process zero k below from = absurd (omega arith)
numbers_from-has pulls process (suc count) k below from =
    let back : List ℕ → Type 0 = λ ns. StandsAt ns k in
    elim (split below) [
      | inl less ↦
          let at = numbers_from-has pulls process count k less from in
          elim (numbers_case pulls process count) [ inl h ↦ subst back (sym h.1) (stands_before _ k count at) | inr h ↦ subst back (sym h.1) at ]
      | inr same ↦
          elim (numbers_case pulls process count) [
            | inl h ↦ subst back (sym h.1) (let P : ℕ → Type 0 = λ n. StandsAt (numbers_from pulls process count ++ count ∷ []) n in subst P (sym same) (stands_last _ count))
            | inr h ↦ absurd (h.0 (ap (λ n. source_in pulls n) (sym same) ∙ from))
          ]
    ]
  where
    split : k < suc count → (k < count) ⊎ (k ≡ count)
    split h = grind arith

-- the number is below the count, and that pull is from the process
pub record IsNumber (pulls : List Pull) (process count k : ℕ) : Type 0 where
  pub below : k < count
  pub from : source_in pulls k ≡ process

number_pushed : (pulls : List Pull) (process count : ℕ) (numbers : List ℕ) (i : ℕ) → ((i < length numbers) ⊎ (i ≡ length numbers)) → source_in pulls count ≡ process
    → ((i < length numbers) → IsNumber pulls process count (get_or numbers i 0)) → IsNumber pulls process (suc count) (get_or (numbers ++ count ∷ []) i 0)
number_pushed pulls process count numbers i (inl less) from before =
    let P : ℕ → Type 0 = λ n. IsNumber pulls process (suc count) n in
    subst P (sym (get_or-append numbers (count ∷ []) 0 i less)) record { below = omega (arith, (before less).below); from = (before less).from }
number_pushed pulls process count numbers i (inr same) from before =
    let P : ℕ → Type 0 = λ n. IsNumber pulls process (suc count) n in
    subst P (sym (get_or_push numbers count 0 i (sym same))) record { below = omega arith; from = from }

within_one : (i n : ℕ) → i < n + 1 → (i < n) ⊎ (i ≡ n)
within_one i n h = grind arith

-- and each of them is a pull from the process
pub numbers_from-is : (pulls : List Pull) (process count i : ℕ) → i < length (numbers_from pulls process count) → IsNumber pulls process count (get_or (numbers_from pulls process count) i 0)
numbers_from-is pulls process zero i there = absurd (omega arith)
numbers_from-is pulls process (suc count) i there =
    let P : ℕ → Type 0 = λ n. IsNumber pulls process (suc count) n in
    elim (numbers_case pulls process count) [
      | inl h ↦
          subst P (sym (ap (λ ns. get_or ns i 0) h.1))
          (number_pushed pulls process count (numbers_from pulls process count) i
          (within_one i _ (omega (arith, ap (λ ns. length ns) h.1, length-append (numbers_from pulls process count) (count ∷ []))))
          h.0
          (λ less. numbers_from-is pulls process count i less))
      | inr h ↦
          let n = numbers_from-is pulls process count i (omega (arith, ap (λ ns. length ns) h.1)) in
          subst P (sym (ap (λ ns. get_or ns i 0) h.1)) record { below = omega (arith, n.below); from = n.from }
    ]

pub numbers_few : (pulls : List Pull) (process : ℕ) (numbers : List ℕ) → numbers ≡ numbers_from pulls process (length pulls) → length numbers ≤ length pulls
numbers_few pulls process numbers same = omega (arith, ap (λ ns. length ns) same, length-numbers_from pulls process (length pulls))
