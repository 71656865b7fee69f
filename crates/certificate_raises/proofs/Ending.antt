-- The steps that are left become fewer.
use Rattle.std.proofs.Common.{◌≡◌, ℕ, zero, suc, ◌+◌, ◌-◌, ◌*◌, ◌<◌, ◌≤◌, List, [], ◌∷◌, length, sum, sym, ap, ◌∙◌, arith, rules, inl, inr, get_or, Option}
use Rattle.std.proofs.lemmas.Bool.{cases_lt}
use Rattle.std.proofs.lemmas.List.{get_or_past}
use Rattle.std.proofs.lemmas.List.Sums.{sum_by-cons}
use Rattle.pull_system.specs.Rows.{place_of}
use Rattle.pull_system.specs.System.{IsPull, pull_at, target_of, ask}
use Rattle.pull_system.proofs.Pulls.{pull-of}
use Rattle.pull_system.proofs.Starts.{get_or-row_at, length-row_at}
use Rattle.pull_system.proofs.Sums.{sum-within, sum-vector}
use Rattle.raise_machine.proofs.Raising.{raised_within, word_in_range}
use Rattle.certificate_table.specs.Begun.{AreCertified, BegunView, MayBegin, MayRaise, present, present_row, with_raise, with_row}
use Rattle.certificate_table.proofs.Keeping.{raise_keeps}
use Rattle.certificate_raises.specs.Canonical.{most_of, left_of}
use Rattle.certificate_raises.proofs.Doubting.{word_raised}

-- a sum grows with one of its numbers
sum_grows : (v w : List ℕ) → length v ≡ length w → ((i : ℕ) → get_or v i 0 ≤ get_or w i 0) → (i : ℕ) → get_or v i 0 < get_or w i 0 → sum v < sum w
sum_grows [] [] size within i more = absurd (omega (arith, more))
sum_grows [] (y ∷ w) size within i more = absurd (omega (arith, size))
sum_grows (x ∷ v) [] size within i more = absurd (omega (arith, size))
sum_grows (x ∷ v) (y ∷ w) size within zero more =
    omega (arith, more, sum_by-cons (λ (n : ℕ). n) x v, sum_by-cons (λ (n : ℕ). n) y w, sum-within v w (omega (arith, size)) (λ i. within (suc i)))
sum_grows (x ∷ v) (y ∷ w) size within (suc i) more =
    omega (arith, within 0, sum_by-cons (λ (n : ℕ). n) x v, sum_by-cons (λ (n : ℕ). n) y w, sum_grows v w (omega (arith, size)) (λ j. within (suc j)) i more)

present_size : (v : BegunView) → AreCertified v → 0 < v.begun → length (present_row v) ≡ length v.system.lens
present_size v is begun = length-row_at v.system.lens v.words (present v) (omega (arith, is.few, begun)) is.bounds.size

present_past : (v : BegunView) → AreCertified v → 0 < v.begun → (i : ℕ) → length v.system.lens ≤ i → get_or (present_row v) i 0 ≡ 0
present_past v is begun i past = get_or_past (present_row v) i 0 (omega (arith, past, present_size v is begun))

-- no row sums to more
pub present_most : (v : BegunView) → AreCertified v → 0 < v.begun → sum (present_row v) ≤ most_of v.system.lens
present_most v is begun = sum-vector v.system.lens (present_row v) (present_size v is begun) (λ i. elim (cases_lt i (length v.system.lens)) [
  | inl there ↦ omega (arith, get_or-row_at v.system.lens v.words (present v) i there, word_in_range v.system is.system v.words is.bounds (present v) i there)
  | inr past ↦ omega (arith, present_past v is begun i past)
])

-- a raise makes the row's sum more
pub raise_grows : (v : BegunView) → AreCertified v → (k x : ℕ) → MayRaise v k x → sum (present_row v) < sum (present_row (with_raise v k x))
raise_grows v is k x may =
    let of : IsPull v.system.lens (pull_at v.system k) = pull-of v.system is.system k may.pull in
    let kept = raise_keeps v is k x may in
    let after : BegunView = with_raise v k x in
    sum_grows (present_row v) (present_row after) (present_size v is may.begun ∙ sym (present_size after kept may.begun))
    (λ i. elim (cases_lt i (length v.system.lens)) [
      | inl there ↦ omega (
        arith,
        get_or-row_at v.system.lens v.words (present v) i there,
        get_or-row_at v.system.lens after.words (present v) i there,
        (raised_within v.words (place_of v.system.lens (present v) (target_of v.system k)) (ask v.system k x)).each (place_of v.system.lens (present v) i),
      )
      | inr past ↦ omega (arith, present_past v is may.begun i past)
    ])
    (target_of v.system k)
    (omega (
      arith,
      may.more,
      word_raised v is may.begun k x of.target,
      get_or-row_at v.system.lens v.words (present v) (target_of v.system k) of.target,
      get_or-row_at v.system.lens after.words (present v) (target_of v.system k) of.target,
    ))

pub raise_leaves : (v : BegunView) → AreCertified v → (k x : ℕ) → MayRaise v k x → left_of (with_raise v k x) < left_of v
raise_leaves v is k x may =
    omega (arith, raise_grows v is k x may, present_most (with_raise v k x) (raise_keeps v is k x may) may.begun)

pub row_leaves : (v : BegunView) (row : ℕ) (after : Option ℕ) → MayBegin v row after → left_of (with_row v row after) < left_of v
row_leaves v row after may =
    let n = sum v.system.lens - v.begun in
    let whole : sum v.system.lens + 1 - v.begun ≡ n + 1 = omega (arith, may.next, may.there) in
    let less : sum v.system.lens + 1 - (v.begun + 1) ≡ n = omega (arith, may.next, may.there) in
    let most = most_of v.system.lens + 1 in
    let product : (n + 1) * most ≡ n * most + most = search rules in
    let first : (sum v.system.lens + 1 - v.begun) * most ≡ n * most + most = ap (λ (m : ℕ). m * most) whole ∙ product in
    let second : (sum v.system.lens + 1 - (v.begun + 1)) * most ≡ n * most = ap (λ (m : ℕ). m * most) less in
    omega (arith, first, second)
