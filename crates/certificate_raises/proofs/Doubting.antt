-- Which pulls may fail, through a look and a raise.
use Rattle.std.proofs.Common.{◌≡◌, ◌≢◌, ℕ, zero, suc, ◌+◌, [], ◌∷◌, ◌++◌, ◌<◌, ◌≤◌, ◌⊎◌, inl, inr, Bool, true, false, List, length, sum, max, refl, sym, ap, subst, ◌∙◌, arith, get_or, set, get_or-set_same}
use Rattle.std.specs.Prelude.{if◌then◌else◌}
use Rattle.std.proofs.lemmas.Nat.{same_from_place, mul-add-lt}
use Rattle.std.proofs.Math.Nat.{mul_comm}
use Rattle.std.proofs.lemmas.Bool.{cases_Bool, cases_lt, false≢true}
use Rattle.std.proofs.lemmas.List.{length-set}
use Rattle.std.proofs.lemmas.List.Sums.{sum_by-cons, sum_by-set}
use Rattle.pull_system.specs.Marks.{marked}
use Rattle.pull_system.specs.Rows.{place_of}
use Rattle.pull_system.specs.System.{IsPull, HoldsPull, source_of, target_of, pull_at, ask}
use Rattle.pull_system.proofs.Climbing.{set_case}
use Rattle.pull_system.proofs.Pulls.{pull-of}
use Rattle.raise_machine.specs.Bounds.{word_at}
use Rattle.raise_machine.proofs.Raising.{raised_within}
use Rattle.certificate_table.specs.Begun.{AreCertified, BegunView, present, present_row, with_raise}
use Rattle.certificate_table.proofs.Keeping.{holds_at}
use Rattle.certificate_raises.specs.Canonical.{IsFirstFailing, AreDoubts}

-- ---- all pulls are in doubt

-- no more are marked than there are
pub marked_most : (doubts : List Bool) → marked doubts ≤ length doubts
marked_most [] = omega arith
marked_most (true ∷ doubts) = omega (arith, sum_by-cons (λ (b : Bool). if b then 1 else 0) true doubts, marked_most doubts)
marked_most (false ∷ doubts) = omega (arith, sum_by-cons (λ (b : Bool). if b then 1 else 0) false doubts, marked_most doubts)

-- one that is on is put behind the others, or in the place of one
pub on_pushed : (doubts : List Bool) → ((k : ℕ) → get_or doubts k true ≡ true) → (k : ℕ) → get_or (doubts ++ true ∷ []) k true ≡ true
on_pushed [] on zero = refl
on_pushed [] on (suc k) = refl
on_pushed (d ∷ doubts) on zero = on 0
on_pushed (d ∷ doubts) on (suc k) = on_pushed doubts (λ j. on (suc j)) k

pub on_set : (doubts : List Bool) (i k : ℕ) → (get_or (set doubts i true) k true ≡ get_or doubts k true) ⊎ (get_or (set doubts i true) k true ≡ true)
on_set doubts i k = elim (set_case doubts i true k true) [ inl e ↦ inl e | inr e ↦ inr e.1 ]

pub on_here : (doubts : List Bool) (i : ℕ) → get_or (set doubts i true) i true ≡ true
on_here [] i = refl
on_here (d ∷ doubts) zero = refl
on_here (d ∷ doubts) (suc i) = on_here doubts i

pub on_more : (doubts : List Bool) (i k : ℕ) → get_or doubts k true ≡ true → get_or (set doubts i true) k true ≡ true
on_more doubts i k on = elim (on_set doubts i k) [ inl e ↦ e ∙ on | inr e ↦ e ]

pub off_before : (doubts : List Bool) (i k : ℕ) → get_or (set doubts i true) k true ≡ false → get_or doubts k true ≡ false
off_before doubts i k off = elim (on_set doubts i k) [ inl e ↦ sym e ∙ off | inr e ↦ absurd (false≢true (sym off ∙ e)) ]

-- ---- a look

-- a pull that holds is no longer in doubt
pub doubt_removed : (v : BegunView) (doubts : List Bool) (k : ℕ) → AreDoubts v doubts → HoldsPull v.system (present_row v) k → AreDoubts v (set doubts k false)
doubt_removed v doubts k is holds = record {
  count = length-set doubts k false ∙ is.count;
  each = λ j there off. elim (set_case doubts k false j true) [
    | inl e ↦ is.each j there (sym e ∙ off)
    | inr e ↦ subst (λ (n : ℕ). HoldsPull v.system (present_row v) n) (sym e.0) holds
  ];
}

pub held_more : (v : BegunView) (k : ℕ) → ((j : ℕ) → j < k → HoldsPull v.system (present_row v) j) → HoldsPull v.system (present_row v) k
    → (j : ℕ) → j < k + 1 → HoldsPull v.system (present_row v) j
held_more v k before here j below = elim (cases_lt j k) [
  | inl less ↦ before j less
  | inr past ↦ let same : k ≡ j = omega (arith, past, below) in subst (λ (n : ℕ). HoldsPull v.system (present_row v) n) same here
]

pub marked_less : (doubts : List Bool) (k : ℕ) → k < length doubts → get_or doubts k true ≡ true → marked (set doubts k false) + 1 ≡ marked doubts
marked_less doubts k there on =
    let weight : Bool → ℕ = λ b. if b then 1 else 0 in
    let one : weight (get_or doubts k true) ≡ weight true = ap weight on in
    omega (arith, sum_by-set weight doubts k false true there, one)

pub marked_more : (doubts : List Bool) (k : ℕ) → k < length doubts → marked (set doubts k true) ≤ marked doubts + 1
marked_more doubts k there = omega (arith, sum_by-set (λ (b : Bool). if b then 1 else 0) doubts k true true there)

-- the first pull that fails is in doubt
pub first_doubted : (v : BegunView) → AreCertified v → (k x : ℕ) → IsFirstFailing v k x → (doubts : List Bool) → AreDoubts v doubts → get_or doubts k true ≡ true
first_doubted v is k x first doubts are = elim (cases_Bool (get_or doubts k true)) [
  | inl on ↦ on
  | inr off ↦
      let held = (holds_at v.system is.system v.words (present v) k first.pull).1 (are.each k first.pull off) in
      absurd (omega (arith, held, first.fails, ap (λ y. ask v.system k y) first.value))
]

-- ---- a raise

pub place_there : (v : BegunView) → AreCertified v → 0 < v.begun → (process : ℕ) → process < length v.system.lens → place_of v.system.lens (present v) process < length v.words
place_there v is begun process there =
    let n = length v.system.lens in
    omega (arith, is.bounds.size, mul-add-lt (present v) n process (sum v.system.lens + 1) (omega (arith, is.few, begun)) there, mul_comm n (sum v.system.lens + 1))

-- a word at another process stays
word_stays : (v : BegunView) (k x process : ℕ) → process < length v.system.lens → target_of v.system k < length v.system.lens → process ≢ target_of v.system k
    → word_at v.system.lens (with_raise v k x).words (present v) process ≡ word_at v.system.lens v.words (present v) process
word_stays v k x process there target apart =
    let place = place_of v.system.lens (present v) (target_of v.system k) in
    elim (set_case v.words place (max (get_or v.words place 0) (ask v.system k x)) (place_of v.system.lens (present v) process) 0) [
      | inl e ↦ e
      | inr e ↦ absurd (apart (same_from_place (present v) process (present v) (target_of v.system k) (length v.system.lens) there target e.0).1)
    ]

-- the target has what was asked for
pub word_raised : (v : BegunView) → AreCertified v → 0 < v.begun → (k x : ℕ) → target_of v.system k < length v.system.lens
    → ask v.system k x ≤ word_at v.system.lens (with_raise v k x).words (present v) (target_of v.system k)
word_raised v is begun k x target =
    let place = place_of v.system.lens (present v) (target_of v.system k) in
    omega (arith, get_or-set_same v.words place (max (get_or v.words place 0) (ask v.system k x)) 0 (place_there v is begun (target_of v.system k) target))

-- only the pulls from the target of the raise come into doubt
pub doubts_raised : (v : BegunView) → AreCertified v → 0 < v.begun → (k x : ℕ) → IsFirstFailing v k x → (doubts after : List Bool) → AreDoubts v doubts → length after ≡ length doubts
    → ((j : ℕ) → j < length v.system.pulls → get_or after j true ≡ false → (source_of v.system j ≢ target_of v.system k) × ((j ≡ k) ⊎ (get_or doubts j true ≡ false)))
    → AreDoubts (with_raise v k x) after
doubts_raised v is begun k x first doubts after are size others = record { count = size ∙ are.count; each = each }
  where
    each : (j : ℕ) → j < length v.system.pulls → get_or after j true ≡ false → HoldsPull v.system (present_row (with_raise v k x)) j
    each j there off =
        let of_raise : IsPull v.system.lens (pull_at v.system k) = pull-of v.system is.system k first.pull in
        let of_other : IsPull v.system.lens (pull_at v.system j) = pull-of v.system is.system j there in
        let at = others j there off in
        let source = word_stays v k x (source_of v.system j) of_other.source of_raise.target at.0 in
        let holds = holds_at v.system is.system (with_raise v k x).words (present v) j there in
        holds.0 (elim at.1 [
          | inl same ↦
              let now = word_raised v is begun k x of_raise.target in
              let of_k : ask v.system k (word_at v.system.lens (with_raise v k x).words (present v) (source_of v.system k)) ≤ word_at v.system.lens (with_raise v k x).words (present v) (target_of v.system k) =
              omega (arith, now, ap (λ y. ask v.system k y) (subst (λ (n : ℕ). word_at v.system.lens (with_raise v k x).words (present v) (source_of v.system n) ≡ word_at v.system.lens v.words (present v) (source_of v.system n)) same source ∙ sym first.value)) in
              subst (λ (n : ℕ). ask v.system n (word_at v.system.lens (with_raise v k x).words (present v) (source_of v.system n)) ≤ word_at v.system.lens (with_raise v k x).words (present v) (target_of v.system n)) (sym same) of_k
          | inr before ↦
              let held = (holds_at v.system is.system v.words (present v) j there).1 (are.each j there before) in
              omega (arith, held, ap (λ y. ask v.system j y) source, (raised_within v.words (place_of v.system.lens (present v) (target_of v.system k)) (ask v.system k x)).each (place_of v.system.lens (present v) (target_of v.system j)))
        ])
