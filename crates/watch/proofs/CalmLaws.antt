-- The answers of `Calm` are true exactly where they are to be.
use Rattle.std.proofs.Common.{◌≡◌, ℕ, suc, zero, ◌+◌, ◌-◌, ◌<◌, ◌≤◌, ℤ, pos, Bool, true, false, not, min, if◌then◌else◌, List, [], ◌∷◌, length, get_or, refl, arith, ◌||◌}
use Rattle.std.specs.Prelude.{◌↔◌, ◌==◌, IsTrue}
use Rattle.std.specs.Ordering.{int_eq}
use Rattle.std.specs.Bool.{Decides}
use Rattle.std.proofs.lemmas.Bool.Decides.{Decides-int_eq, Decides-eqb}
use Rattle.watch.specs.Sizes.{length-calm_from}
use Rattle.watch.specs.Answering.{AnswerWhere, IsCalmAt, first_variable, first_at, calm_from, agreeing_after}

-- behind a state at least it agrees with itself; more do exactly where its first variable is that of the state before
record Agreeing (before : ℕ) (first x : ℤ) (after : ℕ) : Type 0 where
  some : 0 < after
  few : after ≤ 3
  more : 1 < after → (0 < before) × (x ≡ first)
  grows : 0 < before → x ≡ first → after ≡ min (before + 1) 3

by_tests : (before : ℕ) (first x : ℤ) (none same : Bool) → Decides none (before ≡ 0) → Decides same (x ≡ first)
    → Agreeing before first x (if none || not same then 1 else min (before + 1) 3)
by_tests before first x true same n d = record { some = omega arith; few = omega arith; more = λ h. absurd (omega arith); grows = λ h e. absurd (let z = n.0 refl in omega arith) }
by_tests before first x false true n d = record { some = omega arith; few = omega arith; more = λ h. (not_none before n, d.0 refl); grows = λ h e. refl }
  where
    not_none : (m : ℕ) → Decides false (m ≡ 0) → 0 < m
    not_none zero t = absurd (let e = t.1 refl in cc)
    not_none (suc m) t = omega arith
by_tests before first x false false n d = record { some = omega arith; few = omega arith; more = λ h. absurd (omega arith); grows = λ h e. absurd (let f = d.1 e in cc) }

agreeing : (before : ℕ) (first : ℤ) (state : List ℤ) → Agreeing before first (first_variable state) (agreeing_after before first state)
agreeing before first state =
    by_tests before first (first_variable state) (before == 0) (int_eq (first_variable state) first) (Decides-eqb before 0) (Decides-int_eq (first_variable state) first)

-- three agree behind three states exactly where they have one first variable
three : (a b c d : ℕ) (e f g h : ℤ) → Agreeing a e f b → Agreeing b f g c → Agreeing c g h d → IsTrue (d == 3) ↔ ((h ≡ g) × (g ≡ f))
three a b c d e f g h first second last = (
  λ is.
      let d_is : d ≡ 3 = (Decides-eqb d 3).0 is in
      let here = last.more (omega arith) in
      let grown = last.grows here.0 here.1 in
      let before = second.more (omega arith) in
      (here.1, before.1),
  λ same.
      let c_is = second.grows first.some same.1 in
      let d_is = last.grows second.some same.0 in
      let positive = first.some in
      (Decides-eqb d 3).1 (omega arith),
)

-- behind one state less than three agree, and behind two too
two_at_most : (b : ℕ) (e f : ℤ) (c : ℕ) → b ≤ 1 → Agreeing b e f c → IsTrue (c == 3) → ⊥
two_at_most b e f c few now is =
    let c_is : c ≡ 3 = (Decides-eqb c 3).0 is in
    let more = now.more (omega arith) in
    let grown = now.grows more.0 more.1 in
    omega arith

one_at_most : (first : ℤ) (state : List ℤ) → agreeing_after 0 first state ≤ 1
one_at_most first state = none_before (agreeing_after 0 first state) (agreeing 0 first state)
  where
    none_before : (after : ℕ) → Agreeing 0 first (first_variable state) after → after ≤ 1
    none_before zero now = omega arith
    none_before (suc zero) now = omega arith
    none_before (suc (suc after)) now = absurd (let more = now.more (omega arith) in let h = more.0 in omega arith)

-- the answer behind two states
third : (before : ℕ) (first : ℤ) (states : List (List ℤ)) (k : ℕ) → suc (suc k) < length states
    → IsTrue (get_or (calm_from before first states) (suc (suc k)) false) ↔ ((first_at states (suc (suc k)) ≡ first_at states (suc k)) × (first_at states (suc k) ≡ first_at states k))
third before first [] k there = absurd (omega arith)
third before first (x ∷ []) k there = absurd (omega arith)
third before first (x ∷ y ∷ []) k there = absurd (omega arith)
third before first (x ∷ y ∷ z ∷ rest) zero there =
    three _ _ _ _ _ _ _ _ (agreeing before first x) (agreeing (agreeing_after before first x) (first_variable x) y) (agreeing (agreeing_after (agreeing_after before first x) (first_variable x) y) (first_variable y) z)
third before first (x ∷ y ∷ z ∷ rest) (suc k) there =
    third (agreeing_after before first x) (first_variable x) (y ∷ z ∷ rest) k (omega arith)

at_place : (states : List (List ℤ)) (k : ℕ) → k < length states → IsTrue (get_or (calm_from 0 (pos 0) states) k false) ↔ IsCalmAt states k
at_place [] k there = absurd (omega arith)
at_place (x ∷ rest) zero there = (λ h. absurd (two_at_most 0 (pos 0) (first_variable x) _ (omega arith) (agreeing 0 (pos 0) x) h), λ is. absurd (let h = is.three in omega arith))
at_place (x ∷ []) (suc k) there = absurd (omega arith)
at_place (x ∷ y ∷ rest) (suc zero) there =
    (λ h. absurd (two_at_most _ _ _ _ (one_at_most (pos 0) x) (agreeing (agreeing_after 0 (pos 0) x) (first_variable x) y) h), λ is. absurd (let h = is.three in omega arith))
at_place (x ∷ rest) (suc (suc k)) there =
    let same = third 0 (pos 0) (x ∷ rest) k there in
    let one_less : suc (suc k) - 1 ≡ suc k = omega arith in
    let two_less : suc (suc k) - 2 ≡ k = omega arith in (
      λ h. record { three = omega arith; last = rw one_less ((same.0 h).0); one_before = rw (one_less, two_less) ((same.0 h).1) },
      λ is. same.1 (rw one_less at is.last, rw (one_less, two_less) at is.one_before),
    )

pub calm_where : (states : List (List ℤ)) → AnswerWhere states (IsCalmAt states) (calm_from 0 (pos 0) states)
calm_where states = record { size = length-calm_from 0 (pos 0) states; each = at_place states }
