-- What one look at a pull does to the pulls that hold, to the marks and to the sum.
use Rattle.std.proofs.Common.{◌≡◌, ◌≢◌, ℕ, ◌*◌, ◌+◌, ◌<◌, ◌≤◌, ◌⊎◌, inl, inr, List, Bool, true, false, length, get_or, set, sum, arith, subst, sym, ap, ◌∙◌, get_or-set_same}
use Rattle.std.proofs.lemmas.List.{length-set}
use Rattle.std.proofs.Math.Nat.{mul-le-mul_left}
use Rattle.pull_system.specs.declared.pull.Pull.{Pull}
use Rattle.least_cut.specs.inside.Climb.{AreHeld, IsLook, IsLooked, AreMarks}
use Rattle.pull_system.specs.Marks.{marked}
use Rattle.least_cut.specs.inside.Climb.IsLook.{Held, Raised}
use Rattle.pull_system.specs.System.{SystemView, IsSystem, IsPull, HoldsPull, source_of, target_of, ask}
use Rattle.pull_fans.specs.Sources.{numbers_from}
use Rattle.pull_system.proofs.Climbing.{set_case, set_at_least}
use Rattle.pull_system.specs.Vector.{IsVector}
use Rattle.pull_system.proofs.Pulls.{pull-of}
use Rattle.pull_fans.proofs.Numbers.{numbers_from-has, numbers_from-is}
use Rattle.pull_system.proofs.Marks.{mark_more}
use Rattle.pull_system.proofs.Sums.{sum-set}

module _ (system : SystemView) (k : ℕ) (v w : List ℕ) (risen marks : List Bool) where
  -- a pull whose source is not marked afterwards reads what it read before
  source_same : IsLook system k v w risen marks → target_of system k < length risen → (j : ℕ) → get_or marks (source_of system j) false ≡ false
      → (get_or w (source_of system j) 0 ≡ get_or v (source_of system j) 0) × (get_or risen (source_of system j) false ≡ false)
  source_same (Held holds same marks_same) there j unmarked = (ap (λ x. get_or x (source_of system j) 0) same, let e = ap (λ x. get_or x (source_of system j) false) marks_same in cc)
  source_same (Raised z asked less raised marked_now) there j unmarked =
      let e : get_or (set risen (target_of system k) true) (source_of system j) false ≡ false = ap (λ x. get_or x (source_of system j) false) (sym marked_now) ∙ unmarked in
      elim (set_case v (target_of system k) z (source_of system j) 0) [
        | inl same ↦ (ap (λ x. get_or x (source_of system j) 0) raised ∙ same, elim (set_case risen (target_of system k) true (source_of system j) false) [ inl f ↦ sym f ∙ e | inr f ↦ let g : true ≡ false = sym (f.1) ∙ e in absurd (cc) ])
        | inr same ↦ let f = get_or-set_same risen (target_of system k) true false there in let g : true ≡ false = sym f ∙ ap (λ i. get_or (set risen (target_of system k) true) i false) (sym same.0) ∙ e in absurd (cc)
      ]

  target_more : IsLook system k v w risen marks → (i : ℕ) → get_or v i 0 ≤ get_or w i 0
  target_more (Held holds same marks_same) i = omega (arith, ap (λ x. get_or x i 0) same)
  target_more (Raised z asked less raised marked_now) i = omega (arith, ap (λ x. get_or x i 0) raised, set_at_least v (target_of system k) z (omega arith) i)

  -- what held of the pulls that were looked at still does
  pub look_keeps : IsLook system k v w risen marks → target_of system k < length risen → (looked : ℕ → Type 0) → AreHeld system v risen looked → AreHeld system w marks looked
  look_keeps look there looked settled = record {
    each = λ j in_range was unmarked.
        let s = source_same look there j unmarked in
        omega (arith, ap (λ x. ask system j x) s.0, settled.each j in_range was s.1, target_more look (target_of system j));
  }

  -- and pull k is one of them now
  look_holds : IsLook system k v w risen marks → target_of system k < length risen → target_of system k < length v → get_or marks (source_of system k) false ≡ false → HoldsPull system w k
  look_holds look there target unmarked = let s = source_same look there k unmarked in omega (arith, ap (λ x. ask system k x) s.0, reached look target)
    where
      reached : IsLook system k v w risen marks → target_of system k < length v → ask system k (get_or v (source_of system k) 0) ≤ get_or w (target_of system k) 0
      reached (Held holds same marks_same) target = omega (arith, ap (λ x. get_or x (target_of system k) 0) same)
      reached (Raised z asked less raised marked_now) target = omega (arith, ap (λ x. get_or x (target_of system k) 0) raised, get_or-set_same v (target_of system k) z 0 target)

  pub look_adds : IsLook system k v w risen marks → target_of system k < length risen → target_of system k < length v → (looked : ℕ → Type 0) → AreHeld system v risen looked
      → AreHeld system w marks (λ j. looked j ⊎ (j ≡ k))
  look_adds look there target looked settled = record {
    each = λ j in_range was unmarked. elim was [
      | inl before ↦ (look_keeps look there looked settled).each j in_range before unmarked
      | inr now ↦ let P : ℕ → Type 0 = λ i. get_or marks (source_of system i) false ≡ false → HoldsPull system w i in subst P (sym now) (look_holds look there target) unmarked
    ];
  }

  -- each mark that is set is paid for by a rise
  pub look_pays : IsLook system k v w risen marks → target_of system k < length risen → target_of system k < length v → marked marks + sum v ≤ marked risen + sum w
  look_pays (Held holds same marks_same) there target = omega (arith, ap (λ x. sum x) same, ap (λ x. marked x) marks_same)
  look_pays (Raised z asked less raised marked_now) there target =
      omega (arith, ap (λ x. sum x) raised, ap (λ x. marked x) marked_now, mark_more risen (target_of system k) there, sum-set v (target_of system k) z target)

-- less was looked at
pub settled_by : (system : SystemView) (v : List ℕ) (risen : List Bool) (looked less : ℕ → Type 0) → ((k : ℕ) → k < length system.pulls → less k → looked k) → AreHeld system v risen looked → AreHeld system v risen less
settled_by system v risen looked less all settled = record { each = λ k there was unmarked. settled.each k there (all k there was) unmarked }

pub looked_none : (system : SystemView) (process : ℕ) (numbers : List ℕ) (k : ℕ) → IsLooked system process numbers 0 k → source_of system k ≢ process
looked_none system process numbers k (inl other) = other
looked_none system process numbers k (inr among) = absurd (omega (arith, among.before))

within_one : (i n : ℕ) → i < n + 1 → (i < n) ⊎ (i ≡ n)
within_one i n h = grind arith

pub looked_next : (system : SystemView) (process : ℕ) (numbers : List ℕ) (count k : ℕ) → IsLooked system process numbers (count + 1) k → IsLooked system process numbers count k ⊎ (k ≡ get_or numbers count 0)
looked_next system process numbers count k (inl other) = inl (inl other)
looked_next system process numbers count k (inr among) =
    elim (within_one among.index count among.before) [
      | inl less ↦ inl (inr record { index = among.index; before = less; is = among.is })
      | inr same ↦ inr (sym among.is ∙ ap (λ i. get_or numbers i 0) same)
    ]

same_or_not : (a b : ℕ) → (a ≡ b) ⊎ (a ≢ b)
same_or_not a b = grind arith

pub looked_all : (system : SystemView) (process : ℕ) (k : ℕ) → k < length system.pulls
    → IsLooked system process (numbers_from system.pulls process (length system.pulls)) (length (numbers_from system.pulls process (length system.pulls))) k
looked_all system process k there =
    elim (same_or_not (source_of system k) process) [
      | inl same ↦ let at = numbers_from-has system.pulls process (length system.pulls) k there same in inr record { index = at.index; before = at.there; is = at.is }
      | inr other ↦ inl other
    ]

pub marks_more : (lens : List ℕ) (risen : List Bool) (process : ℕ) → AreMarks lens risen → process < length lens → AreMarks lens (set risen process true)
marks_more lens risen process marks here = record {
  size = length-set risen process true ∙ marks.size;
  there = λ i is. elim (set_case risen process true i false) [ inl e ↦ marks.there i (sym e ∙ is) | inr e ↦ omega (arith, e.0) ];
}

-- after a look at pull k, it is one of those that were looked at
pub look_settles : (system : SystemView) → IsSystem system → (k : ℕ) → k < length system.pulls → (v w : List ℕ) (risen marks : List Bool) → IsVector system.lens v → AreMarks system.lens risen
    → IsLook system k v w risen marks → (looked : ℕ → Type 0) → AreHeld system v risen looked → AreHeld system w marks (λ j. looked j ⊎ (j ≡ k))
look_settles system is k there v w risen marks vector are look looked settled =
    let p : IsPull system.lens _ = pull-of system is k there in
    look_adds system k v w risen marks look (omega (arith, p.target, are.size, is.shape.few)) (omega (arith, p.target, vector.size)) looked settled

-- the first looks, one at each pull, and the marks that they set
pub pays_start : (pulls steps steps_now marks sum_old sum_now : ℕ) → steps_now ≡ steps + pulls → marks + sum_old ≤ 0 + sum_now → steps_now + pulls * marks + pulls * sum_old ≤ steps + pulls * (1 + sum_now)
pays_start pulls steps steps_now marks sum_old sum_now took pays = omega (arith, mul-le-mul_left pulls (let h : marks + sum_old ≤ sum_now = omega arith in h))

-- a mark that was taken off pays for the looks from its process
pub pays_next : (pulls start steps steps_now marks left marks_now first sum_old sum_now : ℕ) → steps_now ≤ steps + pulls → left + 1 ≡ marks → marks_now + sum_old ≤ left + sum_now
    → steps + pulls * marks + pulls * first ≤ start + pulls * (1 + sum_old) → steps_now + pulls * marks_now + pulls * first ≤ start + pulls * (1 + sum_now)
pays_next pulls start steps steps_now marks left marks_now first sum_old sum_now took taken pays before =
    omega (arith, mul-le-mul_left pulls (let h : marks_now + 1 + sum_old ≤ marks + sum_now = omega arith in h))

-- a number of a pull is below the number of pulls
pub below_count : (pulls : List Pull) (process i : ℕ) (numbers : List ℕ) → numbers ≡ numbers_from pulls process (length pulls) → i < length numbers → get_or numbers i 0 < length pulls
below_count pulls process i numbers same there =
    let Below : List ℕ → Type 0 = λ ns. i < length ns → get_or ns i 0 < length pulls in
    subst Below (sym same) (λ h. (numbers_from-is pulls process (length pulls) i h).below) there

-- once the whole list was gone through, each pull was looked at
pub looked_whole : (system : SystemView) (process count : ℕ) (numbers : List ℕ) → numbers ≡ numbers_from system.pulls process (length system.pulls) → count ≡ length numbers
    → (k : ℕ) → k < length system.pulls → Unit {0} → IsLooked system process numbers count k
looked_whole system process count numbers same whole k there _ =
    let Some : ℕ → Type 0 = λ n. IsLooked system process numbers n k in
    let Each : List ℕ → Type 0 = λ ns. IsLooked system process ns (length ns) k in
    subst Some (sym whole) (subst Each (sym same) (looked_all system process k there))
