-- A pull that fails raises its target to what it asks for, which no closed vector is below. What one
-- look keeps, many do.
use Rattle.std.proofs.Common.{◌≡◌, ℕ, ◌<◌, List, Bool, true, length, get_or, set, arith, ap, sym, subst}
use Rattle.pull_system.specs.Vector.{IsVector}
use Rattle.pull_system.specs.System.{SystemView, IsSystem, IsPull, IsBelowLeast, source_of, target_of, ask}
use Rattle.pull_system.specs.Marks.{marked}
use Rattle.pull_system.proofs.Climbing.{climb, asked, starts_below}
use Rattle.pull_system.proofs.Marks.{mark_more}
use Rattle.pull_system.proofs.Pulls.{pull-of}
use Rattle.pull_system.proofs.Sums.{sum-set}
use Rattle.least_cut.specs.inside.Climb.{AreMarks, IsClimb}
use Rattle.least_cut.proofs.Settling.{marks_more}

raise_below : (system : SystemView) → IsSystem system → (k : ℕ) → k < length system.pulls → (start v : List ℕ) → (target z : ℕ) → target ≡ target_of system k → z ≡ ask system k (get_or v (source_of system k) 0)
    → get_or v target 0 < z → IsBelowLeast system start v → IsBelowLeast system start (set v target z)
raise_below system is k there start v target z same_target same_z less below =
    climb system is start v below target z (omega arith) (λ c closed. omega (arith, asked system is start v below k there (get_or v (source_of system k) 0) (omega arith) c closed, ap (λ i. get_or c i 0) same_target))

-- the target of a pull that fails rises to what it asks for, and is marked
pub climb_raised : (system : SystemView) → IsSystem system → (k : ℕ) → k < length system.pulls → (v : List ℕ) (risen marks : List Bool) (target z : ℕ) → target ≡ target_of system k → z ≡ ask system k (get_or v (source_of system k) 0)
    → get_or v target 0 < z → IsVector system.lens v → AreMarks system.lens risen → marks ≡ set risen target true → IsClimb system v (set v target z) risen marks
climb_raised system is k there v risen marks target z same_target same_z less vector are marks_now =
    let p : IsPull system.lens _ = pull-of system is k there in
    let here : target < length system.lens = omega (arith, same_target, p.target) in
    let P : List Bool → Type 0 = AreMarks system.lens in
    record {
      vector = (raise_below system is k there v v target z same_target same_z less (starts_below system v vector)).vector;
      below = λ start below. raise_below system is k there start v target z same_target same_z less below;
      marks = subst P (sym marks_now) (marks_more system.lens risen target are here);
      pays = omega (arith, less, ap (λ x. marked x) marks_now, mark_more risen target (omega (arith, here, are.size, is.shape.few)), sum-set v target z (omega (arith, here, vector.size)));
    }

-- no look at all
pub climb_none : (system : SystemView) (v : List ℕ) (risen : List Bool) → IsVector system.lens v → AreMarks system.lens risen → IsClimb system v v risen risen
climb_none system v risen vector are = record { vector = vector; below = λ start below. below; marks = are; pays = omega arith }

-- more looks
pub climb_more : (system : SystemView) (u v w : List ℕ) (first risen marks : List Bool) → IsClimb system u v first risen → IsClimb system v w risen marks → IsClimb system u w first marks
climb_more system u v w first risen marks before more = record {
  vector = more.vector;
  below = λ start below. more.below start (before.below start below);
  marks = more.marks;
  pays = omega (arith, before.pays, more.pays);
}
