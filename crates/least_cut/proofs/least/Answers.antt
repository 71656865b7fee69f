use Rattle.std.proofs.Common.{◌+◌, ◌≤◌, ℕ, sum, arith, subst}
use Rattle.pull_system.specs.Marks.{marked}
use Rattle.pull_system.proofs.Climbing.{starts_below}
use Rattle.pull_system.proofs.Sums.{sum-is_vector, sum-within}
use Rattle.least_cut.proofs.Settling.{pays_start, pays_next}
use Rattle.least_cut.proofs.least.Goals as goal

pub loop-process-init : goal.loop-process-init
loop-process-init g c = record {
  marks = c.look_at_all.ensures.climb.marks;
  settled = c.look_at_all.ensures.settled;
  below = c.look_at_all.ensures.climb.below _ (starts_below _ _ c.requires);
  looks = pays_start _ _ _ _ _ _ c.look_at_all.ensures.looks (let P : ℕ → Type 0 = λ n. marked c.look_at_all.new.risen + sum c.args.vector.now ≤ n + sum c.look_at_all.new.vector in subst P c.new-risen.ensures.count c.look_at_all.ensures.climb.pays);
}

pub loop-process-smaller : goal.loop-process-smaller
loop-process-smaller g c =
    let lens = c.args.system.now.lens in
    let below = c.look_from.ensures.climb.below _ (starts_below _ _ c.loop-process.invariant.below.vector) in
    let rises : sum c.loop-process.vector ≤ sum c.look_from.new.vector = sum-within _ _ (omega (arith, c.loop-process.invariant.below.vector.size, below.vector.size)) below.above.each in
    omega (arith, rises, c.look_from.ensures.climb.pays, c.in-Some.ensures.count, sum-is_vector lens c.look_from.new.vector below.vector)

pub loop-process-preserved : goal.loop-process-preserved
loop-process-preserved g c = record {
  marks = c.look_from.ensures.climb.marks;
  settled = c.look_from.ensures.settled;
  below = c.look_from.ensures.climb.below _ c.loop-process.invariant.below;
  looks = pays_next _ _ _ _ _ _ _ _ _ _ c.look_from.ensures.looks c.in-Some.ensures.count c.look_from.ensures.climb.pays c.loop-process.invariant.looks;
}
