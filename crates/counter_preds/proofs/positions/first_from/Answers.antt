use Rattle.std.proofs.Common.{rules, ◌≡◌, ℕ, ◌+ℤ◌, ◌<ℤ◌, inl, inr, sym, subst, arith}
use Rattle.std.specs.Int.{w64}
use Rattle.std.specs.Prelude.{FitsSigned}
use Rattle.std.proofs.lemmas.Bool.{cases_lt}
use Rattle.counter_preds.specs.Counters.{value_at}
use Rattle.std.proofs.lemmas.Int.{ints}
use Rattle.counter_preds.proofs.Reaching.{first_reached, none_reached}
use Rattle.counter_preds.proofs.positions.first_from.Goals as goal

pub returns-then-follows-place-clause-first : goal.returns-then-follows-place-clause-first
returns-then-follows-place-clause-first c =
    first_reached c.args.follows.now c.args.extra c.args.bound c.loop-place.place c.loop-place-test.true (λ y lt. omega (arith, ints, c.ranges.extra, c.ranges.bound, c.loop-place.invariant y lt)) (omega (arith, ints, c.ranges.extra, c.ranges.bound))

pub returns-clause-first : goal.returns-clause-first
returns-clause-first c =
    none_reached c.args.follows.now c.args.extra c.args.bound (λ y lt. omega (arith, ints, c.ranges.extra, c.ranges.bound, c.loop-place.invariant y (omega arith)))

pub loop-place-preserved : goal.loop-place-preserved
loop-place-preserved c = λ y lt. elim (cases_lt y c.loop-place.place) [
  | inl before ↦ c.loop-place.invariant y before
  | inr at ↦
      let here : y ≡ c.loop-place.place = omega (arith, lt, at) in
      let item : FitsSigned w64 (value_at c.args.follows.now c.loop-place.place) = search rules in
      let low : (value_at c.args.follows.now c.loop-place.place +ℤ c.args.extra) <ℤ c.args.bound = omega (arith, ints, c.ranges.extra, c.ranges.bound, item, c.if-follows-place.false) in
      let moved : (value_at c.args.follows.now y +ℤ c.args.extra) <ℤ c.args.bound = subst (λ (k : ℕ). (value_at c.args.follows.now k +ℤ c.args.extra) <ℤ c.args.bound) (sym here) low in
      omega (arith, ints, c.ranges.extra, c.ranges.bound, moved)
]
