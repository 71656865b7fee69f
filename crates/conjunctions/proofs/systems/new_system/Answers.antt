use Rattle.std.proofs.Common.{◌≤◌, ◌-◌, ◌*◌, length, arith, ap}
use Rattle.std.proofs.Math.Nat.{mul-le-mul}
use Rattle.run_model.proofs.Counts.{length-lengths}
use Rattle.pota_base.specs.Limits.{most_processes}
use Rattle.conjunctions.proofs.systems.new_system.Goals as goal

pub of_fans-requires-clause-count : goal.of_fans-requires-clause-count
of_fans-requires-clause-count c =
    let n = length c.args.order.now in
    let small : n ≤ most_processes = omega (arith, c.shape.ensures.shape.few, ap length c.shape.ensures.lens, length-lengths c.args.order.now) in
    let less : n - 1 ≤ most_processes = omega arith in
    let square : n * (n - 1) ≤ most_processes * most_processes = mul-le-mul {n₁ = n} {m₁ = n - 1} {n₂ = most_processes} {m₂ = most_processes} small less in
    omega (arith, square, c.in_ok-order_fans.ensures.count)
