use Rattle.std.proofs.Common.{ℕ, ◌-◌, ◌≤◌, List, All, length, sym, subst, arith}
use Rattle.std.proofs.lemmas.Nat.{mul-le}
use Rattle.run_model.proofs.Counts.{length-lengths}
use Rattle.pota_base.specs.Limits.{most_processes}
use Rattle.pull_system.specs.System.{IsPull}
use Rattle.pull_fans.specs.Fans.{pulls_of_fans}
use Rattle.run_tests.proofs.slices.system_of.Goals as goal

pub of_fans-requires-clause-pulls : goal.of_fans-requires-clause-pulls
of_fans-requires-clause-pulls c = subst (λ (lens : List ℕ). All (IsPull lens) (pulls_of_fans c.in_ok-fans.fans)) (sym c.shape.ensures.lens) c.in_ok-fans.ensures.pulls

pub of_fans-requires-clause-count : goal.of_fans-requires-clause-count
of_fans-requires-clause-count c =
    let few : length c.args.order.now ≤ most_processes = omega (arith, c.shape.ensures.shape.few, length-lengths c.args.order.now) in
    omega (arith, c.in_ok-fans.ensures.count, mul-le (length c.args.order.now) (length c.args.order.now - 1) 32 31 few (omega (arith, few)))
