use Rattle.std.proofs.Common.{[], arith, ap, length}
use Rattle.causal_order.specs.Growth.{with_clocks}
use Rattle.causal_order.proofs.Growing.{length-with_clocks}
use Rattle.run_tests.proofs.orders.without_events.Goals as goal

pub extend-requires : goal.extend-requires
unfolding with_clocks
extend-requires g c = record { each = tt; few = omega (arith, c.shape-valid.ensures.shape.events); order = c.shape-valid.ensures.order }

pub returns : goal.returns
returns g c =
    omega (arith, ap length c.in_ok-extend.ensures.ok, length-with_clocks c.in_ok-order.order [], ap length c.in_ok-order.ensures)
