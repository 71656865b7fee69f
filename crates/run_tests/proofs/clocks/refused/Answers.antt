use Rattle.std.proofs.Common.{arith}
use Rattle.vector_clock.proofs.Admitting.{first_fits}
use Rattle.run_tests.proofs.clocks.refused.Goals as goal

pub admit-requires : goal.admit-requires
admit-requires c = first_fits 2 c.in_ok-clocks.clocks c.in_ok-early.early c.as_slice.result.now c.in_ok-clocks.ensures c.in_ok-early.ensures.fits (omega (arith, c.in_ok-early.ensures.len)) c.as_slice.ensures
