use Rattle.std.proofs.Common.{sym, arith}
use Rattle.vector_clock.proofs.RisingMessages.{place_is}
use Rattle.vector_clock.proofs.places.rank_of.Goals as goal

pub returns : goal.returns
returns c =
    let i = c.halves.invariant in
    sym (place_is c.args.kept.now c.args.id c.halves.low (omega (arith, i.between, i.within)) i.below (λ there. i.above c.halves.low (omega (arith, c.halves-test.false)) there))
