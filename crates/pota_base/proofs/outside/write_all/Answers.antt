use Rattle.std.proofs.Common.{rules}
use Rattle.pota_base.proofs.Known.{written_more}
use Rattle.pota_base.proofs.outside.write_all.Goals as goal

pub loop-rest-preserved : goal.loop-rest-preserved
loop-rest-preserved g c =
    (written_more _ _ _ _ _ _ _ _ _ c.loop-rest.invariant.0 c.in-Ok.ensures.bytes.1 c.in-Ok.ensures.cause.later, search rules)
