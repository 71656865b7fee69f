use Rattle.std.proofs.Common.{rules}
use Rattle.process_claims.proofs.Keeps.{swaps}
use Rattle.process_claims.proofs.claims.Claims.claim.Goals as goal

pub swap-found-requires : goal.swap-found-requires
swap-found-requires c = (search rules, search rules, swaps _ _ _ c.claimer.inside.token.me _ (search rules))
