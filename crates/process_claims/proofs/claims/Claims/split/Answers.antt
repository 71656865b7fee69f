use Rattle.std.proofs.Common.{rules}
use Rattle.process_claims.proofs.Keeps.{parts}
use Rattle.process_claims.proofs.claims.Claims.split.Goals as goal

pub split_seat-requires : goal.split_seat-requires
split_seat-requires c = (search rules, search rules, parts _ _ _)
