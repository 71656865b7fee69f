use Rattle.std.proofs.Common.{rules}
use Rattle.process_claims.proofs.Keeps.{meets}
use Rattle.process_claims.proofs.claims.Claims.meet.Goals as goal

pub join_seat-requires : goal.join_seat-requires
join_seat-requires c = (search rules, search rules, search rules, search rules, meets _ _ _ _ _)
