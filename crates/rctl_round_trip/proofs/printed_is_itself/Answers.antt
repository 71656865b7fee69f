use Rattle.rctl_round_trip.proofs.RoundTrips.{printed_itself}
use Rattle.rctl_round_trip.proofs.printed_is_itself.Goals as goal

pub returns : goal.returns
returns c = printed_itself
