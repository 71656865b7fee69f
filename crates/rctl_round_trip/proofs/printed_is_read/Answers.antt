use Rattle.rctl_round_trip.proofs.RoundTrips.{printed_again}
use Rattle.rctl_round_trip.proofs.printed_is_read.Goals as goal

pub returns : goal.returns
returns c = printed_again
