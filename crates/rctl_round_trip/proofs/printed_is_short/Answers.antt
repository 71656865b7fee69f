use Rattle.rctl_round_trip.proofs.RoundTrips.{printed_shortly}
use Rattle.rctl_round_trip.proofs.printed_is_short.Goals as goal

pub returns : goal.returns
returns c = printed_shortly
