use Rattle.rctl_round_trip.proofs.RoundTrips.{printed_without_fault}
use Rattle.rctl_round_trip.proofs.printed_has_no_fault.Goals as goal

pub returns : goal.returns
returns c = printed_without_fault
