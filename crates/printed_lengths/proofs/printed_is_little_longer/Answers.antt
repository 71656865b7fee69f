use Rattle.printed_lengths.proofs.LittleLonger.{printed_near}
use Rattle.printed_lengths.proofs.printed_is_little_longer.Goals as goal

pub returns : goal.returns
returns c = printed_near
