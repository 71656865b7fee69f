use Rattle.printed_lengths.proofs.OneLine.{printed_line}
use Rattle.printed_lengths.proofs.printed_is_one_line.Goals as goal

pub returns : goal.returns
returns c = printed_line
