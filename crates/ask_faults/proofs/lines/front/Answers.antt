use Rattle.std.proofs.Common.{ap, ◌∙◌, take}
use Rattle.ask_faults.proofs.Pieces.{take_short}
use Rattle.ask_faults.proofs.lines.front.Goals as goal

pub returns : goal.returns
returns c = ap (λ k. take k c.args.bytes.now) c.min.ensures ∙ take_short 40 c.args.bytes.now
