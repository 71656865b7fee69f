use Rattle.std.proofs.Common.{◌∙◌, sym}
use Rattle.vector_clock.proofs.Growth.{clocks_none}
use Rattle.vector_clock.proofs.clocks.Clocks.new.Goals as goal

pub returns : goal.returns
returns c = record { order = c.in_ok-new.ensures ∙ sym (clocks_none c.args.procs); messages = c.new-2.ensures c.args.procs }
