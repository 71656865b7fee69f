use Rattle.std.proofs.Common.{◌≡◌, take}
use Rattle.slice_graph.specs.Words.{past_ends}
use Rattle.slice_graph.proofs.table.past_ends.Given as goal

abbrev pub invariant-loop-len : goal.invariant-loop-len
invariant-loop-len l = l.words.items ≡ past_ends (take l.len-index l.lens)
