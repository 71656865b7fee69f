use Rattle.std.proofs.Common.{◌≡◌, ◌++◌, take}
use Rattle.rctl_class.specs.NamedParts.{disjuncts_of}
use Rattle.ask_text.specs.Text.{nowhere_lines}
use Rattle.ask_text.proofs.nowhere.put_nowhere.Given as goal

abbrev pub invariant-loop-place : goal.invariant-loop-place
invariant-loop-place l = l.out ≡ l.fn.out ++ nowhere_lines (disjuncts_of l.disjuncts) (take l.place-index l.places)
