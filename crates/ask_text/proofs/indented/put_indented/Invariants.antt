use Rattle.std.proofs.Common.{◌≡◌, ◌++◌, drop}
use Rattle.ask_text.specs.Indented.{indented_from, indented}
use Rattle.ask_text.proofs.indented.put_indented.Given as goal

abbrev pub invariant-loop-i : goal.invariant-loop-i
invariant-loop-i l = l.out ++ indented_from l.begins (drop l.i l.text) ≡ l.fn.out ++ indented l.text
