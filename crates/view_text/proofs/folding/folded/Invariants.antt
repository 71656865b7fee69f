use Rattle.std.proofs.Common.{◌≡◌, ◌≤◌, ◌++◌, drop}
use Rattle.view_text.specs.Folding.{folded}
use Rattle.view_text.proofs.folding.folded.Given as goal

abbrev pub invariant-loop-i : goal.invariant-loop-i
invariant-loop-i l = record {
  text : l.out ++ folded l.column (drop l.i l.text) ≡ folded 0 l.text;
  most : l.column ≤ 100;
}
