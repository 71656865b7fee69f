use Rattle.std.proofs.Common.{◌≡◌, take}
use Rattle.layer_rows.proofs.slice_making.wide_row.Given as goal

abbrev pub invariant-loop-word : goal.invariant-loop-word
invariant-loop-word l = l.words.items ≡ take l.word-index l.row
