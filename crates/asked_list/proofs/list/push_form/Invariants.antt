use Rattle.std.proofs.Common.{◌≡◌, ◌++◌, replicate}
use Rattle.asked_list.proofs.list.push_form.Given as goal

abbrev pub invariant-loop-i : goal.invariant-loop-i
invariant-loop-i l = l.forms ≡ l.initial.forms ++ replicate l.i l.form
