use Rattle.std.proofs.Common.{sym}
use Rattle.kept_names.proofs.Naming.{parted_here, parted_nowhere}
use Rattle.kept_names.proofs.words.parted.Goals as goal

pub returns-in_err-end : goal.returns-in_err-end
returns-in_err-end c = rw c.from_residual.ensures (sym (parted_nowhere c.args.mark c.args.word.now c.in_err-end.ensures))

pub returns : goal.returns
returns c = parted_here c.args.mark c.args.word.now c.in_ok-end.end c.in_ok-end.ensures
