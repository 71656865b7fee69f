use Rattle.std.proofs.Common.{rules}
use Rattle.least_cut.proofs.Looks.{climb_none}
use Rattle.least_cut.proofs.look_at_all.Goals as goal

pub loop-k-init : goal.loop-k-init
loop-k-init g c = record {
  climb = climb_none _ _ _ c.requires.vector c.requires.marks;
  settled = search rules;
  looks = search rules;
}
