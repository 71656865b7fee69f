use Rattle.std.proofs.Common.{rules}
use Rattle.slice_workers.proofs.Reached.{within_refl, none_are_handed}
use Rattle.slice_workers.proofs.threads.meet_all.Goals as goal

pub loop-done-init : goal.loop-done-init
loop-done-init c = record {
  table = search rules;
  rises = within_refl _;
  handed = none_are_handed _ _ _ c.requires.none;
  dones = c.requires.dones;
}
