use Rattle.std.proofs.Common.{arith, refl}
use Rattle.pull_fans.proofs.Numbers.{numbers_few}
use Rattle.bound_table.proofs.Seeing.{asking_put, sees_put}
use Rattle.bound_table.proofs.table.BoundTable.ask_again.Goals as goal

pub returns-clause-asking : goal.returns-clause-asking
returns-clause-asking g c =
    asking_put _ c.args.row c.args.process _ _ _ _ _ _ _ _ c.requires.asking c.ask_from.ensures.settling c.requires.process (omega arith) refl c.ask_from.ensures.holds

pub returns-clause-sees : goal.returns-clause-sees
returns-clause-sees g c =
    sees_put _ _ _ _ c.args.seen.now c.args.process _ (omega (arith, c.requires.asking.size)) (omega (arith, c.if-x-seen.false)) (numbers_few c.args.self.now.system.pulls c.args.process _ refl) c.ask_from.ensures.looks
