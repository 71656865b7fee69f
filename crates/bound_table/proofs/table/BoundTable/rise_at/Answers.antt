use Rattle.std.proofs.Common.{arith, refl}
use Rattle.pull_system.specs.System.{SystemView}
use Rattle.bound_table.proofs.Seeing.{asked_by, asked_step, reached_word, raised_small, settling_raised}
use Rattle.bound_table.proofs.table.BoundTable.rise_at.Goals as goal

pub overflow_cast-vector : goal.overflow_cast-vector
overflow_cast-vector c =
    let settling = c.requires.settling in
    omega (arith, raised_small c.args.self.now.system settling.system _ _ c.args.row c.args.target _ _ settling.there c.requires.target c.raise_by_pull.ensures.raised)

pub raise_by_pull-requires-clause-step : goal.raise_by_pull-requires-clause-step
raise_by_pull-requires-clause-step c =
    let system : SystemView = c.args.self.now.system in
    let settling = c.requires.settling in
    asked_step system settling.system c.args.row c.args.process c.args.x c.args.target c.args.asked c.args.seat.now.floor settling.there
    (reached_word _ c.args.row c.args.process c.args.x _ _ _ settling c.requires.process c.requires.reached) (asked_by system _ _ _ _ _ c.if-vector-target.true c.requires.asked)

pub returns-then-vector-target-clause-settling : goal.returns-then-vector-target-clause-settling
returns-then-vector-target-clause-settling c =
    settling_raised _ c.args.row c.args.target _ c.raise_by_pull.result _ _ _ _ _ c.requires.settling c.requires.target c.raise_by_pull.ensures.keeps c.raise_by_pull.ensures.raised refl
