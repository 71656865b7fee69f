use Rattle.std.proofs.Common.{rules, arith, ◌+◌, ◌<◌, ℕ, length}
use Rattle.pull_system.specs.System.{SystemView}
use Rattle.bound_table.proofs.Allowed.{bounds_along}
use Rattle.bound_table.proofs.Floors.{follows_none, follows_set, within_one}
use Rattle.bound_table.proofs.Seeing.{read_raised, raised_small}
use Rattle.bound_table.proofs.Claiming.{keeps_refl, keeps_trans}
use Rattle.bound_table.proofs.table.BoundTable.look_narrow.Goals as goal

pub loop-process-init : goal.loop-process-init
loop-process-init c = record { keeps = keeps_refl _; follows = follows_none _ _ _ _ c.requires.into (bounds_along _ _ _ _ (search rules) (search rules) c.bounds.ensures) }

pub overflow_cast-into : goal.overflow_cast-into
overflow_cast-into c =
    let system : SystemView = c.args.self.now.system in
    let process : ℕ = c.loop-process.process in
    let there : process < length system.lens = search rules in
    let read = read_raised system c.loop-process.seat.floor c.load.new.seat.floor c.args.row process (c.begin-begin.result + process) 0 c.load.result (omega (arith, c.begin-begin.ensures.place)) c.load.ensures.floor c.load.ensures.rises (omega arith) c.load.ensures.bounds in
    omega (arith, raised_small system c.begin-begin.ensures.system _ _ c.args.row process _ _ c.requires.row there read)

pub loop-process-preserved : goal.loop-process-preserved
loop-process-preserved c = record {
  keeps = keeps_trans _ _ _ c.loop-process.invariant.keeps c.load.ensures.keeps;
  follows =
      follows_set c.args.self.now.system c.args.row c.loop-process.process (c.loop-process.process + 1) c.loop-process.process c.load.result _ c.loop-process.seat.floor _ c.loop-process.into _ c.requires.row c.loop-process.invariant.follows (search rules)
      c.loop-process.invariant.follows.bounds (search rules) (search rules) (search rules) c.load.ensures.bounds (λ p below. within_one p c.loop-process.process below) (search rules);
}
