use Rattle.std.proofs.Common.{arith, ap, refl, ◌≡◌, ◌≤◌, ◌∙◌, length, true, false, get_or}
use Rattle.pota_base.specs.Limits.{most_processes}
use Rattle.pull_system.specs.System.{SystemView}
use Rattle.bound_table.proofs.Seeing.{upto_next}
use Rattle.slice_workers.proofs.Passes.{passed_none, passed_on, passed_reaches}
use Rattle.slice_workers.proofs.workers.settle_rest.Goals as goal

pub loop-process-init : goal.loop-process-init
loop-process-init g c =
    let system : SystemView = c.args.table.now.system in record {
      reached = c.requires.reached;
      settled = passed_none system _ _ _ refl refl c.requires.reached.handed;
      done = λ p below. absurd (omega arith);
    }

pub settle_left-requires-clause-few : goal.settle_left-requires-clause-few
settle_left-requires-clause-few g c =
    let system : SystemView = c.args.table.now.system in
    let few : length system.lens ≤ most_processes = omega (arith, c.procs-process-end.ensures.shape.few, ap length (c.shape.ensures.shape ∙ ap (λ s. s.lens) c.system.ensures)) in few

pub loop-process-preserved : goal.loop-process-preserved
loop-process-preserved g c =
    let system : SystemView = c.args.table.now.system in
    let inv = c.loop-process.invariant in
    let left = c.settle_left.ensures in record {
      reached = passed_reaches system _ _ _ _ _ _ inv.reached left.settled;
      settled = passed_on system _ _ _ _ _ _ inv.settled left.settled;
      done = upto_next (λ p. get_or c.settle_left.new.handed p false ≡ true) c.loop-process.process (λ p below. left.settled.stays p (inv.done p below)) left.marked;
    }

pub returns-clause-all : goal.returns-clause-all
returns-clause-all g c =
    let system : SystemView = c.args.table.now.system in
    let end : c.procs-process-end.result ≡ length system.lens = c.procs-process-end.ensures.count ∙ ap length (c.shape.ensures.shape ∙ ap (λ s. s.lens) c.system.ensures) in
    λ p there. c.loop-process.invariant.done p (omega arith)
