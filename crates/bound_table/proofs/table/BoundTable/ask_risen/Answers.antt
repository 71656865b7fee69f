use Rattle.std.proofs.Common.{rules, arith, ap, ◌≡◌, ◌<◌, ◌≤◌, ◌∙◌, ℕ, length, get_or}
use Rattle.pull_system.specs.System.{SystemView}
use Rattle.pull_fans.proofs.Asking.{pulls_from_few}
use Rattle.bound_table.proofs.Settling.{settling_rises}
use Rattle.bound_table.proofs.Seeing.{asking_trans, asking_again, within_first, first_more, upto_next, sees_none, sees_trans}
use Rattle.bound_table.proofs.table.BoundTable.ask_risen.Goals as goal

pub loop-process-init : goal.loop-process-init
loop-process-init g c = record {
  asking = c.requires.asking;
  done = λ none p below. absurd (omega arith);
  reaches = λ p below. absurd (omega arith);
  few = omega arith;
  sees = sees_none _ _ _;
  looks = omega arith;
}

pub ask_again-asked-requires-clause-asking : goal.ask_again-asked-requires-clause-asking
ask_again-asked-requires-clause-asking g c =
    asking_again _ _ _ _ _ _ c.loop-process.invariant.asking

pub loop-process-preserved : goal.loop-process-preserved
loop-process-preserved g c =
    let system : SystemView = c.args.self.now.system in
    let inv = c.loop-process.invariant in
    let process : ℕ = c.loop-process.process in
    let again = c.ask_again-asked.ensures in
    let there : process < length system.lens = search rules in
    let before = settling_rises _ _ _ _ _ c.args.vector.now c.loop-process.vector c.requires.asking.settling inv.asking.settling in
    let reached = upto_next (λ i. get_or c.args.vector.now i 0 ≤ get_or c.ask_again-asked.new.seen i 0) process (λ i below. omega (arith, inv.reaches i below, again.sees.kept.each i)) (omega (arith, before.each process, again.reaches)) in record {
      asking = asking_trans _ _ _ _ _ _ _ _ _ inv.asking again.asking;
      done = λ none.
          let idle : c.ask_again-asked.result ≡ 0 = omega arith in
          let same = again.idle idle in
          upto_next (λ i. get_or c.ask_again-asked.new.vector i 0 ≤ get_or c.ask_again-asked.new.seen i 0) process
          (λ i below. omega (arith, inv.done (omega arith) i below, again.sees.kept.each i, ap (λ v. get_or v i 0) same)) (omega (arith, again.reaches, ap (λ v. get_or v process 0) same));
      reaches = reached;
      few = omega (arith, inv.few, again.few);
      sees = sees_trans _ _ _ _ _ _ _ _ _ inv.sees again.sees;
      looks = omega (arith, inv.looks, again.looks, first_more system.pulls (length system.pulls) process);
    }

pub returns-clause-done : goal.returns-clause-done
returns-clause-done g c =
    let end : c.procs-process-end.result ≡ length c.args.self.now.system.lens = c.procs-process-end.ensures.count ∙ ap length (c.shape.ensures.shape ∙ ap (λ s. s.lens) c.system.ensures) in
    λ none. within_first _ _ c.loop-process.process (omega (arith, c.loop-process.invariant.asking.settling.follows.size)) (c.loop-process.invariant.done none)

pub returns-clause-reaches : goal.returns-clause-reaches
returns-clause-reaches g c =
    let end : c.procs-process-end.result ≡ length c.args.self.now.system.lens = c.procs-process-end.ensures.count ∙ ap length (c.shape.ensures.shape ∙ ap (λ s. s.lens) c.system.ensures) in
    within_first _ _ c.loop-process.process (omega (arith, c.requires.asking.settling.follows.size)) c.loop-process.invariant.reaches

pub returns-clause-looks : goal.returns-clause-looks
returns-clause-looks g c =
    let system : SystemView = c.args.self.now.system in
    omega (arith, c.loop-process.invariant.looks, pulls_from_few system.pulls (length system.pulls) c.loop-process.process)
