use Rattle.std.proofs.Common.{rules, arith, ap, ◌≡◌, ◌∙◌, ◌≤◌, length, get_or}
use Rattle.bound_table.proofs.Settling.{settling_trans, settling_again, settling_rises}
use Rattle.bound_table.proofs.Seeing.{within_first, upto_next}
use Rattle.bound_table.proofs.table.BoundTable.rise_to.Goals as goal

pub loop-target-init : goal.loop-target-init
loop-target-init c = record {
  settling = c.requires.settling;
  reached = c.requires.reached;
  reaches = λ p below. absurd (omega arith);
}

pub rise_at-requires-clause-settling : goal.rise_at-requires-clause-settling
rise_at-requires-clause-settling c =
    settling_again _ _ _ _ _ c.loop-target.invariant.settling

pub rise_at-requires-clause-asked : goal.rise_at-requires-clause-asked
rise_at-requires-clause-asked c =
    c.requires.asks.asked c.loop-target.target (search rules)

pub loop-target-preserved : goal.loop-target-preserved
loop-target-preserved c =
    let inv = c.loop-target.invariant in
    let rises = settling_rises _ _ _ _ _ c.loop-target.vector c.rise_at.new.vector inv.settling c.rise_at.ensures.settling in record {
      settling = settling_trans _ _ _ _ _ _ _ inv.settling c.rise_at.ensures.settling;
      reached = omega (arith, inv.reached, rises.each c.args.process);
      reaches = upto_next (λ i. get_or c.args.asks.now i 0 ≤ get_or c.rise_at.new.vector i 0) c.loop-target.target (λ i below. omega (arith, inv.reaches i below, rises.each i)) c.rise_at.ensures.reaches;
    }

pub returns-clause-reaches : goal.returns-clause-reaches
returns-clause-reaches c =
    let end : c.procs-target-end.result ≡ length c.args.self.now.system.lens = c.procs-target-end.ensures.count ∙ ap length (c.shape.ensures.shape ∙ ap (λ s. s.lens) c.system.ensures) in
    within_first _ _ c.loop-target.target (omega (arith, c.requires.asks.size)) c.loop-target.invariant.reaches
