use Rattle.std.proofs.Common.{rules, arith}
use Rattle.least_cut.proofs.Settling.{settled_by, looked_none, looked_next, looked_whole, look_settles, below_count}
use Rattle.pull_fans.proofs.Numbers.{numbers_few}
use Rattle.least_cut.proofs.Looks.{climb_none, climb_more}
use Rattle.least_cut.proofs.look_from.Goals as goal

pub loop-k-init : goal.loop-k-init
loop-k-init g c = record {
  climb = climb_none _ _ _ c.requires.vector c.requires.marks;
  settled = settled_by _ _ _ _ _ (λ k there was. looked_none c.args.system.now _ _ k was) c.requires.settled;
  looks = search rules;
}

pub look_at-requires-clause-pull : goal.look_at-requires-clause-pull
look_at-requires-clause-pull g c =
    below_count c.args.system.now.pulls c.args.process c.loop-k.k-index _ c.pulls_from-k-items.ensures c.loop-k-test.true

pub loop-k-preserved : goal.loop-k-preserved
loop-k-preserved g c = record {
  climb = climb_more _ _ _ _ _ _ _ c.loop-k.invariant.climb c.look_at.ensures.climb;
  settled =
      settled_by _ _ _ _ _ (λ k there was. looked_next c.args.system.now _ _ _ k was)
      (look_settles _ c.look_at.ensures.system _ (below_count c.args.system.now.pulls c.args.process c.loop-k.k-index _ c.pulls_from-k-items.ensures c.loop-k-test.true) _ _ _ _ c.loop-k.invariant.climb.vector c.loop-k.invariant.climb.marks c.look_at.ensures.look _ c.loop-k.invariant.settled);
  looks = search rules;
}

pub returns-clause-settled : goal.returns-clause-settled
returns-clause-settled g c = settled_by _ _ _ _ _ (looked_whole c.args.system.now c.args.process c.loop-k.k-index _ c.pulls_from-k-items.ensures (omega arith)) c.loop-k.invariant.settled

pub returns-clause-looks : goal.returns-clause-looks
returns-clause-looks g c = omega (arith, c.loop-k.invariant.looks, c.loop-k.auto.k-index-end, numbers_few c.args.system.now.pulls c.args.process _ c.pulls_from-k-items.ensures)
