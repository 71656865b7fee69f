use Rattle.std.proofs.Common.{subst, sym, List, ℕ}
use Rattle.pull_system.specs.System.{SystemView}
use Rattle.slice_workers.specs.inside.Reaching.{HasReachedRows}
use Rattle.slice_workers.proofs.Passes.{passed_none, passed_on}
use Rattle.slice_workers.proofs.workers.claim_one.Goals as goal

pub settle_marked-requires-clause-reached : goal.settle_marked-requires-clause-reached
settle_marked-requires-clause-reached g c =
    let system : SystemView = c.args.table.now.system in
    let P : List ℕ → Type 0 = λ f. HasReachedRows system f c.args.finals.now c.args.bottom.now c.args.handed.now in subst P (sym c.claim.ensures.floor) c.requires.reached

pub returns-then-claim : goal.returns-then-claim
returns-then-claim g c =
    let system : SystemView = c.args.table.now.system in
    record { settled = passed_on system _ _ _ _ _ _ (passed_none system _ _ _ c.claim.ensures.table c.claim.ensures.floor c.requires.reached.handed) c.settle_marked.ensures.settled }

pub returns-else-claim : goal.returns-else-claim
returns-else-claim g c =
    let system : SystemView = c.args.table.now.system in
    record { settled = passed_none system _ _ _ c.claim.ensures.table c.claim.ensures.floor c.requires.reached.handed }
