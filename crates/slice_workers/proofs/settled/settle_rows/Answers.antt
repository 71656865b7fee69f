use Rattle.std.proofs.Common.{ap, sym, subst, ℕ, List}
use Rattle.bound_table.specs.Firm.{AreFinal}
use Rattle.pull_system.specs.System.{SystemView}
use Rattle.bound_table.proofs.Own.{final_more}
use Rattle.slice_workers.proofs.settled.settle_rows.Goals as goal

pub finish-requires-clause-finals : goal.finish-requires-clause-finals
finish-requires-clause-finals g c =
    let system : SystemView = c.args.table.now.system in
    let P : List ℕ → Type 0 = λ f. AreFinal system f c.args.finals.now in
    final_more system _ _ _ c.meet_all.ensures.rises (subst P (ap (λ s. s.floor) (sym c.make_jobs.ensures.same)) c.requires.finals)
