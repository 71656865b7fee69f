use Rattle.std.proofs.Common.{refl}
use Rattle.batch_answers.proofs.Undone.{ran_short}
use Rattle.bench_answers.proofs.Summaries.{ran_made}
use Rattle.bench_answers.proofs.bench.answer_bench.Goals as goal

pub bench_log-requires-clause-check : goal.bench_log-requires-clause-check
bench_log-requires-clause-check g c κs lives = (_, c.in-Ok.ensures)

pub returns : goal.returns
returns g c words text is asks left lf =
    ran_made (λ h. (goal.Watch-dyn g (h.watch.vtable, h.watch.value)).answers h.watch.value) c.args.stated c.args.sizes c.args.watches.items words text is asks left _ _ lf _ _ c.bench_log.result
    (c.bench_log.ensures _ c.in-Ok.ensures (record { slice = refl; witness = refl }))

pub returns-in_default : goal.returns-in_default
returns-in_default g c words text is asks left lf = ran_short left _ lf _ _ words c.without_memory.result c.without_memory.ensures
