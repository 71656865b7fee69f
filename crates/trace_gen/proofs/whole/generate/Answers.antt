use Rattle.std.proofs.Common.{sym, subst, ◌≡◌}
use Rattle.std.specs.Prelude.{None}
use Rattle.std.proofs.lemmas.Result.{IfOk-weaker}
use Rattle.event_log.specs.declared.log.Log.{Log}
use Rattle.event_log.specs.Laws.{IsLog}
use Rattle.vector_clock.specs.Faults.{log_fault}
use Rattle.vector_clock.specs.Filled.{filled_log}
use Rattle.trace_gen.proofs.Fits.{log_fits, filled_clean}
use Rattle.trace_gen.proofs.Size.{log_small}
use Rattle.trace_gen.proofs.whole.generate.Goals as goal

pub returns-clause-text : goal.returns-clause-text
returns-clause-text c = IfOk-weaker c.make_log.result _ _ (λ log is. subst IsLog (sym is) (record {
  fits = log_fits c.args.procs c.requires.some c.requires.few c.args.seed c.args.events c.requires.limit;
  small = log_small c.args.procs c.requires.some c.requires.few c.args.seed c.args.events c.requires.limit;
})) c.make_log.ensures

pub returns-clause-clean : goal.returns-clause-clean
returns-clause-clean c = IfOk-weaker c.make_log.result _ _
    (λ log is. subst (λ (l : Log). log_fault (filled_log l) ≡ None) (sym is) (filled_clean c.args.procs c.requires.some c.requires.few c.args.seed c.args.events c.requires.limit)) c.make_log.ensures
