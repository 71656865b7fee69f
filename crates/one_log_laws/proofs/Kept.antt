-- What is written of what is named.
use Rattle.std.proofs.Common.{◌≡◌, sym, ap, subst, ◌∙◌}
use Rattle.run_model.specs.Run as run
use Rattle.run_model.specs.Meaning.{Sat}
use Rattle.kept_runs.specs.Kept.{kept_cut}
use Rattle.event_log.specs.declared.log.Log.{Log}
use Rattle.event_log.specs.States.{trace_of_log}
use Rattle.log_rules.specs.Judgement.{Prefix}
use Rattle.log_rules.specs.WholeLogs.{all_of}
use Rattle.kept_log.specs.Kept.{kept_log}
use Rattle.kept_log.specs.Named.{names_of}
use Rattle.kept_log.proofs.Answering.{truth_kept}
use Rattle.one_log.specs.Logging.{one_log}
use Rattle.one_log_laws.specs.Laws.{FormulasStayAsTrue, read_log, written_log}
use Rattle.one_log_laws.proofs.Back.{batched_run, some_is_kept}
use Rattle.one_log_laws.proofs.Folded.{can_be_kept}
use Rattle.one_log_laws.proofs.Items.{of_items, fine_so, small_so}

pub formulas_stay : FormulasStayAsTrue
formulas_stay asked input text w some watches f named c consistent =
    let of = of_items asked.flags.torn asked.flags.form input w.log w.has in
    let log : Log = read_log w in
    let can = can_be_kept w.log (fine_so w.log of) (small_so w.log of) in
    let same : trace_of_log (kept_log log (names_of asked.names)) ≡ trace_of_log (written_log w) =
    sym (batched_run asked.flags.one_batch (all_of (kept_log log (names_of asked.names))))
    ∙ ap (λ (p : Prefix). trace_of_log (one_log asked.flags.one_batch p)) (sym (some_is_kept asked.names w.log some)) in
    let stays = truth_kept log (names_of asked.names) watches can f named c consistent in (
      λ sat. subst (λ (t : run.Trace). Sat (run.run_of t watches) f (kept_cut (trace_of_log log) (names_of asked.names) c)) same (stays.0 sat),
      λ sat. stays.1 (subst (λ (t : run.Trace). Sat (run.run_of t watches) f (kept_cut (trace_of_log log) (names_of asked.names) c)) (sym same) sat),
    )
