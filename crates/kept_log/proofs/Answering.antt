-- Formulas on a folded log.
use Rattle.std.proofs.Common.{◌↔◌, sym, subst}
use Rattle.run_model.specs.Cut.{Cut}
use Rattle.run_model.specs.Consistent.{IsOrder, IsConsistent}
use Rattle.run_model.specs.Formula.{Formula}
use Rattle.run_model.specs.Meaning.{Sat, Family}
use Rattle.run_model.specs.Run as run
use Rattle.run_model.specs.Sublattice.{IsLeast, IsGreatest}
use Rattle.kept_runs.specs.Kept.{Names, kept_cut}
use Rattle.kept_runs.specs.Naming.{AreNamed}
use Rattle.kept_runs.proofs.Truth.{same_sat, same_least, same_greatest}
use Rattle.event_log.specs.declared.log.Log.{Log}
use Rattle.event_log.specs.States.{trace_of_log}
use Rattle.kept_log.specs.Keeping.{CanBeKept}
use Rattle.kept_log.specs.Kept.{kept_log}
use Rattle.kept_log.proofs.Faults.{log_order}
use Rattle.kept_log.proofs.Folded.{run_kept}

module _ (log : Log) (names : Names) (watches : run.Watches) (can : CanBeKept log) where
  abbrev trace : run.Trace
  trace = trace_of_log log

  order : IsOrder (run.clocks_of trace)
  order = log_order log can.text.vars can.clocks can.faultless

  pub truth_kept : (f : Formula) → AreNamed names f → (c : Cut) → IsConsistent (run.clocks_of trace) c → Sat (run.run_of trace watches) f c ↔ Sat (run.run_of (trace_of_log (kept_log log names)) watches) f (kept_cut trace names c)
  truth_kept f named c l = subst (λ (t : run.Trace). Sat (run.run_of trace watches) f c ↔ Sat (run.run_of t watches) f (kept_cut trace names c)) (sym (run_kept log names)) (same_sat trace names watches order f named c l)

  pub least_kept : (f : Formula) → AreNamed names f → (c : Cut) → IsLeast (Family (run.run_of trace watches) f) c → IsLeast (Family (run.run_of (trace_of_log (kept_log log names)) watches) f) (kept_cut trace names c)
  least_kept f named c l = subst (λ (t : run.Trace). IsLeast (Family (run.run_of t watches) f) (kept_cut trace names c)) (sym (run_kept log names)) (same_least trace names watches order f named c l)

  pub greatest_kept : (f : Formula) → AreNamed names f → (c : Cut) → IsGreatest (Family (run.run_of trace watches) f) c → IsGreatest (Family (run.run_of (trace_of_log (kept_log log names)) watches) f) (kept_cut trace names c)
  greatest_kept f named c l = subst (λ (t : run.Trace). IsGreatest (Family (run.run_of t watches) f) (kept_cut trace names c)) (sym (run_kept log names)) (same_greatest trace names watches order f named c l)
