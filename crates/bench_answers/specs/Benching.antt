-- A bench: what its log and its summary lead to.
use Rattle.std.specs.Prelude.{◌≤◌}
use Rattle.pota_base.specs.Limits.{most_events, most_processes}
use Rattle.call_options.specs.declared.sizes.Sizes.{Sizes}
use Rattle.fault_kinds.specs.declared.refusal.Refusal.TheVariants as refusal
use Rattle.log_answers.specs.declared.stop.StopCause.TheVariants as causes

-- sizes of a log that can be made
pub record CanBeMade (sizes : Sizes) : Type 0 where
  pub some : 1 ≤ sizes.procs
  pub few : sizes.procs ≤ most_processes
  pub limit : sizes.events ≤ most_events
