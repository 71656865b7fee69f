-- Inside: when a process of a generated run may make its next event.
use Rattle.std.specs.Prelude.{◌≡◌, ℕ, ◌-◌, ◌<◌, ◌≤◌}
use Rattle.std.specs.Prelude.{length}
use Rattle.std.specs.List.{AllByRecursion}
use Rattle.run_model.specs.Cut.{count}
use Rattle.pota_base.specs.Limits.{most_events, most_processes}
use Rattle.event_log.specs.declared.log.Kind.TheVariants as kind
use Rattle.trace_gen.specs.declared.queue.Sent.{Sent}
use Rattle.trace_gen.specs.declared.process.Process.{Process}
use Rattle.trace_gen.specs.Making.{Processes, process_at}

-- process i of so many may make event number k: its counts fit, and its waiting messages have one
-- count for each process
pub record CanStep (procs k : ℕ) (p : Process) : Type 0 where
  pub wide : length p.clock ≡ procs
  pub low : (j : ℕ) → count p.clock j ≤ k
  pub few : p.seen ≤ k
  pub waiting : AllByRecursion (λ (m : Sent). length m.clock ≡ procs) p.waiting

-- 1 to 32 processes may make event number k
pub record CanMake (k : ℕ) (ps : Processes) : Type 0 where
  pub some : 1 ≤ length ps
  pub few : length ps ≤ most_processes
  pub limit : k < most_events
  pub each : (i : ℕ) → i < length ps → CanStep (length ps) k (process_at ps i)
