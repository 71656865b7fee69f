use Rattle.std.proofs.Common.{◌≡◌, ◌+◌, ◌≤◌, drop}
use Rattle.raise_machine.specs.Machine.{words_at, allowed_count}
use Rattle.raise_machine.proofs.machine.Machine.run.Given as goal

abbrev pub invariant-loop-step : goal.invariant-loop-step
invariant-loop-step l = record {
  system : l.self.system ≡ l.fn.self.system;
  words : l.self.words ≡ words_at l.fn.self.system l.fn.self.words l.steps l.step-index;
  count : l.done + allowed_count l.fn.self.system l.self.words (drop l.step-index l.steps) ≡ allowed_count l.fn.self.system l.fn.self.words l.steps;
  few : l.done ≤ l.step-index;
}
