use Rattle.std.proofs.Common.{◌≡◌, ◌+◌, ◌<◌, ℕ}
use Rattle.pull_system.specs.System.{HoldsPull}
use Rattle.certificate_table.specs.Begun.{present_row}
use Rattle.certificate_table.proofs.certified.CertifiedRows.last_is_closed.Given as goal

abbrev pub invariant-loop-k : goal.invariant-loop-k
invariant-loop-k g l = record {
  looks : l.steps ≡ l.fn.steps + l.k;
  held : (k : ℕ) → k < l.k → HoldsPull l.self.system (present_row l.self) k;
}
