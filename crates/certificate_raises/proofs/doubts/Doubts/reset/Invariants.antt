use Rattle.std.proofs.Common.{◌≡◌, ℕ, ◌<◌, true, get_or, length}
use Rattle.certificate_raises.proofs.doubts.Doubts.reset.Given as goal

abbrev pub invariant-loop-pull : goal.invariant-loop-pull
invariant-loop-pull l = record {
  count : length l.self-inside.marks ≡ length l.fn.self;
  on : (k : ℕ) → k < l.pull → get_or l.self-inside.marks k true ≡ true;
}
