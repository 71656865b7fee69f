use Rattle.std.proofs.Common.{◌≡◌, ℕ, true, get_or, length}
use Rattle.certificate_raises.proofs.doubts.Doubts.new.Given as goal

abbrev pub invariant-loop-pull : goal.invariant-loop-pull
invariant-loop-pull l = record {
  count : length l.marks ≡ l._pull;
  on : (k : ℕ) → get_or l.marks k true ≡ true;
}
