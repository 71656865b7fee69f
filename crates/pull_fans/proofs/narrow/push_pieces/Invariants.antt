use Rattle.std.proofs.Common.{◌≡◌, ◌+◌, ◌++◌, ◌^◌, ◌<◌, ◌≤◌, ℕ, length, slice_index, vec_len, vec_capacity}
use Rattle.pull_fans.proofs.narrow.push_pieces.Given as goal

abbrev pub invariant-loop-rest : goal.invariant-loop-rest
invariant-loop-rest l = record {
  whole : l.entries.items ++ l.rest ≡ l.fn.entries.items ++ l.row;
  small : (i : ℕ) → slice_index l.rest i < 2 ^ 16;
  room : vec_len l.entries + length l.rest ≤ vec_capacity l.entries;
}

abbrev pub decreases-loop-rest : goal.decreases-loop-rest
decreases-loop-rest l = length l.rest
