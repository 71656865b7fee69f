-- The pulls that the truths of a process, or a constant, ask for.
use Rattle.std.specs.Prelude.{ℕ, ◌+◌, ◌&&◌, nat_le, Bool, true, false, List, [], ◌∷◌, length, map}
use Rattle.std.specs.Prelude.{slice_index, slice_index_or}
use Rattle.std.specs.List.{range_with_len}
use Rattle.pull_system.specs.declared.pull.Pull.{Pull}
use Rattle.pull_system.specs.Pulls.{first_below}

-- the position is at or behind x, and true there
abbrev pub is_true_from : List Bool → ℕ → ℕ → Bool
is_true_from row x y = nat_le x y && slice_index_or row y false

-- the least position from x on that is true, or the number of positions where there is none
abbrev pub next_true : List Bool → ℕ → ℕ
next_true row x = first_below (is_true_from row x) (length row)

-- the process goes on to the next state that is true; it stays where the state is
abbrev pub local_pull : ℕ → List Bool → Pull
local_pull process row = record {
  src = process;
  dst = process;
  table = map (next_true row) (range_with_len 0 (length row + 1));
}

-- no state of process 0 is true
abbrev pub never_pull : List ℕ → Pull
never_pull lens = record {
  src = 0;
  dst = 0;
  table = map (λ x. slice_index lens 0 + 1) (range_with_len 0 (slice_index lens 0 + 2));
}

-- a constant asks for nothing where it is true
abbrev pub constant_pulls_of : List ℕ → Bool → List Pull
constant_pulls_of lens true = []
constant_pulls_of lens false = never_pull lens ∷ []
