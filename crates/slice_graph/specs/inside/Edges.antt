-- Inside: the edges into one event from one process.
use Rattle.std.specs.Prelude.{ℕ, List, [], ◌∷◌, ◌&&◌, nat_lt, if◌then◌else◌}
use Rattle.run_model.specs.Cut.{Cut, count}
use Rattle.run_model.specs.Slice.{Edge as EdgeOfRun}

-- the edge into event a of process p from process q, by its row, the row before and its past
abbrev pub edge_by : Cut → Cut → Cut → ℕ → ℕ → ℕ → List EdgeOfRun
edge_by row before past p a q =
    if nat_lt (count before q) (count row q) && nat_lt (count past q) (count row q)
    then record { cause = q; cause_position = count row q; effect = p; effect_position = a } ∷ []
    else []
