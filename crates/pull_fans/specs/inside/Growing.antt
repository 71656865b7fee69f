-- Fans on a longer shape.
use Rattle.std.specs.Prelude.{ℕ, ◌+◌, ◌*◌, ◌/◌, ◌^◌, ◌<◌, List, [], ◌++◌, length, get_or, map}
use Rattle.std.specs.Prelude.{take, slice_index, slice_index_or}
use Rattle.std.specs.List.{range_with_len}
use Rattle.pull_fans.specs.Fans.{FanView, column}

-- the first entries of each table, one for each of so many values
abbrev pub kept_tables : ℕ → FanView → List (List ℕ)
kept_tables stay fan =
    map (λ index. take stay (get_or fan.tables index [])) (range_with_len 0 (length fan.targets))

-- behind so many first entries of the table at this index so many rows have these of its target
abbrev pub longer_table : FanView → ℕ → ℕ → ℕ → List ℕ → ℕ → List ℕ
longer_table fan stay procs count more index =
    take stay (get_or fan.tables index [])
    ++ column procs count more (slice_index fan.targets index)

-- the fan with the first entries of its tables, and behind them those that all of these rows have
abbrev pub longer_fan : ℕ → ℕ → List ℕ → FanView → FanView
longer_fan stay procs more fan = record fan {
  tables = map (longer_table fan stay procs (length more / procs) more)
      (range_with_len 0 (length fan.targets));
}

-- the fan on a longer shape
abbrev pub grown_fan : List ℕ → List (List ℕ) → FanView → FanView
grown_fan lens more fan = longer_fan (slice_index lens fan.src + 1) (length lens)
    (slice_index_or more fan.src []) fan

-- the targets are processes, and what the rows have of them fits 16 bits
pub record FitsRows (fan : FanView) (procs : ℕ) (more : List ℕ) : Type 0 where
  pub targets : (index : ℕ) → index < length fan.targets → slice_index fan.targets index < procs
  pub entries : (x index : ℕ) → x < length more / procs → index < length fan.targets
      → slice_index more (x * procs + slice_index fan.targets index) < 2 ^ 16

-- the fan may be grown: where it has a pull, its source is a process
pub record MayGrow (lens : List ℕ) (more : List (List ℕ)) (fan : FanView) : Type 0 where
  pub source : 0 < length fan.targets → fan.src < length lens
  pub rows : FitsRows fan (length lens) (slice_index_or more fan.src [])
