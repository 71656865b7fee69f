-- A source and a sink in memory, for tests: how much a call moves, and which calls fail.
use Rattle.std.specs.Prelude.{ℕ, ◌+◌, ◌-◌, ◌^◌, min, Bool, List, [], drop, ◌++◌, ◌==◌}
use Rattle.std.specs.List.{list_any}

-- a source: the bytes that are still to come, its counts, and how it behaves
pub record SourceState : Type 0 where
  pub bytes : List ℕ
  pub faults : ℕ
  pub calls : ℕ
  pub most : ℕ
  pub failing : List ℕ

-- a sink: the bytes that it holds, its counts, and how it behaves
pub record SinkState : Type 0 where
  pub bytes : List ℕ
  pub faults : ℕ
  pub calls : ℕ
  pub most : ℕ
  pub room : ℕ
  pub failing : List ℕ

-- a source from which nothing was read yet
abbrev pub fresh_source : List ℕ → ℕ → List ℕ → SourceState
fresh_source bytes most failing =
    record { bytes = bytes; faults = 0; calls = 0; most = most; failing = failing }

-- a sink to which nothing was written yet
abbrev pub fresh_sink : (room most : ℕ) → List ℕ → SinkState
fresh_sink room most failing =
    record { bytes = []; faults = 0; calls = 0; most = most; room = room; failing = failing }

-- one more, where a count of 64 bits has room for it
abbrev pub next : ℕ → ℕ
next n = min (n + 1) (2 ^ 64 - 1)

-- the call after so many is one that is to fail
abbrev pub is_named : List ℕ → ℕ → Bool
is_named failing calls = list_any (λ n. n == next calls) failing

-- a source after a call that gave so many bytes
abbrev pub given : SourceState → ℕ → SourceState
given s n = record s { bytes = drop n s.bytes; calls = next s.calls }

-- a source after a call that failed
abbrev pub given_up : SourceState → SourceState
given_up s = record s { faults = next s.faults; calls = next s.calls }

-- a sink after a call that took some bytes
abbrev pub taken : SinkState → List ℕ → SinkState
taken s bytes = record s { bytes = s.bytes ++ bytes; calls = next s.calls }

-- a sink after a call that failed or that had no room
abbrev pub refused : SinkState → SinkState
refused s = record s { faults = next s.faults; calls = next s.calls }
