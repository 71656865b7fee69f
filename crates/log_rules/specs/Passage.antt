-- What a call reads and writes.
use Rattle.std.specs.Prelude.{ℕ, List}

-- the bytes that were read, and those that were written
pub record Passage : Type 0 where
  pub read : List ℕ
  pub written : List ℕ

abbrev pub passage_of : (read written : List ℕ) → Passage
passage_of read written = record { read = read; written = written }
