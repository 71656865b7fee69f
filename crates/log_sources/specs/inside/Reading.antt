-- Inside: how far the sources have been read, piece by piece.
use Rattle.std.specs.Prelude.{◌≡◌, ℕ, List}
use Rattle.log_sources.specs.declared.reader.SourceReader.{SourceReader}
use Rattle.log_sources.specs.Sources.{Sources, after}
use Rattle.log_sources.specs.Reading.{HasReadSources}

-- The reader has read some of the bytes behind these sources, and what it has read with the bytes
-- that are left is the same.
pub record GoesOn (new : SourceReader) (s : Sources) (bytes left : List ℕ) : Type 0 where
  pub now : Sources
  pub reads : HasReadSources new now
  pub same : after s bytes ≡ after now left

abbrev pub TakesBytes : SourceReader → List ℕ → List ℕ → SourceReader → Type 0
TakesBytes old bytes left new =
    (s : Sources) → HasReadSources old s → GoesOn new s bytes left
