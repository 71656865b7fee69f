use Rattle.std.proofs.Common.{length}
use Rattle.log_sources.specs.Sources.{Sources}
use Rattle.log_sources.specs.Reading.{HasReadSources}
use Rattle.log_sources.specs.inside.Reading.{TakesBytes}
use Rattle.log_sources.proofs.reader.SourceReader.feed.Given as goal

abbrev pub invariant-sources : goal.invariant-sources
invariant-sources l = record {
  takes : TakesBytes l.fn.self l.piece l.rest l.self;
  at : (s : Sources) × HasReadSources l.self s;
}

abbrev pub decreases-sources : goal.decreases-sources
decreases-sources l = length l.rest
