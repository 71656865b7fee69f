use Rattle.std.proofs.Common.{length}
use Rattle.log_sources.specs.Sources.{Sources}
use Rattle.log_sources.specs.Reading.{HasReadSources}
use Rattle.source_tests.proofs.pieces.fault_of.Given as goal

abbrev pub invariant-pieces : goal.invariant-pieces
invariant-pieces l = (s : Sources) × HasReadSources l.reader s

abbrev pub decreases-pieces : goal.decreases-pieces
decreases-pieces l = length l.rest
