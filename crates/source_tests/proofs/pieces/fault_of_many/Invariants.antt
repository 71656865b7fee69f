use Rattle.log_sources.specs.Sources.{Sources}
use Rattle.log_sources.specs.Reading.{HasReadSources}
use Rattle.source_tests.proofs.pieces.fault_of_many.Given as goal

abbrev pub invariant-times : goal.invariant-times
invariant-times l = (s : Sources) × HasReadSources l.reader s
