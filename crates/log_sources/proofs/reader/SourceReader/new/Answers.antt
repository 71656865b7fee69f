use Rattle.std.proofs.Common.{refl}
use Rattle.log_sources.proofs.ReadingOn.{nothing_read}
use Rattle.log_sources.proofs.reader.SourceReader.new.Goals as goal

pub returns : goal.returns
returns c = nothing_read _ refl refl refl c.new.ensures c.new-2.ensures c.new-3.ensures c.new-4.ensures
