use Rattle.std.proofs.Common.{arith}
use Rattle.log_sources.proofs.ReadingOn.{too_many, too_long, has_room}
use Rattle.log_sources.proofs.reader.SourceReader.input_fault.Goals as goal

pub returns-then-len-ge-MOST_SOURCES-clause-fault : goal.returns-then-len-ge-MOST_SOURCES-clause-fault
returns-then-len-ge-MOST_SOURCES-clause-fault c = λ s reads open_. too_many c.args.self.now c.fault_at.result s (omega arith) c.fault_at.ensures reads

pub returns-then-self-ge-LONGEST_LOG-clause-fault : goal.returns-then-self-ge-LONGEST_LOG-clause-fault
returns-then-self-ge-LONGEST_LOG-clause-fault c = λ s reads open_. too_long c.args.self.now c.fault_at-then-self-ge-LONGEST_LOG.result c.line-line.result s (omega arith) (omega arith) (rw c.line-line.ensures.same at c.fault_at-then-self-ge-LONGEST_LOG.ensures) (c.line-line.ensures.line s.now reads.log reads.faultless open_) reads

pub returns-clause-fault : goal.returns-clause-fault
returns-clause-fault c = λ s reads open_. has_room c.args.self.now s (omega arith) (omega arith) reads
