use Rattle.std.proofs.lemmas.Result.{IfOk-weaker}
use Rattle.input_reading.proofs.reading.read_all.Goals as goal

pub read_for-requires : goal.read_for-requires
read_for-requires g c = (tt, c.requires.0, c.requires.1)

pub returns-clause-reads : goal.returns-clause-reads
returns-clause-reads g c = IfOk-weaker c.read_for.result _ _ (λ end reads bytes open_. reads tt bytes open_) c.read_for.ensures.reads
