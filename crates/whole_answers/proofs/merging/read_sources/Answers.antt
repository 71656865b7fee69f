use Rattle.std.proofs.Common.{refl}
use Rattle.pota_base.specs.Changes.{change_of}
use Rattle.input_reading.specs.Intakes.{ReadsShort}
use Rattle.whole_answers.proofs.Stands.{err_so, gathered_short, may_merge, sources_whole, sources_faulty, sources_failed}
use Rattle.whole_answers.proofs.merging.read_sources.Goals as goal

pub merge_all-requires : goal.merge_all-requires
merge_all-requires g c =
    may_merge (g.S.Source.left c.args.source.now) (g.S.Source.left c.gather.new.source) (g.S.Source.faults c.args.source.now) (g.S.Source.faults c.gather.new.source) c.in_ok-logs.field-0 c.in_ok-logs.ensures.reads
    c.in-Logs.logs c.as_slice.result.now c.as_slice.ensures c.in-Logs.is

pub returns-in-Logs-clause-reads : goal.returns-in-Logs-clause-reads
returns-in-Logs-clause-reads g c =
    sources_whole (g.S.Source.left c.args.source.now) (g.S.Source.left c.gather.new.source) (g.S.Source.faults c.args.source.now) (g.S.Source.faults c.gather.new.source) c.in_ok-logs.field-0 c.in_ok-logs.ensures.reads
    c.in-Logs.logs c.as_slice.result.now c.as_slice.ensures c.in-Logs.is c.merge_all.result c.merge_all.ensures

pub returns-in-Logs-clause-short : goal.returns-in-Logs-clause-short
returns-in-Logs-clause-short g c =
    err_so c.merge_all.result (ReadsShort (change_of (g.S.Source.left c.args.source.now) (g.S.Source.left c.gather.new.source) (g.S.Source.faults c.args.source.now) (g.S.Source.faults c.gather.new.source))) (gathered_short (g.S.Source.left c.args.source.now) (g.S.Source.left c.gather.new.source) (g.S.Source.faults c.args.source.now) (g.S.Source.faults c.gather.new.source) c.in_ok-logs.field-0 c.in_ok-logs.ensures.reads)

pub returns-in-Fault-clause-reads : goal.returns-in-Fault-clause-reads
returns-in-Fault-clause-reads g c =
    sources_faulty (g.S.Source.left c.args.source.now) (g.S.Source.left c.gather.new.source) (g.S.Source.faults c.args.source.now) (g.S.Source.faults c.gather.new.source) c.in_ok-logs.field-0 c.in_ok-logs.ensures.reads c.in-Fault.fault c.in-Fault.is

pub returns-in-Failed-clause-reads : goal.returns-in-Failed-clause-reads
returns-in-Failed-clause-reads g c =
    sources_failed (g.S.Source.left c.args.source.now) (g.S.Source.left c.gather.new.source) (g.S.Source.faults c.args.source.now) (g.S.Source.faults c.gather.new.source) c.in_ok-logs.field-0 c.in_ok-logs.ensures.reads c.in-Failed.is

pub returns-in-Logs-clause-calm : goal.returns-in-Logs-clause-calm
returns-in-Logs-clause-calm g c other = let is = c.in-Logs.is in c.in_ok-logs.ensures.calm (λ e. cc)

pub returns-in-Fault-clause-calm : goal.returns-in-Fault-clause-calm
returns-in-Fault-clause-calm g c other = let is = c.in-Fault.is in c.in_ok-logs.ensures.calm (λ e. cc)

pub returns-in-Failed-clause-calm : goal.returns-in-Failed-clause-calm
returns-in-Failed-clause-calm g c other = absurd (other refl)
