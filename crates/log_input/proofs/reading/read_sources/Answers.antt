use Rattle.pota_base.specs.Changes.{of_source}
use Rattle.input_reading.specs.Intakes.{ReadsShort}
use Rattle.log_input.proofs.Stands.{err_so, gathered_short, may_merge, sources_whole, sources_faulty, sources_failed}
use Rattle.log_input.proofs.reading.read_sources.Goals as goal

pub merge_all-requires : goal.merge_all-requires
merge_all-requires g c =
    may_merge (of_source g.S.Source c.args.source.now c.gather.new.source) c.in_ok-logs.field-0 c.in_ok-logs.ensures.reads c.in-Logs.logs c.as_slice.result.now c.as_slice.ensures c.in-Logs.is

pub returns-in_ok-judged-in-Logs-clause-reads : goal.returns-in_ok-judged-in-Logs-clause-reads
returns-in_ok-judged-in-Logs-clause-reads g c =
    let is = c.in-Logs.is in
    sources_whole (of_source g.S.Source c.args.source.now c.gather.new.source) c.in_ok-logs.field-0 c.in_ok-logs.ensures.reads c.in-Logs.logs c.as_slice.result.now c.as_slice.ensures c.in-Logs.is
    (c.in_ok-logs.ensures.calm (λ e. cc)) c.in_ok-judged-in-Logs.judged c.in_ok-judged-in-Logs.ensures c.as_slice-in-Logs.result.now c.as_slice-in-Logs.ensures c.with_line.result c.with_line.ensures

pub returns-in_ok-judged-in-Logs-clause-short : goal.returns-in_ok-judged-in-Logs-clause-short
returns-in_ok-judged-in-Logs-clause-short g c =
    err_so c.with_line.result (ReadsShort (of_source g.S.Source c.args.source.now c.gather.new.source)) (gathered_short (of_source g.S.Source c.args.source.now c.gather.new.source) c.in_ok-logs.field-0 c.in_ok-logs.ensures.reads)

pub returns-in-Fault-clause-reads : goal.returns-in-Fault-clause-reads
returns-in-Fault-clause-reads g c =
    sources_faulty (of_source g.S.Source c.args.source.now c.gather.new.source) c.in_ok-logs.field-0 c.in_ok-logs.ensures.reads c.in-Fault.fault c.in-Fault.is c.new.result c.new.ensures

pub returns-in-Failed-clause-reads : goal.returns-in-Failed-clause-reads
returns-in-Failed-clause-reads g c =
    sources_failed (of_source g.S.Source c.args.source.now c.gather.new.source) c.in_ok-logs.field-0 c.in_ok-logs.ensures.reads c.in-Failed.is
